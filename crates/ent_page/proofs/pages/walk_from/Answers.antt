use Rattle.std.proofs.Common.{◌≡◌, ◌-◌, sym, length, take, drop, arith}
use Rattle.std.specs.Arc.{arc_value}
use Rattle.std.proofs.lemmas.List.{take_all, length-drop}
use Rattle.ent_page.proofs.Beginnings.{starts_at_key, starts_behind}
use Rattle.ent_page.proofs.pages.walk_from.Goals as goal
use Rattle.ent_page.proofs.pages.walk_from.Goals.{in-Ok, in-Err}

pub returns : goal.returns
returns c =
    let ps = c.args.pages.now in
    let at = c.place_of-at.result in
    let x = c.index-pages-at.result in
    let end : take (length c.args.pages.now - c.place_of-at.result)
    (drop c.place_of-at.result c.args.pages.now) ≡ drop c.place_of-at.result c.args.pages.now =
    take_all (length c.args.pages.now - c.place_of-at.result) (drop c.place_of-at.result c.args.pages.now)
    (omega (arith, length-drop at ps)) in
    elim c.match-search.branch [
      | in-Ok w ↦
          let found = rw (c.deref-page.ensures, sym w.index-is) at w.in-Ok.ensures.found in
          starts_at_key arc_value ps at x c.args.key.now
          (omega arith)
          c.index-pages-at.is c.requires.sorted c.place_of-at.ensures.below c.place_of-at.ensures.above
          c.match-search.index
          (take (length ps - at) (drop at ps)) c.from_index.result end c.from_index.ensures found.0 found.1
      | in-Err w ↦
          starts_behind arc_value ps at x c.args.key.now
          (omega arith)
          c.index-pages-at.is c.requires.sorted c.place_of-at.ensures.below c.place_of-at.ensures.above
          c.match-search.index
          (take (length ps - at) (drop at ps)) c.from_index.result end c.from_index.ensures
          (rw (c.deref-page.ensures, sym w.index-is) at w.in-Err.ensures.within)
          (rw (c.deref-page.ensures, sym w.index-is) at w.in-Err.ensures.below)
          (rw (c.deref-page.ensures, sym w.index-is) at w.in-Err.ensures.above)
    ]
