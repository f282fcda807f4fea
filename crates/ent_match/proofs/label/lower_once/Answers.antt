use Rattle.std.proofs.Common.{◌≡◌, ◌<◌, ◌+◌, Bool, length, get_or, take, arith, sym, subst}
use Rattle.std.specs.Prelude.{MatchBool}
use Rattle.std.proofs.lemmas.List.{get_or_default}
use Rattle.std.proofs.lemmas.List.Elements.{Contains-get_or}
use Rattle.ent_match.specs.declared.link.Link.{Link}
use Rattle.ent_match.specs.Components.{joins_of}
use Rattle.ent_match.specs.Labels.{LevelsOne, Lowers, Stays}
use Rattle.ent_match.proofs.Labelled.{LevelSoFar, less_more, level_ended, level_more, lowered}
use Rattle.ent_match.proofs.label.lower_once.Goals as goal
use Rattle.ent_match.proofs.label.lower_once.Goals.{then-lower_along, else-lower_along}

pub lower_along-requires-clause-from : goal.lower_along-requires-clause-from
lower_along-requires-clause-from c =
    let room = c.loop-link.invariant.lowers.room in
    let within = c.requires.within _
    (Contains-get_or c.args.links.now c.loop-link.link-index (record { from = 0; to = 0 }) c.loop-link-test.true) in
    let low = within.0 in omega arith

pub lower_along-requires-clause-to : goal.lower_along-requires-clause-to
lower_along-requires-clause-to c =
    let room = c.loop-link.invariant.lowers.room in
    let within = c.requires.within _
    (Contains-get_or c.args.links.now c.loop-link.link-index (record { from = 0; to = 0 }) c.loop-link-test.true) in
    let high = within.1 in omega arith

pub loop-link-preserved : goal.loop-link-preserved
loop-link-preserved c =
    let links = c.args.links.now in
    let removed = c.args.removed.now in
    let old = c.args.labels.now in
    let cur = c.loop-link.labels in
    let new = c.lower_along.new.labels in
    let i = c.loop-link.link-index in
    let none : Link = record { from = 0; to = 0 } in
    let link = get_or links i none in
    let inside = Contains-get_or links i none c.loop-link-test.true in
    let within = c.requires.within link inside in
    let is : link ≡ get_or links i link = get_or_default links i none link c.loop-link-test.true in
    let lowers = c.loop-link.invariant.lowers in
    let room = lowers.room in
    let from : link.from < length cur = (let low = within.0 in omega arith) in
    let to : link.to < length cur = (let high = within.1 in omega arith) in
    let told : Bool → Type 0 = λ b. MatchBool b (LevelsOne link removed cur new) (Stays link removed cur new) in
    elim c.if-lower_along.branch [
      | then-lower_along w ↦
          let goes = lowered links removed old cur new link inside lowers from to
          (subst told w.if-lower_along.true c.lower_along.ensures) in
          record {
            lowers = goes.0;
            so_far = subst (LevelSoFar (take (i + 1) links) removed old new) (sym w.is_new-is)
                (less_more (take i links) (take (i + 1) links) removed old cur new c.loop-link.is_new
                c.loop-link.invariant.so_far goes.1);
          }
      | else-lower_along w ↦
          let stays = subst told w.if-lower_along.false c.lower_along.ensures in
          record {
            lowers = subst (Lowers (joins_of links removed) old) (sym stays.0) lowers;
            so_far = subst (LevelSoFar (take (i + 1) links) removed old new) (sym w.is_new-is)
                (level_more links removed i link old cur new c.loop-link.is_new c.loop-link-test.true is
                c.loop-link.invariant.so_far stays);
          }
    ]

pub returns-clause-ends : goal.returns-clause-ends
returns-clause-ends c =
    level_ended c.args.links.now c.args.removed.now c.loop-link.link-index c.args.labels.now c.loop-link.labels
    c.loop-link.is_new c.loop-link-test.false c.loop-link.invariant.so_far
