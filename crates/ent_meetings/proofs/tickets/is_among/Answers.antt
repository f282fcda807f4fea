use Rattle.std.proofs.Common.{◌≡◌, ℕ, map, arith, rules, sym, ◌∙◌}
use Rattle.std.proofs.lemmas.Bool.{both_ways}
use Rattle.std.specs.Global.{Vec}
use Rattle.ent_lists.specs.Elements.{contains_in}
use Rattle.ent_meetings.proofs.ListPlaces.{image_other, image_there, images_all}
use Rattle.ent_meetings.proofs.tickets.is_among.Goals as goal

pub returns-then-is_same : goal.returns-then-is_same
returns-then-is_same c =
    let same : c.list-item.result.items ≡ c.args.tickets.now =
    sym c.as_slice.ensures.value ∙ c.is_same.ensures.0 c.if-is_same.true in
    let there = image_there (λ (list : Vec ℕ). list.items) c.args.lists.now c.loop-list.list-index c.list-item.result
    (omega arith) c.list-item.is c.args.tickets.now same in
    (λ is. there, λ has. search rules)

pub loop-list-preserved : goal.loop-list-preserved
loop-list-preserved c =
    let apart : c.list-item.result.items ≡ c.args.tickets.now → ⊥ =
    λ same. both_ways c.is_same.result c.if-is_same.false (c.is_same.ensures.1 (c.as_slice.ensures.value ∙ same)) in
    image_other (λ (list : Vec ℕ). list.items) c.args.lists.now c.loop-list.list-index c.list-item.result
    (omega arith) c.list-item.is c.args.tickets.now apart c.loop-list.invariant

pub returns : goal.returns
returns c =
    let none = images_all (λ (list : Vec ℕ). list.items) c.args.lists.now c.loop-list.list-index c.args.tickets.now
    (omega arith) c.loop-list.invariant in (
      λ is. search rules,
      λ has. absurd (none (contains_in (map (λ (list : Vec ℕ). list.items) c.args.lists.now)
          c.args.tickets.now has)),
    )
