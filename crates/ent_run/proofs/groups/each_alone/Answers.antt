use Rattle.std.proofs.Common.{length, arith, ap, subst, sym, refl, ◌∙◌, map, List, []}
use Rattle.std.specs.Prelude.{IsNone}
use Rattle.ent_group.specs.declared.groups.Membership.{Membership}
use Rattle.ent_protocol.specs.Run.{fresh}
use Rattle.ent_group.specs.Groups.{group_of}
use Rattle.ent_run.specs.Grouped.{AreGrouped}
use Rattle.ent_run.proofs.Grouped.{alone_more, none_before, nobody_grouped}
use Rattle.ent_run.proofs.groups.each_alone.Goals as goal

pub loop-entrant-init : goal.loop-entrant-init
loop-entrant-init c = record {
  grouped = subst (λ (groups : List Membership). AreGrouped groups (map fresh [])) (sym c.new-groups.ensures)
      nobody_grouped;
  len = ap length c.new-groups.ensures;
}

pub add-requires-clause-room : goal.add-requires-clause-room
add-requires-clause-room c =
    omega (arith, c.loop-entrant.invariant.len, c.loop-entrant-test.true, c.requires.bound)

pub add-requires-clause-not_in : goal.add-requires-clause-not_in
add-requires-clause-not_in c =
    subst IsNone
    (sym (ap (group_of c.loop-entrant.groups) c.tx.ensures
    ∙ none_before c.loop-entrant.groups c.args.entrants.now c.loop-entrant.entrant-index c.entrant-item.result
    c.loop-entrant-test.true c.entrant-item.is c.requires.distinct c.loop-entrant.invariant.grouped)) refl

pub loop-entrant-preserved : goal.loop-entrant-preserved
loop-entrant-preserved c = record {
  grouped = alone_more c.loop-entrant.groups c.add.new.self c.args.entrants.now c.loop-entrant.entrant-index
      c.entrant-item.result c.tx.result c.loop-entrant-test.true c.entrant-item.is c.tx.ensures c.requires.distinct
      c.loop-entrant.invariant.grouped c.add.ensures.labels;
  len = omega (arith, c.add.ensures.len, c.loop-entrant.invariant.len);
}
