use Rattle.std.proofs.Common.{◌≡◌, sym, subst, ap, ◌∙◌}
use Rattle.ent_rel.specs.Relation.{Relation}
use Rattle.ent_rel.proofs.Keyed.{rows_ascend}
use Rattle.ent_feed.specs.NetChange.{rows_without}
use Rattle.ent_feed.specs.Walk.{rows_beside}
use Rattle.ent_feed.proofs.Changes.{beside_is_without, made_applies, made_have_kinds, made_of_same}
use Rattle.ent_feed.proofs.Merge.{Ascends}
use Rattle.ent_feed.proofs.difference.net_change.Goals as goal

pub returns-then-is_same-clause-exact : goal.returns-then-is_same-clause-exact
returns-then-is_same-clause-exact c =
    let same = ap (λ (t : Relation). t.rows) (c.is_same.ensures.0 c.if-is_same.true) in
    let is = made_of_same c.args.before.now.rows c.args.after.now.rows _ _ same c.new.ensures
    c.new-then-is_same.ensures in
    λ i. record { removed = is.0 i; added = is.1 i }

pub returns-then-is_same-clause-applies : goal.returns-then-is_same-clause-applies
returns-then-is_same-clause-applies c =
    let same = ap (λ (t : Relation). t.rows) (c.is_same.ensures.0 c.if-is_same.true) in
    let is = made_of_same c.args.before.now.rows c.args.after.now.rows _ _ same c.new.ensures
    c.new-then-is_same.ensures in
    made_applies c.args.before.now.rows c.args.after.now.rows _ _ is.0 is.1

pub merge-requires-clause-olds : goal.merge-requires-clause-olds
merge-requires-clause-olds c = subst Ascends (sym c.of-old.ensures) (rows_ascend c.args.before.now.rows)

pub merge-requires-clause-news : goal.merge-requires-clause-news
merge-requires-clause-news c = subst Ascends (sym c.of-new.ensures) (rows_ascend c.args.after.now.rows)

pub returns-clause-exact : goal.returns-clause-exact
returns-clause-exact c =
    let before = c.args.before.now.rows in
    let after = c.args.after.now.rows in
    let gone : c.in_ok-delta.delta.removed ≡ rows_without before after =
    c.in_ok-delta.ensures.removed ∙ (λ i. rows_beside (c.of-old.ensures i) (c.of-new.ensures i))
    ∙ beside_is_without before after in
    let come : c.in_ok-delta.delta.added ≡ rows_without after before =
    c.in_ok-delta.ensures.added ∙ (λ i. rows_beside (c.of-new.ensures i) (c.of-old.ensures i))
    ∙ beside_is_without after before in
    λ i. record { removed = gone i; added = come i }

pub returns-clause-applies : goal.returns-clause-applies
returns-clause-applies c =
    let before = c.args.before.now.rows in
    let after = c.args.after.now.rows in
    made_applies before after _ _
    (c.in_ok-delta.ensures.removed ∙ (λ i. rows_beside (c.of-old.ensures i) (c.of-new.ensures i))
    ∙ beside_is_without before after)
    (c.in_ok-delta.ensures.added ∙ (λ i. rows_beside (c.of-new.ensures i) (c.of-old.ensures i))
    ∙ beside_is_without after before)

pub returns-clause-kinds : goal.returns-clause-kinds
returns-clause-kinds c =
    let before = c.args.before.now.rows in
    let after = c.args.after.now.rows in
    made_have_kinds before after c.in_ok-delta.delta.removed c.in_ok-delta.delta.added c.args.after.now.kinds
    (c.in_ok-delta.ensures.added ∙ (λ i. rows_beside (c.of-new.ensures i) (c.of-old.ensures i))
    ∙ beside_is_without after before) c.kinds-kinds.ensures.rows
