use Rattle.std.proofs.Common.{◌≡◌, [], ap, sym, subst, ◌∙◌, rules}
use Rattle.ent_lists.specs.Sets as set
use Rattle.ent_lists.specs.Laws.{without-nothing}
use Rattle.ent_value.specs.Refusal.{Gives}
use Rattle.ent_value.specs.Order.{rows_total, exact_rows}
use Rattle.ent_rel.specs.Relation.{RowSet, bounded}
use Rattle.ent_rel.specs.Kept.{KeySet, rows_of}
use Rattle.ent_rel.proofs.Keyed.{none_in}
use Rattle.ent_rel.proofs.keys.keys_changed.Goals as goal

pub returns-then-is_empty-clause-rows : goal.returns-then-is_empty-clause-rows
returns-then-is_empty-clause-rows c =
    let s : RowSet = rows_of c.args.kinds.now c.args.keys.now in
    let none : c.args.removed.now ≡ [] = none_in c.args.removed.now (search rules) in
    let Q : RowSet → Type 0 = λ after. Gives {X = KeySet} {Y = RowSet}
    (λ made. rows_of c.args.kinds.now made) c.keys_added.result (bounded after after) in
    subst Q (ap (λ t. set.insert_all t c.args.added.now) (sym (ap (set.without_all s) none
    ∙ without-nothing rows_total exact_rows s))) c.keys_added.ensures.rows
