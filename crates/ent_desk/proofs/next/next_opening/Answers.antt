use Rattle.std.proofs.Common.{◌≡◌, ◌<◌, ◌∙◌, sym, subst, IfOk, IfErr, List, []}
use Rattle.ent_renewal.specs.Renewal.{HoldsTablesOf, IsRenewed, drained, present_database, rows_together}
use Rattle.ent_renewal.specs.declared.opening.TooManyRows.{TooManyRows as NoRoom}
use Rattle.ent_semantics.specs.Database.{Database, Name}
use Rattle.ent_tree.specs.declared.declaration.Opening.{Opening}
use Rattle.ent_tree.specs.declared.limits.TheConstants.{MOST_OPENING_ROWS}
use Rattle.ent_value.specs.declared.refusal.Refusal.TheVariants.{Fault}
use Rattle.ent_desk.proofs.next.next_opening.Goals as goal

pub drained_opening-made-requires-clause-holds : goal.drained_opening-made-requires-clause-holds
drained_opening-made-requires-clause-holds c =
    let s = c.args.core.now in
    subst (λ (o : Opening). HoldsTablesOf o.tables (present_database s)) (sym c.opening-opening.ensures)
    (c.states_at_rest_hold_their_tables.ensures.holds s c.is_reached.ensures.formed c.is_reached.ensures.reached
    c.requires)

-- nothing is drained, and the opening is that of the core, whose tables are settled
moved : (P : Opening → Database → Type 0) {from to : Opening} {names : List Name} {before after : Database}
    → from ≡ to → names ≡ [] → before ≡ after → P from (drained names before) → P to after
moved P {from} {to} {names} {before} {after} opening empty settled holds =
    subst (λ (d : Database). P to d) settled
    (subst (λ (o : Opening). P o before) opening
    (subst (λ (ns : List Name). P from (drained ns before)) empty holds))

-- the book ends with the tables as they stand
pub returns-clause-renewed : goal.returns-clause-renewed
returns-clause-renewed c =
    let s = c.args.core.now in
    let r = c.drained_opening-made.result in
    moved (λ opening database. IfOk r (λ next. IsRenewed opening.tables database next))
    c.opening-opening.ensures
    (c.as_slice.ensures.value ∙ c.new-none.ensures.items)
    (sym (c.states_at_rest_hold_their_tables.ensures.settled s c.is_reached.ensures.reached c.requires))
    c.drained_opening-made.ensures.renewed

pub returns-clause-fault : goal.returns-clause-fault
returns-clause-fault c =
    let s = c.args.core.now in
    let r = c.drained_opening-made.result in
    moved
    (λ opening database. IfErr r (λ refusal. (fault : NoRoom) → refusal ≡ Fault fault
    → MOST_OPENING_ROWS < rows_together opening.tables database))
    c.opening-opening.ensures
    (c.as_slice.ensures.value ∙ c.new-none.ensures.items)
    (sym (c.states_at_rest_hold_their_tables.ensures.settled s c.is_reached.ensures.reached c.requires))
    c.drained_opening-made.ensures.fault
