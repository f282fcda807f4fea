use Rattle.std.proofs.Common.{◌≡◌, ◌<◌, sym, subst, IfOk, IfErr}
use Rattle.ent_protocol.specs.Reached.{opened}
use Rattle.ent_renewal.specs.Renewal.{GoesOn, HoldsTablesOf, IsRenewed, drained, present_database, rows_together}
use Rattle.ent_renewal.specs.declared.opening.TooManyRows.{TooManyRows as TooManyRowsSeen}
use Rattle.ent_semantics.specs.Database.{Database}
use Rattle.ent_tree.specs.declared.declaration.Opening.{Opening}
use Rattle.ent_tree.specs.declared.limits.TheConstants.{MOST_OPENING_ROWS}
use Rattle.ent_value.specs.declared.refusal.Refusal.TheVariants.{Fault}
use Rattle.ent_epoch.proofs.turn.next_opening.Goals as goal

pub drained_opening-made-requires-clause-holds : goal.drained_opening-made-requires-clause-holds
drained_opening-made-requires-clause-holds c =
    let s = c.args.core.now in
    subst (λ (o : Opening). HoldsTablesOf o.tables (present_database s)) (sym c.opening-opening.ensures)
    (c.states_at_rest_hold_their_tables.ensures.holds s c.is_reached.ensures.formed c.is_reached.ensures.reached
    c.requires)

-- the book ends with the tables as they stand
pub returns-clause-renewed : goal.returns-clause-renewed
returns-clause-renewed c =
    let s = c.args.core.now in
    let r = c.drained_opening-made.result in
    let settled : present_database s ≡ _ =
    sym (c.states_at_rest_hold_their_tables.ensures.settled s c.is_reached.ensures.reached c.requires) in
    subst (λ (d : Database). IfOk r (λ next. IsRenewed s.opening.tables (drained c.args.drained.now d) next)) settled
    (subst (λ (o : Opening). IfOk r (λ next. IsRenewed o.tables (drained c.args.drained.now (present_database s)) next))
    c.opening-opening.ensures c.drained_opening-made.ensures.renewed)

pub returns-clause-goes_on : goal.returns-clause-goes_on
returns-clause-goes_on c =
    let s = c.args.core.now in
    let r = c.drained_opening-made.result in
    let settled : present_database s ≡ _ =
    sym (c.states_at_rest_hold_their_tables.ensures.settled s c.is_reached.ensures.reached c.requires) in
    subst (λ (d : Database). IfOk r (λ next. GoesOn s.opening.tables (drained c.args.drained.now d)
    (opened next))) settled
    (subst
    (λ (o : Opening). IfOk r (λ next. GoesOn o.tables (drained c.args.drained.now (present_database s)) (opened next)))
    c.opening-opening.ensures c.drained_opening-made.ensures.goes_on)

pub returns-clause-fault : goal.returns-clause-fault
returns-clause-fault c =
    let s = c.args.core.now in
    let r = c.drained_opening-made.result in
    let settled : present_database s ≡ _ =
    sym (c.states_at_rest_hold_their_tables.ensures.settled s c.is_reached.ensures.reached c.requires) in
    subst
    (λ (d : Database). IfErr r (λ refusal. (fault : TooManyRowsSeen) → refusal ≡ Fault fault
    → MOST_OPENING_ROWS < rows_together s.opening.tables (drained c.args.drained.now d)))
    settled
    (subst
    (λ (o : Opening). IfErr r (λ refusal. (fault : TooManyRowsSeen) → refusal ≡ Fault fault
    → MOST_OPENING_ROWS < rows_together o.tables (drained c.args.drained.now (present_database s))))
    c.opening-opening.ensures c.drained_opening-made.ensures.fault)
