use Rattle.std.proofs.Common.{◌<◌, refl, sym, subst}
use Rattle.std.proofs.lemmas.Result.{err_from_is_err_and}
use Rattle.ent_epoch.specs.Epoch.{carried_over}
use Rattle.ent_epoch.specs.Passed.{rows_together}
use Rattle.ent_tree.specs.declared.limits.TheConstants.{MOST_OPENING_ROWS}
use Rattle.ent_admission.specs.Acts.{Advances}
use Rattle.ent_admission.specs.Admission.{IsAtRest}
use Rattle.ent_admission.specs.Admission.{Admission}
use Rattle.ent_admission.specs.contracts.admission.Admission.{the_view}
use Rattle.ent_admission.proofs.Acting.{turns_advance}
use Rattle.ent_admission.proofs.Calls.{kept_turned}
use Rattle.ent_admission.proofs.admission.Admission.turn.Goals as goal

pub returns-in_err-book-clause-too_many : goal.returns-in_err-book-clause-too_many
returns-in_err-book-clause-too_many c =
    let p = err_from_is_err_and c.from_residual.result c.from_residual.ensures.1 in
    rw (p.1, p.2)
    (λ e. subst
    (λ (x : Admission). MOST_OPENING_ROWS < rows_together x.epoch.core.opening.tables
    (carried_over c.args.drained.now x.epoch.core))
    c.self.view_is (c.in_err-book.ensures.too_many e))

pub invariant_of-self-2 : goal.invariant_of-self-2
invariant_of-self-2 c =
    let a = the_view c.self.inside in
    let rest : IsAtRest a = subst IsAtRest (sym c.self.view_is)
    (c.is_at_rest.ensures.at_rest c.if-not-is_at_rest.false) in
    kept_turned a c.self.inside.index c.turn.new.self c.self.invariant rest c.in_ok-book.ensures.renewed.declarations

pub returns-clause-advances : goal.returns-clause-advances
returns-clause-advances c =
    let a = the_view c.self.inside in
    let rest : IsAtRest a = subst IsAtRest (sym c.self.view_is)
    (c.is_at_rest.ensures.at_rest c.if-not-is_at_rest.false) in
    let new : Admission = record a { epoch = c.turn.new.self } in
    subst (λ (x : Admission). Advances x new) c.self.view_is
    (turns_advance a new (record {
      drained = c.args.drained.now;
      at_rest = rest;
      begins = c.in_ok-book.ensures.begun;
      renewed = c.in_ok-book.ensures.renewed;
      list = refl;
      coming = refl;
      again = refl;
      feed = refl;
      news = refl;
    }))
