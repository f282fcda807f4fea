use Rattle.std.proofs.Common.{◌≡◌, ◌∙◌, sym, true, false}
use Rattle.std.proofs.lemmas.Result.{err_from_is_err_and}
use Rattle.ent_report_reader.proofs.MemberLines.{any_at, any_found, any_refused}
use Rattle.ent_report_reader.proofs.members.unbound_member.Goals as goal

pub returns-in_err-tx : goal.returns-in_err-tx
returns-in_err-tx c =
    let p = err_from_is_err_and c.from_residual.result c.from_residual.ensures.1 in
    rw (p.1, p.2)
    (any_refused c.args.place c.args.text.now c.in_err-tx.field-0.0 c.requires c.in_err-tx.ensures)

pub returns-then-not-is_at : goal.returns-then-not-is_at
returns-then-not-is_at c = λ told is.
    let at = any_at c.args.place c.args.text.now c.in_ok-tx.tx c.in_ok-tx.own c.in_ok-tx.all told c.requires
    c.in_ok-tx.ensures.1 is in
    let both : false ≡ true = sym c.if-not-is_at.true ∙ c.is_at.ensures.1 at in cc

pub returns : goal.returns
returns c =
    let at = c.is_at.ensures.0 c.if-not-is_at.false in
    any_found c.args.place c.args.text.now c.in_ok-tx.tx c.in_ok-tx.own c.in_ok-tx.all c.in_ok-variables.variables
    c.in_ok-variables.values c.told_member.result c.in_ok-tx.ensures.0 at.0 at.1 c.in_ok-variables.ensures.variables
    c.in_ok-variables.ensures.values c.told_member.ensures
