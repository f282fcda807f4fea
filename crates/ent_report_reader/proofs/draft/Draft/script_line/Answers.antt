use Rattle.std.proofs.Common.{◌≡◌, ◌+◌, ◌∙◌, ap, length, sym, true, false, arith}
use Rattle.std.proofs.lemmas.Result.{err_from_is_err_and}
use Rattle.ent_history.specs.Draft.{Draft}
use Rattle.ent_report_reader.proofs.ScriptLines.{script_line_found, script_number, script_refused}
use Rattle.ent_report_reader.proofs.draft.Draft.script_line.Goals as goal

pub returns-in_err-number : goal.returns-in_err-number
returns-in_err-number c =
    let p = err_from_is_err_and c.from_residual.result c.from_residual.ensures.1 in
    rw (p.1, p.2) (script_refused c.args.self.now c.args.text.now c.in_err-number.field-0.0 c.in_err-number.ensures)

pub returns-then-not-is_next : goal.returns-then-not-is_next
returns-then-not-is_next c = λ count is.
    let same = script_number c.args.self.now c.args.text.now c.in_ok-number.number c.in_ok-number.count count
    c.in_ok-number.ensures.1 is in
    let seen = ap (λ (d : Draft). length d.told.scripts) c.self.view_is in
    let is : c.in_ok-number.number ≡ c.len.result + 1 = omega (arith, same, c.len.ensures.len, seen) in
    let both : false ≡ true = sym c.if-not-is_next.true ∙ c.is_next.ensures.1 is in cc

pub returns : goal.returns
returns c =
    let seen = ap (λ (d : Draft). length d.told.scripts) c.self.view_is in
    let number = c.is_next.ensures.0 c.if-not-is_next.false in
    script_line_found c.args.self.now c.args.text.now c.in_ok-number.number c.in_ok-number.count
    (c.is_script_next.ensures.0 c.if-not-is_script_next.false)
    (omega (arith, number, c.len.ensures.len, seen)) c.in_ok-number.ensures.0 c.in_ok-number.ensures.1
