use Rattle.std.proofs.Common.{◌≡◌, ◌+◌, ◌∙◌, ap, length, refl, sym, true, false, arith}
use Rattle.std.proofs.lemmas.Result.{err_from_is_err_and}
use Rattle.ent_book.specs.Report.{line}
use Rattle.ent_history.specs.Answers.{TxStands}
use Rattle.ent_history.specs.Draft.{Draft}
use Rattle.ent_report_reader.specs.Reading.{IsTxLine}
use Rattle.ent_report_reader.proofs.Steps.{refused}
use Rattle.ent_report_reader.proofs.TransactionLines.{next_number, other_number, tx_has}
use Rattle.ent_report_reader.proofs.draft.Draft.tx.Goals as goal

pub returns-in_err-number : goal.returns-in_err-number
returns-in_err-number c =
    let p = err_from_is_err_and c.from_residual.result c.from_residual.ensures.1 in
    rw (p.1, p.2)
    (refused (Unit {0}) (IsTxLine c.args.text.now) (TxStands c.args.self.now (line c.args.text.now)) c.args.self.now
    c.in_err-number.field-0.0 c.in_err-number.ensures
    (λ next stands. (
      (next_number c.args.self.now, stands.fate),
      tx_has c.args.self.now c.args.text.now c.is_tx_next.ensures.limit next stands,
    )))

pub returns-then-not-is_next : goal.returns-then-not-is_next
returns-then-not-is_next c = (
  λ next stands.
      let e = c.in_ok-number.ensures.1 (next_number c.args.self.now, stands.fate)
      (tx_has c.args.self.now c.args.text.now c.is_tx_next.ensures.limit next stands) in
      let same = other_number (next_number c.args.self.now) c.in_ok-number.number stands.fate c.in_ok-number.fate e in
      let seen = ap (λ (d : Draft). length d.told.transactions) c.self.view_is in
      let is : c.in_ok-number.number ≡ c.len.result + 1 = omega (arith, same, c.len.ensures, seen) in
      let both : false ≡ true = sym c.if-not-is_next.true ∙ c.is_next.ensures.1 is in cc,
  refl,
)
