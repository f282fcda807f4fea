use Rattle.std.proofs.Common.{◌≡◌, ◌+◌, ◌∙◌, ap, refl, sym, true, false, arith}
use Rattle.std.proofs.lemmas.Result.{err_from_is_err_and}
use Rattle.ent_book.specs.Report.{line}
use Rattle.ent_history.specs.Answers.{AnswerStands, answers_so_far}
use Rattle.ent_report_reader.specs.Reading.{IsAnswerLine}
use Rattle.ent_report_reader.proofs.Steps.{refused}
use Rattle.ent_report_reader.proofs.AnswerLines.{answer_has, next_place, other_place}
use Rattle.ent_report_reader.proofs.draft.Draft.answer.Goals as goal

pub returns-in_err-place : goal.returns-in_err-place
returns-in_err-place c =
    let p = err_from_is_err_and c.from_residual.result c.from_residual.ensures.1 in
    rw (p.1, p.2)
    (refused (Unit {0}) (IsAnswerLine c.in-Some.statement.now c.args.text.now)
    (AnswerStands c.args.self.now (line c.args.text.now)) c.args.self.now
    c.in_err-place.field-0.0 c.in_err-place.ensures
    (λ next stands. (
      (next_place c.args.self.now, stands.answer, stands.count),
      answer_has c.args.self.now c.args.text.now c.in-Some.statement.now (sym c.in-Some.ensures.due)
          c.in-Some.ensures.limit next stands,
    )))

pub returns-then-not-is_next : goal.returns-then-not-is_next
returns-then-not-is_next c = (
  λ next stands.
      let e = c.in_ok-place.ensures.1 (next_place c.args.self.now, stands.answer, stands.count)
      (answer_has c.args.self.now c.args.text.now c.in-Some.statement.now (sym c.in-Some.ensures.due)
      c.in-Some.ensures.limit next stands) in
      let same = other_place (next_place c.args.self.now) c.in_ok-place.place (stands.answer, stands.count)
      (c.in_ok-place.answer, c.in_ok-place.count) e in
      let is : c.in_ok-place.place ≡ c.answer_count.result + 1 = omega (arith, same, c.answer_count.ensures) in
      let both : false ≡ true = sym c.if-not-is_next.true ∙ c.is_next.ensures.1 is in cc,
  refl,
)
