use Rattle.std.proofs.Common.{ℕ, List, subst, sym}
use Rattle.std.specs.Str.{IsUtf8}
use Rattle.ent_check_report.specs.Verdicts.{IsVerdict}
use Rattle.ent_check_report.specs.declared.verdict.Verdict.TheVariants.{Yes}
use Rattle.ent_history.specs.Told.{book_of}
use Rattle.ent_program_laws.proofs.verdict_law.yes_is_said_of_reports_of_legal_books.Goals as goal

pub returns : goal.returns
returns c text short = (
  λ yes.
      let told = (c.reports_that_are_right_tell_of_legal_books.ensures text).0 yes in
      record {
        characters = told.0;
        book = book_of told.1;
        legal = told.3;
        reported = c.books_of_told_histories_are_told.ensures.reported text told.1 told.2 told.3 short;
        report = sym (c.books_of_told_histories_are_told.ensures.report text told.1 told.2 told.3);
      },
  λ right.
      subst (λ (t : List ℕ). IsVerdict t Yes) (sym right.report)
      (c.reports_of_legal_books_are_right.ensures right.book right.legal right.reported
      (subst IsUtf8 right.report right.characters)),
)
