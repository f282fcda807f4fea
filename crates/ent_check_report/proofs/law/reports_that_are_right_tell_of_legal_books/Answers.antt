use Rattle.std.proofs.Common.{◌≡◌, ◌↔◌, ℕ, List, [], ap, inl, inr}
use Rattle.ent_check.proofs.Seated.{nothing_found}
use Rattle.ent_check_report.specs.Verdicts.{IsVerdict}
use Rattle.ent_check_report.specs.declared.verdict.Verdict.{Verdict}
use Rattle.ent_check_report.specs.declared.verdict.Verdict.TheVariants.{Yes, No}
use Rattle.ent_history.specs.declared.history.History.{History}
use Rattle.ent_history.specs.Told.{book_of}
use Rattle.ent_history.specs.Stands.{Tells}
use Rattle.ent_history.specs.Findings.{findings}
use Rattle.ent_history.specs.Formed.{IsFormed}
use Rattle.ent_history.specs.Verdict.{first_of}
use Rattle.ent_history.specs.declared.finding.Rule.TheVariants.{Form}
use Rattle.ent_semantics.specs.Book.{IsLegal}
use Rattle.ent_check_report.proofs.law.reports_that_are_right_tell_of_legal_books.Goals as goal

yes_is_no : {A : Type 0} (line : ℕ) → Yes ≡ No line Form → A
yes_is_no line e = cc (e)

pub returns : goal.returns
returns c text = (
  λ yes. elim yes [
    | inl w ↦ yes_is_no w.0 w.2
    | inr w ↦ (
      w.0,
      w.1,
      w.2,
      (nothing w.1 (formed text w.1 w.2)).0 (nothing_found (findings w.1) w.3),
    )
  ],
  λ w. inr (w.0, w.1, w.2, ap first_of ((nothing w.1 (formed text w.1 w.2)).1 w.3)),
)
  where
    formed : (text : List ℕ) (history : History) → Tells text history → IsFormed history
    formed = c.told_histories_are_formed.ensures.formed

    nothing : (history : History) → IsFormed history → (findings history ≡ []) ↔ IsLegal (book_of history)
    nothing = c.nothing_is_found_where_books_are_legal.ensures
