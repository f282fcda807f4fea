-- What a text tells of a legal book.
use Rattle.std.proofs.Common.{◌≡◌, ◌≤◌, ◌↔◌, ℕ, List, map, length, ap, sym, subst, ◌∙◌, None}
use Rattle.std.specs.List.{range_with_len}
use Rattle.ent_semantics.specs.declared.book.Book.{Book}
use Rattle.ent_semantics.specs.Book.{IsLegal}
use Rattle.ent_semantics.specs.Database.{Database}
use Rattle.ent_book.specs.Report2.{report_2_text}
use Rattle.ent_form.specs.OpeningFault.{opening_fault}
use Rattle.ent_history.specs.declared.history.History.{History}
use Rattle.ent_history.specs.Text.{history_text}
use Rattle.ent_history.specs.Told.{book_of, told_by}
use Rattle.ent_history.specs.Stands.{Tells}
use Rattle.ent_report_laws.specs.Tellable.{CanBeTold}
use Rattle.ent_history.specs.Formed.{IsFormed}
use Rattle.ent_program_laws.specs.Reportable.{CanBeReported}
use Rattle.ent_program_laws.proofs.VerdictAgain.{history_again}
use Rattle.ent_program_laws.proofs.Fates.{are_from}
use Rattle.ent_program_laws.proofs.Members.{FirstFault}
use Rattle.ent_program_laws.proofs.Reported.{book_reported}

-- what other laws say
pub record Laws : Type 0 where
  pub first : FirstFault
  pub formed : (text : List ℕ) (history : History) → Tells text history → IsFormed history
  pub opened : (text : List ℕ) (history : History) → Tells text history → opening_fault history.opening ≡ None
  pub told : (text : List ℕ) (history : History)
      → Tells text history ↔ (text ≡ history_text history) × CanBeTold history
  pub text : (book : Book Database)
      → map (λ fated. fated.tx) book.fates ≡ range_with_len 1 (length book.fates)
      → report_2_text book ≡ history_text (told_by book)

module _ (laws : Laws) (text : List ℕ) (history : History) (tells : Tells text history)
    (legal : IsLegal (book_of history)) where
  told : (text ≡ history_text history) × CanBeTold history
  told = (laws.told text history).0 tells

  pub told_again : told_by (book_of history) ≡ history
  told_again = history_again laws.first history told.1 (laws.formed text history tells) legal

  pub report_again : report_2_text (book_of history) ≡ text
  report_again =
      laws.text (book_of history) (are_from history.transactions) ∙ ap history_text told_again ∙ sym told.0

  pub reported : length text ≤ 1099511627776 → CanBeReported (book_of history)
  reported short =
      book_reported history told.1 (laws.formed text history tells) (laws.opened text history tells)
      (subst (λ (t : List ℕ). length t ≤ 1099511627776) (sym report_again) short)
