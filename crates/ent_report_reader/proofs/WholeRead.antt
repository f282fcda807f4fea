-- A whole text is read.
use Rattle.std.proofs.Common.{◌≡◌, ◌==◌, ℕ, Bool, true, false, List, [], ◌∷◌, length, Result, Ok, Err, sym, ◌∙◌, subst}
use Rattle.std.proofs.Common.{ap, inr}
use Rattle.std.specs.Prelude.{IfOk, IsTrue, ◌↔◌}
use Rattle.std.specs.Str.{IsUtf8}
use Rattle.ent_history.specs.declared.history.History.{History}
use Rattle.ent_history.specs.Draft.{Draft, Ended}
use Rattle.ent_history.specs.Stands.{Tells}
use Rattle.ent_history.specs.Fault.{HasFormFault, IsNoEnd}
use Rattle.ent_history.proofs.Begun.{nothing_there}
use Rattle.ent_report_reader.specs.Located.{AreLinesOf}
use Rattle.ent_report_reader.specs.Reports.{IsReportRead, IsTextRead, StopsAt}
use Rattle.ent_report_reader.specs.declared.located.Located.{Located}
use Rattle.ent_report_reader.specs.declared.report.Report.{Report}
use Rattle.ent_report_reader.proofs.Whole.{tells}

-- the end doesn't stand
pub not_ended : (draft : Draft) (rest : List ℕ) (ended : Bool) → IsTrue ended ↔ (draft.due ≡ Ended) → ended ≡ false
    → IsNoEnd draft rest
not_ended draft rest ended is none due = let stands = is.1 due in cc

-- something is left
pub some_left : (draft : Draft) (rest : List ℕ) (empty : Bool) → empty ≡ (length rest == 0) → empty ≡ false
    → IsNoEnd draft rest
some_left draft [] empty is none due e = let both : true ≡ false = sym is ∙ none in cc
some_left draft (x ∷ rest) empty is none due e = cc

-- the end stands, and nothing is left
pub told_whole : (text : List ℕ) (draft : Draft) (rest : List ℕ) (lines : List Located) (ended empty : Bool)
    (history : History) → StopsAt text draft rest → AreLinesOf text draft.told lines
    → IsTrue ended ↔ (draft.due ≡ Ended) → ended ≡ true → empty ≡ (length rest == 0) → empty ≡ true
    → history ≡ draft.told → Tells text history × AreLinesOf text history lines
told_whole text draft rest lines ended empty history at are is so none all told = (
  tells text draft rest history at (is.0 so) (ap length (nothing_there rest empty none all)) told,
  subst (λ (h : History). AreLinesOf text h lines) (sym told) are,
)

pub read_by : {E : Type 0} (bytes text : List ℕ) (result : Result (Result Report ℕ) E) → text ≡ bytes → IsUtf8 bytes
    → IfOk result (λ read. IsTextRead text read) → IfOk result (λ read. IsReportRead bytes read)
read_by bytes text (Ok (Ok report)) same whole told = (
  whole,
  subst (λ t. Tells t report.history) same told.0,
  subst (λ t. AreLinesOf t report.history report.lines) same told.1,
)
read_by bytes text (Ok (Err number)) same whole fault = inr (whole, subst (λ t. HasFormFault t number) same fault)
read_by bytes text (Err fault) same whole read = tt
