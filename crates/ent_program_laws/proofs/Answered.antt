-- What the verdict on a text means.
use Rattle.std.proofs.Common.{◌≡◌, ◌≤◌, ◌↔◌, ℕ, List, length, subst, Option, Some, None, Result, Ok, Err}
use Rattle.std.specs.Prelude.{IfOk, IfSome, OnOk}
use Rattle.ent_check_report.specs.Verdicts.{IsVerdict}
use Rattle.ent_check_report.specs.declared.check.TheConstants.{MOST_REPORT_BYTES}
use Rattle.ent_check_report.specs.declared.fault.CheckFault.{CheckFault}
use Rattle.ent_check_report.specs.declared.verdict.Verdict.{Verdict}
use Rattle.ent_check_report.specs.declared.verdict.Verdict.TheVariants.{Yes}
use Rattle.ent_program_laws.specs.Right.{IsReportOfLegalBook}

-- what other laws say
pub record Laws : Type 0 where
  pub yes : (text : List ℕ) → length text ≤ MOST_REPORT_BYTES → IsVerdict text Yes ↔ IsReportOfLegalBook text
  pub one : (text : List ℕ) (one other : Verdict) → IsVerdict text one → IsVerdict text other → one ≡ other

abbrev pub Means : List ℕ → Verdict → Type 0
Means text verdict = verdict ≡ Yes ↔ IsReportOfLegalBook text

module _ (laws : Laws) where
  means : (text : List ℕ) (verdict : Verdict) → IsVerdict text verdict → length text ≤ MOST_REPORT_BYTES
      → Means text verdict
  means text verdict is short = (
    λ same. (laws.yes text short).0 (subst (IsVerdict text) same is),
    λ right. laws.one text verdict Yes is ((laws.yes text short).1 right),
  )

  -- of a text in memory
  pub text_means : (text : List ℕ) (result : Result Verdict CheckFault)
      → IfOk result (λ verdict. IsVerdict text verdict) → OnOk result (length text ≤ MOST_REPORT_BYTES)
      → IfOk result (λ verdict. Means text verdict)
  text_means text (Ok verdict) is short = means text verdict is short
  text_means text (Err fault) is short = tt

  all_mean : (remaining : Option (List ℕ)) (verdict : Verdict)
      → IfSome remaining (λ text. IsVerdict text verdict)
      → IfSome remaining (λ text. length text ≤ MOST_REPORT_BYTES) → IfSome remaining (λ text. Means text verdict)
  all_mean (Some text) verdict is short = means text verdict is short
  all_mean None verdict is short = tt

  -- of all that a reader has
  pub report_means : (remaining : Option (List ℕ)) (result : Result Verdict CheckFault)
      → IfOk result (λ verdict. IfSome remaining (λ text. IsVerdict text verdict))
      → IfOk result (λ verdict. IfSome remaining (λ text. length text ≤ MOST_REPORT_BYTES))
      → IfOk result (λ verdict. IfSome remaining (λ text. Means text verdict))
  report_means remaining (Ok verdict) is short = all_mean remaining verdict is short
  report_means remaining (Err fault) is short = tt
