use Rattle.std.proofs.Common.{◌≡◌, ℕ, List, Option, Some, None, Result, Ok, Err, IfOk, IfSome, subst, ◌∙◌}
use Rattle.ent_check_report.specs.Verdicts.{IsVerdict}
use Rattle.ent_check_report.specs.declared.fault.CheckFault.{CheckFault}
use Rattle.ent_check_report.specs.declared.verdict.Verdict.{Verdict}
use Rattle.ent_check_report.proofs.check.check_report.Goals as goal

-- the verdict on what was read is that on all that the reader had
judged : (remaining : Option (List ℕ)) (items now : List ℕ) (result : Result Verdict CheckFault)
    → IfSome remaining (λ all. items ≡ all) → now ≡ items → IfOk result (IsVerdict now)
    → IfOk result (λ verdict. IfSome remaining (λ text. IsVerdict text verdict))
judged remaining items now (Err fault) whole same is = tt
judged None items now (Ok verdict) whole same is = tt
judged (Some all) items now (Ok verdict) whole same is = subst (λ text. IsVerdict text verdict) (same ∙ whole) is

pub returns-clause-verdict : goal.returns-clause-verdict
returns-clause-verdict g c =
    judged (g.R.Read.remaining c.args.reader.now.inner) c.in_ok-text.text.items c.as_slice.result.now
    c.check_text.result c.in_ok-text.ensures.whole c.as_slice.ensures.value c.check_text.ensures.verdict
