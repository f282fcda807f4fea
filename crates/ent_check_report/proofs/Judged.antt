-- The verdict on what a text tells is the verdict on the text.
use Rattle.std.proofs.Common.{ℕ, List, inr}
use Rattle.std.specs.Prelude.{IfOk, Result, Ok, Err}
use Rattle.std.specs.Str.{IsUtf8}
use Rattle.ent_history.specs.declared.history.History.{History}
use Rattle.ent_history.specs.Stands.{Tells}
use Rattle.ent_check_report.specs.Verdicts.{IsVerdict, IsVerdictOn}
use Rattle.ent_check_report.specs.declared.verdict.Verdict.{Verdict}

pub of_told : {T E : Type 0} (verdict_in : T → Verdict) (text : List ℕ) (history : History) (r : Result T E)
    → IsUtf8 text → Tells text history → IfOk r (λ x. IsVerdictOn text history (verdict_in x))
    → IfOk r (λ x. IsVerdict text (verdict_in x))
of_told verdict_in text history (Ok x) characters tells judged = inr (characters, history, tells, judged)
of_told verdict_in text history (Err e) characters tells judged = tt
