-- A text has one verdict only.
use Rattle.std.proofs.Common.{◌≡◌, ℕ, List, refl, ap, sym, ◌∙◌, subst, inl, inr}
use Rattle.std.specs.Str.{IsUtf8}
use Rattle.std.proofs.lemmas.Option.{same_Some}
use Rattle.ent_history.specs.declared.history.History.{History}
use Rattle.ent_history.specs.Fault.{IsNoReport}
use Rattle.ent_history.specs.Stands.{Tells}
use Rattle.ent_history.specs.declared.finding.Finding.{Finding}
use Rattle.ent_history.specs.declared.finding.Rule.TheVariants.{Form}
use Rattle.ent_history.specs.declared.finding.Thing.{Thing}
use Rattle.ent_report_reader.specs.Located.{StandsAt}
use Rattle.ent_check_report.specs.Verdicts.{IsVerdict, IsVerdictOn}
use Rattle.ent_check_report.specs.declared.verdict.Verdict.{Verdict}
use Rattle.ent_check_report.specs.declared.verdict.Verdict.TheVariants.{Yes, No}

-- each thing stands at one line of the text
abbrev StandsOnce : List ℕ → Type 0
StandsOnce text = (thing : Thing) (one other : ℕ) → StandsAt text thing one → StandsAt text thing other → one ≡ other

-- the verdict on one history
verdict_on_once : (text : List ℕ) → StandsOnce text → (history : History) (one other : Verdict)
    → IsVerdictOn text history one → IsVerdictOn text history other → one ≡ other
verdict_on_once text once history Yes Yes s o = refl
verdict_on_once text once history Yes (No line rule) s o = let e = sym s ∙ o.1 in cc
verdict_on_once text once history (No line rule) Yes s o = let e = sym o ∙ s.1 in cc
verdict_on_once text once history (No line rule) (No number own) s o =
    let same = same_Some s.0 o.0 (sym s.1 ∙ o.1) in
    let lines = once o.0.thing line number (subst (λ (finding : Finding). StandsAt text finding.thing line) same s.2)
    o.2 in
    let rules = s.3 ∙ ap (λ (finding : Finding). finding.rule) same ∙ sym o.3 in
    λ i. No (lines i) (rules i)

-- what the laws say from which this one follows
pub record IsUnambiguous : Type 0 where
  pub told_once : (text : List ℕ) (one other : History) → Tells text one → Tells text other → one ≡ other
  pub is_report : (text : List ℕ) (history : History) (line : ℕ) → IsUtf8 text → Tells text history
      → IsNoReport text line → ⊥
  pub stands_once : (text : List ℕ) → StandsOnce text
  pub stops_once : (text : List ℕ) (one other : ℕ) → IsNoReport text one → IsNoReport text other → one ≡ other

pub one_verdict : IsUnambiguous → (text : List ℕ) (one other : Verdict) → IsVerdict text one → IsVerdict text other
    → one ≡ other
one_verdict laws text one other (inl s) (inl o) =
    s.2 ∙ ap (λ (line : ℕ). No line Form) (laws.stops_once text s.0 o.0 s.1 o.1) ∙ sym o.2
one_verdict laws text one other (inl s) (inr o) = absurd (laws.is_report text o.1 s.0 o.0 o.2 s.1)
one_verdict laws text one other (inr s) (inl o) = absurd (laws.is_report text s.1 o.0 s.0 s.2 o.1)
one_verdict laws text one other (inr s) (inr o) =
    verdict_on_once text (laws.stands_once text) s.1 one other s.3
    (subst (λ (history : History). IsVerdictOn text history other) (laws.told_once text o.1 s.1 o.2 s.2) o.3)
