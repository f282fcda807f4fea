-- What a check of a text answers.
use Rattle.std.specs.Prelude.{◌≡◌, ◌⊎◌, ℕ, Bool, true, false, List, Some, None}
use Rattle.std.specs.Str.{IsUtf8}
use Rattle.ent_history.specs.declared.history.History.{History}
use Rattle.ent_history.specs.Fault.{IsNoReport}
use Rattle.ent_history.specs.Stands.{Tells}
use Rattle.ent_history.specs.Verdict.{first_finding}
use Rattle.ent_history.specs.declared.finding.Finding.{Finding}
use Rattle.ent_history.specs.declared.finding.Rule.{Rule}
use Rattle.ent_history.specs.declared.finding.Rule.TheVariants.{Form}
use Rattle.ent_report_reader.specs.Located.{StandsAt}
use Rattle.ent_check_report.specs.declared.verdict.Verdict.{Verdict}
use Rattle.ent_check_report.specs.declared.verdict.Verdict.TheVariants.{Yes, No}

-- Nothing breaks a rule in what a text tells; else the rule that is broken first, and the line of the text at which
-- the thing stands that breaks it.
abbrev pub IsVerdictOn : List ℕ → History → Verdict → Type 0
IsVerdictOn text history Yes = first_finding history ≡ None
IsVerdictOn text history (No line rule) =
    (finding : Finding) × (first_finding history ≡ Some finding) × StandsAt text finding.thing line
    × (rule ≡ finding.rule)

-- The text is no report, and this is the line at which it isn't; or it is one of whole characters, tells a history, and
-- this is the verdict on that.
abbrev pub IsVerdict : List ℕ → Verdict → Type 0
IsVerdict text verdict =
    ((line : ℕ) × IsNoReport text line × (verdict ≡ No line Form))
    ⊎ (IsUtf8 text × (history : History) × Tells text history × IsVerdictOn text history verdict)

-- a rule is broken
abbrev pub is_no : Verdict → Bool
is_no Yes = false
is_no (No line rule) = true
