-- The number and the exit status of a fault, and what a verdict says.
use Rattle.std.specs.Prelude.{ℕ, Bool, true, false, List, ◌++◌, codes, Result, Ok, Err}
use Rattle.std.specs.Fmt.{decimal}
use Rattle.ent_history.specs.declared.finding.Rule.{Rule}
use Rattle.ent_history.specs.declared.finding.Rule.TheVariants as rules
use Rattle.ent_check_report.specs.declared.fault.CheckFault.{CheckFault}
use Rattle.ent_check_report.specs.declared.fault.CheckFault.TheVariants.{ReadFault, TooLong, Memory}
use Rattle.ent_check_report.specs.declared.verdict.Verdict.{Verdict}
use Rattle.ent_check_report.specs.declared.verdict.Verdict.TheVariants.{Yes, No}

abbrev pub code_of : CheckFault → ℕ
code_of ReadFault = 601
code_of TooLong = 603
code_of Memory = 900

-- 1: the report is refused; 3: no memory; 4: the reader failed
abbrev pub status : CheckFault → ℕ
status TooLong = 1
status Memory = 3
status ReadFault = 4

-- the reader failed
abbrev pub is_read_fault : {X : Type 0} → Result X CheckFault → Bool
is_read_fault (Ok x) = false
is_read_fault (Err ReadFault) = true
is_read_fault (Err TooLong) = false
is_read_fault (Err Memory) = false

-- the word for a rule
abbrev pub rule_word : Rule → List ℕ
rule_word rules.Form = codes "form"
rule_word rules.Journal = codes "journal"
rule_word rules.Joint = codes "joint"
rule_word rules.Ground = codes "ground"
rule_word rules.Answer = codes "answer"
rule_word rules.Post = codes "post"
rule_word rules.Table = codes "table"

-- a verdict in words, without the end of its line
abbrev pub verdict_text : Verdict → List ℕ
verdict_text Yes = codes "yes"
verdict_text (No line rule) = codes "no " ++ (decimal line ++ (codes " " ++ rule_word rule))
