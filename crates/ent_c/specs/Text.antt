-- The texts that are handed out.
use Rattle.std.specs.Prelude.{◌≡◌, ℕ, List, [], ◌∷◌, ◌++◌, length, take, drop, Some}
use Rattle.ent_check_report.specs.declared.verdict.Verdict.{Verdict}
use Rattle.ent_check_report.specs.declared.verdict.Verdict.TheVariants.{Yes, No}
use Rattle.ent_engine.specs.Fault.{line_text}
use Rattle.ent_engine.specs.Io.{WritesReport}
use Rattle.ent_engine.specs.declared.fault.RunFault.{RunFault}
use Rattle.ent_book.specs.declared.version.ReportVersion.{ReportVersion}

-- a text laid over the beginning of some bytes, cut off where they end
abbrev pub laid_over : List ℕ → List ℕ → List ℕ
laid_over bytes text = take (length bytes) text ++ drop (length text) bytes

-- a report, of this version, of the input that these bytes are
abbrev pub IsReport : ReportVersion → List ℕ → List ℕ → Type 0
IsReport version bytes report = WritesReport version bytes (Some []) (Some report)

-- what is said of a fault begins with the line that names it
abbrev pub IsSaidOf : RunFault → List ℕ → Type 0
IsSaidOf fault text = (rest : List ℕ) × (text ≡ (line_text fault ++ 10 ∷ []) ++ rest)

-- the status of a check: 0 says yes, 1 says no
abbrev pub verdict_status : Verdict → ℕ
verdict_status Yes = 0
verdict_status (No line rule) = 1
