-- What C's calls do. `old` and `new` are the caller's buffer before and after the call, `told` what is told beside it,
-- and `status` what the call answers.
use Rattle.std.specs.Prelude.{◌≡◌, ◌≢◌, ◌⊎◌, ◌<◌, ℕ, ℤ, pos, List, length}
use Rattle.ent_check_report.specs.Fault.{verdict_text}
use Rattle.ent_check_report.specs.Verdicts.{IsVerdict}
use Rattle.ent_check_report.specs.declared.check.TheConstants.{MOST_REPORT_BYTES}
use Rattle.ent_check_report.specs.declared.fault.CheckFault.{CheckFault}
use Rattle.ent_check_report.specs.declared.fault.CheckFault.TheVariants.{ReadFault, TooLong}
use Rattle.ent_check_report.specs.declared.verdict.Verdict.{Verdict}
use Rattle.ent_engine.specs.Fault.{status as fault_status}
use Rattle.ent_engine.specs.Reading.{IsRefused}
use Rattle.ent_engine.specs.declared.fault.RunFault.{RunFault}
use Rattle.ent_engine.specs.declared.fault.RunFault.TheVariants.{Check, Memory}
use Rattle.ent_book.specs.declared.version.ReportVersion.{ReportVersion}
use Rattle.ent_book.specs.declared.version.ReportVersion.TheVariants.{One}
use Rattle.ent_driver.specs.Fault.{status as refusal_status}
use Rattle.ent_driver.specs.declared.fault.DriverFault.{DriverFault}
use Rattle.ent_c.specs.Text.{laid_over, IsReport, IsSaidOf, verdict_status}
use Rattle.ent_c.specs.Told.{told_of_text, TellsFault, TellsRefusal}
use Rattle.ent_c.specs.declared.told.CallTold.{CallTold}

-- the buffer is as it was, no fault is told, and the status is 2
abbrev pub IsMisused : List ℕ → List ℕ → CallTold → ℤ → Type 0
IsMisused old new told status = (status ≡ pos 2) × (new ≡ old) × (told ≡ told_of_text 0)

-- a text is handed out as far as the buffer reaches, and no fault is told
abbrev pub HandsOut : List ℕ → List ℕ → List ℕ → CallTold → Type 0
HandsOut text old new told = (new ≡ laid_over old text) × (told ≡ told_of_text (length text))

-- a fault of these bytes is told, by its status too, and nothing is handed out
abbrev pub Refuses : RunFault → List ℕ → List ℕ → List ℕ → CallTold → ℤ → Type 0
Refuses fault bytes old new told status =
    (status ≡ pos (fault_status fault)) × (new ≡ old) × TellsFault fault bytes 0 told

-- the same of a call that a driver refuses
abbrev pub Declines : DriverFault → List ℕ → List ℕ → List ℕ → CallTold → ℤ → Type 0
Declines fault bytes old new told status =
    (status ≡ pos (refusal_status fault)) × (new ≡ old) × TellsRefusal fault bytes told

-- the report of an input is handed out, or the fault is told for which it is refused
abbrev pub Reports : ReportVersion → List ℕ → List ℕ → List ℕ → CallTold → ℤ → Type 0
Reports version bytes old new told status =
    ((report : List ℕ) × IsReport version bytes report × HandsOut report old new told × (status ≡ pos 0))
    ⊎ ((fault : RunFault) × IsRefused bytes fault × Refuses fault bytes old new told status)

-- the input has a report, and nothing is handed out; or what is said of the fault is, for which it is refused; where
-- memory runs out for that, this is what is told
abbrev pub Explains : List ℕ → List ℕ → List ℕ → CallTold → ℤ → Type 0
Explains bytes old new told status =
    ((report : List ℕ) × IsReport One bytes report × (status ≡ pos 0) × (new ≡ old) × (told ≡ told_of_text 0))
    ⊎ (((fault : RunFault) × (text : List ℕ) × IsRefused bytes fault × IsSaidOf fault text
    × (status ≡ pos (fault_status fault)) × (new ≡ laid_over old text) × TellsFault fault bytes (length text) told)
    ⊎ Refuses Memory bytes old new told status)

-- the verdict on a report is handed out, or a fault is told for which there is none
abbrev pub Checks : List ℕ → List ℕ → List ℕ → CallTold → ℤ → Type 0
Checks report old new told status =
    ((verdict : Verdict) × IsVerdict report verdict × HandsOut (verdict_text verdict) old new told
    × (status ≡ pos (verdict_status verdict)))
    ⊎ ((fault : CheckFault) × (fault ≢ ReadFault) × (fault ≡ TooLong → MOST_REPORT_BYTES < length report)
    × Refuses (Check fault) report old new told status)
