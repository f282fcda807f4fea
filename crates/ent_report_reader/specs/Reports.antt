-- What is read of a whole text.
use Rattle.std.specs.Prelude.{◌≡◌, ℕ, List, ◌++◌, Result, Ok, Err}
use Rattle.std.specs.Str.{IsUtf8}
use Rattle.ent_history.specs.Draft.{Draft, blank}
use Rattle.ent_history.specs.Stands.{AllStand, Tells, whole}
use Rattle.ent_history.specs.Fault.{HasFormFault, IsNoReport, NothingStands}
use Rattle.ent_report_reader.specs.Located.{AreLinesOf}
use Rattle.ent_report_reader.specs.declared.report.Report.{Report}

-- all pieces of the text stand up to this rest
pub record StandsUpTo (text : List ℕ) (draft : Draft) (rest : List ℕ) : Type 0 where
  pub pieces : List (List ℕ)
  pub parts : text ≡ whole pieces ++ rest
  pub stand : AllStand blank pieces draft

-- and nothing that can stand there begins the rest
pub record StopsAt (text : List ℕ) (draft : Draft) (rest : List ℕ) : Type 0 where
  pub up_to : StandsUpTo text draft rest
  pub nothing : NothingStands draft rest

-- what a text of whole characters tells, and at which lines; or the line of its first fault of form
abbrev pub IsTextRead : List ℕ → Result Report ℕ → Type 0
IsTextRead text (Ok report) = Tells text report.history × AreLinesOf text report.history report.lines
IsTextRead text (Err number) = HasFormFault text number

-- what a text tells, and at which lines; or the line at which it is no report
abbrev pub IsReportRead : List ℕ → Result Report ℕ → Type 0
IsReportRead text (Ok report) =
    IsUtf8 text × Tells text report.history × AreLinesOf text report.history report.lines
IsReportRead text (Err number) = IsNoReport text number
