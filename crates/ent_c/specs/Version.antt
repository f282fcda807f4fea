-- The versions of a report, by their numbers.
use Rattle.std.specs.Prelude.{ℕ, Option, Some, None, if◌then◌else◌, ◌==◌}
use Rattle.ent_book.specs.declared.version.ReportVersion.{ReportVersion}
use Rattle.ent_book.specs.declared.version.ReportVersion.TheVariants.{One, Two}

-- 1 and 2, and no other
abbrev pub version_numbered : ℕ → Option ReportVersion
version_numbered number = if number == 1 then Some One else if number == 2 then Some Two else None
