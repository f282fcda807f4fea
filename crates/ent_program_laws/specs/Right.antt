-- The texts that deserve `yes`.
use Rattle.std.specs.Prelude.{◌≡◌, ℕ, List}
use Rattle.std.specs.Str.{IsUtf8}
use Rattle.ent_semantics.specs.declared.book.Book.{Book}
use Rattle.ent_semantics.specs.Book.{IsLegal}
use Rattle.ent_semantics.specs.Database.{Database}
use Rattle.ent_book.specs.Report2.{report_2_text}
use Rattle.ent_program_laws.specs.Reportable.{CanBeReported}

-- a text of whole characters that is the report, version 2, of a legal book that can be reported
pub record IsReportOfLegalBook (text : List ℕ) : Type 0 where
  pub characters : IsUtf8 text
  pub book : Book Database
  pub legal : IsLegal book
  pub reported : CanBeReported book
  pub report : text ≡ report_2_text book
