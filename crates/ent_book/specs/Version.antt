-- The text of a book's report, by its version.
use Rattle.std.specs.Prelude.{ℕ, List}
use Rattle.ent_semantics.specs.declared.book.Book.{Book}
use Rattle.ent_semantics.specs.Database.{Database}
use Rattle.ent_book.specs.Report.{report_text}
use Rattle.ent_book.specs.Report2.{report_2_text}
use Rattle.ent_book.specs.declared.version.ReportVersion.{ReportVersion}
use Rattle.ent_book.specs.declared.version.ReportVersion.TheVariants.{One, Two}

abbrev pub text_of : ReportVersion → Book Database → List ℕ
text_of One book = report_text book
text_of Two book = report_2_text book
