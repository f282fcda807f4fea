use Rattle.std.proofs.Common.{subst, sym}
use Rattle.std.specs.Prelude.{OnErr}
use Rattle.ent_book.specs.Tables.{book_seen}
use Rattle.ent_print.specs.Write.{AppendsBeginning}
use Rattle.ent_book.specs.Version.{text_of}
use Rattle.ent_book.specs.declared.version.ReportVersion.{ReportVersion}
use Rattle.ent_book.proofs.version.write_book.Goals as goal

pub returns-in-Two-clause-beginning : goal.returns-in-Two-clause-beginning
returns-in-Two-clause-beginning g c =
    let begins : ReportVersion → Type 0 = λ version. OnErr c.write_report_2.result
    (AppendsBeginning (g.W.Write.contents c.args.writer.now.inner)
    (g.W.Write.contents c.write_report_2.new.writer.inner) (text_of version (book_seen c.args.book.now))) in
    subst begins (sym c.in-Two.is) c.write_report_2.ensures.beginning
