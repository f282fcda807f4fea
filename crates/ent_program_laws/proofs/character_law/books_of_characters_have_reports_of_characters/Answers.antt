use Rattle.std.proofs.Common.{sym, subst}
use Rattle.std.specs.Str.{IsUtf8}
use Rattle.ent_history.specs.Told.{told_by}
use Rattle.ent_program_laws.proofs.character_law.books_of_characters_have_reports_of_characters.Goals as goal

pub returns : goal.returns
returns c book numbers can holds =
    subst IsUtf8 (sym (c.reports_tell_of_books.ensures book numbers))
    (c.histories_of_characters_have_texts_of_characters.ensures (told_by book) can holds)
