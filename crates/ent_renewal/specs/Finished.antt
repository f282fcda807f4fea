-- What the type of a finished book keeps.
use Rattle.std.specs.Prelude.{◌≡◌, List, None}
use Rattle.ent_semantics.specs.declared.book.Book.{Book}
use Rattle.ent_book.specs.Tables.{book_seen}
use Rattle.ent_book.specs.declared.table.NamedTable.{NamedTable}
use Rattle.ent_form.specs.OpeningFault.{opening_fault}
use Rattle.ent_protocol.specs.Reached.{IsFinishedBook}
use Rattle.ent_headline.specs.Resolved.{resolved_forms}

-- its opening has no fault of form, and some scripts over it led to the book, none of which waits for a run
pub record IsLeft (book : Book (List NamedTable)) : Type 0 where
  pub formed : opening_fault book.opening ≡ None
  pub finished : IsFinishedBook resolved_forms book.opening book.scripts (book_seen book)
