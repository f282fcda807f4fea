-- A waiting room before a core.
use Rattle.std.specs.Prelude.{◌≡◌, ◌+◌, List, Option, Some, None}
use Rattle.ent_admission.specs.Admission.{Admission}
use Rattle.ent_book.specs.Tables.{book_seen}
use Rattle.ent_book.specs.declared.table.NamedTable.{NamedTable}
use Rattle.ent_admission.specs.Passed.{Epoch, drained}
use Rattle.ent_protocol.specs.Reached.{book_of}
use Rattle.ent_semantics.specs.Book.{IsLegal}
use Rattle.ent_semantics.specs.Database.{Name, opening_database}
use Rattle.ent_semantics.specs.declared.book.Book.{Book}
use Rattle.ent_room.specs.declared.epoch_book.EpochBook.{EpochBook}

pub record Room : Type 0 where
  -- who waits, and the core
  pub admission : Admission
  -- the book of the epoch that ended last, where one has ended
  pub last : Option EpochBook

-- no epoch has ended
abbrev pub without_book : Admission → Room
without_book admission = record { admission = admission; last = None }

-- an epoch ended, and this is its book
pub record IsBookOf (epoch : Epoch) (last : Option EpochBook) : Type 0 where
  pub book : Book (List NamedTable)
  pub kept : last ≡ Some (record { epoch = epoch.number; book = book })
  pub is : book_seen book ≡ book_of epoch.core

-- The epoch comes next after the one of the book, which is legal. It began with the tables at the end of that book, but
-- that the drained ones were empty.
pub record Follows (epoch : Epoch) (last : EpochBook) : Type 0 where
  pub number : epoch.number ≡ last.epoch + 1
  pub legal : IsLegal (book_seen last.book)
  pub emptied : List Name
  pub begins : opening_database epoch.core.opening ≡ drained emptied (book_seen last.book).database
