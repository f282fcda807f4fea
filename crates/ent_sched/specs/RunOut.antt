-- Cores that are run out: all that their scripts ask for is done.
use Rattle.std.specs.Prelude.{◌≡◌, ℕ}
use Rattle.ent_semantics.specs.Database.{Database}
use Rattle.ent_semantics.specs.declared.book.Book.{Book}
use Rattle.ent_protocol.specs.Reached.{IsFinished, book_of}
use Rattle.ent_protocol.specs.Run.{Forms}
use Rattle.ent_protocol.specs.State.{State}
use Rattle.ent_sched.specs.Onward.{LeadsOn}

-- Events lead from a state to a finished one, with its opening and its scripts; and a book is that one's.
pub record IsRunOut {F : Type 0} (forms : Forms F) (s : State) (book : Book Database) : Type 0 where
  pub last : State
  pub count : ℕ
  pub leads_on : LeadsOn forms count s last
  pub finished : IsFinished forms last
  pub is : book ≡ book_of last
