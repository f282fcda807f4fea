-- What a call finds behind the lock.
use Rattle.ent_desk.specs.Passed.{resolved_forms}
use Rattle.ent_desk.specs.Renewed.{HasTooManyRows}
use Rattle.ent_protocol.specs.Reached.{CanClose, IsReached, book_of}
use Rattle.ent_protocol.specs.State.{State}
use Rattle.ent_semantics.specs.Book.{IsLegal}

-- events led to a core from its own opening, and its book is legal
pub record IsBehindLock (core : State) : Type 0 where
  pub reached : IsReached resolved_forms core
  pub legal : IsLegal (book_of core)

-- such a core can't be closed: a run is on, or somebody waits for one
pub record IsLeftBehindLock : Type 0 where
  pub core : State
  pub behind : IsBehindLock core
  pub left : ¬ CanClose core

-- the tables of such a core have more rows together than an opening has
pub record IsFullBehindLock : Type 0 where
  pub core : State
  pub behind : IsBehindLock core
  pub full : HasTooManyRows (book_of core)
