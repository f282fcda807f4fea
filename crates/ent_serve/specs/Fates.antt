-- What is told of a fate.
use Rattle.std.specs.Prelude.{◌≡◌, ◌==◌, ℕ, List, Option, Some, None, find}
use Rattle.ent_semantics.specs.declared.book.Fate.{Fate}
use Rattle.ent_protocol.specs.Lookup.{standing}
use Rattle.ent_protocol.specs.State.{State}
use Rattle.ent_desk.specs.Told.{fate_in, fate_of}
use Rattle.ent_desk.specs.declared.ticket.Receipt.{Receipt}
use Rattle.ent_serve.specs.Look.{IsBehindLock}

-- it is what a core behind the lock has for the transaction
pub record IsBehindLockFor (tx : ℕ) (told : Option Fate) : Type 0 where
  pub core : State
  pub behind : IsBehindLock core
  pub is : told ≡ fate_in (standing core tx)

-- a receipt tells of a fate; where there is none, a core behind the lock does
abbrev pub told_by : Option Receipt → ℕ → Option Fate → Type 0
told_by (Some receipt) tx told = told ≡ Some (fate_of receipt)
told_by None tx told = IsBehindLockFor tx told

-- Of the receipts of a session the first of the transaction tells of the fate. Where there is none, a core behind the
-- lock does.
abbrev pub TellsFate : List Receipt → ℕ → Option Fate → Type 0
TellsFate receipts tx told = told_by (find (λ receipt. receipt.tx == tx) receipts) tx told
