-- What contracts see of a session and of the desk behind the lock.
use Rattle.std.specs.Prelude.{◌≡◌, ℕ, Bool, false, List, [], ◌∷◌, ◌++◌, Option}
use Rattle.ent_tree.specs.declared.script.Script.{Script}
use Rattle.ent_protocol.specs.Reached.{LeadsTo}
use Rattle.ent_protocol.specs.State.{State}
use Rattle.ent_core.specs.Passed.{resolved_forms}
use Rattle.ent_desk.specs.declared.ticket.First.{First}
use Rattle.ent_desk.specs.declared.ticket.Receipt.{Receipt}
use Rattle.ent_desk.specs.declared.ticket.Ticket.{Ticket}

-- what a session got, in the order in which it got it; and of the first one, what the manager was opened over
pub record SessionState : Type 0 where
  pub tickets : List Ticket
  pub receipts : List Receipt
  pub first : Option First

-- the core, how many scripts the manager was opened over, and whether members left the run since that was last asked
pub record DeskState : Type 0 where
  pub core : State
  pub count : ℕ
  pub left : Bool

abbrev pub ticket : ℕ → Script → Ticket
ticket tx script = record { tx = tx; script = script }

-- what was got before is a beginning
abbrev pub Begins : {A : Type 0} → List A → List A → Type 0
Begins {A} before after = (more : List A) × (after ≡ before ++ more)

-- the tickets and the first are as before, and receipts may have come
pub record GetsReceipts (before after : SessionState) : Type 0 where
  pub tickets : after.tickets ≡ before.tickets
  pub first : after.first ≡ before.first
  pub receipts : Begins before.receipts after.receipts

-- one ticket more, and nothing else
abbrev pub with_ticket : SessionState → ℕ → Script → SessionState
with_ticket session tx script = record session { tickets = session.tickets ++ ticket tx script ∷ [] }

-- where no member is said to have left, none was said to before, and no transaction got its fate
abbrev pub TellsOfFates : DeskState → DeskState → Type 0
TellsOfFates before after =
    after.left ≡ false → (before.left ≡ false) × (after.core.fates ≡ before.core.fates)

-- events lead the core on, the number stays, and no fate comes unsaid
pub record LeadsOn (before after : DeskState) : Type 0 where
  pub events : ℕ
  pub leads : LeadsTo resolved_forms events before.core after.core
  pub count : after.count ≡ before.count
  pub tells : TellsOfFates before after
