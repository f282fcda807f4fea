-- What a session holds of what the core has.
use Rattle.std.specs.Prelude.{◌≡◌, ℕ, suc, List, [], ◌∷◌, Some, Contains, map}
use Rattle.std.specs.List.{AllByRecursion}
use Rattle.ent_semantics.specs.declared.book.Entry.{Entry}
use Rattle.ent_semantics.specs.declared.book.Fate.TheVariants.{Committed}
use Rattle.ent_protocol.specs.Lookup.{standing}
use Rattle.ent_protocol.specs.Reached.{scripts_of}
use Rattle.ent_protocol.specs.State.{State}
use Rattle.ent_desk.specs.declared.ticket.Receipt.{Receipt}
use Rattle.ent_desk.specs.Closed.{all_receipts, all_tickets}
use Rattle.ent_desk.specs.Opened.{first_over, tickets_from}
use Rattle.ent_desk.specs.Receipts.{receipt}
use Rattle.ent_desk.specs.Seen.{SessionState}
use Rattle.ent_desk.specs.Told.{fate_in}

-- among these is the receipt of an entry, with the runs of its transaction's fate
abbrev pub HasReceipt : State → List Receipt → ℕ → Entry → Type 0
HasReceipt core all number entry =
    (runs : ℕ) × (fate_in (standing core entry.tx) ≡ Some (Committed number runs))
    × Contains all (receipt number entry runs)

-- among these are the receipts of entries, of which the first has this number
abbrev pub HaveReceipts : State → List Receipt → ℕ → List Entry → Type 0
HaveReceipts core all next [] = Unit {0}
HaveReceipts core all next (entry ∷ more) = HasReceipt core all next entry × HaveReceipts core all (suc next) more

-- the sessions hold the opening and the count, and a ticket or a receipt of all that the core has
pub record IsAccounted (core : State) (count : ℕ) (sessions : List SessionState) : Type 0 where
  pub first : Contains (map (λ session. session.first) sessions) (Some (first_over core.opening count))
  pub tickets : AllByRecursion (Contains (all_tickets sessions)) (tickets_from 1 (scripts_of core))
  pub receipts : HaveReceipts core (all_receipts sessions) 1 core.journal
