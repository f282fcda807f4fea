-- The receipts of journal entries.
use Rattle.std.specs.Prelude.{◌≡◌, ◌≢◌, ℕ, suc, List, [], ◌∷◌, ◌++◌, Option, Some, None, length}
use Rattle.std.specs.List.{AllByRecursion}
use Rattle.ent_semantics.specs.declared.book.Entry.{Entry}
use Rattle.ent_semantics.specs.declared.book.Fate.TheVariants.{Committed}
use Rattle.ent_protocol.specs.Lookup.{entry_at, standing}
use Rattle.ent_protocol.specs.State.{State}
use Rattle.ent_desk.specs.declared.ticket.Receipt.{Receipt}
use Rattle.ent_desk.specs.Told.{fate_in}

-- the receipt of an entry
abbrev pub receipt : ℕ → Entry → ℕ → Receipt
receipt number entry runs = record { number = number; tx = entry.tx; runs = runs; answers = entry.answers }

-- the receipt of the entry of a number, with the runs of its transaction's fate
pub record IsReceiptOf (core : State) (number : ℕ) (entry : Entry) (got : Receipt) : Type 0 where
  pub fate : fate_in (standing core entry.tx) ≡ Some (Committed number got.runs)
  pub is : got ≡ receipt number entry got.runs

-- the receipts of entries, in order, the first of which has this number
abbrev pub AreReceiptsFrom : State → ℕ → List Entry → List Receipt → Type 0
AreReceiptsFrom core next [] [] = Unit {0}
AreReceiptsFrom core next [] (got ∷ others) = ⊥
AreReceiptsFrom core next (entry ∷ more) [] = ⊥
AreReceiptsFrom core next (entry ∷ more) (got ∷ others) =
    IsReceiptOf core next entry got × AreReceiptsFrom core (suc next) more others

-- behind the receipts before stand those of entries, and nothing else
pub record AreReceived (core : State) (next : ℕ) (entries : List Entry) (before after : List Receipt) : Type 0 where
  pub got : List Receipt
  pub behind : after ≡ before ++ got
  pub are : AreReceiptsFrom core next entries got

-- The journal went on by entries, and the receipts by theirs, in order, and by nothing else.
pub record Receives (old new : State) (before after : List Receipt) : Type 0 where
  pub entries : List Entry
  pub journal : new.journal ≡ old.journal ++ entries
  pub received : AreReceived new (suc (length old.journal)) entries before after

-- ---- one transaction

-- a receipt is that of the entry of a transaction, under the entry's number in the journal
pub record IsJournalReceipt (core : State) (tx : ℕ) (got : Receipt) : Type 0 where
  pub entry : Entry
  pub at : entry_at core got.number ≡ Some entry
  pub own : entry.tx ≡ tx
  pub receipt : IsReceiptOf core got.number entry got

-- what the journal has for a transaction: the receipt of its entry; none where no entry is its own
abbrev pub IsInJournal : State → ℕ → Option Receipt → Type 0
IsInJournal core tx (Some got) = IsJournalReceipt core tx got
IsInJournal core tx None = AllByRecursion (λ entry. entry.tx ≢ tx) core.journal
