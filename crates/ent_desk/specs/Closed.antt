-- The book of a manager that was closed.
use Rattle.std.specs.Prelude.{ℕ, suc, List, [], ◌∷◌, Some, Contains, IsPermutation, map}
use Rattle.std.specs.List.{AllByRecursion, flat_map}
use Rattle.ent_semantics.specs.Book.{IsLegal}
use Rattle.ent_semantics.specs.Database.{Database}
use Rattle.ent_semantics.specs.declared.answer.Answer.{Answer}
use Rattle.ent_semantics.specs.declared.book.Book.{Book}
use Rattle.ent_semantics.specs.declared.book.Entry.{Entry}
use Rattle.ent_semantics.specs.declared.book.Fate.TheVariants.{Committed}
use Rattle.ent_semantics.specs.declared.book.Fated.{Fated}
use Rattle.ent_protocol.specs.Reached.{IsFinishedBook, IsGatheredAt}
use Rattle.ent_protocol_laws.specs.Fates.{HaveFates}
use Rattle.ent_core.specs.Passed.{resolved_forms}
use Rattle.ent_desk.specs.declared.ticket.Receipt.{Receipt}
use Rattle.ent_desk.specs.declared.ticket.Ticket.{Ticket}
use Rattle.ent_desk.specs.Opened.{first_over, tickets_from}
use Rattle.ent_desk.specs.Seen.{SessionState}

-- the tickets and the receipts of all sessions
abbrev pub all_tickets : List SessionState → List Ticket
all_tickets sessions = flat_map (λ session. session.tickets) sessions

abbrev pub all_receipts : List SessionState → List Receipt
all_receipts sessions = flat_map (λ session. session.receipts) sessions

-- a journal's entries under their numbers, from this one on
pub record Numbered : Type 0 where
  pub number : ℕ
  pub tx : ℕ
  pub answers : List Answer

abbrev pub entries_from : ℕ → List Entry → List Numbered
entries_from next [] = []
entries_from next (entry ∷ more) =
    record { number = next; tx = entry.tx; answers = entry.answers } ∷ entries_from (suc next) more

-- the entry that a receipt is of
abbrev pub entry_of : Receipt → Numbered
entry_of receipt = record { number = receipt.number; tx = receipt.tx; answers = receipt.answers }

-- the runs of a receipt are those of the fate
abbrev pub HasItsRuns : List Fated → Receipt → Type 0
HasItsRuns fates receipt = Contains fates (record { tx = receipt.tx; fate = Committed receipt.number receipt.runs })

-- Receipts are those of a book: each entry of the journal has one receipt, no receipt is of anything else, and each has
-- the runs of its transaction's fate.
pub record AreReceiptsOf (book : Book Database) (receipts : List Receipt) : Type 0 where
  pub entries : IsPermutation (entries_from 1 book.journal) (map entry_of receipts)
  pub runs : AllByRecursion (HasItsRuns book.fates) receipts

-- A closed manager's book is finished and legal, over the opening that one of the sessions holds, and gathered at the
-- count that stands with it; each script has a fate; the scripts are exactly the sessions' tickets, and the journal
-- with the fates' runs exactly their receipts, each once.
pub record IsClosedBook (book : Book Database) (sessions : List SessionState) : Type 0 where
  pub count : ℕ
  pub first : Contains (map (λ session. session.first) sessions) (Some (first_over book.opening count))
  pub finished : IsFinishedBook resolved_forms book.opening book.scripts book
  pub gathered : IsGatheredAt resolved_forms count finished.last
  pub fates : HaveFates book
  pub legal : IsLegal book
  pub tickets : IsPermutation (tickets_from 1 book.scripts) (all_tickets sessions)
  pub receipts : AreReceiptsOf book (all_receipts sessions)

-- A book that a manager gives without its sessions is finished and legal, over some opening and gathered at some count,
-- and each script has a fate.
pub record IsWholeBook (book : Book Database) : Type 0 where
  pub count : ℕ
  pub finished : IsFinishedBook resolved_forms book.opening book.scripts book
  pub gathered : IsGatheredAt resolved_forms count finished.last
  pub fates : HaveFates book
  pub legal : IsLegal book
