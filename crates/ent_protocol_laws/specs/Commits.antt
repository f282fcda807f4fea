-- Which replies are commits, and what these add to the journal.
use Rattle.std.specs.Prelude.{◌≡◌, ◌≢◌, ℕ, suc, Bool, true, false, List, [], ◌∷◌, ◌++◌, length, count_by}
use Rattle.std.specs.List.{AllByRecursion, flat_map}
use Rattle.ent_semantics.specs.declared.book.Entry.{Entry}
use Rattle.ent_protocol.specs.Event.{Event, Reply, Committed, StartRun}
use Rattle.ent_protocol.specs.Numbers.{entry_numbers}
use Rattle.ent_protocol.specs.State.{State}

-- ---- replies

module _ {F : Type 0} where
  -- a group has committed
  abbrev pub is_commit : Reply F → Bool
  is_commit (Committed entries) = true
  is_commit other = false

  -- the numbers of the entries of a commit, and whose they are; of another reply none
  abbrev pub committed_by : Reply F → List (ℕ × ℕ)
  committed_by (Committed entries) = entries
  committed_by other = []

  -- how many of some events are commits
  abbrev pub commits_in : List (Event × Reply F) → ℕ
  commits_in told = count_by (λ one. is_commit one.1) told

  -- the entries of all of them, in order
  abbrev pub entries_in : List (Event × Reply F) → List (ℕ × ℕ)
  entries_in told = flat_map (λ one. committed_by one.1) told

  -- none of the events starts a run
  abbrev pub NoneStarts : List (Event × Reply F) → Type 0
  NoneStarts told = AllByRecursion (λ one. one.0 ≢ StartRun) told

  -- none but the first of them may
  abbrev pub StartsAtMostFirst : List (Event × Reply F) → Type 0
  StartsAtMostFirst [] = Unit {0}
  StartsAtMostFirst (first ∷ more) = NoneStarts more

-- ---- the journal

-- a journal goes on by entries with these numbers, and of these transactions
pub record GoesOnBy (s new : State) (entries : List (ℕ × ℕ)) : Type 0 where
  pub added : List Entry
  pub journal : new.journal ≡ s.journal ++ added
  pub are : entry_numbers (suc (length s.journal)) added ≡ entries
