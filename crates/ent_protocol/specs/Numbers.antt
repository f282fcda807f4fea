-- Numbers of commits, in the fates and in the journal.
use Rattle.std.specs.Prelude.{◌≡◌, ℕ, suc, List, [], ◌∷◌}
use Rattle.ent_semantics.specs.declared.book.Entry.{Entry}
use Rattle.ent_semantics.specs.declared.book.Fate.{Fate}
use Rattle.ent_semantics.specs.declared.book.Fate.TheVariants.{Committed}
use Rattle.ent_semantics.specs.declared.book.Fated.{Fated}
use Rattle.ent_protocol.specs.State.{State}

abbrev pub with_commit : ℕ → Fate → List (ℕ × ℕ) → List (ℕ × ℕ)
with_commit tx (Committed number runs) more = (number, tx) ∷ more
with_commit tx other more = more

-- the numbers of the fates that are commits, and whose they are
abbrev pub commits_in : List Fated → List (ℕ × ℕ)
commits_in [] = []
commits_in (fated ∷ more) = with_commit fated.tx fated.fate (commits_in more)

-- the numbers of entries, the first having this one, and whose they are
abbrev pub entry_numbers : ℕ → List Entry → List (ℕ × ℕ)
entry_numbers number [] = []
entry_numbers number (entry ∷ more) = (number, entry.tx) ∷ entry_numbers (suc number) more

-- the transactions that have committed are those of the journal, numbered from 1 in its order
abbrev pub AreNumbered : State → Type 0
AreNumbered s = commits_in s.fates ≡ entry_numbers 1 s.journal
