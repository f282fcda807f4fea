-- What a history tells of each transaction.
use Rattle.std.specs.Prelude.{ℕ, zero, suc, Bool, false, ◌==◌, List, [], ◌∷◌, length, filter, Option, Some, None}
use Rattle.std.specs.Prelude.{is_some}
use Rattle.std.specs.List.{flat_map}
use Rattle.ent_tree.specs.declared.script.Script.{Script}
use Rattle.ent_semantics.specs.declared.answer.Answer.{Answer}
use Rattle.ent_semantics.specs.declared.book.Fate.{Fate}
use Rattle.ent_semantics.specs.declared.book.Fate.TheVariants.{Committed, GaveUp, RolledBack, Failed}
use Rattle.ent_history.specs.declared.history.History.{History}
use Rattle.ent_history.specs.declared.history.Told.{Told}

-- a transaction: its number, its script, and what is told of it
pub record Account : Type 0 where
  pub tx : ℕ
  pub script : Script
  pub fate : Fate
  pub answers : List Answer

-- transactions with their scripts, by number, the first having this one
abbrev pub accounts_from : ℕ → List Script → List Told → List Account
accounts_from tx [] told = []
accounts_from tx (script ∷ scripts) [] = []
accounts_from tx (script ∷ scripts) (told ∷ more) =
    record { tx = tx; script = script; fate = told.fate; answers = told.answers }
    ∷ accounts_from (suc tx) scripts more

abbrev pub accounts : History → List Account
accounts history = accounts_from 1 history.scripts history.transactions

-- the number that a transaction committed with
abbrev pub commit_number : Fate → Option ℕ
commit_number (Committed number runs) = Some number
commit_number (GaveUp runs) = None
commit_number (RolledBack runs) = None
commit_number (Failed failure runs) = None

abbrev pub has_committed : Account → Bool
has_committed account = is_some (commit_number account.fate)

abbrev pub is_number : ℕ → Option ℕ → Bool
is_number number (Some other) = other == number
is_number number None = false

-- a transaction has committed with this number
abbrev pub committed_as : ℕ → Account → Bool
committed_as number account = is_number number (commit_number account.fate)

-- as many numbers, the first being this one
abbrev pub numbers_from : ℕ → ℕ → List ℕ
numbers_from first zero = []
numbers_from first (suc more) = first ∷ numbers_from (suc first) more

-- how many transactions have committed
abbrev pub commit_count : List Account → ℕ
commit_count all = length (filter has_committed all)

-- those that have committed, by the numbers of their commits
abbrev pub in_commit_order : List Account → List Account
in_commit_order all = flat_map (λ number. filter (committed_as number) all) (numbers_from 1 (commit_count all))
