-- Transactions with their scripts, from an index on.
use Rattle.std.proofs.Common.{◌≡◌, ℕ, zero, suc, ◌<◌, ◌≤◌, List, [], ◌∷◌, length, drop, refl, arith, min}
use Rattle.std.proofs.Common.{slice_index_or}
use Rattle.ent_tree.specs.declared.script.Script.{Script}
use Rattle.ent_history.specs.declared.history.Told.{Told}
use Rattle.ent_history.specs.Account.{Account, accounts_from}

-- a transaction of this number
abbrev pub account_of : ℕ → Script → Told → Account
account_of tx script told =
    record { tx = tx; script = script; fate = told.fate; answers = told.answers }

-- transactions from an index on, the first of all having number 1
abbrev pub accounts_behind : List Script → List Told → ℕ → List Account
accounts_behind scripts told i = accounts_from (suc i) (drop i scripts) (drop i told)

from_here : (tx : ℕ) (scripts : List Script) (told : List Told) (i : ℕ) (s : Script) (t : Told) → i < length scripts
    → i < length told
    → accounts_from tx (drop i scripts) (drop i told)
    ≡ account_of tx (slice_index_or scripts i s) (slice_index_or told i t)
    ∷ accounts_from (suc tx) (drop (suc i) scripts) (drop (suc i) told)
from_here tx [] told i s t low low_told = absurd (omega (arith, low))
from_here tx (x ∷ xs) [] i s t low low_told = absurd (omega (arith, low_told))
from_here tx (x ∷ xs) (y ∷ ys) zero s t low low_told = refl
from_here tx (x ∷ xs) (y ∷ ys) (suc i) s t low low_told =
    from_here tx xs ys i s t (omega (arith, low)) (omega (arith, low_told))

pub behind_here : (scripts : List Script) (told : List Told) (i : ℕ) (s : Script) (t : Told) → i < length scripts
    → i < length told
    → accounts_behind scripts told i
    ≡ account_of (suc i) (slice_index_or scripts i s) (slice_index_or told i t) ∷ accounts_behind scripts told (suc i)
behind_here scripts told i s t low low_told = from_here (suc i) scripts told i s t low low_told

gone : (tx : ℕ) (scripts : List Script) (told : List Told) (i : ℕ) → min (length scripts) (length told) ≤ i
    → accounts_from tx (drop i scripts) (drop i told) ≡ []
gone tx [] told zero over = refl
gone tx [] told (suc i) over = refl
gone tx (x ∷ xs) [] zero over = refl
gone tx (x ∷ xs) [] (suc i) over = none (drop i xs)
  where
    none : (scripts : List Script) → accounts_from tx scripts [] ≡ []
    none [] = refl
    none (x ∷ xs) = refl
gone tx (x ∷ xs) (y ∷ ys) zero over = absurd (omega (arith, over))
gone tx (x ∷ xs) (y ∷ ys) (suc i) over = gone tx xs ys i (omega (arith, over))

-- behind the last one there are none
pub nothing_behind : (scripts : List Script) (told : List Told) (i : ℕ) → min (length scripts) (length told) ≤ i
    → accounts_behind scripts told i ≡ []
nothing_behind scripts told i over = gone (suc i) scripts told i over

from_some : (tx : ℕ) (scripts : List Script) (told : List Told) (i : ℕ) (t : Told) → i < length scripts
    → i < length told
    → (s : Script)
    × (accounts_from tx (drop i scripts) (drop i told)
    ≡ account_of tx s (slice_index_or told i t) ∷ accounts_from (suc tx) (drop (suc i) scripts) (drop (suc i) told))
from_some tx [] told i t low low_told = absurd (omega (arith, low))
from_some tx (x ∷ xs) [] i t low low_told = absurd (omega (arith, low_told))
from_some tx (x ∷ xs) (y ∷ ys) zero t low low_told = (x, refl)
from_some tx (x ∷ xs) (y ∷ ys) (suc i) t low low_told =
    from_some tx xs ys i t (omega (arith, low)) (omega (arith, low_told))

-- the same where the script doesn't matter
pub behind_some : (scripts : List Script) (told : List Told) (i : ℕ) (t : Told) → i < length scripts
    → i < length told
    → (s : Script)
    × (accounts_behind scripts told i
    ≡ account_of (suc i) s (slice_index_or told i t) ∷ accounts_behind scripts told (suc i))
behind_some scripts told i t low low_told = from_some (suc i) scripts told i t low low_told
