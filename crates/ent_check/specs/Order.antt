-- Transactions at indices, and by the numbers of their commits.
use Rattle.std.specs.Prelude.{◌≡◌, ◌<◌, ℕ, List, [], IfSome, slice_get}
use Rattle.std.specs.BTreeMap.{BTreeMap, get}
use Rattle.std.specs.List.{cons_option, filter, flat_map}
use Rattle.std.specs.Ordering.{nat_cmp}
use Rattle.ent_history.specs.Account.{Account, committed_as}

-- the transactions at these indices from 0, in their order
abbrev pub accounts_at : List Account → List ℕ → List Account
accounts_at all indices = flat_map (λ index. cons_option (slice_get all index) []) indices

-- under the number of each commit stands the index of its transaction, and else nothing
abbrev pub AreNumbered : List Account → BTreeMap ℕ ℕ → Type 0
AreNumbered all indices =
    (number : ℕ) → accounts_at all (cons_option (get nat_cmp indices number) []) ≡ filter (committed_as number) all

-- each index is below this one
abbrev pub AreBelow : ℕ → BTreeMap ℕ ℕ → Type 0
AreBelow most indices = (number : ℕ) → IfSome (get nat_cmp indices number) (λ index. index < most)
