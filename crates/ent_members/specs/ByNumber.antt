-- What is kept by number, from 1.
use Rattle.std.specs.Prelude.{◌≡◌, ◌≢◌, ◌==◌, ◌≤◌, ℕ, zero, suc, List, Option, Some, None, filter, slice_index_or}
use Rattle.std.specs.Prelude.{unwrap_or}
use Rattle.ent_protocol.specs.State.{first_of}

-- a number of one of so many transactions
abbrev pub IsNumbered : ℕ → ℕ → Type 0
IsNumbered known tx = (1 ≤ tx) × (tx ≤ known)

-- what stands under a number
abbrev pub under : {A : Type 0} → List (Option A) → ℕ → Option A
under slots zero = None
under slots (suc place) = slice_index_or slots place None

-- under each number stands the first element of a list that has it
abbrev pub ShowsFirst : {A : Type 0} → (A → ℕ) → List A → List (Option A) → Type 0
ShowsFirst number xs slots = (n : ℕ) → under slots n ≡ first_of (filter (λ x. number x == n) xs)

-- one number alone has something else under it
abbrev pub SameBut : {A : Type 0} → ℕ → List (Option A) → List (Option A) → Type 0
SameBut tx old new = (n : ℕ) → n ≢ tx → under new n ≡ under old n

-- a value stands under a number, where nothing stood there
abbrev pub IsFilled : {A : Type 0} → A → ℕ → List (Option A) → List (Option A) → Type 0
IsFilled value tx old new = (under new tx ≡ Some (unwrap_or (under old tx) value)) × SameBut tx old new
