-- Keys that lie one after another in a list of bytes.
use Rattle.std.specs.Prelude.{◌≡◌, ℕ, zero, suc, List, [], ◌∷◌, ◌+◌, ◌<◌, ◌≤◌, length, get_or}
use Rattle.std.specs.List.{between, concat}
use Rattle.std.specs.declared.cmp.Ordering.TheVariants.{Less, Greater}
use Rattle.ent_page.specs.Key.{key_cmp}

-- the pieces of the bytes from s on that end at these places
abbrev pub pieces : List ℕ → ℕ → List ℕ → List (List ℕ)
pieces bs s [] = []
pieces bs s (e ∷ es) = between s e bs ∷ pieces bs e es

-- where keys end that lie one after another from s on
abbrev pub ends_from : ℕ → List (List ℕ) → List ℕ
ends_from s [] = []
ends_from s (k ∷ ks) = (s + length k) ∷ ends_from (s + length k) ks

-- where the key at an index begins, or the keys end
abbrev pub start_of : ℕ → List ℕ → ℕ → ℕ
start_of s es zero = s
start_of s es (suc i) = get_or es i 0

-- the pieces are all of the bytes, and no other places give them
pub record IsLaid (bytes ends : List ℕ) : Type 0 where
  pub flat : concat (pieces bytes 0 ends) ≡ bytes
  pub bounds : ends_from 0 (pieces bytes 0 ends) ≡ ends

-- each key is below those after it
abbrev pub Ascends : List (List ℕ) → Type 0
Ascends ks = (i j : ℕ) → i < j → j < length ks → key_cmp (get_or ks i []) (get_or ks j []) ≡ Less

-- each key before low is below this one
abbrev pub AreBelow : List (List ℕ) → List ℕ → ℕ → Type 0
AreBelow ks key low = (k : ℕ) → k < low → key_cmp (get_or ks k []) key ≡ Less

-- each key from high on is above this one
abbrev pub AreAbove : List (List ℕ) → List ℕ → ℕ → Type 0
AreAbove ks key high = (k : ℕ) → high ≤ k → k < length ks → key_cmp (get_or ks k []) key ≡ Greater
