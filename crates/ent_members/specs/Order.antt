-- Members by number, and lists by number.
use Rattle.std.specs.Prelude.{ℕ, suc, ◌<◌, List, [], ◌∷◌, nat_lt, if◌then◌else◌}
use Rattle.std.specs.List.{AllByRecursion}
use Rattle.ent_protocol.specs.State.{Member}

-- each number is less than those behind it
abbrev pub IsAscending : List ℕ → Type 0
IsAscending [] = Unit {0}
IsAscending (n ∷ ns) = AllByRecursion (λ m. n < m) ns × IsAscending ns

-- the index of the first of a greater number, or else the length
abbrev pub place_in : {A : Type 0} → (A → ℕ) → List A → ℕ → ℕ
place_in number [] n = 0
place_in number (x ∷ xs) n = if nat_lt n (number x) then 0 else suc (place_in number xs n)

abbrev pub tx_of : Member → ℕ
tx_of member = member.tx
