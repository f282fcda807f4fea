-- How the line of a joint answer is read, and which lines there are.
use Rattle.std.specs.Prelude.{◌==◌, ◌&&◌, ℕ, Bool, true, not, nat_lt, List, [], ◌∷◌, ◌++◌, length, Result, Ok}
use Rattle.std.specs.Prelude.{codes}
use Rattle.std.specs.List.{flat_map}
use Rattle.std.specs.Fmt.{decimal}
use Rattle.ent_value.specs.Refusal.{◌>>=◌}
use Rattle.ent_history.specs.Joints.{place_text}
use Rattle.ent_text.specs.declared.line_fault.LineFault.{LineFault}
use Rattle.ent_text.specs.Pieces.{Read, behind, number_at, wanted}
use Rattle.ent_history.specs.Listing.{listed_at}

-- a statement's transaction and place, behind a space
unfoldable pub place_at : List ℕ → Read (ℕ × ℕ)
place_at bytes =
    behind (codes " ") bytes >>= λ rest. number_at rest >>= λ tx. behind (codes ".") tx.1 >>= λ rest.
    number_at rest >>= λ place. Ok ((tx.0, place.0), place.1)

-- all places in front
unfoldable pub places_at : List ℕ → Read (List (ℕ × ℕ))
places_at bytes = listed_at 32 place_at (length bytes) bytes

-- the transactions rise
abbrev pub rise : List (ℕ × ℕ) → Bool
rise [] = true
rise (place ∷ []) = true
rise (place ∷ next ∷ more) = nat_lt place.0 next.0 && rise (next ∷ more)

-- the number of a joint answer, and the places of its members, one at least
unfoldable pub joint_at : List ℕ → Result (ℕ × List (ℕ × ℕ)) LineFault
joint_at line =
    behind (codes "joint ") line >>= λ rest. number_at rest >>= λ number. places_at number.1 >>= λ places.
    wanted ((length places.1 == 0) && (not (length places.0 == 0) && rise places.0)) (number.0, places.0)

-- a joint answer's number and the places of its members, without the end of the line
abbrev pub joint_text : ℕ → List (ℕ × ℕ) → List ℕ
joint_text number places = codes "joint " ++ (decimal number ++ flat_map place_text places)
