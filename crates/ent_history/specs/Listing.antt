-- How things that stand one behind the other are read.
use Rattle.std.specs.Prelude.{◌==◌, ℕ, zero, suc, List, [], ◌∷◌, Ok, slice_index, if◌then◌else◌}
use Rattle.ent_value.specs.Refusal.{◌>>=◌}
use Rattle.ent_text.specs.Pieces.{Read}

abbrev pub with_one : {A : Type 0} → A → Read (List A) → Read (List A)
with_one one read = read >>= λ more. Ok (one ∷ more.0, more.1)

-- All things that stand in front, each read so, and each beginning with this byte; at most so many.
unfoldable pub listed_at : {A : Type 0} → ℕ → (List ℕ → Read A) → ℕ → List ℕ → Read (List A)
listed_at first read zero bytes = Ok ([], bytes)
listed_at first read (suc n) bytes =
    if slice_index bytes 0 == first then (read bytes >>= λ one. with_one one.0 (listed_at first read n one.1))
    else Ok ([], bytes)
