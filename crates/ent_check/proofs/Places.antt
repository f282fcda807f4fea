-- Tables under their numbers.
use Rattle.std.proofs.Common.{◌≡◌, ℕ, zero, suc, List, [], ◌∷◌, length, map, refl, ap, slice_index_or}
use Rattle.ent_lists.specs.Sets as set
use Rattle.ent_rel.specs.Relation.{Relation}
use Rattle.ent_ordinary.specs.Tables.{no_table, rows_in}

pub rows_at : (tables : List Relation) (number : ℕ)
    → (slice_index_or tables number no_table).rows ≡ slice_index_or (rows_in tables) number set.empty
rows_at [] number = refl
rows_at (table ∷ tables) zero = refl
rows_at (table ∷ tables) (suc number) = rows_at tables number

pub rows_of_numbers : (tables : List Relation) (numbers : List ℕ)
    → rows_in (map (λ number. slice_index_or tables number no_table) numbers)
    ≡ map (λ number. slice_index_or (rows_in tables) number set.empty) numbers
rows_of_numbers tables [] = refl
rows_of_numbers tables (number ∷ numbers) = λ i. rows_at tables number i ∷ rows_of_numbers tables numbers i

pub rows_many : (tables : List Relation) → length (rows_in tables) ≡ length tables
rows_many [] = refl
rows_many (table ∷ tables) = ap (λ n. suc n) (rows_many tables)
