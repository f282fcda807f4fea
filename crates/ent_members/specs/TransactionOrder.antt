-- The order of those who wait, where some of them go behind the others.
use Rattle.std.specs.Prelude.{ℕ, List, ◌++◌, take, drop, reverse, slice_range}

-- with the part from one place up to another in the opposite order
abbrev pub part_reversed : {X : Type 0} → ℕ → ℕ → List X → List X
part_reversed start end xs = take start xs ++ (reverse (slice_range xs start end) ++ drop end xs)

-- with the first of them, as many as are told, behind the others, the last of them first
abbrev pub first_behind : {X : Type 0} → ℕ → List X → List X
first_behind count xs = drop count xs ++ reverse (take count xs)
