-- Parts of a list.
use Rattle.std.specs.Prelude.{◌≡◌, List, [], ◌∷◌, ◌⊎◌}

-- a list with some of its elements left out; those that stay keep their order
abbrev pub IsPart : {X : Type 0} → List X → List X → Type 0
IsPart [] part = part ≡ []
IsPart {X} (x ∷ xs) part = IsPart xs part ⊎ ((others : List X) × (part ≡ x ∷ others) × IsPart xs others)
