-- Lines and columns.
use Rattle.std.specs.Prelude.{◌≡◌, ◌+◌, ◌==◌, ℕ, List, length, take, chars, count_by}
use Rattle.ent_excerpt.specs.Line.{IsLineAt}
use Rattle.ent_excerpt.specs.declared.place.Place.{Place}

-- how many lines end among these bytes
abbrev pub breaks : List ℕ → ℕ
breaks bytes = count_by (λ b. b == 10) bytes

-- the line and the column of what stands at this offset: as many LFs stand before it, and as many characters in its
-- line, each plus one
pub record IsPlaceAt (text : List ℕ) (offset : ℕ) (place : Place) : Type 0 where
  pub before : List ℕ
  pub behind : List ℕ
  pub around : IsLineAt text offset before behind
  pub line_number : place.line ≡ breaks (take offset text) + 1
  pub column_number : place.column ≡ length (chars before) + 1
