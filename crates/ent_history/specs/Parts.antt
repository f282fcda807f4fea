-- What lines are made of: numbers, names, values and rows that can stand in a report.
use Rattle.std.specs.Prelude.{◌≡◌, ◌≤◌, ℕ, List, [], ◌∷◌, ◌++◌}
use Rattle.std.specs.declared.cmp.Ordering.TheVariants.{Less}
use Rattle.ent_value.specs.Value.{row_cmp}
use Rattle.ent_value.specs.declared.value.Value.{Value}
use Rattle.ent_text.specs.declared.token.TokenKind.TheVariants.{Name}
use Rattle.ent_print.specs.Reading.{CanStand}
-- what a line's reader reads as a value or as a row, passed on
pub use Rattle.ent_text.specs.Written.{IsValue, IsRow}

-- 0 to 9223372036854775807
abbrev pub IsNumber : ℕ → Type 0
IsNumber n = n ≤ 9223372036854775807

-- a letter, then letters, digits and `_`, at most 63 bytes, and no reserved word
abbrev pub IsName : List ℕ → Type 0
IsName word = CanStand (Name word)

-- where a row stands last above it, that one comes before it
abbrev pub Ascends : List (List Value) → List Value → Type 0
Ascends rows row = (front : List (List Value)) (last : List Value) → rows ≡ front ++ last ∷ [] → row_cmp last row ≡ Less
