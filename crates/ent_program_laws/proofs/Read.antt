-- The parts of statements that can be read.
use Rattle.std.proofs.Common.{pos, negsuc, List, [], ◌∷◌, arith}
use Rattle.std.specs.List.{AllByRecursion}
use Rattle.ent_value.specs.declared.value.Value.{Value}
use Rattle.ent_value.specs.declared.value.Value.TheVariants as values
use Rattle.ent_print.specs.Lexeme.{Lexeme}
use Rattle.ent_print.specs.Reading.{CanBeRead}
use Rattle.ent_print.specs.Spelling.{each_behind, separated}
use Rattle.ent_print.specs.Spelling.{value_spelling}
use Rattle.ent_history.specs.Parts.{IsValue}
use Rattle.ent_lists.specs.Elements.{all_first, all_second}

abbrev pub AreRead : List Lexeme → Type 0
AreRead lexemes = AllByRecursion CanBeRead lexemes

-- ---- literals

-- a literal that can be read is a value that can be told
pub literal_is_value : (value : Value) → CanBeRead (value_spelling value) → IsValue value
literal_is_value (values.Int (pos n)) can = let low = can.1 in record { sfits = omega (arith, low) }
literal_is_value (values.Int (negsuc n)) can = let low = can.1 in record { sfits = omega (arith, low) }
literal_is_value (values.Text text) can = (can.0.1.1, can.1)

-- ---- lists

module _ {A : Type 0} (separator : Lexeme) (spelling : A → List Lexeme) where
  pub behind_are_read : (xs : List A) → AreRead (each_behind separator spelling xs)
      → AllByRecursion (λ x. AreRead (spelling x)) xs
  behind_are_read [] can = tt
  behind_are_read (x ∷ xs) can = (
    all_first CanBeRead (spelling x) (each_behind separator spelling xs) can.1,
    behind_are_read xs (all_second CanBeRead (spelling x) (each_behind separator spelling xs) can.1),
  )

  -- each of things with a lexeme between two of them
  pub separated_are_read : (xs : List A) → AreRead (separated separator spelling xs)
      → AllByRecursion (λ x. AreRead (spelling x)) xs
  separated_are_read [] can = tt
  separated_are_read (x ∷ xs) can = (
    all_first CanBeRead (spelling x) (each_behind separator spelling xs) can,
    behind_are_read xs (all_second CanBeRead (spelling x) (each_behind separator spelling xs) can),
  )
