-- The parts of what is written.
use Rattle.std.proofs.Common.{List, [], ◌∷◌}
use Rattle.std.specs.List.{AllByRecursion}
use Rattle.ent_print.specs.Lexeme.{Lexeme}
use Rattle.ent_print.specs.Spelling.{each_behind, separated}
use Rattle.ent_lists.specs.Elements.{all_first, all_second}

module _ (Q : Lexeme → Type 0) {A : Type 0} (separator : Lexeme) (spelling : A → List Lexeme) where
  behind_are_written : (xs : List A) → AllByRecursion Q (each_behind separator spelling xs)
      → AllByRecursion (λ x. AllByRecursion Q (spelling x)) xs
  behind_are_written [] writes = tt
  behind_are_written (x ∷ xs) writes = (
    all_first Q (spelling x) (each_behind separator spelling xs) writes.1,
    behind_are_written xs (all_second Q (spelling x) (each_behind separator spelling xs) writes.1),
  )

  -- each of things with a lexeme between two of them
  pub separated_are_written : (xs : List A) → AllByRecursion Q (separated separator spelling xs)
      → AllByRecursion (λ x. AllByRecursion Q (spelling x)) xs
  separated_are_written [] writes = tt
  separated_are_written (x ∷ xs) writes = (
    all_first Q (spelling x) (each_behind separator spelling xs) writes,
    behind_are_written xs (all_second Q (spelling x) (each_behind separator spelling xs) writes),
  )
