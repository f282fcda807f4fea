-- What images of rows are, and what is beyond 64 bits.
use Rattle.std.specs.Prelude.{List, map, Option, Some, None, Result, Ok, Err}
use Rattle.ent_value.specs.declared.value.Value.{Value}
use Rattle.ent_tree.specs.declared.operand.Expression.{Expression}
use Rattle.ent_semantics.specs.Change.{all_there}
use Rattle.ent_semantics.specs.Term.{expression_value}
use Rattle.ent_semantics.specs.declared.answer.Failure.{Failure}
use Rattle.ent_semantics.specs.declared.answer.Failure.TheVariants.{Overflow}
use Rattle.ent_semantics.specs.declared.operand.Operand.{Operand}
use Rattle.ent_ordinary.specs.Worth.{worth_over}

-- a row with each column changed to its expression's value; nothing where one is beyond 64 bits
abbrev pub image_of : List (Expression (Operand Value)) → List Value → Option (List Value)
image_of image row = all_there (map (expression_value (worth_over row)) image)

-- what there is; an overflow where there is nothing
abbrev pub there_or_overflow : {A : Type 0} → Option A → Result A Failure
there_or_overflow (Some x) = Ok x
there_or_overflow None = Err Overflow
