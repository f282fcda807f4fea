-- Tests over the front of a row, whose other columns aren't there yet.
use Rattle.std.specs.Prelude.{Bool, true, List, Option, Some, None, slice_get}
use Rattle.std.specs.List.{list_all}
use Rattle.ent_value.specs.Value.{value_cmp}
use Rattle.ent_value.specs.declared.value.Value.{Value}
use Rattle.ent_tree.specs.declared.operand.Comparison.{Comparison}
use Rattle.ent_tree.specs.declared.operand.Test.{Test}
use Rattle.ent_semantics.specs.Selection.{compares}
use Rattle.ent_semantics.specs.declared.operand.Operand.{Operand}
use Rattle.ent_semantics.specs.declared.operand.Operand.TheVariants as operands

-- the value of an operand, where the front has it
abbrev pub value_there : List Value → Operand Value → Option Value
value_there front (operands.Known value) = Some value
value_there front (operands.Column number) = slice_get front number

-- values compare so, or one of them isn't there yet
abbrev pub may_compare : Comparison → Option Value → Option Value → Bool
may_compare comparison (Some left) (Some right) = compares comparison (value_cmp left right)
may_compare comparison (Some left) None = true
may_compare comparison None right = true

abbrev pub may_hold : List Value → Test (Operand Value) → Bool
may_hold front test = may_compare test.comparison (value_there front test.left) (value_there front test.right)

-- no test fails whatever follows the front
abbrev pub may_meet : List (Test (Operand Value)) → List Value → Bool
may_meet tests front = list_all (may_hold front) tests
