-- Where things of the tree stand.
use Rattle.std.specs.Prelude.{ℕ, Option, Some, None}
use Rattle.ent_tree.specs.declared.operand.Identifier.{Identifier}
use Rattle.ent_tree.specs.declared.operand.Operand.{Operand}
use Rattle.ent_tree.specs.declared.operand.Operand.TheVariants as operands
use Rattle.ent_tree.specs.declared.operand.Expression.{Expression}
use Rattle.ent_tree.specs.declared.operand.Expression.TheVariants.{Single, Sum, Difference}
use Rattle.ent_tree.specs.declared.entangled.Condition.{Condition}
use Rattle.ent_tree.specs.declared.entangled.Condition.TheVariants as conditions
use Rattle.ent_tree.specs.Places.{value_place, term_place}

-- the qualifier's place where there is one
abbrev pub place_before : Option Identifier → Identifier → ℕ
place_before None column = column.place
place_before (Some qualifier) column = qualifier.place

abbrev pub place_of_operand : Operand → ℕ
place_of_operand (operands.Value v) = value_place v
place_of_operand (operands.Column c) = place_before c.qualifier c.column

-- the place of its first operand
abbrev pub place_of_expression : Expression Operand → ℕ
place_of_expression (Single x) = place_of_operand x
place_of_expression (Sum x y) = place_of_operand x
place_of_expression (Difference x y) = place_of_operand x

-- the place of its tuple, or of its left term
abbrev pub place_of_condition : Condition → ℕ
place_of_condition (conditions.InSelect tuple select) = tuple.place
place_of_condition (conditions.InAnswer tuple relation) = tuple.place
place_of_condition (conditions.Test test) = term_place test.left
