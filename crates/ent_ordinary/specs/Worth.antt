-- What operands of a closed statement are worth.
use Rattle.std.specs.Prelude.{List}
use Rattle.ent_value.specs.declared.value.Value.{Value}
use Rattle.ent_semantics.specs.declared.operand.Operand.{Operand}
use Rattle.ent_semantics.specs.Form.{operand_worth}

-- a value is worth itself
abbrev pub itself : Value → Value
itself value = value

-- what an operand is worth over a row
abbrev pub worth_over : List Value → Operand Value → Value
worth_over = operand_worth itself
