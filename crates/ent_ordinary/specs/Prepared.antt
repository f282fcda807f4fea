-- What tests mean whose known values are made ready.
use Rattle.std.specs.Prelude.{Bool, List, Option, Some, slice_get, slice_index_or}
use Rattle.std.specs.List.{list_all}
use Rattle.ent_value.specs.Value.{value_cmp}
use Rattle.ent_value.specs.declared.value.Value.{Value}
use Rattle.ent_semantics.specs.Selection.{compares}
use Rattle.ent_ordinary.specs.Early.{may_compare}
use Rattle.ent_ordinary.specs.declared.prepared.PreparedOperand.{PreparedOperand}
use Rattle.ent_ordinary.specs.declared.prepared.PreparedOperand.TheVariants as prepared
use Rattle.ent_ordinary.specs.declared.prepared.PreparedTest.{PreparedTest}
use Rattle.ent_ordinary.specs.declared.prepared.PreparedTests.{PreparedTests}

-- the value that is known, or that stands in the column; none, where the row has no such column
abbrev pub prepared_value : Value → List Value → PreparedOperand → Value
prepared_value none row (prepared.Known value) = value
prepared_value none row (prepared.Column number) = slice_index_or row number none

abbrev pub prepared_holds : Value → List Value → PreparedTest → Bool
prepared_holds none row test =
    compares test.comparison (value_cmp (prepared_value none row test.left) (prepared_value none row test.right))

-- every test holds of a row
abbrev pub prepared_meets : PreparedTests → List Value → Bool
prepared_meets tests row = list_all (prepared_holds tests.none row) tests.tests

-- the value of an operand, where the row has it
abbrev pub prepared_there : List Value → PreparedOperand → Option Value
prepared_there row (prepared.Known value) = Some value
prepared_there row (prepared.Column number) = slice_get row number

abbrev pub prepared_may_hold : List Value → PreparedTest → Bool
prepared_may_hold row test =
    may_compare test.comparison (prepared_there row test.left) (prepared_there row test.right)

-- no test fails over a row whatever follows it
abbrev pub prepared_may_meet : PreparedTests → List Value → Bool
prepared_may_meet tests row = list_all (prepared_may_hold row) tests.tests
