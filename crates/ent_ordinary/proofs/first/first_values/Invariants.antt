use Rattle.std.proofs.Common.{◌≡◌, List, ◌++◌, take, length}
use Rattle.std.specs.Prelude.{IsTrue}
use Rattle.ent_value.specs.Value.{kinds_of}
use Rattle.ent_value.specs.declared.value.Value.{Value}
use Rattle.ent_semantics.specs.Selection.{meets}
use Rattle.ent_ordinary.specs.Worth.{worth_over}
use Rattle.ent_ordinary.proofs.first.first_values.Given as goal

-- the values of the columns so far
abbrev pub invariant-loop-column : goal.invariant-loop-column
invariant-loop-column l = record {
  count : length l.values.items ≡ l.column;
  kinds : kinds_of l.values.items ≡ take l.column l.kinds;
  first : (row others : List Value) → kinds_of row ≡ l.kinds
      → IsTrue (meets worth_over l.tests ((l.front ++ row) ++ others)) → take l.column row ≡ l.values.items;
}
