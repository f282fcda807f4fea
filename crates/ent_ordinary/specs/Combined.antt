-- The item rows of combinations, source by source.
use Rattle.std.specs.Prelude.{◌≡◌, Bool, IsTrue, List, [], ◌∷◌, ◌++◌, map}
use Rattle.std.specs.List.{filter, flat_map}
use Rattle.ent_lists.specs.Sets as set
use Rattle.ent_value.specs.declared.value.Value.{Value}
use Rattle.ent_rel.specs.Relation.{RowSet}
use Rattle.ent_tree.specs.declared.operand.Test.{Test}
use Rattle.ent_semantics.specs.Selection.{meets}
use Rattle.ent_semantics.specs.declared.operand.Operand.{Operand}
use Rattle.ent_ordinary.specs.Worth.{worth_over}

-- one row of each list, in all ways, side by side behind a row
abbrev pub combined : List Value → List (List (List Value)) → List (List Value)
combined front [] = front ∷ []
combined front (rows ∷ more) = flat_map (λ row. combined (front ++ row) more) rows

-- what is shown of the combinations that meet every test
abbrev pub shown_of : List (Operand Value) → List (Test (Operand Value)) → List (List Value) → List (List Value)
shown_of items tests rows = map (λ row. map (worth_over row) items) (filter (meets worth_over tests) rows)

-- Those of some rows, in order, that pass a test which each row passes with which a combination behind a front meets
-- the tests of a WHERE.
pub record AreNarrowed (tests : List (Test (Operand Value))) (front : List Value) (rows : RowSet)
    (narrowed : List (List Value)) : Type 0 where
  pub passes : List Value → Bool
  pub are : narrowed ≡ filter passes (set.ascending rows)
  pub enough : (row others : List Value) → IsTrue (set.contains rows row)
      → IsTrue (meets worth_over tests ((front ++ row) ++ others)) → IsTrue (passes row)
