-- Tables under their numbers.
use Rattle.std.specs.Prelude.{ℕ, List}
use Rattle.ent_value.specs.declared.value.Kind.{Kind}
use Rattle.ent_rel.specs.Relation.{Relation, RowSet}

-- the table of a number: the kinds of its columns, and its rows
pub record Numbered : Type 0 where
  pub table : ℕ
  pub kinds : List Kind
  pub rows : RowSet

abbrev pub relation_of : Numbered → Relation
relation_of numbered = record { kinds = numbered.kinds; rows = numbered.rows }
