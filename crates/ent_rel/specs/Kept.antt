-- What a table keeps true of its set of keys.
use Rattle.std.specs.Prelude.{◌≡◌, ℕ, List, map, ◌≤◌, IsTrue}
use Rattle.ent_lists.specs.Sets as set
use Rattle.ent_value.specs.declared.value.Value.{Value}
use Rattle.ent_value.specs.declared.value.Kind.{Kind}
use Rattle.ent_page.specs.Key.{key_cmp}
use Rattle.ent_page.specs.Read.{row_from}
use Rattle.ent_page.specs.Rows.{IsKey}
use Rattle.ent_rel.specs.Relation.{RowSet}
use Rattle.ent_value.specs.declared.limits.TheConstants.{MOST_ROWS}

abbrev pub KeySet : Type 0
KeySet = set.Set key_cmp

-- the rows of these kinds that have the keys of a set, in the order of the keys
abbrev pub listed_rows : List Kind → KeySet → List (List Value)
listed_rows kinds keys = map (row_from kinds) (set.ascending keys)

abbrev pub rows_of : List Kind → KeySet → RowSet
rows_of kinds keys = set.from_list (listed_rows kinds keys)

-- each key is that of a row of these kinds
abbrev pub HoldRows : List Kind → KeySet → Type 0
HoldRows kinds keys = (key : List ℕ) → IsTrue (set.contains keys key) → IsKey kinds key

-- each key is that of a row of the table's kinds, and there are not too many
pub record IsKept (kinds : List Kind) (keys : KeySet) : Type 0 where
  pub fitting : HoldRows kinds keys
  pub limit : set.len keys ≤ MOST_ROWS

-- these keys taken out of a set take these rows out
abbrev pub RemovesRows : List Kind → List (List ℕ) → List (List Value) → Type 0
RemovesRows kinds keys rows = (s : KeySet) → HoldRows kinds s
    → rows_of kinds (set.without_all s keys) ≡ set.without_all (rows_of kinds s) rows
