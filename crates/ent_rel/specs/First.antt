-- Rows by their first values.
use Rattle.std.specs.Prelude.{Bool, List, length, take}
use Rattle.std.specs.Ordering.{eq_by_cmp}
use Rattle.ent_value.specs.Value.{row_cmp}
use Rattle.ent_value.specs.declared.value.Value.{Value}

-- whether the first values of a row are these
abbrev pub has_first : List Value → List Value → Bool
has_first values row = eq_by_cmp row_cmp (take (length values) row) values
