use Rattle.std.specs.Prelude.{List, map}
use Rattle.std.specs.Cmp.Lexicographic.{slice_cmp}
use Rattle.std.specs.Ordering.{nat_cmp, int_cmp}
use Rattle.std.specs.declared.cmp.Ordering.{Ordering}
use Rattle.std.specs.declared.cmp.Ordering.TheVariants.{Less, Greater}
use Rattle.ent_value.specs.declared.value.Value.{Value}
use Rattle.ent_value.specs.declared.value.Value.TheVariants.{Int, Text}
use Rattle.ent_value.specs.declared.value.Kind.{Kind}
use Rattle.ent_value.specs.declared.value.Kind.TheVariants as kinds

-- numbers before texts, numbers by value, texts by bytes
abbrev pub value_cmp : Value → Value → Ordering
value_cmp (Int a) (Int b) = int_cmp a b
value_cmp (Int a) (Text s) = Less
value_cmp (Text s) (Int a) = Greater
value_cmp (Text s) (Text t) = slice_cmp nat_cmp s t

abbrev pub kind_of : Value → Kind
kind_of (Int a) = kinds.Int
kind_of (Text s) = kinds.Text

-- rows value by value
abbrev pub row_cmp : List Value → List Value → Ordering
row_cmp = slice_cmp value_cmp

abbrev pub kinds_of : List Value → List Kind
kinds_of = map kind_of
