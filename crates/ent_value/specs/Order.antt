-- Values are totally ordered, and values that compare alike are equal.
use Rattle.std.proofs.Common.{◌≡◌, refl, ap}
use Rattle.std.specs.Cmp.{IsTotalOrder, IsEquivalence, eq_by_cmp_equiv, int_cmp_total}
use Rattle.std.specs.Ordering.{ordering_reverse, eq_by_cmp}
use Rattle.std.proofs.lemmas.Cmp.{lists_total, nat_list_cmp_total}
use Rattle.std.proofs.lemmas.Map.Lookups.{CmpEqualImpliesEq, exact_signed, exact_bytes}
use Rattle.std.specs.declared.cmp.Ordering.TheVariants.{Less, Equal}
use Rattle.ent_value.specs.Value.{value_cmp, row_cmp}
use Rattle.std.specs.FinSet.{slice_cmp-IsAntisymmetric}
use Rattle.ent_value.specs.declared.value.Value.{Value}
use Rattle.ent_value.specs.declared.value.Value.TheVariants.{Int, Text}

antisymm : (x y : Value) → value_cmp x y ≡ ordering_reverse (value_cmp y x)
antisymm (Int a) (Int b) = int_cmp_total.antisymm a b
antisymm (Int a) (Text t) = refl
antisymm (Text s) (Int b) = refl
antisymm (Text s) (Text t) = nat_list_cmp_total.antisymm s t

trans : (x y z : Value) → value_cmp x y ≡ Less → value_cmp y z ≡ Less → value_cmp x z ≡ Less
trans (Int a) (Int b) (Int c) h k = int_cmp_total.trans a b c h k
trans (Int a) (Int b) (Text u) h k = refl
trans (Int a) (Text t) (Int c) h k = cc
trans (Int a) (Text t) (Text u) h k = refl
trans (Text s) (Int b) (Int c) h k = cc
trans (Text s) (Int b) (Text u) h k = cc
trans (Text s) (Text t) (Int c) h k = cc
trans (Text s) (Text t) (Text u) h k = nat_list_cmp_total.trans s t u h k

congr : (x y z : Value) → value_cmp x y ≡ Equal → value_cmp x z ≡ value_cmp y z
congr (Int a) (Int b) (Int c) h = int_cmp_total.congr a b c h
congr (Int a) (Int b) (Text u) h = refl
congr (Int a) (Text t) z h = cc
congr (Text s) (Int b) z h = cc
congr (Text s) (Text t) (Int c) h = refl
congr (Text s) (Text t) (Text u) h = nat_list_cmp_total.congr s t u h

pub values_total : IsTotalOrder value_cmp
values_total = record { antisymm = antisymm; trans = trans; congr = congr }

pub exact_values : CmpEqualImpliesEq value_cmp
exact_values (Int a) (Int b) h = ap (λ n. Int n) (exact_signed a b h)
exact_values (Int a) (Text t) h = cc
exact_values (Text s) (Int b) h = cc
exact_values (Text s) (Text t) h = ap (λ n. Text n) (exact_bytes s t h)

pub rows_total : IsTotalOrder row_cmp
rows_total = lists_total values_total

pub exact_rows : CmpEqualImpliesEq row_cmp
exact_rows = slice_cmp-IsAntisymmetric exact_values

pub rows_equal : IsEquivalence (eq_by_cmp row_cmp)
rows_equal = eq_by_cmp_equiv rows_total
