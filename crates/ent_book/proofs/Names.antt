-- Names that are sorted, each once, are the set of them in order.
use Rattle.std.proofs.Common.{◌≡◌, ℕ, Bool, List, ap, ◌∙◌, eqb}
use Rattle.std.specs.List.{dedup}
use Rattle.std.specs.List.Sorted.{IsSorted, IsPermutation}
use Rattle.std.specs.Ordering.{nat_cmp, eq_by_cmp}
use Rattle.std.specs.Cmp.Lexicographic.{slice_cmp, pointwise, texts_ties}
use Rattle.std.proofs.lemmas.Cmp.{nat_list_cmp_total}
use Rattle.std.proofs.lemmas.Map.Lookups.{exact_bytes}
use Rattle.ent_lists.specs.Sets as set
use Rattle.ent_lists.specs.Laws.{ascending-from_sorted}

same_tests : (pointwise eqb) ≡ eq_by_cmp (slice_cmp nat_cmp)
same_tests = λ i xs ys. texts_ties xs ys i

pub names_in_order : (names sorted : List (List ℕ))
    → IsPermutation names sorted
    → IsSorted (slice_cmp nat_cmp) sorted
    → dedup (pointwise eqb) sorted ≡ set.ascending (set.from_list {R = slice_cmp nat_cmp} names)
names_in_order names sorted moved ordered =
    ap (λ (e : List ℕ → List ℕ → Bool). dedup e sorted) same_tests
    ∙ ascending-from_sorted nat_list_cmp_total exact_bytes names sorted moved ordered
