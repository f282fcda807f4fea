-- What a comparison in the middle says of the keys on one side.
use Rattle.std.proofs.Common.{◌≡◌, ℕ, ◌+◌, ◌<◌, List, [], length, get_or, inl, inr, ap, ◌∙◌, arith}
use Rattle.std.specs.Ordering.{ordering_reverse}
use Rattle.std.specs.declared.cmp.Ordering.TheVariants.{Less, Greater}
use Rattle.std.proofs.lemmas.Bool.{cases_lt}
use Rattle.std.proofs.lemmas.Cmp.{nat_list_cmp_total}
use Rattle.ent_page.specs.Key.{key_cmp}
use Rattle.ent_page.specs.Layout.{Ascends, AreBelow, AreAbove}

pub below_middle : (ks : List (List ℕ)) (key : List ℕ) (mid : ℕ) → mid < length ks
    → key_cmp (get_or ks mid []) key ≡ Less → Ascends ks → AreBelow ks key (mid + 1)
below_middle ks key mid h less up k lt =
    elim (cases_lt k mid) [
      | inl p ↦ nat_list_cmp_total.trans (get_or ks k []) (get_or ks mid []) key (up k mid p h) less
      | inr p ↦ let e : k ≡ mid = omega arith in ap (λ i. key_cmp (get_or ks i []) key) e ∙ less
    ]

pub above_middle : (ks : List (List ℕ)) (key : List ℕ) (mid : ℕ) → key_cmp (get_or ks mid []) key ≡ Greater → Ascends ks
    → AreAbove ks key mid
above_middle ks key mid more up k le h =
    elim (cases_lt mid k) [
      | inl p ↦
          let back : key_cmp key (get_or ks mid []) ≡ Less = nat_list_cmp_total.antisymm key (get_or ks mid [])
          ∙ ap ordering_reverse more in
          nat_list_cmp_total.antisymm (get_or ks k []) key
          ∙ ap ordering_reverse
          (nat_list_cmp_total.trans key (get_or ks mid []) (get_or ks k []) back (up mid k p h))
      | inr p ↦ let e : k ≡ mid = omega arith in ap (λ i. key_cmp (get_or ks i []) key) e ∙ more
    ]
