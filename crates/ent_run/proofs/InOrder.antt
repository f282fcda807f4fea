-- What members that stand by number allow: a search.
use Rattle.std.proofs.Common.{◌≡◌, ℕ, zero, suc, ◌+◌, ◌<◌, ◌≤◌, Bool, true, false, ◌==◌, nat_lt, if◌then◌else◌, List}
use Rattle.std.proofs.Common.{[], ◌∷◌, length, map, get_or, refl, sym, ap, subst, ◌∙◌, arith}
use Rattle.std.specs.Prelude.{Some, None}
use Rattle.std.specs.List.{filter, AllByRecursion}
use Rattle.std.specs.List.Sorted.{IsNonDecreasingBy, IsPartitionPoint}
use Rattle.std.specs.Ordering.{is_lt, nat_cmp, ordering_index}
use Rattle.std.specs.declared.cmp.Ordering.TheVariants.{Less, Greater}
use Rattle.std.proofs.lemmas.Bool.Decides.{nat_tests}
use Rattle.std.proofs.lemmas.Cmp.{nat_cmp_total}
use Rattle.std.proofs.lemmas.List.{get_or-map, length-map}
use Rattle.std.proofs.lemmas.List.Sorted.{searchable_from_sorted}
use Rattle.std.proofs.lemmas.Bool.{eq-eqb}
use Rattle.ent_lists.proofs.Numbers.{eq_above, eq_below}
use Rattle.ent_protocol.specs.Member.{is_tx}
use Rattle.ent_protocol.specs.State.{Member, first_of}
use Rattle.ent_members.specs.Order.{IsAscending, tx_of}
use Rattle.ent_run.specs.Places.{IsAt, found}
use Rattle.ent_run.proofs.OneMember.{all_at}

pub found_here : (xs : List Member) (i tx : ℕ) (d : Member) → IsAscending (map tx_of xs) → i < length xs
    → (get_or xs i d).tx ≡ tx → found xs tx ≡ Some (get_or xs i d)
found_here [] i tx d ascending lt is = absurd (omega (arith, lt))
found_here (x ∷ xs) zero tx d ascending lt is =
    ap (λ b. first_of (if b then x ∷ filter (is_tx tx) xs else filter (is_tx tx) xs)) (eq-eqb x.tx tx is)
found_here (x ∷ xs) (suc i) tx d ascending lt is =
    let below : x.tx < (get_or xs i d).tx = all_at (λ n. x.tx < n) xs i d (omega (arith, lt)) ascending.0 in
    ap (λ b. first_of (if b then x ∷ filter (is_tx tx) xs else filter (is_tx tx) xs))
    (eq_below x.tx tx (omega (arith, below, is)))
    ∙ found_here xs i tx d ascending.1 (omega (arith, lt)) is

next_above : (xs : List Member) (k j : ℕ) (d : Member) → IsAscending (map tx_of xs) → j ≡ suc k → j < length xs
    → (get_or xs k d).tx < (get_or xs j d).tx
next_above [] k j d ascending next lt = absurd (omega (arith, lt))
next_above (x ∷ xs) k zero d ascending next lt = absurd (omega (arith, next))
next_above (x ∷ xs) zero (suc j) d ascending next lt =
    all_at (λ n. x.tx < n) xs j d (omega (arith, lt)) ascending.0
next_above (x ∷ xs) (suc k) (suc j) d ascending next lt =
    next_above xs k j d ascending.1 (omega (arith, next)) (omega (arith, lt))

found_nowhere : (xs : List Member) (tx : ℕ)
    → ((k : ℕ) (d : Member) → k < length xs → ((get_or xs k d).tx == tx) ≡ false) → found xs tx ≡ None
found_nowhere [] tx none = refl
found_nowhere (x ∷ xs) tx none =
    ap (λ b. first_of (if b then x ∷ filter (is_tx tx) xs else filter (is_tx tx) xs)) (none 0 x (omega arith))
    ∙ found_nowhere xs tx (λ k d lt. none (suc k) d (omega (arith, lt)))

not_less : (n m : ℕ) → nat_cmp n m ≡ Less → (n == m) ≡ false
not_less n m is = eq_below n m (is_below is)
  where
    is_below : nat_cmp n m ≡ Less → n < m
    is_below less = grind (arith, nat_tests, less)

not_greater : (n m : ℕ) → nat_cmp n m ≡ Greater → (n == m) ≡ false
not_greater n m is = eq_above n m (is_above is)
  where
    is_above : nat_cmp n m ≡ Greater → m < n
    is_above greater = grind (arith, nat_tests, greater)

rises : (xs : List Member) (tx : ℕ) → IsAscending (map tx_of xs)
    → IsNonDecreasingBy (λ (x : Member). ordering_index (nat_cmp x.tx tx)) xs
rises xs tx ascending =
    searchable_from_sorted nat_cmp_total tx_of xs tx (λ k d low next.
    not_lower (get_or xs k d).tx (get_or xs (k + 1) d).tx
    (next_above xs k (k + 1) d ascending (omega arith) (omega (arith, next))))
  where
    not_lower : (n m : ℕ) → n < m → is_lt (nat_cmp m n) ≡ false
    not_lower n m lt = grind (arith, nat_tests, lt)

-- a search among what stands for members finds where one is
module _ {K : Type 0} (f : K → Member) (ks : List K) where
  pub found_under : (i tx : ℕ) → IsAscending (map tx_of (map f ks)) → i < length ks
      → ((d : K) → (f (get_or ks i d)).tx ≡ tx) → IsAt (map f ks) tx i
  found_under i tx ascending lt is = by_list ks ascending lt is
    where
      by_list : (xs : List K) → IsAscending (map tx_of (map f xs)) → i < length xs
          → ((d : K) → (f (get_or xs i d)).tx ≡ tx) → IsAt (map f xs) tx i
      by_list [] rising below at = absurd (omega (arith, below))
      by_list (k ∷ xs) rising below at =
          let low : i < length (map f (k ∷ xs)) = subst (λ n. i < n) (sym (length-map (k ∷ xs) f)) below in
          record {
            in_range = low;
            first = λ d. found_here (map f (k ∷ xs)) i tx d rising low
                (ap tx_of (get_or-map f (k ∷ xs) i k d below) ∙ at k);
          }

  rises_under : (tx : ℕ) → IsAscending (map tx_of (map f ks))
      → IsNonDecreasingBy (λ k. ordering_index (nat_cmp (f k).tx tx)) ks
  rises_under tx ascending i j d le lt =
      subst (λ (m : Member). ordering_index (nat_cmp m.tx tx) ≤ ordering_index (nat_cmp (f (get_or ks j d)).tx tx))
      (get_or-map f ks i d (f d) (omega (arith, le, lt)))
      (subst (λ (m : Member). ordering_index (nat_cmp (get_or (map f ks) i (f d)).tx tx)
      ≤ ordering_index (nat_cmp m.tx tx)) (get_or-map f ks j d (f d) lt)
      (rises (map f ks) tx ascending i j (f d) le (subst (λ n. j < n) (sym (length-map ks f)) lt)))

  -- and where there is none
  pub nowhere_under : (tx i : ℕ) → IsAscending (map tx_of (map f ks))
      → (IsNonDecreasingBy (λ k. ordering_index (nat_cmp (f k).tx tx)) ks
      → IsPartitionPoint (λ k. nat_cmp (f k).tx tx ≡ Less) (λ k. nat_cmp (f k).tx tx ≡ Greater) ks i)
      → found (map f ks) tx ≡ None
  nowhere_under tx i ascending parted =
      found_nowhere (map f ks) tx
      (λ k d lt. each k d (subst (λ n. k < n) (length-map ks f) lt))
    where
      sides : IsPartitionPoint (λ k. nat_cmp (f k).tx tx ≡ Less) (λ k. nat_cmp (f k).tx tx ≡ Greater) ks i
      sides = parted (rises_under tx ascending)

      below : (k : ℕ) → nat_lt k i ≡ true → k < i
      below k is = grind (arith, nat_tests, is)

      beyond : (k : ℕ) → nat_lt k i ≡ false → i ≤ k
      beyond k is = grind (arith, nat_tests, is)

      on_a_side : (k : ℕ) (d : K) → k < length ks → (b : Bool) → nat_lt k i ≡ b
          → ((f (get_or ks k d)).tx == tx) ≡ false
      on_a_side k d lt true is = not_less (f (get_or ks k d)).tx tx (sides.0 k d (omega arith) (below k is))
      on_a_side k d lt false is = not_greater (f (get_or ks k d)).tx tx (sides.1 k d (beyond k is) lt)

      by_list : (xs : List K) (k : ℕ) (d : Member) → k < length xs
          → ((e : K) → ((f (get_or xs k e)).tx == tx) ≡ false) → ((get_or (map f xs) k d).tx == tx) ≡ false
      by_list [] k d lt apart = absurd (omega (arith, lt))
      by_list (x ∷ xs) k d lt apart =
          ap (λ (m : Member). m.tx == tx) (get_or-map f (x ∷ xs) k x d lt) ∙ apart x

      each : (k : ℕ) (d : Member) → k < length ks → ((get_or (map f ks) k d).tx == tx) ≡ false
      each k d lt = by_list ks k d lt (λ e. on_a_side k e lt (nat_lt k i) refl)

-- the member at an index stands there, as the first of its number
pub at_own : (xs : List Member) (i : ℕ) (member : Member) → IsAscending (map tx_of xs) → i < length xs
    → ((d : Member) → member ≡ get_or xs i d) → IsAt xs member.tx i
at_own xs i member ascending lt is =
    record { in_range = lt; first = λ d. found_here xs i member.tx d ascending lt (sym (ap tx_of (is d))) }
