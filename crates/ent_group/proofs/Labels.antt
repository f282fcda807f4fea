-- What becomes of each member's label where the list of members changes.
use Rattle.std.proofs.Common.{◌≡◌, ◌≢◌, ℕ, Bool, zero, suc, ◌+◌, ◌<◌, ◌≤◌, ◌==◌, ◌⊎◌, inl, inr, true, false, cond, not}
use Rattle.std.proofs.Common.{if◌then◌else◌, ◌↔◌, List, [], ◌∷◌, length, map, filter, take, drop, insert, count_by}
use Rattle.std.proofs.Common.{nat_lt, refl, sym, ap, subst, ◌∙◌, arith, get_or}
use Rattle.std.specs.Prelude.{All, Option, None, Some, Contains, IsNone}
use Rattle.std.specs.Option.{option_map}
use Rattle.std.proofs.lemmas.Bool.Decides.{nat_tests}
use Rattle.std.proofs.lemmas.List.Elements.{All-head, All-tail, All-cons, All-append, All-take, All-drop, All-weaker}
use Rattle.std.proofs.lemmas.List.Elements.{All-filter, All-contains, All-map, filter_passes, Contains-append_right}
use Rattle.std.proofs.lemmas.List.Sums.{sum_by-cons, count_by-le-length, length-filter}
use Rattle.std.proofs.lemmas.List.Edits.{length-insert}
use Rattle.std.proofs.lemmas.List.{length-map, get_or-map}
use Rattle.std.proofs.lemmas.Bool.{eqb-true, eqb-false, ltb-true}
use Rattle.std.proofs.lemmas.List.Kept.{AllPairs-cons, AllPairs-filter}
use Rattle.std.specs.List.{AllWithin}
use Rattle.std.specs.List.Sorted.{IsNonDecreasingBy, IsStrictlyIncreasing}
use Rattle.ent_group.specs.declared.groups.Membership.{Membership}
use Rattle.ent_group.specs.Groups.{group_of, moved_label, relabelled, numbers_of, alone, is_of, is_of_another}
use Rattle.ent_group.specs.Groups.{SameGroup, InEither, IsByNumber, IsNamed, IsGrouping, Relabels}

-- ---- a list with its labels changed

pub group_of-relabelled : (gone kept : ℕ) (ms : List Membership) (x : ℕ)
    → group_of (map (relabelled gone kept) ms) x ≡ option_map (moved_label gone kept) (group_of ms x)
group_of-relabelled gone kept [] x = refl
group_of-relabelled gone kept (m ∷ ms) x =
    elim (m.member == x) as (λ b.
    (if b then Some (moved_label gone kept m.group) else group_of (map (relabelled gone kept) ms) x) ≡ option_map
    (moved_label gone kept) (if b then Some m.group else group_of ms x)) [
      | true ↦ refl
      | false ↦ group_of-relabelled gone kept ms x
    ]

pub numbers_of-relabelled : (gone kept : ℕ) (ms : List Membership)
    → numbers_of (map (relabelled gone kept) ms) ≡ numbers_of ms
numbers_of-relabelled gone kept [] = refl
numbers_of-relabelled gone kept (m ∷ ms) = ap (λ ns. m.member ∷ ns) (numbers_of-relabelled gone kept ms)

-- ---- a list with one member more

label_past : (k tx x g : ℕ) (o p q : Option ℕ) → (if k == tx then Some g else o) ≡ None
    → (o ≡ None → p ≡ (if tx == x then Some tx else q))
    → (if k == x then Some g else p) ≡ (if tx == x then Some tx else if k == x then Some g else q)
label_past k tx x g o p q absent rest = grind (arith, nat_tests)

pub group_of-insert : (ms : List Membership) (i tx x : ℕ) → group_of ms tx ≡ None
    → group_of (insert ms i (alone tx)) x ≡ (if tx == x then Some tx else group_of ms x)
group_of-insert [] zero tx x h = refl
group_of-insert [] (suc i) tx x h = refl
group_of-insert (m ∷ ms) zero tx x h = refl
group_of-insert (m ∷ ms) (suc i) tx x h =
    label_past m.member tx x m.group (group_of ms tx) (group_of (insert ms i (alone tx)) x) (group_of ms x) h
    (group_of-insert ms i tx x)

-- ---- how many are below

-- where a test passes before a place and nowhere from there on, the place is how many pass
pub count_before : (p : Membership → Bool) (ms : List Membership) (i : ℕ) → i ≤ length ms
    → AllWithin (λ m. p m ≡ true) ms 0 i → AllWithin (λ m. p m ≡ false) ms i (length ms) → i ≡ count_by p ms
count_before p [] zero within before behind = refl
count_before p [] (suc i) within before behind = absurd (omega (arith, within))
count_before p (m ∷ ms) zero within before behind =
    let rest = count_before p ms zero (omega arith) (λ k d low high. absurd (omega (arith, high)))
    (λ k d low high. behind (suc k) d (omega arith) (omega (arith, high))) in
    let all : count_by p (m ∷ ms) ≡ 0 + count_by p ms = sum_by-cons (λ n. cond (p n) 1 0) m ms
    ∙ ap (λ b. cond b 1 0 + count_by p ms) (behind 0 m (omega arith) (omega arith)) in
    omega (arith, rest, all)
count_before p (m ∷ ms) (suc i) within before behind =
    let rest = count_before p ms i (omega (arith, within))
    (λ k d low high. before (suc k) d (omega arith) (omega (arith, high)))
    (λ k d low high. behind (suc k) d (omega (arith, low)) (omega (arith, high))) in
    let all : count_by p (m ∷ ms) ≡ 1 + count_by p ms = sum_by-cons (λ n. cond (p n) 1 0) m ms
    ∙ ap (λ b. cond b 1 0 + count_by p ms) (before 0 m (omega arith) (omega arith)) in
    omega (arith, rest, all)

pub in_order : (ms : List Membership) → IsByNumber ms → IsNonDecreasingBy (λ m. m.member) ms
in_order ms by_number i j d to within =
    elim (i == j) as (λ b. (i == j) ≡ b → (get_or ms i d).member ≤ (get_or ms j d).member) [
      | true ↦ λ e. let same = eqb-true i j e in
          subst (λ k. (get_or ms i d).member ≤ (get_or ms k d).member) same (omega arith)
      | false ↦ λ e. let below = by_number i j d (grind (arith, nat_tests, e, to)) within in omega (arith, below)
    ] refl

-- ---- members by number

pub by_number_tail : (m : Membership) (ms : List Membership) → IsByNumber (m ∷ ms) → IsByNumber ms
by_number_tail m ms h i j d below within = h (suc i) (suc j) d (omega arith) (omega arith)

pub by_number_head : (m : Membership) (ms : List Membership) → IsByNumber (m ∷ ms) → All (λ n. m.member < n.member) ms
by_number_head m ms h k d within = h 0 (suc k) d (omega arith) (omega arith)

below_head : (x k g : ℕ) (o : Option ℕ) → x < k → o ≡ None → (if k == x then Some g else o) ≡ None
below_head x k g o below none = grind (arith, nat_tests)

pub none_above : (x : ℕ) (ms : List Membership) → All (λ n. x < n.member) ms → group_of ms x ≡ None
none_above x [] h = refl
none_above x (m ∷ ms) h =
    below_head x m.member m.group (group_of ms x) (All-head (λ n. x < n.member) m ms h)
    (none_above x ms (All-tail (λ n. x < n.member) m ms h))

-- what holds of each label holds of the one that a look-up finds
All-group_of : (P : ℕ → Type 0) (ms : List Membership) → All (λ m. P m.group) ms → (x g : ℕ) → group_of ms x ≡ Some g
    → P g
All-group_of P [] h x g = λ e. cc
All-group_of P (m ∷ ms) h x g =
    elim (m.member == x) as (λ b. (if b then Some m.group else group_of ms x) ≡ Some g → P g) [
      | true ↦ λ e. let same : m.group ≡ g = cc in subst P same (All-head (λ n. P n.group) m ms h)
      | false ↦ λ e. All-group_of P ms (All-tail (λ n. P n.group) m ms h) x g e
    ]

pub by_number-relabelled : (gone kept : ℕ) (ms : List Membership) → IsByNumber ms
    → IsByNumber (map (relabelled gone kept) ms)
by_number-relabelled gone kept [] h = h
by_number-relabelled gone kept (m ∷ ms) h =
    AllPairs-cons (λ x y. x.member < y.member) (relabelled gone kept m) (map (relabelled gone kept) ms)
    (All-map (λ n. m.member < n.member) (relabelled gone kept) ms (by_number_head m ms h))
    (by_number-relabelled gone kept ms (by_number_tail m ms h))

All-insert : (P : Membership → Type 0) (ms : List Membership) (i : ℕ) (m : Membership) → P m → All P ms
    → All P (insert ms i m)
All-insert P ms i m here there = All-append P (take i ms) (m ∷ drop i ms) (All-take P i ms there)
    (All-cons P m (drop i ms) here (All-drop P i ms there))

count_below-cons : (tx : ℕ) (m : Membership) (ms : List Membership)
    → count_by (λ n. nat_lt n.member tx) (m ∷ ms) ≡ (if nat_lt m.member tx then 1 else 0) + count_by
    (λ n. nat_lt n.member tx) ms
count_below-cons tx m ms = sum_by-cons (λ n. if nat_lt n.member tx then 1 else 0) m ms

count_none : (k tx c : ℕ) → tx < k → c ≡ 0 → (if nat_lt k tx then 1 else 0) + c ≡ 0
count_none k tx c above none = grind (arith, nat_tests)

pub none_below : (tx : ℕ) (ms : List Membership) → All (λ n. tx < n.member) ms
    → count_by (λ n. nat_lt n.member tx) ms ≡ 0
none_below tx [] h = refl
none_below tx (m ∷ ms) h =
    count_below-cons tx m ms ∙ count_none m.member tx (count_by (λ n. nat_lt n.member tx) ms)
    (All-head (λ n. tx < n.member) m ms h) (none_below tx ms (All-tail (λ n. tx < n.member) m ms h))

absent_rest : (k tx g : ℕ) (o : Option ℕ) → (if k == tx then Some g else o) ≡ None → o ≡ None
absent_rest k tx g o absent = grind (arith, nat_tests)

above_absent : (k tx g : ℕ) (o : Option ℕ) → (if k == tx then Some g else o) ≡ None → nat_lt k tx ≡ false → tx < k
above_absent k tx g o absent e = grind (arith, nat_tests)

pub by_number-insert : (ms : List Membership) (tx : ℕ) → IsByNumber ms → group_of ms tx ≡ None
    → IsByNumber (insert ms (count_by (λ m. nat_lt m.member tx) ms) (alone tx))
by_number-insert [] tx h absent = λ i j d below within. absurd (omega arith)
by_number-insert (m ∷ ms) tx h absent =
    let rest = count_by (λ n. nat_lt n.member tx) ms in
    let place : ℕ → Type 0 = λ i. IsByNumber (insert (m ∷ ms) i (alone tx)) in
    subst place (sym (count_below-cons tx m ms))
    (elim (nat_lt m.member tx) as (λ b. nat_lt m.member tx ≡ b
    → IsByNumber (insert (m ∷ ms) ((if b then 1 else 0) + rest) (alone tx))) [
      | true ↦ λ e.
          let one_more : 1 + rest ≡ suc rest = omega arith in
          let later : group_of ms tx ≡ None = absent_rest m.member tx m.group (group_of ms tx) absent in
          subst place (sym one_more)
          (AllPairs-cons (λ x y. x.member < y.member) m (insert ms rest (alone tx))
          (All-insert (λ n. m.member < n.member) ms rest (alone tx) (ltb-true m.member tx e) (by_number_head m ms h))
          (by_number-insert ms tx (by_number_tail m ms h) later))
      | false ↦ λ e.
          let above : tx < m.member = above_absent m.member tx m.group (group_of ms tx) absent e in
          let all_above : All (λ n. tx < n.member) ms = All-weaker (λ n. m.member < n.member) (λ n. tx < n.member)
          (λ n more. omega arith) ms (by_number_head m ms h) in
          let first : 0 + rest ≡ 0 = omega (arith, none_below tx ms all_above) in
          subst place (sym first)
          (AllPairs-cons (λ x y. x.member < y.member) (alone tx) (m ∷ ms)
          (All-cons (λ n. tx < n.member) m ms above all_above) h)
    ] refl)

-- ---- a list without a group

-- the first of a list goes where it is of the group, and stays where it is not
first_without : (group x : ℕ) (m : Membership) (fs : List Membership) →
    ((m.group ≡ group) × (group_of (if is_of_another group m then m ∷ fs else fs) x ≡ group_of fs x))
    ⊎ ((m.group ≢ group) × (group_of (if is_of_another group m then m ∷ fs else fs)
    x ≡ (if m.member == x then Some m.group else group_of fs x)))
first_without group x m fs =
    elim (m.group == group) as (λ b. (m.group == group) ≡ b
    → ((m.group ≡ group) × (group_of (if not b then m ∷ fs else fs) x ≡ group_of fs x))
    ⊎ ((m.group ≢ group) × (group_of (if not b then m ∷ fs else fs)
    x ≡ (if m.member == x then Some m.group else group_of fs x)))) [
      | true ↦ λ e. inl (eqb-true m.group group e, refl)
      | false ↦ λ e. inr (eqb-false m.group group e, refl)
    ] refl

gone_step : (k x g group : ℕ) (o p q : Option ℕ) → (if k == x then Some g else o) ≡ Some group → (k ≡ x → p ≡ None)
    → (o ≡ Some group → p ≡ None) → ((g ≡ group) × (q ≡ p)) ⊎ ((g ≢ group) × (q ≡ (if k == x then Some g else p)))
    → q ≡ None
gone_step k x g group o p q found above rest cases = grind (arith, nat_tests)

pub without_gone : (group : ℕ) (ms : List Membership) (x : ℕ) → IsByNumber ms → group_of ms x ≡ Some group
    → group_of (filter (is_of_another group) ms) x ≡ None
without_gone group [] x h e = refl
without_gone group (m ∷ ms) x h e =
    gone_step m.member x m.group group (group_of ms x) (group_of (filter (is_of_another group) ms) x) _ e
    (λ same. none_above x (filter (is_of_another group) ms)
    (All-filter (is_of_another group) (λ n. x < n.member) ms
    (subst (λ (k : ℕ). All (λ n. k < n.member) ms) same (by_number_head m ms h))))
    (without_gone group ms x (by_number_tail m ms h))
    (first_without group x m (filter (is_of_another group) ms))

other_step : (k x g group : ℕ) (o p q : Option ℕ) → ((if k == x then Some g else o) ≢ Some group)
    → ((o ≢ Some group) → p ≡ o) → ((g ≡ group) × (q ≡ p)) ⊎ ((g ≢ group) × (q ≡ (if k == x then Some g else p)))
    → q ≡ (if k == x then Some g else o)
other_step k x g group o p q other rest cases = grind (arith, nat_tests)

pub without_others : (group : ℕ) (ms : List Membership) (x : ℕ) → (group_of ms x ≢ Some group)
    → group_of (filter (is_of_another group) ms) x ≡ group_of ms x
without_others group [] x h = refl
without_others group (m ∷ ms) x h =
    other_step m.member x m.group group (group_of ms x) (group_of (filter (is_of_another group) ms) x) _ h
    (without_others group ms x)
    (first_without group x m (filter (is_of_another group) ms))

-- ---- labels are names of members

pub named_label : (ms : List Membership) → IsNamed ms → (x g : ℕ) → group_of ms x ≡ Some g → group_of ms g ≡ Some g
named_label ms h = All-group_of (λ g. group_of ms g ≡ Some g) ms h

moved_named : (gone kept g : ℕ) (f : ℕ → Option ℕ) (new : ℕ → Option ℕ)
    → ((x : ℕ) → new x ≡ option_map (moved_label gone kept) (f x)) → f kept ≡ Some kept → f g ≡ Some g
    → new (moved_label gone kept g) ≡ Some (moved_label gone kept g)
moved_named gone kept g f new is named here = grind (arith, nat_tests, is (moved_label gone kept g))

pub named-relabelled : (gone kept : ℕ) (ms : List Membership) → group_of ms kept ≡ Some kept → IsNamed ms
    → IsNamed (map (relabelled gone kept) ms)
named-relabelled gone kept ms named h =
    All-map (λ m. group_of (map (relabelled gone kept) ms) m.group ≡ Some m.group) (relabelled gone kept) ms
    (All-weaker (λ m. group_of ms m.group ≡ Some m.group)
    (λ m. group_of (map (relabelled gone kept) ms) (moved_label gone kept m.group) ≡ Some
    (moved_label gone kept m.group))
    (λ m here. moved_named gone kept m.group (group_of ms) (group_of (map (relabelled gone kept) ms))
    (group_of-relabelled gone kept ms) named here) ms h)

inserted_named : (tx g : ℕ) (o p : Option ℕ) → p ≡ (if tx == g then Some tx else o) → o ≡ Some g → p ≡ Some g
inserted_named tx g o p is here = grind (arith, nat_tests)

itself : (tx : ℕ) (o : Option ℕ) → (if tx == tx then Some tx else o) ≡ Some tx
itself tx o = grind (arith, nat_tests)

pub named-insert : (ms : List Membership) (i tx : ℕ) → group_of ms tx ≡ None → IsNamed ms
    → IsNamed (insert ms i (alone tx))
named-insert ms i tx absent h =
    All-insert (λ m. group_of (insert ms i (alone tx)) m.group ≡ Some m.group) ms i (alone tx)
    (group_of-insert ms i tx tx absent ∙ itself tx (group_of ms tx))
    (All-weaker (λ m. group_of ms m.group ≡ Some m.group)
    (λ m. group_of (insert ms i (alone tx)) m.group ≡ Some m.group)
    (λ m here. inserted_named tx m.group (group_of ms m.group) _ (group_of-insert ms i tx m.group absent) here) ms
    h)

some_other : (g group : ℕ) (o : Option ℕ) → not (g == group) ≡ true → o ≡ Some g → o ≢ Some group
some_other g group o other here both = grind (arith, nat_tests)

pub named-without : (group : ℕ) (ms : List Membership) → IsNamed ms → IsNamed (filter (is_of_another group) ms)
named-without group ms h k d within =
    let m = get_or (filter (is_of_another group) ms) k d in
    let here : group_of ms m.group ≡ Some m.group =
    All-filter (is_of_another group) (λ n. group_of ms n.group ≡ Some n.group) ms h k d within in
    without_others group ms m.group
    (some_other m.group group (group_of ms m.group) (filter_passes (is_of_another group) ms k d within) here) ∙ here

-- ---- the members of one group

itself_label : (x g : ℕ) (o : Option ℕ) → (if x == x then Some g else o) ≡ Some g
itself_label x g o = grind (arith, nat_tests)

later_label : (k x g : ℕ) (e : ℕ) (o : Option ℕ) → (k ≡ x → o ≡ None) → o ≡ Some g
    → (if k == x then Some e else o) ≡ Some g
later_label k x g e o above here = grind (arith, nat_tests)

labelled-group_of : (group : ℕ) (ms : List Membership) → IsByNumber ms
    → All (λ n. group_of ms n ≡ Some group) (numbers_of (filter (is_of group) ms))
labelled-group_of group [] h = λ k d within. absurd (omega arith)
labelled-group_of group (m ∷ ms) h =
    let rest = numbers_of (filter (is_of group) ms) in
    let later : All (λ n. group_of (m ∷ ms) n ≡ Some group) rest =
    All-weaker (λ n. group_of ms n ≡ Some group) (λ n. group_of (m ∷ ms) n ≡ Some group)
    (λ n here. later_label m.member n group m.group (group_of ms n)
    (λ same. none_above n ms (subst (λ (k : ℕ). All (λ o. k < o.member) ms) same (by_number_head m ms h))) here)
    rest (labelled-group_of group ms (by_number_tail m ms h)) in
    elim (m.group == group) as (λ b. (m.group == group) ≡ b
    → All (λ n. group_of (m ∷ ms) n ≡ Some group)
    (numbers_of (if b then m ∷ filter (is_of group) ms else filter (is_of group) ms))) [
      | true ↦ λ e. All-cons (λ n. group_of (m ∷ ms) n ≡ Some group) m.member rest
          (itself_label m.member m.group (group_of ms m.member) ∙ ap (λ g. Some g) (eqb-true m.group group e)) later
      | false ↦ λ e. later
    ] refl

label_later : (k x g group : ℕ) (o : Option ℕ) → (g == group) ≡ false → (if k == x then Some g else o) ≡ Some group
    → o ≡ Some group
label_later k x g group o other here = grind (arith, nat_tests)

pub group_of-labelled : (group : ℕ) (ms : List Membership) (x : ℕ) → group_of ms x ≡ Some group
    → Contains (numbers_of (filter (is_of group) ms)) x
group_of-labelled group [] x e = cc
group_of-labelled group (m ∷ ms) x e =
    let rest = numbers_of (filter (is_of group) ms) in
    elim (m.group == group) as (λ b. (m.group == group) ≡ b
    → Contains (numbers_of (if b then m ∷ filter (is_of group) ms else filter (is_of group) ms)) x) [
      | true ↦ λ same. elim (m.member == x) as (λ b. (m.member == x) ≡ b
          → (if b then Some m.group else group_of ms x) ≡ Some group → Contains (m.member ∷ rest) x) [
            | true ↦ λ here _. (0, omega arith, eqb-true m.member x here)
            | false ↦ λ _ later. Contains-append_right (m.member ∷ []) rest x (group_of-labelled group ms x later)
          ] refl e
      | false ↦ λ other. group_of-labelled group ms x (label_later m.member x m.group group (group_of ms x) other e)
    ] refl

pub labelled-IsStrictlyIncreasing : (group : ℕ) (ms : List Membership) → IsByNumber ms
    → IsStrictlyIncreasing (numbers_of (filter (is_of group) ms))
labelled-IsStrictlyIncreasing group ms h k within =
    let fs = filter (is_of group) ms in
    let long : length (numbers_of fs) ≡ length fs = length-map fs (λ m. m.member) in
    let pairs : (get_or fs k (alone 0)).member < (get_or fs (k + 1) (alone 0)).member =
    AllPairs-filter (λ m n. m.member < n.member) (is_of group) ms h k (k + 1) (alone 0) (omega arith) (omega arith) in
    omega (
      arith,
      get_or-map (λ (m : Membership). m.member) fs k (alone 0) 0 (omega arith),
      get_or-map
          (λ (m : Membership). m.member) fs (k + 1) (alone 0) 0 (omega arith),
      pairs,
    )

-- ---- what an edit makes of the groups

abbrev pub Moves : ℕ → ℕ → (ℕ → Option ℕ) → (ℕ → Option ℕ) → Type 0
Moves gone kept old new = (x : ℕ) → new x ≡ option_map (moved_label gone kept) (old x)

moved_back : (gone kept g : ℕ) (o : Option ℕ) → option_map (moved_label gone kept) o ≡ Some g
    → (a : ℕ) × (o ≡ Some a) × (moved_label gone kept a ≡ g)
moved_back gone kept g None e = cc
moved_back gone kept g (Some a) e = (a, refl, cc)

moved_alike : (gone kept a b : ℕ) → moved_label gone kept a ≡ moved_label gone kept b
    → (a ≡ b) ⊎ (((a ≡ kept) ⊎ (a ≡ gone)) × ((b ≡ kept) ⊎ (b ≡ gone)))
moved_alike gone kept a b e = grind (arith, nat_tests)

moved_kept : (gone kept : ℕ) → moved_label gone kept kept ≡ kept
moved_kept gone kept = grind (arith, nat_tests)

moved_gone : (gone kept : ℕ) → moved_label gone kept gone ≡ kept
moved_gone gone kept = grind (arith, nat_tests)

abbrev Alike : (ℕ → Option ℕ) → ℕ → ℕ → Type 0
Alike f x y = (group : ℕ) × (f x ≡ Some group) × (f y ≡ Some group)

either_one : (f : ℕ → Option ℕ) (left right kept gone : ℕ) → f left ≡ Some kept → f right ≡ Some gone → (x a : ℕ)
    → f x ≡ Some a → (a ≡ kept) ⊎ (a ≡ gone) → Alike f left x ⊎ Alike f right x
either_one f left right kept gone l r x a e (inl same) = inl (kept, l, e ∙ ap (λ (g : ℕ). Some g) same)
either_one f left right kept gone l r x a e (inr same) = inr (gone, r, e ∙ ap (λ (g : ℕ). Some g) same)

joined_label : (f new : ℕ → Option ℕ) (left right kept gone : ℕ) → f left ≡ Some kept → f right ≡ Some gone
    → Moves gone kept f new → (x : ℕ) → Alike f left x ⊎ Alike f right x → new x ≡ Some kept
joined_label f new left right kept gone l r moves x (inl (g, at_left, at_x)) =
    let same : g ≡ kept = cc in
    moves x ∙ ap (option_map (moved_label gone kept)) (at_x ∙ ap (λ (a : ℕ). Some a) same)
    ∙ ap (λ (a : ℕ). Some a) (moved_kept gone kept)
joined_label f new left right kept gone l r moves x (inr (g, at_right, at_x)) =
    let same : g ≡ gone = cc in
    moves x ∙ ap (option_map (moved_label gone kept)) (at_x ∙ ap (λ (a : ℕ). Some a) same)
    ∙ ap (λ (a : ℕ). Some a) (moved_gone gone kept)

split_class : (f new : ℕ → Option ℕ) (left right kept gone : ℕ) → f left ≡ Some kept → f right ≡ Some gone
    → (x y a b : ℕ) → f x ≡ Some a → f y ≡ Some b →
    (a ≡ b) ⊎ (((a ≡ kept) ⊎ (a ≡ gone)) × ((b ≡ kept) ⊎ (b ≡ gone)))
    → Alike f x y ⊎ ((Alike f left x ⊎ Alike f right x) × (Alike f left y ⊎ Alike f right y))
split_class f new left right kept gone l r x y a b at_x at_y (inl same) =
    inl (a, at_x, at_y ∙ ap (λ (g : ℕ). Some g) (sym same))
split_class f new left right kept gone l r x y a b at_x at_y (inr both) =
    inr (either_one f left right kept gone l r x a at_x both.0, either_one f left right kept gone l r y b at_y both.1)

old_class : (f new : ℕ → Option ℕ) (left right kept gone : ℕ) → f left ≡ Some kept → f right ≡ Some gone
    → Moves gone kept f new → (x y : ℕ) →
    Alike new x y → Alike f x y ⊎ ((Alike f left x ⊎ Alike f right x) × (Alike f left y ⊎ Alike f right y))
old_class f new left right kept gone l r moves x y (g, at_x, at_y) =
    let from_x = moved_back gone kept g (f x) (sym (moves x) ∙ at_x) in
    let from_y = moved_back gone kept g (f y) (sym (moves y) ∙ at_y) in
    split_class f new left right kept gone l r x y from_x.0 from_y.0 from_x.1 from_y.1
    (moved_alike gone kept from_x.0 from_y.0 (from_x.2 ∙ sym from_y.2))

new_class : (f new : ℕ → Option ℕ) (left right kept gone : ℕ) → f left ≡ Some kept → f right ≡ Some gone
    → Moves gone kept f new → (x y : ℕ) →
    Alike f x y ⊎ ((Alike f left x ⊎ Alike f right x) × (Alike f left y ⊎ Alike f right y)) → Alike new x y
new_class f new left right kept gone l r moves x y (inl (g, at_x, at_y)) = (
  moved_label gone kept g,
  moves x ∙ ap (option_map (moved_label gone kept)) at_x,
  moves y
      ∙ ap (option_map (moved_label gone kept)) at_y,
)
new_class f new left right kept gone l r moves x y (inr both) = (
  kept,
  joined_label f new left right kept gone l r moves x both.0,
  joined_label f new left right kept gone l r moves
      y both.1,
)

pub merged_classes : (old new : List Membership) (left right kept gone : ℕ) → group_of old left ≡ Some kept
    → group_of old right ≡ Some gone →
    Moves gone kept (group_of old) (group_of new) → (x y : ℕ)
    → SameGroup new x y ↔ (SameGroup old x y ⊎ (InEither old left right x × InEither old left right y))
merged_classes old new left right kept gone l r moves x y = (
  old_class (group_of old) (group_of new) left right kept gone l r moves x y,
  new_class (group_of old)
      (group_of new) left right kept gone l r moves x y,
)

-- ---- a member more

abbrev pub Adds : ℕ → (ℕ → Option ℕ) → (ℕ → Option ℕ) → Type 0
Adds tx old new = (x : ℕ) → new x ≡ (if tx == x then Some tx else old x)

-- nobody's label is the number of one who is no member
no_label : (ms : List Membership) (tx x : ℕ) → IsNamed ms → group_of ms tx ≡ None → group_of ms x ≡ Some tx → ⊥
no_label ms tx x named absent here = let there : group_of ms tx ≡ Some tx = named_label ms named x tx here in cc

added_cases : (tx x y g : ℕ) (f : ℕ → Option ℕ) → f tx ≡ None → (f x ≡ Some tx → ⊥) → (f y ≡ Some tx → ⊥) →
    (if tx == x then Some tx else f x) ≡ Some g → (if tx == y then Some tx else f y) ≡ Some g
    → ((f x ≡ Some g) × (f y ≡ Some g)) ⊎ ((x ≡ tx) × (y ≡ tx))
added_cases tx x y g f absent not_x not_y at_x at_y = grind (arith, nat_tests)

added_old : (old new : List Membership) (tx : ℕ) → IsNamed old → group_of old tx ≡ None
    → Adds tx (group_of old) (group_of new) → (x y : ℕ) → SameGroup new x y
    → SameGroup old x y ⊎ ((x ≡ tx) × (y ≡ tx))
added_old old new tx named absent adds x y (g, at_x, at_y) =
    elim (added_cases tx x y g (group_of old) absent (no_label old tx x named absent) (no_label old tx y named absent)
    (sym (adds x) ∙ at_x) (sym (adds y) ∙ at_y)) [
      | inl both ↦ inl (g, both.0, both.1)
      | inr both ↦ inr both
    ]

added_keeps : (tx x g : ℕ) (f : ℕ → Option ℕ) → f tx ≡ None → f x ≡ Some g → (if tx == x then Some tx else f x) ≡ Some g
added_keeps tx x g f absent here =
    elim (tx == x) as (λ b. (tx == x) ≡ b → (if b then Some tx else f x) ≡ Some g) [
      | true ↦ λ e. let same : f tx ≡ f x = ap f (eqb-true tx x e) in cc
      | false ↦ λ _. here
    ] refl

added_itself : (tx x : ℕ) (o : Option ℕ) → x ≡ tx → (if tx == x then Some tx else o) ≡ Some tx
added_itself tx x o same = grind (arith, nat_tests)

added_new : (old new : List Membership) (tx : ℕ) → group_of old tx ≡ None → Adds tx (group_of old) (group_of new)
    → (x y : ℕ) → SameGroup old x y ⊎ ((x ≡ tx) × (y ≡ tx)) → SameGroup new x y
added_new old new tx absent adds x y (inl (g, at_x, at_y)) =
    (g, adds x ∙ added_keeps tx x g (group_of old) absent at_x, adds y ∙ added_keeps tx y g (group_of old) absent at_y)
added_new old new tx absent adds x y (inr both) =
    (tx, adds x ∙ added_itself tx x (group_of old x) both.0, adds y ∙ added_itself tx y (group_of old y) both.1)

pub added_classes : (old new : List Membership) (tx : ℕ) → IsNamed old → group_of old tx ≡ None
    → Adds tx (group_of old) (group_of new) → (x y : ℕ) →
    SameGroup new x y ↔ (SameGroup old x y ⊎ ((x ≡ tx) × (y ≡ tx)))
added_classes old new tx named absent adds x y =
    (added_old old new tx named absent adds x y, added_new old new tx absent adds x y)

-- ---- the members of one group, and a list without it

pub members_class : (ms : List Membership) (tx group : ℕ) → IsByNumber ms → group_of ms tx ≡ Some group → (x : ℕ)
    → Contains (numbers_of (filter (is_of group) ms)) x ↔ SameGroup ms tx x
members_class ms tx group h at_tx x = (
  λ inside. (
    group,
    at_tx,
    All-contains (λ n. group_of ms n ≡ Some group) (numbers_of (filter (is_of group) ms)) x
        (labelled-group_of group ms h) inside,
  ),
  λ same. group_of-labelled group ms x (same_label at_tx same),
)
  where
    same_label : group_of ms tx ≡ Some group → SameGroup ms tx x → group_of ms x ≡ Some group
    same_label at_tx (g, a, b) = cc

-- ---- what an edit keeps of the invariant

none_is : (o : Option ℕ) → IsNone o → o ≡ None
none_is None h = refl
none_is (Some x) h = cc

pub not_member : (ms : List Membership) (tx : ℕ) → IsNone (group_of ms tx) → group_of ms tx ≡ None
not_member ms tx h = none_is (group_of ms tx) h

pub added_grouping : (ms : List Membership) (tx : ℕ) → IsGrouping ms → length ms < 64 → group_of ms tx ≡ None
    → IsGrouping (insert ms (count_by (λ m. nat_lt m.member tx) ms) (alone tx))
added_grouping ms tx h room absent =
    let at = count_by (λ (m : Membership). nat_lt m.member tx) ms in
    record {
      bound = omega (
        arith,
        length-insert ms at (alone tx)
            (count_by-le-length (λ (m : Membership). nat_lt m.member tx) ms),
      );
      by_number = by_number-insert ms tx h.by_number absent;
      named = named-insert ms at tx absent h.named;
    }

pub relabelled_grouping : (ms : List Membership) (gone kept left : ℕ) → IsGrouping ms → group_of ms left ≡ Some kept
    → IsGrouping (map (relabelled gone kept) ms)
relabelled_grouping ms gone kept left h at_left = record {
  bound = omega (arith, length-map ms (relabelled gone kept), h.bound);
  by_number = by_number-relabelled gone kept ms h.by_number;
  named = named-relabelled gone kept ms (named_label ms h.named left kept at_left) h.named;
}

pub without_grouping : (ms : List Membership) (group : ℕ) → IsGrouping ms → IsGrouping (filter (is_of_another group) ms)
without_grouping ms group h = record {
  bound = omega (arith, length-filter (is_of_another group) ms, count_by-le-length (is_of_another group) ms, h.bound);
  by_number = AllPairs-filter (λ m n. m.member < n.member) (is_of_another group) ms h.by_number;
  named = named-without group ms h.named;
}

pub relabels : (old new : List Membership) (left right kept gone : ℕ) → group_of old left ≡ Some kept
    → group_of old right ≡ Some gone →
    Moves gone kept (group_of old) (group_of new) → Relabels old new left right
relabels old new left right kept gone l r moves kept' gone' l' r' x =
    let same_kept : kept ≡ kept' = cc in
    let same_gone : gone ≡ gone' = cc in
    let by_kept : ℕ → Type 0 = λ k. group_of new x ≡ option_map (moved_label gone' k) (group_of old x) in
    let by_gone : ℕ → Type 0 = λ g. group_of new x ≡ option_map (moved_label g kept) (group_of old x) in
    subst by_kept same_kept (subst by_gone same_gone (moves x))

pub gone_class : (ms : List Membership) (tx group x : ℕ) → IsByNumber ms → group_of ms tx ≡ Some group
    → SameGroup ms tx x → group_of (filter (is_of_another group) ms) x ≡ None
gone_class ms tx group x h at_tx (g, a, b) = let there : group_of ms x ≡ Some group = cc in
    without_gone group ms x h there

pub other_classes : (ms : List Membership) (tx group x : ℕ) → group_of ms tx ≡ Some group → (SameGroup ms tx x → ⊥)
    → group_of (filter (is_of_another group) ms) x ≡ group_of ms x
other_classes ms tx group x at_tx apart = without_others group ms x (λ there. apart (group, at_tx, there))
