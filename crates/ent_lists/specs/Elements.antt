-- Elements of lists, and what holds of each two of them: the laws that proofs of several crates cite.
use Rattle.std.proofs.Common.{◌≡◌, ◌⊎◌, ℕ, zero, suc, ◌==◌, ◌<◌, ◌≤◌, Bool, true, false, cond, not, ◌||◌, ◌&&◌, List}
use Rattle.std.proofs.Common.{[], ◌∷◌, ◌++◌, map, length, refl, sym, ap, subst, ◌∙◌, inl, inr, arith, rules, Some}
use Rattle.std.proofs.Common.{All, AllPairs, Contains, nat_eq, slice_index_or, slice_get, flat_map, take, drop, get_or}
use Rattle.std.proofs.Common.{◌+◌}
use Rattle.std.specs.Cmp.Lexicographic.{pointwise}
use Rattle.std.specs.List.{AllByRecursion, IsDistinct, filter, list_any}
use Rattle.std.specs.List.Sorted.{IsStrictlySortedBy}
use Rattle.std.proofs.lemmas.List.{drop_more}
use Rattle.std.specs.declared.cmp.Ordering.{Ordering}
use Rattle.std.specs.declared.cmp.Ordering.TheVariants.{Less}

-- ---- truth values

pub clash : {A : Type 0} (b : Bool) → b ≡ true → b ≡ false → A
clash b yes_is no_is = absurd (different (sym yes_is ∙ no_is))
  where
    different : true ≡ false → ⊥
    different e = cc

pub turned : (b : Bool) → not b ≡ true → b ≡ false
turned true e = sym e
turned false e = refl

pub or_first : (a b : Bool) → a ≡ true → (a || b) ≡ true
or_first true b e = refl
or_first false b e = cc

pub or_second : (a b : Bool) → b ≡ true → (a || b) ≡ true
or_second true b e = refl
or_second false b e = e

pub or_cases : (a b : Bool) → (a || b) ≡ true → (a ≡ true) ⊎ (b ≡ true)
or_cases true b e = inl refl
or_cases false b e = inr e

pub neither : (a b : Bool) → (a || b) ≡ false → (a ≡ false) × (b ≡ false)
neither true b e = cc
neither false b e = (refl, e)

-- what is not true is false
pub not_so : (b : Bool) → (b ≡ true → ⊥) → b ≡ false
not_so true no_way = absurd (no_way refl)
not_so false no_way = refl

pub and_both : (a b : Bool) → (a && b) ≡ true → (a ≡ true) × (b ≡ true)
and_both true b e = (refl, e)
and_both false b e = cc

pub both_and : (a b : Bool) → a ≡ true → b ≡ true → (a && b) ≡ true
both_and true b e f = f
both_and false b e f = cc

-- ---- numbers

pub same_number : (a b : ℕ) → (a == b) ≡ true → a ≡ b
same_number a b is = grind (arith, rules)

pub number_itself : (a : ℕ) → (a == a) ≡ true
number_itself a = grind (arith, rules)

pub other_number : (a b : ℕ) → (a ≡ b → ⊥) → (a == b) ≡ false
other_number a b differs = grind (arith, rules)

pub differ : (a b : ℕ) → (a == b) ≡ false → a ≡ b → ⊥
differ a b is same = clash (a == b) (ap (λ (n : ℕ). n == b) same ∙ number_itself b) is

-- ---- elements

abbrev pub In : {X : Type 0} → X → List X → Type 0
In x [] = ⊥
In x (y ∷ ys) = (x ≡ y) ⊎ In x ys

-- R of each element and each later one
abbrev pub Pairs : {X : Type 0} → (X → X → Type 0) → List X → Type 0
Pairs R [] = Unit {0}
Pairs R (x ∷ xs) = AllByRecursion (R x) xs × Pairs R xs

module _ {X : Type 0} where
  pub of_all : (P : X → Type 0) (xs : List X) (x : X) → AllByRecursion P xs → In x xs → P x
  of_all P [] x all at = absurd at
  of_all P (y ∷ ys) x all (inl same) = subst P (sym same) all.0
  of_all P (y ∷ ys) x all (inr at) = of_all P ys x all.1 at

  pub to_all : (P : X → Type 0) (xs : List X) → ((x : X) → In x xs → P x) → AllByRecursion P xs
  to_all P [] f = tt
  to_all P (x ∷ xs) f = (f x (inl refl), to_all P xs (λ y at. f y (inr at)))

  pub all_by : (P Q : X → Type 0) (xs : List X) → ((x : X) → P x → Q x) → AllByRecursion P xs → AllByRecursion Q xs
  all_by P Q [] f all = tt
  all_by P Q (x ∷ xs) f all = (f x all.0, all_by P Q xs f all.1)

  pub all_joined : (P : X → Type 0) (xs ys : List X) → AllByRecursion P xs → AllByRecursion P ys
      → AllByRecursion P (xs ++ ys)
  all_joined P [] ys a b = b
  all_joined P (x ∷ xs) ys a b = (a.0, all_joined P xs ys a.1 b)

  pub all_first : (P : X → Type 0) (xs ys : List X) → AllByRecursion P (xs ++ ys) → AllByRecursion P xs
  all_first P [] ys all = tt
  all_first P (x ∷ xs) ys all = (all.0, all_first P xs ys all.1)

  pub all_second : (P : X → Type 0) (xs ys : List X) → AllByRecursion P (xs ++ ys) → AllByRecursion P ys
  all_second P [] ys all = all
  all_second P (x ∷ xs) ys all = all_second P xs ys all.1

  pub in_first : (xs ys : List X) (x : X) → In x xs → In x (xs ++ ys)
  in_first [] ys x at = absurd at
  in_first (y ∷ xs) ys x (inl same) = inl same
  in_first (y ∷ xs) ys x (inr at) = inr (in_first xs ys x at)

  pub in_second : (xs ys : List X) (x : X) → In x ys → In x (xs ++ ys)
  in_second [] ys x at = at
  in_second (y ∷ xs) ys x at = inr (in_second xs ys x at)

  pub in_either : (xs ys : List X) (x : X) → In x (xs ++ ys) → In x xs ⊎ In x ys
  in_either [] ys x at = inr at
  in_either (y ∷ xs) ys x (inl same) = inl (inl same)
  in_either (y ∷ xs) ys x (inr at) = elim (in_either xs ys x at) [ inl a ↦ inl (inr a) | inr b ↦ inr b ]

  from_cond : (b : Bool) (y x : X) (ys : List X) → In x (cond b (y ∷ ys) ys) → (x ≡ y) × (b ≡ true) ⊎ In x ys
  from_cond true y x ys (inl same) = inl (same, refl)
  from_cond true y x ys (inr at) = inr at
  from_cond false y x ys at = inr at

  pub of_filter : (p : X → Bool) (xs : List X) (x : X) → In x (filter p xs) → In x xs × (p x ≡ true)
  of_filter p [] x at = absurd at
  of_filter p (y ∷ ys) x at =
      elim (from_cond (p y) y x (filter p ys) at) [
        | inl here ↦ (inl here.0, ap p here.0 ∙ here.1)
        | inr there ↦ let r = of_filter p ys x there in (inr r.0, r.1)
      ]

  skip_cond : (b : Bool) (y x : X) (ys : List X) → In x ys → In x (cond b (y ∷ ys) ys)
  skip_cond true y x ys at = inr at
  skip_cond false y x ys at = at

  take_cond : (b : Bool) (y x : X) (ys : List X) → b ≡ true → x ≡ y → In x (cond b (y ∷ ys) ys)
  take_cond true y x ys is same = inl same
  take_cond false y x ys is same = cc

  pub to_filter : (p : X → Bool) (xs : List X) (x : X) → In x xs → p x ≡ true → In x (filter p xs)
  to_filter p [] x at passes = absurd at
  to_filter p (y ∷ ys) x (inl same) passes = take_cond (p y) y x (filter p ys) (ap p (sym same) ∙ passes) same
  to_filter p (y ∷ ys) x (inr at) passes = skip_cond (p y) y x (filter p ys) (to_filter p ys x at passes)

  pub all_filtered : (P : X → Type 0) (p : X → Bool) (xs : List X) → AllByRecursion P xs
      → AllByRecursion P (filter p xs)
  all_filtered P p xs all = to_all P (filter p xs) (λ x at. of_all P xs x all (of_filter p xs x at).0)

  pub filter_empty : (p : X → Bool) (xs : List X) → ((x : X) → In x xs → p x ≡ false) → filter p xs ≡ []
  filter_empty p [] f = refl
  filter_empty p (x ∷ xs) f =
      ap (λ b. cond b (x ∷ filter p xs) (filter p xs)) (f x (inl refl)) ∙ filter_empty p xs (λ y at. f y (inr at))

  pub filter_whole : (p : X → Bool) (xs : List X) → ((x : X) → In x xs → p x ≡ true) → filter p xs ≡ xs
  filter_whole p [] f = refl
  filter_whole p (x ∷ xs) f =
      ap (λ b. cond b (x ∷ filter p xs) (filter p xs)) (f x (inl refl))
      ∙ ap (λ more. x ∷ more) (filter_whole p xs (λ y at. f y (inr at)))

  pub filter_same : (p q : X → Bool) (xs : List X) → ((x : X) → In x xs → p x ≡ q x) → filter p xs ≡ filter q xs
  filter_same p q [] f = refl
  filter_same p q (x ∷ xs) f =
      let rest = filter_same p q xs (λ y at. f y (inr at)) in
      λ i. cond (f x (inl refl) i) (x ∷ rest i) (rest i)

  pub filter_joined : (p : X → Bool) (xs ys : List X) → filter p (xs ++ ys) ≡ filter p xs ++ filter p ys
  filter_joined p [] ys = refl
  filter_joined p (x ∷ xs) ys =
      ap (λ more. cond (p x) (x ∷ more) more) (filter_joined p xs ys)
      ∙ through (p x)
    where
      through : (b : Bool) → cond b (x ∷ filter p xs ++ filter p ys) (filter p xs ++ filter p ys)
          ≡ cond b (x ∷ filter p xs) (filter p xs) ++ filter p ys
      through true = refl
      through false = refl

  pub nobody : (xs : List X) → ((x : X) → In x xs → ⊥) → xs ≡ []
  nobody [] f = refl
  nobody (x ∷ xs) f = absurd (f x (inl refl))

  -- ---- the same elements

  abbrev pub Same : List X → List X → Type 0
  Same xs ys = (x : X) → (In x xs → In x ys) × (In x ys → In x xs)

  pub same_filtered : (p : X → Bool) (xs ys : List X) → Same xs ys → Same (filter p xs) (filter p ys)
  same_filtered p xs ys same x = (
    λ at. let r = of_filter p xs x at in to_filter p ys x ((same x).0 r.0) r.1,
    λ at. let r = of_filter p ys x at in to_filter p xs x ((same x).1 r.0) r.1,
  )

  pub same_parted : (p : X → Bool) (xs : List X) → Same (filter p xs ++ filter (λ x. not (p x)) xs) xs
  same_parted p xs x = (
    λ at. elim (in_either (filter p xs) (filter (λ x. not (p x)) xs) x at) [
      | inl a ↦ (of_filter p xs x a).0
      | inr b ↦ (of_filter (λ x. not (p x)) xs x b).0
    ],
    λ at. by (p x) refl at,
  )
    where
      by : (b : Bool) → p x ≡ b → In x xs → In x (filter p xs ++ filter (λ x. not (p x)) xs)
      by true is at = in_first (filter p xs) (filter (λ x. not (p x)) xs) x (to_filter p xs x at is)
      by false is at =
          in_second (filter p xs) (filter (λ x. not (p x)) xs) x (to_filter (λ x. not (p x)) xs x at (ap not is))

  -- ---- pairs

  module _ (R : X → X → Type 0) where
    pub pairs_of : (xs : List X) → ((x y : X) → In x xs → In y xs → R x y) → Pairs R xs
    pairs_of [] f = tt
    pairs_of (x ∷ xs) f = (
      to_all (R x) xs (λ y at. f x y (inl refl) (inr at)),
      pairs_of xs (λ y z at bt. f y z (inr at) (inr bt)),
    )

    pub pairs_filtered : (p : X → Bool) (xs : List X) → Pairs R xs → Pairs R (filter p xs)
    pairs_filtered p [] pairs = tt
    pairs_filtered p (x ∷ xs) pairs = by (p x) (pairs_filtered p xs pairs.1)
      where
        by : (b : Bool) → Pairs R (filter p xs) → Pairs R (cond b (x ∷ filter p xs) (filter p xs))
        by true rest = (all_filtered (R x) p xs pairs.0, rest)
        by false rest = rest

    pub pairs_joined : (xs ys : List X) → Pairs R xs → Pairs R ys → ((x y : X) → In x xs → In y ys → R x y)
        → Pairs R (xs ++ ys)
    pairs_joined [] ys a b f = b
    pairs_joined (x ∷ xs) ys a b f = (
      all_joined (R x) xs ys a.0 (to_all (R x) ys (λ y at. f x y (inl refl) at)),
      pairs_joined xs ys a.1 b (λ u v p q. f u v (inr p) q),
    )

    pub pairs_first : (xs ys : List X) → Pairs R (xs ++ ys) → Pairs R xs
    pairs_first [] ys a = tt
    pairs_first (x ∷ xs) ys a = (all_first (R x) xs ys a.0, pairs_first xs ys a.1)

    pub pairs_second : (xs ys : List X) → Pairs R (xs ++ ys) → Pairs R ys
    pairs_second [] ys a = a
    pairs_second (x ∷ xs) ys a = pairs_second xs ys a.1

    pub pairs_across : (xs ys : List X) (x y : X) → Pairs R (xs ++ ys) → In x xs → In y ys → R x y
    pairs_across [] ys x y a at bt = absurd at
    pairs_across (u ∷ us) ys x y a (inl same) bt =
        subst (λ (z : X). R z y) (sym same) (of_all (R u) (us ++ ys) y a.0 (in_second us ys y bt))
    pairs_across (u ∷ us) ys x y a (inr at) bt = pairs_across us ys x y a.1 at bt

    -- of two elements that are one or differ
    pub pairs_at : ((x y : X) → R x y → R y x) → (xs : List X) (x y : X) → Pairs R xs → In x xs → In y xs
        → (x ≡ y) ⊎ R x y
    pairs_at turn [] x y a at bt = absurd at
    pairs_at turn (u ∷ us) x y a (inl e) (inl f) = inl (e ∙ sym f)
    pairs_at turn (u ∷ us) x y a (inl e) (inr bt) = inr (subst (λ (z : X). R z y) (sym e) (of_all (R u) us y a.0 bt))
    pairs_at turn (u ∷ us) x y a (inr at) (inl f) =
        inr (turn y x (subst (λ (z : X). R z x) (sym f) (of_all (R u) us x a.0 at)))
    pairs_at turn (u ∷ us) x y a (inr at) (inr bt) = pairs_at turn us x y a.1 at bt

    pub pairs_parted : ((x y : X) → R x y → R y x) → (p : X → Bool) (xs : List X) → Pairs R xs
        → Pairs R (filter p xs ++ filter (λ x. not (p x)) xs)
    pairs_parted turn p xs pairs =
        pairs_joined (filter p xs) (filter (λ x. not (p x)) xs) (pairs_filtered p xs pairs)
        (pairs_filtered (λ x. not (p x)) xs pairs)
        (λ x y at bt.
        let a = of_filter p xs x at in
        let b = of_filter (λ x. not (p x)) xs y bt in
        elim (pairs_at turn xs x y pairs a.0 b.0) [
          | inl e ↦ clash (p y) (ap p (sym e) ∙ a.1) (turned (p y) b.1)
          | inr r ↦ r
        ])

  pub pairs_by : (R S : X → X → Type 0) (xs : List X) → ((x y : X) → R x y → S x y) → Pairs R xs → Pairs S xs
  pairs_by R S [] f a = tt
  pairs_by R S (x ∷ xs) f a = (all_by (R x) (S x) xs (f x) a.0, pairs_by R S xs f a.1)

  abbrev pub NotBoth : (X → Bool) → X → X → Type 0
  NotBoth p x y = p x ≡ true → p y ≡ true → ⊥

  -- where no two pass, one that passes is the only one
  pub only_one : (p : X → Bool) (xs : List X) (x : X) → Pairs (NotBoth p) xs → In x xs → p x ≡ true
      → filter p xs ≡ x ∷ []
  only_one p [] x pairs at is = absurd at
  only_one p (y ∷ ys) x pairs (inl same) is =
      ap (λ b. cond b (y ∷ filter p ys) (filter p ys)) (ap p (sym same) ∙ is)
      ∙ ap (λ rest. y ∷ rest) (filter_empty p ys (λ z at. not_so (p z) (λ other.
      of_all (NotBoth p y) ys z pairs.0 at (ap p (sym same) ∙ is) other)))
      ∙ ap (λ z. z ∷ []) (sym same)
  only_one p (y ∷ ys) x pairs (inr at) is =
      ap (λ b. cond b (y ∷ filter p ys) (filter p ys))
      (not_so (p y) (λ here. of_all (NotBoth p y) ys x pairs.0 at here is))
      ∙ only_one p ys x pairs.1 at is

  -- ---- some element

  pub any_none : (p : X → Bool) (xs : List X) → list_any p xs ≡ false → (x : X) → In x xs → p x ≡ false
  any_none p [] is x at = absurd at
  any_none p (y ∷ ys) is x (inl same) = ap p same ∙ (neither (p y) (list_any p ys) is).0
  any_none p (y ∷ ys) is x (inr at) = any_none p ys (neither (p y) (list_any p ys) is).1 x at

  pub any_some : (p : X → Bool) (xs : List X) → list_any p xs ≡ true → (x : X) × In x xs × (p x ≡ true)
  any_some p [] is = absurd (cc)
  any_some p (y ∷ ys) is =
      elim (or_cases (p y) (list_any p ys) is) [
        | inl here ↦ (y, inl refl, here)
        | inr there ↦ let r = any_some p ys there in (r.0, inr r.1, r.2)
      ]

  pub any_in : (p : X → Bool) (xs : List X) (x : X) → In x xs → p x ≡ true → list_any p xs ≡ true
  any_in p [] x at is = absurd at
  any_in p (y ∷ ys) x (inl same) is = or_first (p y) (list_any p ys) (ap p (sym same) ∙ is)
  any_in p (y ∷ ys) x (inr at) is = or_second (p y) (list_any p ys) (any_in p ys x at is)

module _ {X Y : Type 0} (f : X → Y) where
  pub of_map : (xs : List X) (y : Y) → In y (map f xs) → (x : X) × In x xs × (y ≡ f x)
  of_map [] y at = absurd at
  of_map (x ∷ xs) y (inl same) = (x, inl refl, same)
  of_map (x ∷ xs) y (inr at) = let r = of_map xs y at in (r.0, inr r.1, r.2)

  pub to_map : (xs : List X) (x : X) → In x xs → In (f x) (map f xs)
  to_map [] x at = absurd at
  to_map (z ∷ xs) x (inl same) = inl (ap f same)
  to_map (z ∷ xs) x (inr at) = inr (to_map xs x at)

  pub all_map : (P : Y → Type 0) (xs : List X) → AllByRecursion (λ x. P (f x)) xs → AllByRecursion P (map f xs)
  all_map P [] all = tt
  all_map P (x ∷ xs) all = (all.0, all_map P xs all.1)

  pub pairs_map : (R : Y → Y → Type 0) (xs : List X) → Pairs (λ a b. R (f a) (f b)) xs → Pairs R (map f xs)
  pairs_map R [] pairs = tt
  pairs_map R (x ∷ xs) pairs = (all_map (R (f x)) xs pairs.0, pairs_map R xs pairs.1)

  all_before : (P : Y → Type 0) (Q : X → Type 0) → ((x : X) → P (f x) → Q x) → (xs : List X)
      → AllByRecursion P (map f xs) → AllByRecursion Q xs
  all_before P Q g [] all = tt
  all_before P Q g (x ∷ xs) all = (g x all.0, all_before P Q g xs all.1)

  pub pairs_before : (R : Y → Y → Type 0) (S : X → X → Type 0) → ((a b : X) → R (f a) (f b) → S a b)
      → (xs : List X) → Pairs R (map f xs) → Pairs S xs
  pairs_before R S g [] pairs = tt
  pairs_before R S g (x ∷ xs) pairs = (all_before (R (f x)) (S x) (g x) xs pairs.0, pairs_before R S g xs pairs.1)

  pub map_joined : (xs ys : List X) → map f (xs ++ ys) ≡ map f xs ++ map f ys
  map_joined [] ys = refl
  map_joined (x ∷ xs) ys = ap (λ more. f x ∷ more) (map_joined xs ys)

  pub map_filtered : (p : Y → Bool) (xs : List X) → map f (filter (λ x. p (f x)) xs) ≡ filter p (map f xs)
  map_filtered p [] = refl
  map_filtered p (x ∷ xs) =
      through (p (f x)) ∙ ap (λ more. cond (p (f x)) (f x ∷ more) more) (map_filtered p xs)
    where
      through : (b : Bool) → map f (cond b (x ∷ filter (λ x. p (f x)) xs) (filter (λ x. p (f x)) xs))
          ≡ cond b (f x ∷ map f (filter (λ x. p (f x)) xs)) (map f (filter (λ x. p (f x)) xs))
      through true = refl
      through false = refl

-- ---- elements by index

module _ {X : Type 0} where
  pub contains_in : (xs : List X) (x : X) → Contains xs x → In x xs
  contains_in xs x c = found xs c.0 c.1 c.2
    where
      found : (ys : List X) (k : ℕ) → k < length ys → slice_index_or ys k x ≡ x → In x ys
      found [] k low e = absurd (omega (arith, low))
      found (y ∷ ys) zero low e = inl (sym e)
      found (y ∷ ys) (suc k) low e = inr (found ys k (omega (arith, low)) e)

  pub in_contains : (xs : List X) (x : X) → In x xs → Contains xs x
  in_contains [] x at = absurd at
  in_contains (y ∷ ys) x (inl same) = (0, omega arith, sym same)
  in_contains (y ∷ ys) x (inr at) =
      let r = in_contains ys x at in
      let low = r.1 in
      (suc r.0, omega (arith, low), r.2)

  pub nth_in : (xs : List X) (k : ℕ) (d : X) → k < length xs → In (slice_index_or xs k d) xs
  nth_in [] k d low = absurd (omega (arith, low))
  nth_in (x ∷ xs) zero d low = inl refl
  nth_in (x ∷ xs) (suc k) d low = inr (nth_in xs k d (omega (arith, low)))

  pub got_in : (xs : List X) (k : ℕ) (x : X) → slice_get xs k ≡ Some x → In x xs
  got_in [] k x is = cc (is)
  got_in (y ∷ ys) zero x is = inl (sym (one y x is))
    where
      one : (y x : X) → Some y ≡ Some x → y ≡ x
      one y x e = cc
  got_in (y ∷ ys) (suc k) x is = inr (got_in ys k x is)

  -- where more is behind
  pub got_on : (xs more : List X) (n : ℕ) (x : X) → slice_get xs n ≡ Some x → slice_get (xs ++ more) n ≡ Some x
  got_on [] more n x e = cc (e)
  got_on (z ∷ xs) more zero x e = e
  got_on (z ∷ xs) more (suc n) x e = got_on xs more n x e

  pub taken_in : (k : ℕ) (xs : List X) (x : X) → In x (take k xs) → In x xs
  taken_in zero xs x at = absurd at
  taken_in (suc k) [] x at = absurd at
  taken_in (suc k) (y ∷ ys) x (inl same) = inl same
  taken_in (suc k) (y ∷ ys) x (inr at) = inr (taken_in k ys x at)

  pub all_at : (P : X → Type 0) (xs : List X) (i : ℕ) (x : X) → AllByRecursion P xs → i < length xs
      → x ≡ get_or xs i x → P x
  all_at P [] i x all low is = absurd (omega (arith, low))
  all_at P (y ∷ xs) zero x all low is = subst P (sym is) all.0
  all_at P (y ∷ xs) (suc i) x all low is = all_at P xs i x all.1 (omega (arith, low)) is

  -- what is left from an element on
  pub from_here : (xs : List X) (i : ℕ) (x : X) → i < length xs → x ≡ get_or xs i x → drop i xs ≡ x ∷ drop (i + 1) xs
  from_here xs i x low is = drop_more xs i x low ∙ ap (λ z. z ∷ drop (i + 1) xs) (sym is)

  pub all_index : (P : X → Type 0) (xs : List X) → All P xs → AllByRecursion P xs
  all_index P [] all = tt
  all_index P (x ∷ xs) all = (all 0 x (omega arith), all_index P xs (λ k d low. all (suc k) d (omega (arith, low))))

  pub pairs_index : (R : X → X → Type 0) (xs : List X) → Pairs R xs → AllPairs R xs
  pairs_index R [] pairs i j d before low = absurd (omega (arith, low))
  pairs_index R (x ∷ xs) pairs zero zero d before low = absurd (omega (arith, before))
  pairs_index R (x ∷ xs) pairs zero (suc j) d before low =
      of_all (R x) xs (slice_index_or xs j d) pairs.0 (nth_in xs j d (omega (arith, low)))
  pairs_index R (x ∷ xs) pairs (suc i) zero d before low = absurd (omega (arith, before))
  pairs_index R (x ∷ xs) pairs (suc i) (suc j) d before low =
      pairs_index R xs pairs.1 i j d (omega (arith, before)) (omega (arith, low))

  pub index_pairs : (R : X → X → Type 0) (xs : List X) → AllPairs R xs → Pairs R xs
  index_pairs R [] h = tt
  index_pairs R (x ∷ xs) h = (
    all_index (R x) xs (λ k d low. h 0 (suc k) d (omega arith) (omega (arith, low))),
    index_pairs R xs (λ i j d before low. h (suc i) (suc j) d (omega (arith, before)) (omega (arith, low))),
  )

-- ---- more of pairs

module _ {X : Type 0} (R : X → X → Type 0) where
  pub pairs_behind : (xs : List X) (x : X) → Pairs R xs → ((y : X) → In y xs → R y x) → Pairs R (xs ++ x ∷ [])
  pairs_behind [] x pairs f = (tt, tt)
  pairs_behind (y ∷ ys) x pairs f = (
    to_all (R y) (ys ++ x ∷ []) (λ z at. elim (in_either ys (x ∷ []) z at) [
      | inl a ↦ of_all (R y) ys z pairs.0 a
      | inr b ↦ elim b [ inl same ↦ subst (R y) (sym same) (f y (inl refl)) | inr bad ↦ absurd bad ]
    ]),
    pairs_behind ys x pairs.1 (λ z at. f z (inr at)),
  )

  -- without an element
  pub pairs_without : (before behind : List X) (x : X) → Pairs R (before ++ x ∷ behind)
      → Pairs R (before ++ behind)
  pairs_without [] behind x pairs = pairs.1
  pairs_without (y ∷ before) behind x pairs = (
    to_all (R y) (before ++ behind) (λ z at. of_all (R y) (before ++ x ∷ behind) z pairs.0
        (elim (in_either before behind z at) [
          | inl a ↦ in_first before (x ∷ behind) z a
          | inr b ↦ in_second before (x ∷ behind) z (inr b)
        ])),
    pairs_without before behind x pairs.1,
  )

  pub pairs_short : (xs : List X) → length xs ≤ 1 → Pairs R xs
  pairs_short [] low = tt
  pairs_short (x ∷ []) low = (tt, tt)
  pairs_short (x ∷ y ∷ ys) low = absurd (omega (arith, low))

module _ {X Y : Type 0} (f : X → Y) where
  pub pairs_mapped : (R : X → X → Type 0) (S : Y → Y → Type 0) (xs : List X) → Pairs R xs
      → ((x z : X) → R x z → S (f x) (f z)) → Pairs S (map f xs)
  pairs_mapped R S [] pairs to = tt
  pairs_mapped R S (x ∷ xs) pairs to = (
    to_all (S (f x)) (map f xs) (λ y at.
        let r = of_map f xs y at in subst (S (f x)) (sym r.2) (to x r.0 (of_all (R x) xs r.0 pairs.0 r.1))),
    pairs_mapped R S xs pairs.1 to,
  )

  pub pairs_unmapped : (R : Y → Y → Type 0) (xs : List X) → Pairs R (map f xs) → Pairs (λ x z. R (f x) (f z)) xs
  pairs_unmapped R [] pairs = tt
  pairs_unmapped R (x ∷ xs) pairs = (
    to_all (λ z. R (f x) (f z)) xs (λ z at. of_all (R (f x)) (map f xs) (f z) pairs.0 (to_map f xs z at)),
    pairs_unmapped R xs pairs.1,
  )

pub distinct_pairs : (ns : List ℕ) → IsDistinct nat_eq ns → Pairs (λ (one other : ℕ). one ≡ other → ⊥) ns
unfolding IsDistinct
distinct_pairs [] distinct = tt
distinct_pairs (n ∷ ns) distinct = (
  to_all (λ m. n ≡ m → ⊥) ns (λ m at same.
      clash (nat_eq n m) (ap (nat_eq n) (sym same) ∙ number_itself n)
      (of_all (λ m. nat_eq n m ≡ false) ns m distinct.0 at)),
  distinct_pairs ns distinct.1,
)

-- what is sorted rises: each element comes before those behind it
pub rise : {K : Type 0} (R : K → K → Ordering) (xs : List K) → IsStrictlySortedBy R xs
    → Pairs (λ x other. R x other ≡ Less) xs
unfolding IsStrictlySortedBy
rise R [] h = tt
rise R (x ∷ xs) h = (h.0, rise R xs h.1)

-- ---- lists of lists

pub in_flat : {X Y : Type 0} (f : X → List Y) (xs : List X) (y : Y) → In y (flat_map f xs)
    → (x : X) × In x xs × In y (f x)
in_flat f [] y at = absurd at
in_flat f (x ∷ xs) y at =
    elim (in_either (f x) (flat_map f xs) y at) [
      | inl a ↦ (x, inl refl, a)
      | inr b ↦ let r = in_flat f xs y b in (r.0, inr r.1, r.2)
    ]

pub to_flat : {X Y : Type 0} (f : X → List Y) (xs : List X) (x : X) (y : Y) → In x xs → In y (f x)
    → In y (flat_map f xs)
to_flat f [] x y at there = absurd at
to_flat f (z ∷ xs) x y (inl same) there =
    in_first (f z) (flat_map f xs) y (subst (λ (w : _). In y (f w)) same there)
to_flat f (z ∷ xs) x y (inr at) there = in_second (f z) (flat_map f xs) y (to_flat f xs x y at there)

-- ---- lengths

module _ {X : Type 0} where
  pub shorter : (p : X → Bool) (xs : List X) → length (filter p xs) ≤ length xs
  shorter p [] = omega arith
  shorter p (x ∷ xs) = by (p x) (shorter p xs)
    where
      by : (b : Bool) → length (filter p xs) ≤ length xs
          → length (cond b (x ∷ filter p xs) (filter p xs)) ≤ suc (length xs)
      by true h = omega (arith, h)
      by false h = omega (arith, h)

-- ---- two lists that are compared place by place

module _ {X Y : Type 0} (E : X → Y → Bool) where
  -- those before a place fit
  abbrev pub FitBefore : List X → List Y → ℕ → Type 0
  FitBefore xs ys i = pointwise E xs ys ≡ pointwise E (drop i xs) (drop i ys)

  here : (xs : List X) (ys : List Y) (i : ℕ) (a : X) (b : Y) → i < length xs → length xs ≡ length ys
      → pointwise E (drop i xs) (drop i ys)
      ≡ (E (slice_index_or xs i a) (slice_index_or ys i b) && pointwise E (drop (suc i) xs) (drop (suc i) ys))
  here [] ys i a b low same = absurd (omega (arith, low))
  here (x ∷ xs) [] i a b low same = absurd (omega (arith, same))
  here (x ∷ xs) (y ∷ ys) zero a b low same = refl
  here (x ∷ xs) (y ∷ ys) (suc i) a b low same = here xs ys i a b (omega (arith, low)) (omega (arith, same))

  at_place : (xs : List X) (ys : List Y) (i : ℕ) (a : X) (b : Y) → a ≡ slice_index_or xs i a
      → b ≡ slice_index_or ys i b → E (slice_index_or xs i a) (slice_index_or ys i b) ≡ E a b
  at_place xs ys i a b one two = λ j. E (sym one j) (sym two j)

  pub fit_on : (xs : List X) (ys : List Y) (i : ℕ) (a : X) (b : Y) → i < length xs → length xs ≡ length ys
      → a ≡ slice_index_or xs i a → b ≡ slice_index_or ys i b → E a b ≡ true → FitBefore xs ys i
      → FitBefore xs ys (i + 1)
  fit_on xs ys i a b low same one two is before =
      let n : suc i ≡ i + 1 = omega arith in
      subst (FitBefore xs ys) n (before ∙ here xs ys i a b low same
      ∙ ap (λ c. c && pointwise E (drop (suc i) xs) (drop (suc i) ys)) (at_place xs ys i a b one two ∙ is))

  pub fit_off : (xs : List X) (ys : List Y) (i : ℕ) (a : X) (b : Y) → i < length xs → length xs ≡ length ys
      → a ≡ slice_index_or xs i a → b ≡ slice_index_or ys i b → E a b ≡ false → FitBefore xs ys i
      → false ≡ pointwise E xs ys
  fit_off xs ys i a b low same one two is before =
      sym (before ∙ here xs ys i a b low same
      ∙ ap (λ c. c && pointwise E (drop (suc i) xs) (drop (suc i) ys)) (at_place xs ys i a b one two ∙ is))

  pub fit_whole : (xs : List X) (ys : List Y) → length xs ≡ length ys → FitBefore xs ys (length xs)
      → true ≡ pointwise E xs ys
  fit_whole xs ys same before = sym (before ∙ ended xs ys same)
    where
      ended : (xs : List X) (ys : List Y) → length xs ≡ length ys
          → pointwise E (drop (length xs) xs) (drop (length xs) ys) ≡ true
      ended [] [] same = refl
      ended [] (y ∷ ys) same = absurd (omega (arith, same))
      ended (x ∷ xs) [] same = absurd (omega (arith, same))
      ended (x ∷ xs) (y ∷ ys) same = ended xs ys (omega (arith, same))
