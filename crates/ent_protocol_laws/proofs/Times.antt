-- How often a number stands in a list.
use Rattle.std.proofs.Common.{◌≡◌, ◌≤◌, ◌+◌, ℕ, suc, Bool, true, false, cond, not, ◌==◌, List, [], ◌∷◌, ◌++◌}
use Rattle.std.proofs.Common.{map, take, drop, refl, sym, ap, subst, ◌∙◌, inl, inr, arith, nat_lt}
use Rattle.std.specs.List.{filter}
use Rattle.std.proofs.lemmas.List.{map-append, take-append-drop}
use Rattle.ent_protocol.specs.State.{inserted, by_number}
use Rattle.ent_lists.specs.Elements.{In, Pairs, to_all, same_number, number_itself}
use Rattle.ent_lists.proofs.Numbers.{one_added}
pub use Rattle.ent_lists.proofs.Numbers.{one_if, one_more}

abbrev pub times : ℕ → List ℕ → ℕ
times n [] = 0
times n (m ∷ more) = one_if (m == n) (times n more)

one_behind : (b : Bool) (j k : ℕ) → one_if b (j + k) ≡ j + one_if b k
one_behind true j k = omega arith
one_behind false j k = refl

one_swapped : (a b : Bool) (k : ℕ) → one_if a (one_if b k) ≡ one_if b (one_if a k)
one_swapped true true k = refl
one_swapped true false k = refl
one_swapped false true k = refl
one_swapped false false k = refl

pub times_joined : (n : ℕ) (xs ys : List ℕ) → times n (xs ++ ys) ≡ times n xs + times n ys
times_joined n [] ys = nothing_before (times n ys)
  where
    nothing_before : (k : ℕ) → k ≡ 0 + k
    nothing_before k = omega arith
times_joined n (x ∷ xs) ys =
    ap (one_if (x == n)) (times_joined n xs ys) ∙ one_added (x == n) (times n xs) (times n ys)

-- a number that stands in a list, and one that does somewhere
pub stands : (n : ℕ) (xs : List ℕ) → In n xs → 1 ≤ times n xs
stands n [] at = absurd at
stands n (x ∷ xs) (inl same) = by (x == n) (ap (λ k. x == k) same ∙ number_itself x)
  where
    by : (b : Bool) → b ≡ true → 1 ≤ one_if b (times n xs)
    by true e = omega arith
    by false e = cc
stands n (x ∷ xs) (inr at) =
    let there = stands n xs at in
    let more = one_more (x == n) (times n xs) in
    omega (arith, there, more)

pub stood : (n : ℕ) (xs : List ℕ) → 1 ≤ times n xs → In n xs
stood n [] h = absurd (omega (arith, h))
stood n (x ∷ xs) h = by (x == n) refl h (stood n xs)
  where
    by : (b : Bool) → (x == n) ≡ b → 1 ≤ one_if b (times n xs) → (1 ≤ times n xs → In n xs) → In n (x ∷ xs)
    by true is h rest = inl (sym (same_number x n is))
    by false is h rest = inr (rest h)

-- numbers that stand once are distinct
pub once_apart : (xs : List ℕ) → ((n : ℕ) → times n xs ≤ 1) → Pairs (λ a b. a ≡ b → ⊥) xs
once_apart [] h = tt
once_apart (x ∷ xs) h = (
  to_all (λ b. x ≡ b → ⊥) xs (λ y at same. twice x (number_itself x) (h x)
      (stands x xs (subst (λ k. In k xs) (sym same) at))),
  once_apart xs (λ n. less n (h n)),
)
  where
    twice : (n : ℕ) → (x == n) ≡ true → times n (x ∷ xs) ≤ 1 → 1 ≤ times n xs → ⊥
    twice n is low there =
        let e : times n (x ∷ xs) ≡ suc (times n xs) = ap (λ b. one_if b (times n xs)) is in
        absurd (omega (arith, e, low, there))

    less : (n : ℕ) → times n (x ∷ xs) ≤ 1 → times n xs ≤ 1
    less n low = let more = one_more (x == n) (times n xs) in omega (arith, low, more)

-- ---- by a key

module _ {X : Type 0} (key : X → ℕ) (n : ℕ) where
  abbrev pub count : List X → ℕ
  count xs = times n (map key xs)

  pub count_joined : (xs ys : List X) → count (xs ++ ys) ≡ count xs + count ys
  count_joined xs ys = ap (times n) (map-append key xs ys) ∙ times_joined n (map key xs) (map key ys)

  pub count_parted : (p : X → Bool) (xs : List X) → count xs ≡ count (filter p xs) + count (filter (λ x. not (p x)) xs)
  count_parted p [] = refl
  count_parted p (x ∷ xs) = by (p x) (count_parted p xs)
    where
      by : (b : Bool) → count xs ≡ count (filter p xs) + count (filter (λ x. not (p x)) xs)
          → one_if (key x == n) (count xs)
          ≡ count (cond b (x ∷ filter p xs) (filter p xs))
          + count (cond (not b) (x ∷ filter (λ x. not (p x)) xs) (filter (λ x. not (p x)) xs))
      by true e =
          ap (one_if (key x == n)) e
          ∙ one_added (key x == n) (count (filter p xs)) (count (filter (λ x. not (p x)) xs))
      by false e =
          ap (one_if (key x == n)) e
          ∙ one_behind (key x == n) (count (filter p xs)) (count (filter (λ x. not (p x)) xs))

  pub count_inserted : (number : X → ℕ) (x : X) (xs : List X) → count (inserted number x xs) ≡ count (x ∷ xs)
  count_inserted number x [] = refl
  count_inserted number x (y ∷ ys) = by (nat_lt (number x) (number y)) (count_inserted number x ys)
    where
      by : (b : Bool) → count (inserted number x ys) ≡ count (x ∷ ys)
          → count (cond b (x ∷ y ∷ ys) (y ∷ inserted number x ys)) ≡ count (x ∷ y ∷ ys)
      by true e = refl
      by false e = ap (one_if (key y == n)) e ∙ one_swapped (key y == n) (key x == n) (count ys)

  pub count_by_number : (number : X → ℕ) (xs : List X) → count (by_number number xs) ≡ count xs
  count_by_number number [] = refl
  count_by_number number (x ∷ xs) =
      count_inserted number x (by_number number xs) ∙ ap (one_if (key x == n)) (count_by_number number xs)

  pub count_split : (k : ℕ) (xs : List X) → count xs ≡ count (take k xs) + count (drop k xs)
  count_split k xs = ap count (sym (take-append-drop k xs)) ∙ count_joined (take k xs) (drop k xs)

  pub count_mapped : {Y : Type 0} (other : Y → ℕ) (f : Y → X) (ys : List Y)
      → ((y : Y) → In y ys → key (f y) ≡ other y)
      → count (map f ys) ≡ times n (map other ys)
  count_mapped other f [] same = refl
  count_mapped other f (y ∷ ys) same =
      let rest = count_mapped other f ys (λ z at. same z (inr at)) in
      λ i. one_if (same y (inl refl) i == n) (rest i)

  pub count_in : (xs : List X) (x : X) → In x xs → key x ≡ n → 1 ≤ count xs
  count_in [] x at own = absurd at
  count_in (y ∷ ys) x (inl same) own = by (key y == n) (ap (λ z. key z == n) (sym same) ∙ ap (λ k. k == n) own
      ∙ number_itself n)
    where
      by : (b : Bool) → b ≡ true → 1 ≤ one_if b (count ys)
      by true e = omega arith
      by false e = cc
  count_in (y ∷ ys) x (inr at) own =
      let there = count_in ys x at own in
      let more = one_more (key y == n) (count ys) in
      omega (arith, there, more)

  pub in_count : (xs : List X) → 1 ≤ count xs → (x : X) × In x xs × (key x ≡ n)
  in_count [] h = absurd (omega (arith, h))
  in_count (y ∷ ys) h = by (key y == n) refl h (in_count ys)
    where
      by : (b : Bool) → (key y == n) ≡ b → 1 ≤ one_if b (count ys)
          → (1 ≤ count ys → (x : X) × In x ys × (key x ≡ n)) → (x : X) × In x (y ∷ ys) × (key x ≡ n)
      by true is h rest = (y, inl refl, same_number (key y) n is)
      by false is h rest = let r = rest h in (r.0, inr r.1, r.2)

  twice : (z : X) (zs : List X) (x y : X) → x ≡ z → In y zs → key x ≡ n → key y ≡ n
      → one_if (key z == n) (count zs) ≤ 1 → ⊥
  twice z zs x y a b e f low =
      let is : (key z == n) ≡ true = ap (λ w. key w == n) (sym a) ∙ ap (λ k. k == n) e ∙ number_itself n in
      let grown : one_if (key z == n) (count zs) ≡ suc (count zs) = ap (λ c. one_if c (count zs)) is in
      let there = count_in zs y b f in
      absurd (omega (arith, grown, there, low))

  -- two of one number are one, where it stands once
  pub one_of : (xs : List X) (x y : X) → In x xs → In y xs → key x ≡ n → key y ≡ n → count xs ≤ 1 → x ≡ y
  one_of [] x y at bt e f low = absurd at
  one_of (z ∷ zs) x y (inl a) (inl b) e f low = a ∙ sym b
  one_of (z ∷ zs) x y (inl a) (inr b) e f low = absurd (twice z zs x y a b e f low)
  one_of (z ∷ zs) x y (inr a) (inl b) e f low = absurd (twice z zs y x b a f e low)
  one_of (z ∷ zs) x y (inr a) (inr b) e f low =
      let more = one_more (key z == n) (count zs) in
      one_of zs x y a b e f (omega (arith, low, more))
