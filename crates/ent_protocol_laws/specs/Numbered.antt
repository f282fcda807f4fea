-- Lists by number: who stands in one, in which order, and how many.
use Rattle.std.proofs.Common.{◌≡◌, ◌⊎◌, ◌<◌, ℕ, suc, Bool, true, false, cond, ◌==◌, List, [], ◌∷◌, map, length, refl}
use Rattle.std.proofs.Common.{sym, ap, subst, ◌∙◌, inl, inr, arith, nat_lt}
use Rattle.std.specs.List.{AllByRecursion, filter}
use Rattle.std.proofs.lemmas.Bool.{ltb-true, ltb-false}
use Rattle.ent_lists.specs.Elements.{In, Pairs, of_all, to_all, of_map, to_map, pairs_by, filter_empty, not_so}
use Rattle.ent_lists.specs.Elements.{same_number, number_itself}
use Rattle.ent_protocol.specs.State.{inserted, by_number}

module _ {X : Type 0} (number : X → ℕ) where
  abbrev pub Below : X → X → Type 0
  Below one other = number one < number other

  abbrev pub Apart : X → X → Type 0
  Apart one other = number one ≡ number other → ⊥

  pub from_inserted : (x : X) (xs : List X) (y : X) → In y (inserted number x xs) → (y ≡ x) ⊎ In y xs
  from_inserted x [] y (inl same) = inl same
  from_inserted x [] y (inr bad) = absurd bad
  from_inserted x (z ∷ xs) y at =
      by (nat_lt (number x) (number z)) at (λ (h : In y (inserted number x xs)). from_inserted x xs y h)
    where
      by : (b : Bool) → In y (cond b (x ∷ z ∷ xs) (z ∷ inserted number x xs))
          → (In y (inserted number x xs) → (y ≡ x) ⊎ In y xs) → (y ≡ x) ⊎ In y (z ∷ xs)
      by true (inl same) rest = inl same
      by true (inr more) rest = inr more
      by false (inl same) rest = inr (inl same)
      by false (inr more) rest = elim (rest more) [ inl a ↦ inl a | inr b ↦ inr (inr b) ]

  pub from_by_number : (xs : List X) (y : X) → In y (by_number number xs) → In y xs
  from_by_number [] y at = absurd at
  from_by_number (x ∷ xs) y at =
      elim (from_inserted x (by_number number xs) y at) [ inl a ↦ inl a | inr b ↦ inr (from_by_number xs y b) ]

  pub to_inserted : (x : X) (xs : List X) (y : X) → (y ≡ x) ⊎ In y xs → In y (inserted number x xs)
  to_inserted x [] y (inl same) = inl same
  to_inserted x [] y (inr bad) = absurd bad
  to_inserted x (z ∷ xs) y at = by (nat_lt (number x) (number z)) at (to_inserted x xs y)
    where
      by : (b : Bool) → (y ≡ x) ⊎ In y (z ∷ xs) → ((y ≡ x) ⊎ In y xs → In y (inserted number x xs))
          → In y (cond b (x ∷ z ∷ xs) (z ∷ inserted number x xs))
      by true (inl same) rest = inl same
      by true (inr more) rest = inr more
      by false (inl same) rest = inr (rest (inl same))
      by false (inr (inl here)) rest = inl here
      by false (inr (inr there)) rest = inr (rest (inr there))

  pub to_by_number : (xs : List X) (y : X) → In y xs → In y (by_number number xs)
  to_by_number [] y at = absurd at
  to_by_number (x ∷ xs) y (inl same) = to_inserted x (by_number number xs) y (inl same)
  to_by_number (x ∷ xs) y (inr at) = to_inserted x (by_number number xs) y (inr (to_by_number xs y at))

  inserted_ascends : (x : X) (xs : List X) → Pairs Below xs → AllByRecursion (Apart x) xs
      → Pairs Below (inserted number x xs)
  inserted_ascends x [] ascend apart = (tt, tt)
  inserted_ascends x (y ∷ ys) ascend apart =
      by (nat_lt (number x) (number y)) refl (inserted_ascends x ys ascend.1 apart.1)
    where
      by : (b : Bool) → nat_lt (number x) (number y) ≡ b → Pairs Below (inserted number x ys)
          → Pairs Below (cond b (x ∷ y ∷ ys) (y ∷ inserted number x ys))
      by true is rest =
          let low = ltb-true (number x) (number y) is in (
            (
              low,
              to_all (Below x) ys
                  (λ z at. let high = of_all (Below y) ys z ascend.0 at in omega (arith, low, high)),
            ),
            ascend,
          )
      by false is rest =
          let least = ltb-false (number x) (number y) is in
          let differ = apart.0 in
          let below : Below y x = omega (arith, least, differ) in (
            to_all (Below y) (inserted number x ys) (λ z at. elim (from_inserted x ys z at) [
              | inl same ↦ subst (Below y) (sym same) below
              | inr there ↦ of_all (Below y) ys z ascend.0 there
            ]),
            rest,
          )

  pub by_number_ascends : (xs : List X) → Pairs Apart xs → Pairs Below (by_number number xs)
  by_number_ascends [] apart = tt
  by_number_ascends (x ∷ xs) apart =
      inserted_ascends x (by_number number xs) (by_number_ascends xs apart.1)
      (to_all (Apart x) (by_number number xs)
      (λ y at. of_all (Apart x) xs y apart.0 (from_by_number xs y at)))

  inserted_long : (x : X) (xs : List X) → length (inserted number x xs) ≡ suc (length xs)
  inserted_long x [] = refl
  inserted_long x (y ∷ ys) = by (nat_lt (number x) (number y)) (inserted_long x ys)
    where
      by : (b : Bool) → length (inserted number x ys) ≡ suc (length ys)
          → length (cond b (x ∷ y ∷ ys) (y ∷ inserted number x ys)) ≡ suc (suc (length ys))
      by true e = refl
      by false e = ap suc e

  pub by_number_long : (xs : List X) → length (by_number number xs) ≡ length xs
  by_number_long [] = refl
  by_number_long (x ∷ xs) = inserted_long x (by_number number xs) ∙ ap suc (by_number_long xs)

  pub below_apart : (xs : List X) → Pairs Below xs → Pairs Apart xs
  below_apart xs ascend = pairs_by Below Apart xs (λ x y low same. absurd (omega (arith, low, same))) ascend

  -- elements of one number are one
  pub one_of : (xs : List X) (x y : X) → Pairs Apart xs → In x xs → In y xs → number x ≡ number y → x ≡ y
  one_of [] x y apart at bt same = absurd at
  one_of (z ∷ zs) x y apart (inl a) (inl b) same = a ∙ sym b
  one_of (z ∷ zs) x y apart (inl a) (inr b) same =
      absurd (of_all (Apart z) zs y apart.0 b (sym (ap number a) ∙ same))
  one_of (z ∷ zs) x y apart (inr a) (inl b) same =
      absurd (of_all (Apart z) zs x apart.0 a (sym (ap number b) ∙ sym same))
  one_of (z ∷ zs) x y apart (inr a) (inr b) same = one_of zs x y apart.1 a b same

  -- just one of a number stands among those that are apart
  pub one_passes : (xs : List X) (x : X) (n : ℕ) → Pairs Apart xs → In x xs → number x ≡ n
      → filter (λ y. number y == n) xs ≡ x ∷ []
  one_passes [] x n apart at own = absurd at
  one_passes (y ∷ ys) x n apart (inl same) own =
      let is : (number y == n) ≡ true = ap (λ k. k == n) (ap number (sym same) ∙ own) ∙ number_itself n in
      ap (λ b. cond b (y ∷ filter (λ z. number z == n) ys) (filter (λ z. number z == n) ys)) is
      ∙ ap (λ more. y ∷ more) (filter_empty (λ z. number z == n) ys (λ z at. not_so (number z == n) (λ e.
      of_all (Apart y) ys z apart.0 at (ap number (sym same) ∙ own ∙ sym (same_number (number z) n e)))))
      ∙ ap (λ z. z ∷ []) (sym same)
  one_passes (y ∷ ys) x n apart (inr at) own =
      let is : (number y == n) ≡ false =
      not_so (number y == n) (λ e. of_all (Apart y) ys x apart.0 at (same_number (number y) n e ∙ sym own)) in
      ap (λ b. cond b (y ∷ filter (λ z. number z == n) ys) (filter (λ z. number z == n) ys)) is
      ∙ one_passes ys x n apart.1 at own

  -- keys that are apart
  pub keys_apart : (xs : List X) → Pairs (λ (one other : ℕ). one ≡ other → ⊥) (map number xs) → Pairs Apart xs
  keys_apart [] apart = tt
  keys_apart (x ∷ xs) apart = (
    to_all (Apart x) xs
        (λ y at. of_all (λ other. number x ≡ other → ⊥) (map number xs) (number y) apart.0 (to_map number xs y at)),
    keys_apart xs apart.1,
  )

  pub keys_ascend : (xs : List X) → Pairs Below xs → Pairs (λ (one other : ℕ). one < other) (map number xs)
  keys_ascend [] ascend = tt
  keys_ascend (x ∷ xs) ascend = (
    to_all (λ other. number x < other) (map number xs) (λ n at.
        let r = of_map number xs n at in
        let low = of_all (Below x) xs r.0 ascend.0 r.1 in
        subst (λ k. number x < k) (sym r.2) low),
    keys_ascend xs ascend.1,
  )

  behind : (x : X) (xs : List X) (y : X) (ys : List X) → x ≡ y → AllByRecursion (Below x) xs
      → ((z : X) → In z (x ∷ xs) → In z (y ∷ ys)) → (z : X) → In z xs → In z ys
  behind x xs y ys same low f z at =
      elim (f z (inr at)) [
        | inl here ↦
            let high : number x < number z = of_all (Below x) xs z low at in
            let e : number z ≡ number y = ap number here in
            let d : number x ≡ number y = ap number same in
            absurd (omega (arith, high, e, d))
        | inr there ↦ there
      ]

  first_same : (x : X) (xs : List X) (y : X) (ys : List X) → AllByRecursion (Below x) xs
      → AllByRecursion (Below y) ys → In x (y ∷ ys) → In y (x ∷ xs) → x ≡ y
  first_same x xs y ys low high (inl same) there = same
  first_same x xs y ys low high (inr here) (inl same) = sym same
  first_same x xs y ys low high (inr here) (inr there) =
      let a : number x < number y = of_all (Below x) xs y low there in
      let b : number y < number x = of_all (Below y) ys x high here in
      absurd (omega (arith, a, b))

  -- lists in order of the same elements are the same
  pub same_lists : (xs ys : List X) → Pairs Below xs → Pairs Below ys → ((z : X) → In z xs → In z ys)
      → ((z : X) → In z ys → In z xs) → xs ≡ ys
  same_lists [] [] low high f g = refl
  same_lists [] (y ∷ ys) low high f g = absurd (g y (inl refl))
  same_lists (x ∷ xs) [] low high f g = absurd (f x (inl refl))
  same_lists (x ∷ xs) (y ∷ ys) low high f g =
      let same : x ≡ y = first_same x xs y ys low.0 high.0 (f x (inl refl)) (g y (inl refl)) in
      let rest : xs ≡ ys =
      same_lists xs ys low.1 high.1 (behind x xs y ys same low.0 f) (behind y ys x xs (sym same) high.0 g) in
      λ i. same i ∷ rest i
