-- Lists by ascending numbers.
use Rattle.std.proofs.Common.{◌≡◌, ℕ, suc, ◌<◌, List, [], ◌∷◌, length, get_or, refl, sym, ap, ◌∙◌, subst, arith}
use Rattle.std.proofs.Common.{inl, inr}
use Rattle.std.specs.Prelude.{AllPairs, Contains}
use Rattle.std.proofs.lemmas.Bool.{cases_lt}
use Rattle.std.proofs.lemmas.List.{get_or_default}
use Rattle.ent_lists.proofs.Contained.{contains_none, contains_cases, contains_first, contains_later}
use Rattle.ent_semantics.specs.Pool.{Posted}
use Rattle.ent_match.specs.Fault.{IsByNumber}

module _ {X : Type 0} (number : X → ℕ) where
  abbrev pub Ascends : List X → Type 0
  Ascends xs = AllPairs (λ (one other : X). number one < number other) xs

  at_place : (xs : List X) (x : X) (k : ℕ) (d : X) → k < length xs → get_or xs k x ≡ x → get_or xs k d ≡ x
  at_place xs x k d below is = get_or_default xs k d x below ∙ is

  less : (xs : List X) → Ascends xs → (x y : X) (k j : ℕ) → k < j → j < length xs → get_or xs k x ≡ x
      → get_or xs j y ≡ y → number x < number y
  less xs ascends x y k j before below is_x is_y =
      subst (λ (z : X). number z < number y) is_x
      (subst (λ (z : X). number (get_or xs k x) < number z) (at_place xs y j x below is_y) (ascends k j x before below))

  -- there is one element of a number at most
  pub same_member : (xs : List X) → Ascends xs → (x y : X) → Contains xs x → Contains xs y → number x ≡ number y → x ≡ y
  same_member xs ascends x y (k, below_k, is_x) (j, below_j, is_y) same =
      elim (cases_lt k j) [
        | inl before ↦
            (let l = less xs ascends x y k j before below_j is_x is_y in absurd (omega arith))
        | inr not_before ↦ elim (cases_lt j k) [
          | inl after ↦
              (let l = less xs ascends y x j k after below_k is_y is_x in absurd (omega arith))
          | inr not_after ↦
              let here : k ≡ j = omega arith in
              sym is_x ∙ (ap (λ n. get_or xs n x) here ∙ at_place xs y j x below_j is_y)
        ]
      ]

-- ---- statements by number

first_less : (x : Posted) (xs : List Posted) (z : Posted) → IsByNumber (x ∷ xs) → Contains xs z → x.tx < z.tx
first_less x xs z ordered (k, below, is) =
    let less = ordered 0 (suc k) z (omega arith) (omega arith) in
    subst (λ (y : Posted). x.tx < y.tx) is less

rest_ordered : (x : Posted) (xs : List Posted) → IsByNumber (x ∷ xs) → IsByNumber xs
rest_ordered x xs ordered i j d less below = ordered (suc i) (suc j) d (omega arith) (omega arith)

same_first : (x y : Posted) (xs ys : List Posted) → IsByNumber (x ∷ xs) → IsByNumber (y ∷ ys)
    → Contains (y ∷ ys) x → Contains (x ∷ xs) y → x ≡ y
same_first x y xs ys one other there back =
    elim (contains_cases y ys x there) [
      | inl is ↦ sym is
      | inr behind ↦ elim (contains_cases x xs y back) [
        | inl is ↦ is
        | inr behind_too ↦
            (let l = first_less y ys x other behind in
            let r = first_less x xs y one behind_too in
            absurd (omega arith))
      ]
    ]

rest_there : (x y : Posted) (xs ys : List Posted) → x ≡ y → IsByNumber (x ∷ xs)
    → ((z : Posted) → Contains (x ∷ xs) z → Contains (y ∷ ys) z) → (z : Posted) → Contains xs z → Contains ys z
rest_there x y xs ys same ordered all z there =
    elim (contains_cases y ys z (all z (contains_later x xs z there))) [
      | inl is ↦
          let l = first_less x xs z ordered there in
          let tx : x.tx ≡ z.tx = ap (λ (p : Posted). p.tx) (same ∙ is) in
          absurd (omega arith)
      | inr behind ↦ behind
    ]

-- statements by number are the same where they are the same ones
pub same_statements : (xs ys : List Posted) → IsByNumber xs → IsByNumber ys
    → ((x : Posted) → Contains xs x → Contains ys x) → ((x : Posted) → Contains ys x → Contains xs x) → xs ≡ ys
same_statements [] [] one other there back = refl
same_statements [] (y ∷ ys) one other there back = absurd (contains_none y (back y (contains_first y ys y refl)))
same_statements (x ∷ xs) [] one other there back = absurd (contains_none x (there x (contains_first x xs x refl)))
same_statements (x ∷ xs) (y ∷ ys) one other there back =
    let first = same_first x y xs ys one other (there x (contains_first x xs x refl))
    (back y (contains_first y ys y refl)) in
    let rest = same_statements xs ys (rest_ordered x xs one) (rest_ordered y ys other)
    (rest_there x y xs ys first one there) (rest_there y x ys xs (sym first) other back) in
    λ i. first i ∷ rest i
