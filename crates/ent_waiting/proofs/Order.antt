-- Groups and writes that are numbered in order.
use Rattle.std.proofs.Common.{◌≡◌, ◌≤◌, ◌<◌, ◌+◌, ℕ, List, [], ◌∷◌, ◌++◌, length, refl, sym, ap, ◌∙◌}
use Rattle.std.proofs.Common.{inl, inr, arith}
use Rattle.ent_lists.specs.Elements.{In}
use Rattle.ent_waiting.specs.Laws.{FollowOn, NumberOn}
use Rattle.ent_waiting.specs.Store.{Group, Write, tables_after, last_group}

module _ {C E : Type 0} where
  pub follow_joined : (before : ℕ) (xs ys : List (Group C E)) → FollowOn before xs
      → FollowOn (last_group xs before) ys → FollowOn before (xs ++ ys)
  follow_joined before [] ys a b = b
  follow_joined before (x ∷ xs) ys a b = (a.0, follow_joined x.number xs ys a.1 b)

  pub last_joined : (before : ℕ) (xs ys : List (Group C E))
      → last_group (xs ++ ys) before ≡ last_group ys (last_group xs before)
  last_joined before [] ys = refl
  last_joined before (x ∷ xs) ys = last_joined x.number xs ys

  pub last_counted : (before : ℕ) (xs : List (Group C E)) → FollowOn before xs
      → last_group xs before ≡ before + length xs
  last_counted before [] a = omega arith
  last_counted before (x ∷ xs) a =
      let own : x.number ≡ before + 1 = a.0 in
      let rest = last_counted x.number xs a.1 in
      omega (arith, own, rest)

pub tables_joined : {T C E : Type 0} (changed : C → T → T) (xs ys : List (Group C E)) (tables : T)
    → tables_after changed (xs ++ ys) tables ≡ tables_after changed ys (tables_after changed xs tables)
tables_joined changed [] ys tables = refl
tables_joined changed (x ∷ xs) ys tables = tables_joined changed xs ys (changed x.change tables)

module _ {C S E : Type 0} where
  pub number_behind : (before : ℕ) (xs : List (Write C S E)) (x : Write C S E) → NumberOn before xs
      → x.number ≡ before + length xs + 1 → NumberOn before (xs ++ x ∷ [])
  number_behind before [] x a e = (omega (arith, e), tt)
  number_behind before (y ∷ ys) x a e =
      let own : y.number ≡ before + 1 = a.0 in
      (a.0, number_behind y.number ys x a.1 (omega (arith, own, e)))

  pub number_above : (before : ℕ) (xs : List (Write C S E)) (x : Write C S E) → NumberOn before xs → In x xs
      → before < x.number
  number_above before [] x a at = absurd at
  number_above before (y ∷ ys) x a (inl same) =
      let own : y.number ≡ before + 1 = a.0 in
      let is : x.number ≡ y.number = ap (λ (w : Write C S E). w.number) same in
      omega (arith, own, is)
  number_above before (y ∷ ys) x a (inr at) =
      let own : y.number ≡ before + 1 = a.0 in
      let rest = number_above y.number ys x a.1 at in
      omega (arith, own, rest)

  pub number_within : (before : ℕ) (xs : List (Write C S E)) (x : Write C S E) → NumberOn before xs → In x xs
      → x.number ≤ before + length xs
  number_within before [] x a at = absurd at
  number_within before (y ∷ ys) x a (inl same) =
      let own : y.number ≡ before + 1 = a.0 in
      let is : x.number ≡ y.number = ap (λ (w : Write C S E). w.number) same in
      omega (arith, own, is)
  number_within before (y ∷ ys) x a (inr at) =
      let own : y.number ≡ before + 1 = a.0 in
      let rest = number_within y.number ys x a.1 at in
      omega (arith, own, rest)

  -- two writes of one number are one
  pub same_write : (before : ℕ) (xs : List (Write C S E)) (x y : Write C S E) → NumberOn before xs → In x xs → In y xs
      → x.number ≡ y.number → x ≡ y
  same_write before [] x y a at bt e = absurd at
  same_write before (z ∷ zs) x y a (inl p) (inl q) e = p ∙ sym q
  same_write before (z ∷ zs) x y a (inl p) (inr q) e =
      let is : x.number ≡ z.number = ap (λ (w : Write C S E). w.number) p in
      let above = number_above z.number zs y a.1 q in
      absurd (omega (arith, is, above, e))
  same_write before (z ∷ zs) x y a (inr p) (inl q) e =
      let is : y.number ≡ z.number = ap (λ (w : Write C S E). w.number) q in
      let above = number_above z.number zs x a.1 p in
      absurd (omega (arith, is, above, e))
  same_write before (z ∷ zs) x y a (inr p) (inr q) e = same_write z.number zs x y a.1 p q e
