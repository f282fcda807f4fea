-- Later places of a search.
use Rattle.std.proofs.Common.{◌≡◌, ◌<◌, ◌≤◌, ℕ, suc, List, [], ◌∷◌, ◌++◌, Option, None, Some, refl, sym, ap, subst, ◌∙◌}
use Rattle.std.proofs.Common.{⊎_elim, arith}
use Rattle.std.proofs.Common.{append_assoc}
use Rattle.std.specs.Cmp.Lexicographic.{slice_cmp}
use Rattle.std.specs.Ordering.{nat_cmp, ordering_then}
use Rattle.std.specs.declared.cmp.Ordering.{Ordering}
use Rattle.std.specs.declared.cmp.Ordering.TheVariants.{Less, Equal}
use Rattle.std.proofs.lemmas.Bool.{cases_lt}
use Rattle.std.proofs.lemmas.Cmp.{nat_cmp_total, tied_itself}
use Rattle.ent_meetings.specs.Next.{IsAfter}
use Rattle.ent_meetings.specs.Search.{next_of}
use Rattle.ent_meetings.proofs.EntryOrder.{less}

-- what begins alike is told apart by the rest
same_front : (xs ys zs : List ℕ) → slice_cmp nat_cmp (xs ++ ys) (xs ++ zs) ≡ slice_cmp nat_cmp ys zs
same_front [] ys zs = refl
same_front (x ∷ xs) ys zs =
    ap (λ (o : Ordering). ordering_then o (slice_cmp nat_cmp (xs ++ ys) (xs ++ zs))) (tied_itself nat_cmp_total x)
    ∙ same_front xs ys zs

lesser : (x y : ℕ) (xs ys : List ℕ) → x < y → slice_cmp nat_cmp (x ∷ xs) (y ∷ ys) ≡ Less
lesser x y xs ys low = ap (λ (o : Ordering). ordering_then o (slice_cmp nat_cmp xs ys)) (less x y low)

shorter : (x y : ℕ) (z : ℕ) → x ≤ y → slice_cmp nat_cmp (x ∷ []) (y ∷ z ∷ []) ≡ Less
shorter x y z low =
    ⊎_elim (λ lower. lesser x y [] (z ∷ []) lower)
    (λ upper.
    let same : x ≡ y = omega arith in
    ap (λ (o : Ordering). ordering_then o Less) (subst (λ (n : ℕ). nat_cmp x n ≡ Equal) same
    (tied_itself nat_cmp_total x)))
    (cases_lt x y)

-- who comes after the last is looked at next, or later
next_up_to : (last : Option ℕ) (ticket : ℕ) → IsAfter last ticket → next_of last ≤ ticket
next_up_to None ticket after = omega arith
next_up_to (Some last) ticket after = omega (arith, after)

module _ (pass : ℕ) (chosen : List ℕ) where
  pub further_back : (ticket next : ℕ)
      → slice_cmp nat_cmp (pass ∷ ((chosen ++ ticket ∷ []) ++ next ∷ [])) (pass ∷ (chosen ++ suc ticket ∷ [])) ≡ Less
  further_back ticket next =
      ap (λ (front : List ℕ). slice_cmp nat_cmp (pass ∷ front) (pass ∷ (chosen ++ suc ticket ∷ [])))
      (append_assoc chosen (ticket ∷ []) (next ∷ []))
      ∙ same_front (pass ∷ chosen) (ticket ∷ next ∷ []) (suc ticket ∷ [])
      ∙ lesser ticket (suc ticket) (next ∷ []) [] (omega arith)

  pub further_more : (last : Option ℕ) (ticket : ℕ) → IsAfter last ticket
      → slice_cmp nat_cmp (pass ∷ (chosen ++ next_of last ∷ [])) (pass ∷ ((chosen ++ ticket ∷ []) ++ 0 ∷ [])) ≡ Less
  further_more last ticket after =
      ap (λ (front : List ℕ). slice_cmp nat_cmp (pass ∷ (chosen ++ next_of last ∷ [])) (pass ∷ front))
      (append_assoc chosen (ticket ∷ []) (0 ∷ []))
      ∙ same_front (pass ∷ chosen) (next_of last ∷ []) (ticket ∷ 0 ∷ [])
      ∙ shorter (next_of last) ticket 0 (next_up_to last ticket after)

  pub further_on : (last later : Option ℕ) (ticket : ℕ) → later ≡ Some ticket → IsAfter last ticket
      → slice_cmp nat_cmp (pass ∷ (chosen ++ next_of last ∷ [])) (pass ∷ (chosen ++ next_of later ∷ [])) ≡ Less
  further_on last later ticket is after =
      same_front (pass ∷ chosen) (next_of last ∷ []) (next_of later ∷ [])
      ∙ lesser (next_of last) (next_of later) [] []
      (let low = next_up_to last ticket after in
      subst (λ (o : Option ℕ). next_of last < next_of o) (sym is) (omega (arith, low)))
