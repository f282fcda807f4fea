-- Rows compared cell by cell.
use Rattle.std.proofs.Common.{◌≡◌, ℕ, zero, suc, ◌+◌, ◌≤◌, List, [], ◌∷◌, drop, length, min, refl, sym, ap, ◌∙◌, arith}
use Rattle.std.proofs.Common.{add-one}
use Rattle.std.specs.Prelude.{Some, slice_get}
use Rattle.std.specs.Ordering.{nat_cmp, ordering_then}
use Rattle.std.specs.declared.cmp.Ordering.{Ordering}
use Rattle.std.specs.declared.cmp.Ordering.TheVariants.{Less, Equal, Greater}
use Rattle.std.proofs.lemmas.Bool.Decides.{nat_tests}
use Rattle.ent_lists.proofs.Lists.{drop_at}
use Rattle.ent_value.specs.Value.{row_cmp, value_cmp}
use Rattle.ent_value.specs.declared.value.Value.{Value}

-- at the next cell of both rows
module _ (left right : List Value) (i : ℕ) (x y : Value) (here : slice_get left i ≡ Some x)
    (there : slice_get right i ≡ Some y) where
  next_cell : row_cmp (drop i left) (drop i right)
      ≡ ordering_then (value_cmp x y) (row_cmp (drop (suc i) left) (drop (suc i) right))
  next_cell = λ j. row_cmp (drop_at left i x here j) (drop_at right i y there j)

  -- it decides where it differs
  pub cell_decides : (o : Ordering) → o ≡ value_cmp x y → (o ≡ Equal → ⊥)
      → row_cmp (drop i left) (drop i right) ≡ o
  cell_decides o is differs =
      next_cell ∙ ap (λ first. ordering_then first (row_cmp (drop (suc i) left) (drop (suc i) right))) (sym is)
      ∙ by o differs
    where
      by : (o : Ordering) → (o ≡ Equal → ⊥)
          → ordering_then o (row_cmp (drop (suc i) left) (drop (suc i) right)) ≡ o
      by Less differs = refl
      by Equal differs = absurd (differs refl)
      by Greater differs = refl

  -- where it is the same, the others decide
  pub cell_ties : Equal ≡ value_cmp x y
      → row_cmp (drop i left) (drop i right) ≡ row_cmp (drop (i + 1) left) (drop (i + 1) right)
  cell_ties is =
      next_cell ∙ ap (λ first. ordering_then first (row_cmp (drop (suc i) left) (drop (suc i) right))) (sym is)
      ∙ (λ j. row_cmp (drop (sym (add-one i) j) left) (drop (sym (add-one i) j) right))

first_less : (n : ℕ) → Less ≡ nat_cmp zero (suc n)
first_less n = grind (arith, nat_tests)

first_greater : (n : ℕ) → Greater ≡ nat_cmp (suc n) zero
first_greater n = grind (arith, nat_tests)

-- behind the last cell of one of them, the lengths do
pub lengths_decide : (left right : List Value) (i : ℕ) → i ≤ length left → i ≤ length right
    → min (length left) (length right) ≤ i
    → row_cmp (drop i left) (drop i right) ≡ nat_cmp (length left) (length right)
lengths_decide [] [] zero a b c = refl
lengths_decide [] [] (suc i) a b c = absurd (omega arith)
lengths_decide [] (y ∷ right) zero a b c = first_less (length right)
lengths_decide [] (y ∷ right) (suc i) a b c = absurd (omega arith)
lengths_decide (x ∷ left) [] zero a b c = first_greater (length left)
lengths_decide (x ∷ left) [] (suc i) a b c = absurd (omega arith)
lengths_decide (x ∷ left) (y ∷ right) zero a b c = absurd (omega arith)
lengths_decide (x ∷ left) (y ∷ right) (suc i) a b c =
    lengths_decide left right i (omega arith) (omega arith) (omega arith)
    ∙ shifted (length left) (length right)
  where
    shifted : (a b : ℕ) → nat_cmp a b ≡ nat_cmp (suc a) (suc b)
    shifted a b = grind (arith, nat_tests)
