-- Values that are found in lists and put into them.
use Rattle.std.proofs.Common.{◌≡◌, ◌⊎◌, ℕ, Bool, zero, suc, ◌<◌, List, [], ◌∷◌, ◌++◌, take, drop}
use Rattle.std.proofs.Common.{length, map, refl, sym, ◌∙◌, ap, subst, inl, inr, arith}
use Rattle.std.specs.Prelude.{slice_index_or, Result, Ok, Err, IfOk, slice_set}
use Rattle.std.specs.List.Sorted.{IsBinarySearchResult, IsSearchInRange}
use Rattle.std.specs.declared.cmp.Ordering.TheVariants.{Equal}
use Rattle.std.proofs.lemmas.List.{take-append-drop}
use Rattle.ent_value.specs.Value.{value_cmp}
use Rattle.ent_value.specs.Order.{exact_values}
use Rattle.ent_value.specs.declared.value.Value.{Value}
use Rattle.ent_join.specs.Cursor.{IsAmong}
use Rattle.ent_join.specs.Dead.{HasLearnt, IsNoneBefore, dead_at}
use Rattle.ent_join.proofs.Walked.{among_split}

-- a value that is equal to one at an index is among the list
found_among : (values : List Value) (value : Value) (index : ℕ) → index < length values
    → ((d : Value) → value_cmp (slice_index_or values index d) value ≡ Equal) → IsAmong value values
found_among [] value index less same = absurd (omega arith)
found_among (other ∷ values) value zero less same = inl (exact_values other value (same other))
found_among (other ∷ values) value (suc index) less same = inr (found_among values value index (omega arith) same)

-- the same, as a search answers
pub found_by : (found : Result ℕ ℕ) (values : List Value) (value : Value)
    → IsSearchInRange found (length values)
    → IsBinarySearchResult (λ other. value_cmp other value) values found
    → IfOk found (λ _. IsAmong value values)
found_by (Ok index) values value within same = found_among values value index within same
found_by (Err index) values value within same = tt

among_left : (xs ys : List Value) (y : Value) → IsAmong y xs → IsAmong y (xs ++ ys)
among_left [] ys y h = absurd h
among_left (x ∷ xs) ys y (inl e) = inl e
among_left (x ∷ xs) ys y (inr h) = inr (among_left xs ys y h)

among_right : (xs ys : List Value) (y : Value) → IsAmong y ys → IsAmong y (xs ++ ys)
among_right [] ys y h = h
among_right (x ∷ xs) ys y h = inr (among_right xs ys y h)

-- a value that is put into a list is the only new one
pub one_more : (values new : List Value) (index : ℕ) (copy value other : Value)
    → new ≡ take index values ++ copy ∷ drop index values → copy ≡ value
    → IsAmong other new → IsAmong other values ⊎ (other ≡ value)
one_more values new index copy value other put e among =
    by (among_split (take index values) (copy ∷ drop index values) other (subst (IsAmong other) put among))
  where
    whole : take index values ++ drop index values ≡ values
    whole = take-append-drop index values

    by : IsAmong other (take index values) ⊎ IsAmong other (copy ∷ drop index values)
        → IsAmong other values ⊎ (other ≡ value)
    by (inl left) = inl (subst (IsAmong other) whole (among_left (take index values) (drop index values) other left))
    by (inr (inl is)) = inr (sym is ∙ e)
    by (inr (inr right)) =
        inl (subst (IsAmong other) whole (among_right (take index values) (drop index values) other right))

-- in lists of which one is replaced, each value stood there before or is one of the new list's
replaced : {V : Type 0} (items : V → List Value) (lists : List V) (place : ℕ) (old new : V) (value : Value)
    → place < length lists
    → slice_index_or lists place old ≡ old
    → ((v : Value) → IsAmong v (items new) → IsAmong v (items old) ⊎ (v ≡ value))
    → (other : ℕ) (v : Value) → IsAmong v (dead_at (map items (slice_set lists place new)) other)
    → IsAmong v (dead_at (map items lists) other) ⊎ ((other ≡ place) × (v ≡ value))
replaced items [] place old new value less is more other v among = absurd (omega arith)
replaced items (list ∷ lists) zero old new value less is more zero v among =
    elim (more v among) [
      | inl kept ↦ inl (subst (λ l. IsAmong v (items l)) (sym is) kept)
      | inr e ↦ inr (refl, e)
    ]
replaced items (list ∷ lists) zero old new value less is more (suc other) v among = inl among
replaced items (list ∷ lists) (suc place) old new value less is more zero v among = inl among
replaced items (list ∷ lists) (suc place) old new value less is more (suc other) v among =
    elim (replaced items lists place old new value (omega arith) is more other v among) [
      | inl kept ↦ inl kept
      | inr new ↦ inr (ap suc new.0, new.1)
    ]

-- a value that is put into one of some lists is learnt
pub learnt : {V : Type 0} (items : V → List Value) (lists : List V) (place : ℕ) (old new : V) (value : Value)
    (marks : List Bool)
    → place < length lists
    → slice_index_or lists place old ≡ old
    → ((v : Value) → IsAmong v (items new) → IsAmong v (items old) ⊎ (v ≡ value))
    → IsNoneBefore marks place
    → HasLearnt (map items lists) (map items (slice_set lists place new)) place value marks
learnt items lists place old new value marks less is more none other v among =
    elim (replaced items lists place old new value less is more other v among) [
      | inl kept ↦ inl kept
      | inr new ↦ inr (new.0, new.1, none)
    ]
