-- Values that are dead at their places, and are skipped.
use Rattle.std.proofs.Common.{◌≡◌, ℕ, zero, suc, ◌+◌, Bool, List, [], ◌∷◌, ◌++◌}
use Rattle.std.proofs.Common.{length, refl, sym, ◌∙◌, ap, subst, inl, inr, arith, append_assoc}
use Rattle.std.specs.List.{AllByRecursion}
use Rattle.std.proofs.lemmas.List.{length_push}
use Rattle.ent_value.specs.declared.value.Value.{Value}
use Rattle.ent_join.specs.Cursor.{IsAmong, IsNext}
use Rattle.ent_join.specs.Dead.{AreDead, HasLearnt, IsDead, IsNoneBefore, dead_at}
use Rattle.ent_join.specs.Reason.{Refutes}
use Rattle.ent_join.specs.Going.{AreLeft, IsGoing}
use Rattle.ent_join.specs.Search.{NoDeadEnds}
use Rattle.ent_join.proofs.Steps.{agrees_pushed, ascending_after, first_among}
use Rattle.ent_join.proofs.Walked.{all_among, among_split}

none_there : (dead : List (List Value)) (place : ℕ) (value : Value) → AllByRecursion (λ values. values ≡ []) dead
    → IsAmong value (dead_at dead place) → ⊥
none_there [] place value none among = among
none_there (values ∷ dead) zero value none among = subst (IsAmong value) none.0 among
none_there (values ∷ dead) (suc place) value none among = none_there dead place value none.1 among

-- where nothing is kept yet, all that is kept is dead
pub dead_first : (count : ℕ) (passes : List Value → Bool) (dead : List (List Value))
    → AllByRecursion (λ values. values ≡ []) dead → AreDead count passes dead
dead_first count passes dead none place value among front rest l w pass = none_there dead place value none among

-- the same lists, whose number of values is written in another way
pub dead_on : (one other : ℕ) (passes : List Value → Bool) (dead : List (List Value)) → one ≡ other
    → AreDead one passes dead → AreDead other passes dead
dead_on one other passes dead e are = subst (λ count. AreDead count passes dead) e are

-- a value that fails for no place before it is dead
found_dead : (count less : ℕ) (passes : List Value → Bool) (marks : List Bool) (old pushed : List Value) (value : Value)
    → pushed ≡ old ++ value ∷ [] → length pushed + less ≡ count
    → Refutes (length pushed + less) passes pushed marks
    → IsNoneBefore marks (length old)
    → IsDead count passes (length old) value
found_dead count less passes marks old pushed value push c refuted none front rest l w pass =
    refuted (front ++ value ∷ []) rest
    (length_push front value ∙ (ap (λ n. n + 1) l ∙ sym (ap length push ∙ length_push old value)))
    (let k : length (front ++ value ∷ []) ≡ length front + 1 = length_push front value in omega arith)
    (agrees_pushed marks old pushed front value value push l (λ k less m. absurd (none k less m)) (λ m. refl))
    (ap passes (append_assoc front (value ∷ []) rest) ∙ pass)

-- all that is kept is dead, once a value that failed was learnt
pub dead_learnt : (count less place : ℕ) (passes : List Value → Bool) (marks : List Bool) (old pushed : List Value)
    (value : Value) (before after : List (List Value))
    → pushed ≡ old ++ value ∷ [] → length pushed + less ≡ count
    → place ≡ length old
    → Refutes (length pushed + less) passes pushed marks
    → AreDead (length pushed + less) passes before
    → HasLearnt before after place value marks
    → AreDead count passes after
dead_learnt count less place passes marks old pushed value before after push c is refuted are learnt other another
    among =
    elim (learnt other another among) [
      | inl kept ↦ dead_on (length pushed + less) count passes before c are other another kept
      | inr new ↦
          let here : IsDead count passes (length old) value =
          found_dead count less passes marks old pushed value push c refuted (subst (IsNoneBefore marks) is new.2) in
          subst (λ v. IsDead count passes other v) (sym new.1)
          (subst (λ p. IsDead count passes p value) (sym (new.0 ∙ is)) here)
    ]

left_skipped : (passes : List Value → Bool) (count : ℕ) (old remaining after : List Value) (marks : List Bool)
    (value : Value)
    → IsNext remaining after value
    → IsDead count passes (length old) value
    → AreLeft passes count old marks remaining
    → AreLeft passes count old marks after
left_skipped passes count old remaining after marks value next dead left front y rest l w agree pass =
    by (subst (IsAmong y) next.are (left front y rest l w agree pass))
  where
    not_here : value ≡ y → ⊥
    not_here is = dead front rest l w (ap (λ v. passes (front ++ v ∷ rest)) is ∙ pass)

    by : IsAmong y (value ∷ (next.same ++ after)) → IsAmong y after
    by (inl is) = absurd (not_here is)
    by (inr more) =
        elim (among_split next.same after y more) [
          | inl here ↦ absurd (not_here (sym (all_among (λ w. w ≡ value) next.same y next.all_same here)))
          | inr there ↦ there
        ]

-- where each value leads to a list that passes, none is dead
none_dead : (candidates : List Value → List Value) (passes : List Value → Bool) (count : ℕ)
    (old remaining after : List Value) (value : Value)
    → remaining ≡ candidates old
    → IsNext remaining after value
    → IsDead count passes (length old) value
    → NoDeadEnds count candidates passes
    → ⊥
none_dead candidates passes count old remaining after value is next dead ends =
    let way = ends old value (subst (IsAmong value) is (first_among remaining after value next)) in
    dead old way.0 refl way.1 way.2

-- one value further, where that value is dead
pub skipping : (candidates : List Value → List Value) (passes : List Value → Bool) (count : ℕ)
    (old now remaining after : List Value) (marks : List Bool) (value : Value) (begun ticks more : ℕ)
    → IsNext remaining after value
    → IsDead count passes (length old) value
    → IsGoing passes candidates count old now marks remaining begun ticks
    → IsGoing passes candidates count old now marks after begun more
skipping candidates passes count old now remaining after marks value begun ticks more next dead going = record {
  unchanged = going.unchanged;
  width = going.width;
  ascending = ascending_after remaining after value going.ascending next;
  complete = left_skipped passes count old remaining after marks value next dead going.complete;
  first = λ ends.
      absurd (none_dead candidates passes count old remaining after value (going.first ends).0 next dead ends);
}
