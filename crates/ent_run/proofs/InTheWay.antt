-- The least of a table's holders that are in the way of one that asks for it.
use Rattle.std.proofs.Common.{◌≡◌, ℕ, Bool, true, false, min, if◌then◌else◌, List, [], ◌∷◌, map, refl, sym, ap, ◌∙◌}
use Rattle.std.proofs.Common.{subst, arith}
use Rattle.std.specs.Prelude.{Contains, Option, Some, None, filter, not}
use Rattle.ent_lists.specs.Elements.{and_both, both_and}
use Rattle.ent_lock.specs.declared.holders.Holder.{Holder}
use Rattle.ent_lock.specs.declared.mode.Mode.{Mode}
use Rattle.ent_lock.specs.Holders.{lesser}
use Rattle.ent_lock.specs.Mode.{in_conflict}
use Rattle.ent_lock.specs.Use.{IsLeastIfAny, Uses}
use Rattle.ent_lock.proofs.Requests.{least_same}
use Rattle.ent_protocol.specs.State.{Use}
use Rattle.ent_protocol.specs.Uses.{least}
use Rattle.ent_run.specs.Passing.{Asker, is_in_the_way, passes}
use Rattle.ent_run.proofs.Blocked.{BlocksOne}
use Rattle.ent_run.proofs.LeastOf.{least_more, least_of_list}
use Rattle.ent_run.proofs.Lists.{into_filter, into_map, out_of_filter, out_of_map}
use Rattle.ent_run.proofs.Locked.{is_not}
use Rattle.ent_run.proofs.MadeToWait.{AreHolders}

min_apart : (x y z : ℕ) → min (min x y) z ≡ min x (min y z)
min_apart x y z = omega arith

lesser_apart : (a b c : Option ℕ) → lesser (lesser a b) c ≡ lesser a (lesser b c)
lesser_apart None b c = refl
lesser_apart (Some x) None c = refl
lesser_apart (Some x) (Some y) None = refl
lesser_apart (Some x) (Some y) (Some z) = ap Some (min_apart x y z)

abbrev pub numbers_in_way : Mode → Asker → List Holder → List ℕ
numbers_in_way mode asker holders = map (λ held. held.holder) (filter (is_in_the_way mode asker) holders)

-- ---- one holder after another

module _ (mode : Mode) (asker : Asker) (held : Holder) (rest : List Holder) (before : Option ℕ) where
  abbrev more : Option ℕ
  more = least (numbers_in_way mode asker rest)

  -- one in the way counts
  pub least_with_it : is_in_the_way mode asker held ≡ true
      → lesser before (least (numbers_in_way mode asker (held ∷ rest))) ≡ lesser (lesser before (Some held.holder)) more
  least_with_it way =
      ap (λ b. lesser before (least (map (λ (h : Holder). h.holder)
      (if b then held ∷ filter (is_in_the_way mode asker) rest else filter (is_in_the_way mode asker) rest)))) way
      ∙ ap (lesser before) (least_more held.holder (numbers_in_way mode asker rest))
      ∙ sym (lesser_apart before (Some held.holder) more)

  -- another doesn't
  pub least_without : is_in_the_way mode asker held ≡ false
      → lesser before (least (numbers_in_way mode asker (held ∷ rest))) ≡ lesser before more
  least_without way =
      ap (λ b. lesser before (least (map (λ (h : Holder). h.holder)
      (if b then held ∷ filter (is_in_the_way mode asker) rest else filter (is_in_the_way mode asker) rest)))) way

  -- nor does one that isn't less
  pub least_above : before ≡ lesser before (Some held.holder)
      → lesser before (least (numbers_in_way mode asker (held ∷ rest))) ≡ lesser before more
  least_above above = by_test (is_in_the_way mode asker held) refl
    where
      by_test : (b : Bool) → is_in_the_way mode asker held ≡ b
          → lesser before (least (numbers_in_way mode asker (held ∷ rest))) ≡ lesser before more
      by_test true way = least_with_it way ∙ ap (λ o. lesser o more) (sym above)
      by_test false way = least_without way

-- ---- what the holders of a table tell

pub least_blocks : (locks : Uses) (own : Use) (holders : List Holder) (asker : Asker) → AreHolders locks own holders
    → IsLeastIfAny (BlocksOne locks own (passes asker)) (least (numbers_in_way own.mode asker holders))
least_blocks locks own holders asker are =
    least_same (Contains (numbers_in_way own.mode asker holders)) (BlocksOne locks own (passes asker))
    (least (numbers_in_way own.mode asker holders)) into out
    (least_of_list (numbers_in_way own.mode asker holders))
  where
    into : (v : ℕ) → Contains (numbers_in_way own.mode asker holders) v → BlocksOne locks own (passes asker) v
    into v there =
        let one = out_of_map (λ (held : Holder). held.holder) (filter (is_in_the_way own.mode asker) holders) v there in
        let held = one.0 in
        let inside = out_of_filter (is_in_the_way own.mode asker) holders held one.1 in
        let parts = and_both (in_conflict held.mode own.mode) (not (passes asker held.holder)) inside.1 in
        subst (BlocksOne locks own (passes asker)) one.2
        (is_not (passes asker held.holder) parts.1, (held.mode, (are held.holder held.mode).0 inside.0, parts.0))

    out : (v : ℕ) → BlocksOne locks own (passes asker) v → Contains (numbers_in_way own.mode asker holders) v
    out v (apart, (theirs, holds, conflict)) =
        let held : Holder = record { holder = v; mode = theirs } in
        into_map (λ (h : Holder). h.holder) (filter (is_in_the_way own.mode asker) holders) held
        (into_filter (is_in_the_way own.mode asker) holders held ((are v theirs).1 holds)
        (both_and (in_conflict theirs own.mode) (not (passes asker v)) conflict (ap not apart)))
