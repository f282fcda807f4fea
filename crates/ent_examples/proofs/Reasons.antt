-- Why a run can't end yet.
use Rattle.std.proofs.Common.{◌≡◌, ◌≢◌, inl, inr, ℕ, zero, suc, ◌<◌, ◌≤◌, Bool, true, false, List, [], ◌∷◌}
use Rattle.std.proofs.Common.{map, refl, sym, ap, subst, ◌∙◌, arith}
use Rattle.std.specs.Prelude.{All, Contains, nat_le}
use Rattle.std.specs.List.{list_all}
use Rattle.std.proofs.lemmas.List.Elements.{All-contains}
use Rattle.std.proofs.lemmas.Bool.{leb-true}
use Rattle.ent_group.specs.Cycle.{IsOnCycle, Closes, links, links_to}
use Rattle.ent_semantics.specs.Pool.{Posted}
use Rattle.ent_protocol.specs.Member.{is_lent, pool}
use Rattle.ent_lists.specs.Elements.{contains_in, in_contains}
use Rattle.ent_lists.proofs.Contained.{of_mapped, contains_none}
use Rattle.ent_lock.specs.Use.{IsLeast}
use Rattle.ent_protocol.specs.Quiet.{NoneIs, HasJobOut, OutJoint, CanMove, IsUntried}
use Rattle.ent_protocol.specs.PostedBy.{is_present}
use Rattle.ent_protocol.specs.State.{State, Member}
use Rattle.ent_protocol.specs.Waits.{waits, IsDeadlock}
use Rattle.ent_examples.specs.Wish.{Friend, posted}
use Rattle.ent_examples.proofs.Answered.{first_at_least}
use Rattle.ent_examples.proofs.Lists.{two_apart}
use Rattle.ent_examples.proofs.Listed.{by_first, first_there, later_there, each_passes}

not_true : (b : Bool) → b ≡ false → b ≡ true → ⊥
not_true b e h = cc

pub none_out : (s : State) → s.lent ≡ [] → ((tx : ℕ) → is_lent s tx ≡ false) → NoneIs (HasJobOut s)
none_out s lent_is no_single tx (inl h) = not_true _ (no_single tx) h
none_out s lent_is no_single tx (inr h) = contains_none h.out.0 (subst (λ jobs. Contains jobs h.out.0) lent_is h.out.1)

-- the least of those that aren't prepared
pub least_mover : (s : State) (n : ℕ) → list_all (λ (member : Member). nat_le n member.tx) s.active ≡ true
    → CanMove s n → IsLeast (CanMove s) n
least_mover s n h can = (
  can,
  λ other moves.
      subst (λ tx. n ≤ tx) moves.own (leb-true n moves.member.tx (each_passes _ s.active moves.member h moves.active)),
)

pub least_untried : (s : State) (friends : List Friend) → pool s ≡ map posted friends → (n : ℕ)
    → list_all (λ friend. nat_le n friend.tx) friends ≡ true → IsUntried s n → IsLeast (IsUntried s) n
least_untried s friends asked n h untried = (
  untried,
  λ other tries.
      subst (λ tx. n ≤ tx) tries.first (first_at_least s friends asked n h tries.asked tries.component),
)

-- a joint job is out, and no other
pub least_out : (s : State) (friends : List Friend) → pool s ≡ map posted friends → (n : ℕ)
    → list_all (λ friend. nat_le n friend.tx) friends ≡ true → ((tx : ℕ) → is_lent s tx ≡ false) → OutJoint s n
    → IsLeast (HasJobOut s) n
least_out s friends asked n h no_single out = (inr out, least)
  where
    least : (other : ℕ) → HasJobOut s other → n ≤ other
    least other (inl is) = absurd (not_true _ (no_single other) is)
    least other (inr is) =
        let there = in_contains (pool s) is.query
        (is_present (pool s) is.asked is.component is.query (contains_in is.asked is.query is.is_in)) in
        let x = of_mapped posted friends is.query (subst (λ xs. Contains xs is.query) asked there) in
        subst (λ tx. n ≤ tx) (sym (ap (λ (a : Posted). a.tx) x.2) ∙ is.own)
        (leb-true n x.0.tx (each_passes _ friends x.0 h x.1))

-- ---- two who wait for each other

each_waits : (xs : List ℕ) (end tx : ℕ) → Contains xs tx → (other : ℕ) × Contains (links_to xs end) (tx, other)
each_waits [] end tx h = absurd (contains_none tx h)
each_waits (x ∷ []) end tx h =
    by_first x tx [] (λ e. (
      end,
      subst (λ z. Contains {X = ℕ × ℕ} ((x, end) ∷ []) (z, end)) (sym e) (first_there (x, end) []),
    ))
    (λ later. absurd (contains_none tx later)) h
each_waits (x ∷ y ∷ ys) end tx h =
    by_first x tx (y ∷ ys) (λ e. (
      y,
      subst (λ z. Contains {X = ℕ × ℕ} ((x, y) ∷ links_to (y ∷ ys) end) (z, y)) (sym e)
          (first_there (x, y) (links_to (y ∷ ys) end)),
    ))
    (λ later. let rest = each_waits (y ∷ ys) end tx later in
    (rest.0, later_there (x, y) (tx, rest.0) (links_to (y ∷ ys) end) rest.1)) h

abbrev pub each_other : List (ℕ × ℕ)
each_other = (1, 2) ∷ (2, 1) ∷ []

at_most_2 : (tx : ℕ) → IsOnCycle each_other tx → tx ≤ 2
at_most_2 tx h = of h.0 h.1 h.2
  where
    of : (members : List ℕ) → Closes each_other members → Contains members tx → tx ≤ 2
    of [] closes there = absurd (contains_none tx there)
    of (x ∷ xs) closes there =
        let waiting = each_waits (x ∷ xs) x tx there in
        leb-true tx 2 (each_passes (λ (pair : ℕ × ℕ). nat_le pair.0 2) each_other (tx, waiting.0) refl
        (All-contains (Contains each_other) (links (x ∷ xs)) (tx, waiting.0) closes.linked waiting.1))

both_linked : All (Contains each_other) (links (2 ∷ 1 ∷ []))
both_linked zero d h = (1, omega arith, refl)
both_linked (suc zero) d h = (0, omega arith, refl)
both_linked (suc (suc k)) d h = absurd (let r : suc (suc k) < 2 = h in omega arith)

pub two_wait : (s : State) → waits s ≡ each_other → IsDeadlock s (2 ∷ 1 ∷ [])
two_wait s e =
    record {
      is_cycle = record {
        closes = record {
          not_empty = omega arith;
          linked = subst (λ pairs. All (Contains pairs) (links (2 ∷ 1 ∷ []))) (sym e) both_linked;
        };
        distinct = two_apart (λ (x y : ℕ). x ≢ y) 2 1 (λ e. omega arith);
      };
      greatest = λ tx h. at_most_2 tx (subst (λ pairs. IsOnCycle pairs tx) e h);
    }
