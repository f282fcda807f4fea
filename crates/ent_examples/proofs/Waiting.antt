-- A run in which nobody is left but friends that nobody answers may end.
use Rattle.std.proofs.Common.{◌≡◌, inl, inr, ℕ, zero, ◌<◌, Bool, true, false, ◌||◌, not, List, [], ◌∷◌, map}
use Rattle.std.proofs.Common.{ap, subst, arith}
use Rattle.std.proofs.lemmas.Bool.{both_ways, not-true}
use Rattle.std.specs.Prelude.{slice_get}
use Rattle.std.specs.List.{list_all}
use Rattle.ent_lists.proofs.Contained.{of_mapped, contains_none}
use Rattle.ent_group.specs.Cycle.{IsOnCycle, Closes}
use Rattle.ent_semantics.specs.Component.{IsInRemainder}
use Rattle.ent_semantics.specs.Pool.{Posted}
use Rattle.ent_protocol.specs.Member.{is_lent, pool}
use Rattle.ent_protocol.specs.PoolEvents.{IsPresentComponent}
use Rattle.ent_protocol.specs.Quiet.{IsQuiet, HasJobOut}
use Rattle.ent_protocol.specs.State.{State, Member}
use Rattle.ent_protocol.specs.Waits.{waits}
use Rattle.ent_examples.specs.Wish.{Friend, posted}
use Rattle.ent_examples.proofs.Listed.{each_passes}
use Rattle.ent_examples.proofs.Meets.{meets}
use Rattle.ent_examples.proofs.Safe.{met_in}

-- nobody offers what anybody asks for
abbrev pub nobody_meets : List Friend → Bool
nobody_meets friends = list_all (λ friend. list_all (λ other. not (meets friend.wish other.wish)) friends) friends

pub none_remains : (friends : List Friend) → nobody_meets friends ≡ true → (x : Posted)
    → IsInRemainder (map posted friends) x → ⊥
none_remains friends h x remains =
    let is = of_mapped posted friends x remains.is_in.0 in
    let met = remains.supported x 0 _ remains.is_in (ap (λ (p : Posted). slice_get p.statement.posts 0) is.2) in
    let two = met_in friends x 0 met.0 remains.is_in.0 met.1.0 met.2 in
    both_ways _
    (not-true _ (each_passes _ friends two.other (each_passes _ friends two.friend h two.asks) two.offers)) two.meet

none_on_cycle : (waiting : List (ℕ × ℕ)) → waiting ≡ [] → (tx : ℕ) → IsOnCycle waiting tx → ⊥
none_on_cycle waiting e tx h = of h.0 (subst (λ xs. Closes xs h.0) e h.1)
  where
    of : (members : List ℕ) → Closes [] members → ⊥
    of [] closes = absurd (let r : 0 < 0 = closes.not_empty in omega arith)
    of (x ∷ []) closes = contains_none _ (closes.linked zero (x, x) (omega arith))
    of (x ∷ y ∷ more) closes = contains_none _ (closes.linked zero (x, y) (omega arith))

-- whoever isn't prepared is posted
abbrev pub all_wait : State → Bool
all_wait s = list_all (λ (member : Member). member.posted) s.active

pub false_true : (b c : Bool) → b ≡ true → (b || c) ≡ false → ⊥
false_true true c e h = cc
false_true false c e h = cc

not_true : (b : Bool) → b ≡ false → b ≡ true → ⊥
not_true b e h = cc

pub quiet : (s : State) (friends : List Friend) → pool s ≡ map posted friends → nobody_meets friends ≡ true
    → ((tx : ℕ) → is_lent s tx ≡ false) → all_wait s ≡ true → waits s ≡ [] → IsQuiet s
quiet s friends asked nobody no_single wait waits_is =
    record {
      nothing_out = nothing;
      nobody_moves = λ tx can. false_true _ _ (each_passes _ s.active can.member wait can.active) can.waiting;
      all_tried = λ tx untried. no_component untried.asked untried.component;
      no_deadlock = none_on_cycle (waits s) waits_is;
    }
  where
    no_component : (others : List Posted) → IsPresentComponent s others → ⊥
    no_component others h =
        none_remains friends nobody h.first
        (subst (λ xs. IsInRemainder xs h.first) asked
        h.in_remainder)

    nothing : (tx : ℕ) → HasJobOut s tx → ⊥
    nothing tx (inl h) = not_true _ (no_single tx) h
    nothing tx (inr h) = no_component h.asked h.component
