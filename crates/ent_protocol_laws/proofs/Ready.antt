-- Members that are ready, and what their begin is answered.
use Rattle.std.proofs.Common.{◌≡◌, ◌⊎◌, inl, inr, ℕ, Bool, true, false, cond, ◌||◌, ◌==◌, List, [], ◌∷◌, ◌++◌, map}
use Rattle.std.proofs.Common.{refl, sym, ap, subst, ◌∙◌, Option, Some, None}
use Rattle.std.specs.List.{filter}
use Rattle.ent_value.specs.declared.value.Value.{Value}
use Rattle.ent_semantics.specs.declared.book.Fated.{Fated}
use Rattle.ent_semantics.specs.declared.entangled.Entangled.{Entangled}
use Rattle.ent_semantics.specs.declared.statement.Statement.{Statement}
use Rattle.ent_protocol.specs.Begin.{Begins, BeginsCommit, BeginsEntangled, BeginsMember, BeginsNext, BeginsOrdinary}
use Rattle.ent_protocol.specs.Begin.{BeginsUnless, Posts}
use Rattle.ent_protocol.specs.Commit.{preparing, is_ready}
use Rattle.ent_protocol.specs.Event.{Reply}
use Rattle.ent_protocol.specs.Lookup.{Standing, Turn, active_standing, standing, turn_of}
use Rattle.ent_protocol.specs.Lookup as lookups
use Rattle.ent_protocol.specs.Member.{Next, Ordinary, Asks, Commits, RollsBack, active_member, is_lent, is_tx, next_of}
use Rattle.ent_protocol.specs.State.{State, Dormant, Member, first_of}
use Rattle.ent_protocol.specs.Uses.{statement_uses, entangled_uses, blocker}
use Rattle.ent_protocol_laws.proofs.Found.{found}
use Rattle.ent_protocol_laws.specs.Idle.{IsTurnTaken}

-- the first of two lists is the first of the one, or that of the other
of_either : (xs ys : List Standing) (x : Standing) → first_of (xs ++ ys) ≡ Some x
    → (first_of xs ≡ Some x) ⊎ (first_of ys ≡ Some x)
of_either [] ys x e = inr e
of_either (y ∷ xs) ys x e = inl e

-- the first of what some become
first_mapped : {A : Type 0} (f : A → Standing) (xs : List A) (x : Standing) → first_of (map f xs) ≡ Some x
    → (a : A) × (first_of xs ≡ Some a) × (f a ≡ x)
first_mapped f [] x e = cc
first_mapped f (a ∷ xs) x e = (a, refl, let same : f a ≡ x = cc in same)

-- a member that is ready
pub record ReadyMember (s : State) (tx : ℕ) : Type 0 where
  pub member : Member
  pub is_own : active_member s tx ≡ Some member
  pub waiting : (member.posted || is_lent s tx) ≡ false

not_finished : (turn : Turn) (fated : Fated) → lookups.Finished fated.fate ≡ lookups.Ready turn → ⊥
not_finished turn fated e = cc

not_dormant : (turn : Turn) (dormant : Dormant) → lookups.Dormant dormant.runs ≡ lookups.Ready turn → ⊥
not_dormant turn dormant e = cc

not_prepared : (turn : Turn) → lookups.Prepared ≡ lookups.Ready turn → ⊥
not_prepared turn e = cc

not_posted : (turn : Turn) → lookups.Posted ≡ lookups.Ready turn → ⊥
not_posted turn e = cc

not_out : (turn : Turn) → lookups.Out ≡ lookups.Ready turn → ⊥
not_out turn e = cc

neither_is : (posted lent : Bool) (turn ready : Turn)
    → cond posted lookups.Posted (cond lent lookups.Out (lookups.Ready turn)) ≡ lookups.Ready ready
    → (posted || lent) ≡ false
neither_is true lent turn ready e = absurd (not_posted ready e)
neither_is false true turn ready e = absurd (not_out ready e)
neither_is false false turn ready e = refl

-- among those with a fate, those that are dormant and those that are prepared nobody is ready
module _ (s : State) (tx : ℕ) (turn : Turn) where
  abbrev with_fate : List Standing
  with_fate = map (λ fated. lookups.Finished fated.fate) (filter (λ fated. fated.tx == tx) s.fates)

  abbrev asleep : List Standing
  asleep = map (λ dormant. lookups.Dormant dormant.runs) (filter (λ dormant. dormant.tx == tx) s.dormant)

  abbrev prepared : List Standing
  prepared = map (λ member. lookups.Prepared) (filter (is_tx tx) s.prepared)

  abbrev active : List Standing
  active = map (active_standing s) (filter (is_tx tx) s.active)

  unready : first_of (with_fate ++ asleep ++ prepared) ≡ Some (lookups.Ready turn) → ⊥
  unready e =
      elim (of_either (with_fate ++ asleep) prepared (lookups.Ready turn) e) [
        | inl before ↦ elim (of_either with_fate asleep (lookups.Ready turn) before) [
          | inl first ↦
              let r = first_mapped (λ (fated : Fated). lookups.Finished fated.fate) (filter (λ fated. fated.tx == tx)
              s.fates) (lookups.Ready turn) first in
              not_finished turn r.0 r.2
          | inr second ↦
              let r = first_mapped (λ (dormant : Dormant). lookups.Dormant dormant.runs)
              (filter (λ dormant. dormant.tx == tx) s.dormant) (lookups.Ready turn) second in
              not_dormant turn r.0 r.2
        ]
        | inr third ↦
            let r = first_mapped (λ (member : Member). lookups.Prepared) (filter (is_tx tx) s.prepared)
            (lookups.Ready turn) third in
            not_prepared turn r.2
      ]

  first_active : standing s tx ≡ Some (lookups.Ready turn) → first_of active ≡ Some (lookups.Ready turn)
  first_active e =
      elim (of_either (with_fate ++ asleep ++ prepared) active (lookups.Ready turn) e) [
        | inl others ↦ absurd (unready others)
        | inr here ↦ here
      ]

  pub ready_member : standing s tx ≡ Some (lookups.Ready turn) → ReadyMember s tx
  ready_member e =
      let r = first_mapped (active_standing s) (filter (is_tx tx) s.active) (lookups.Ready turn) (first_active e) in
      let own : r.0.tx ≡ tx = (found s tx r.0 r.1).1 in
      record {
        member = r.0;
        is_own = r.1;
        waiting = ap (λ n. r.0.posted || is_lent s n) (sym own)
            ∙ neither_is r.0.posted (is_lent s r.0.tx) (turn_of (next_of s r.0)) turn r.2;
      }

module _ {F : Type 0} where
  -- ---- what a member that is ready begins

  pub begins_next : (s : State) (tx : ℕ) (m : Member) (reply : Reply F) (new : State) → active_member s tx ≡ Some m
      → (m.posted || is_lent s tx) ≡ false → Begins s tx reply new → BeginsNext s m (next_of s m) reply new
  begins_next s tx m reply new is waiting step =
      subst (λ busy. BeginsUnless busy s m reply new) waiting
      (subst (λ member. BeginsMember s tx member reply new) is step)

  -- ---- what that is answered

  said : (reply is : Reply F) → reply ≡ is → IsTurnTaken is → IsTurnTaken reply
  said reply is e h = subst IsTurnTaken (sym e) h

  ordinary : (s : State) (m : Member) (c : Statement Value) (blocked : Option ℕ) (reply : Reply F) (new : State)
      → BeginsOrdinary s m c blocked reply new → IsTurnTaken reply
  ordinary s m c (Some holder) reply new step = said reply _ step.0 tt
  ordinary s m c None reply new step = said reply _ step.0 tt

  posts : (s : State) (m : Member) (asked : Entangled Value) (reply : Reply F) (new : State)
      → Posts s m asked reply new → IsTurnTaken reply
  posts s m asked reply new (inl step) = said reply _ step.1 tt
  posts s m asked reply new (inr step) = said reply _ step.2.0 tt

  entangled : (s : State) (m : Member) (asked : Entangled Value) (blocked : Option ℕ) (reply : Reply F)
      (new : State) → BeginsEntangled s m asked blocked reply new → IsTurnTaken reply
  entangled s m asked (Some holder) reply new step = said reply _ step.0 tt
  entangled s m asked None reply new step = posts s m asked reply new step

  commits : (prepared : State) (group : ℕ) (ready : Bool) (reply : Reply F) (new : State)
      → BeginsCommit prepared group ready reply new → IsTurnTaken reply
  commits prepared group true reply new step = said reply _ step.0 tt
  commits prepared group false reply new step = said reply _ step.0 tt

  next : (s : State) (m : Member) (is : Next) (reply : Reply F) (new : State) → BeginsNext s m is reply new
      → IsTurnTaken reply
  next s m (Ordinary c) reply new step = ordinary s m c (blocker s m (statement_uses c)) reply new step
  next s m (Asks asked) reply new step = entangled s m asked (blocker s m (entangled_uses asked)) reply new step
  next s m Commits reply new step = commits (preparing s m) m.group (is_ready (preparing s m) m.group) reply new step
  next s m RollsBack reply new step = said reply _ step.0 tt

  pub turn_taken : (s : State) (tx : ℕ) (turn : Turn) (reply : Reply F) (new : State)
      → standing s tx ≡ Some (lookups.Ready turn) → Begins s tx reply new → IsTurnTaken reply
  turn_taken s tx turn reply new ready step =
      let r = ready_member s tx turn ready in
      next s r.member (next_of s r.member) reply new
      (begins_next s tx r.member reply new r.is_own r.waiting step)
