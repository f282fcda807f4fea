-- The first open component.
use Rattle.std.proofs.Common.{◌≡◌, inl, inr, ℕ, ◌<◌, ◌≤◌, List, [], ◌∷◌, length, get_or, refl, sym, ap, subst, arith}
use Rattle.std.proofs.Common.{Option, Some, None}
use Rattle.std.specs.Prelude.{Contains}
use Rattle.std.proofs.lemmas.Bool.{cases_lt}
use Rattle.std.proofs.lemmas.List.{get_or_default}
use Rattle.ent_lists.proofs.Contained.{contains_none}
use Rattle.ent_lock.specs.Use.{IsLeast}
use Rattle.ent_semantics.specs.Pool.{Posted, first_tx}
use Rattle.ent_match.specs.Components.{AreFirstPlaces, FirstIs, component_at}
use Rattle.ent_match.specs.Fault.{IsByNumber}
use Rattle.ent_match.proofs.Beginning.{some_within}
use Rattle.ent_protocol.specs.Job.{Job}
use Rattle.ent_protocol.specs.Member.{pool}
use Rattle.ent_protocol.specs.PoolEvents.{CanBePicked, IsPresentComponent}
use Rattle.ent_protocol.specs.Quiet.{IsUntried, NoneIs}
use Rattle.ent_protocol.specs.State.{State}
use Rattle.ent_waits.specs.Component.{IsPick, IsPickIn}
use Rattle.ent_waits.specs.Open.{IsFirstOpen, IsOpen, IsOpenAt, NoneIsOpen}
use Rattle.ent_waits.proofs.Exact.{AreClasses, begins_somewhere, component_in, present_in}

-- ---- places and the transactions that stand there

module _ (posted : List Posted) (ascends : IsByNumber posted) (firsts : List (Option ℕ))
    (are : AreFirstPlaces posted firsts) where
  pub first_at : (place : ℕ) (d : Posted) → FirstIs firsts place place
      → first_tx (component_at firsts place posted) ≡ (get_or posted place d).tx
  first_at place d is =
      let room = are.room in
      let below : place < length posted = (let l = some_within firsts place place is in omega arith) in
      let own = get_or posted place d in
      are.begins place own is (below, get_or_default posted place own d below)

  first_le : (one other : ℕ) → one ≤ other → FirstIs firsts one one → FirstIs firsts other other
      → first_tx (component_at firsts one posted) ≤ first_tx (component_at firsts other posted)
  first_le one other le is is_too =
      let room = are.room in
      let below : other < length posted = (let l = some_within firsts other other is_too in omega arith) in
      let d = some posted other below in
      let a = first_at one d is in
      let b = first_at other d is_too in
      elim (cases_lt one other) [
        | inl less ↦ (let l = ascends one other d less below in omega arith)
        | inr not_less ↦
            let same : one ≡ other = omega arith in
            let c = ap (λ k. (get_or posted k d).tx) same in
            omega arith
      ]
    where
      some : (xs : List Posted) (k : ℕ) → k < length xs → Posted
      some [] k below = absurd (omega arith)
      some (x ∷ xs) k below = x

-- ---- in a state

module _ (classes : AreClasses) (posted : List Posted) (ascends : IsByNumber posted) (firsts : List (Option ℕ))
    (are : AreFirstPlaces posted firsts) (s : State) (is : pool s ≡ posted) where
  -- a component that can be picked begins at an open place
  opens : (asked : List Posted) → CanBePicked s asked
      → (place : ℕ) × IsOpenAt posted firsts s.tried s.lent place × (component_at firsts place posted ≡ asked)
  opens asked can =
      let own = begins_somewhere classes posted firsts are asked (component_in s posted asked is can.component) in (
        own.0,
        record {
          begins = own.1;
          is_open = subst (IsOpen s.tried s.lent) (sym own.2)
              (record { untried = can.untried; not_out = can.not_out });
        },
        own.2,
      )

  first_in : (place : ℕ) → IsFirstOpen posted firsts s.tried s.lent place
      → IsPickIn s (Some (component_at firsts place posted))
  first_in place first =
      let component = component_at firsts place posted in
      record {
        can = record {
          component = present_in s posted component is (are.exact place first.is_open.begins);
          untried = first.is_open.is_open.untried;
          not_out = first.is_open.is_open.not_out;
        };
        least = λ others can.
            let own = opens others can in
            subst (λ xs. first_tx component ≤ first_tx xs) own.2
            (first_le posted ascends firsts are place own.0 (first.least own.0 own.1) first.is_open.begins
            own.1.begins);
      }

module _ (classes : AreClasses) (posted : List Posted) (ascends : IsByNumber posted) (firsts : List (Option ℕ))
    (are : AreFirstPlaces posted firsts) (tried : List (List Posted)) (lent : List Job) where
  pub picked_at : (place : ℕ) → IsFirstOpen posted firsts tried lent place
      → IsPick posted tried lent (Some (component_at firsts place posted))
  picked_at place first s posted_is tried_is lent_is =
      first_in classes posted ascends firsts are s posted_is place
      (subst (λ jobs. IsFirstOpen posted firsts s.tried jobs place) (sym lent_is)
      (subst (λ xs. IsFirstOpen posted firsts xs lent place) (sym tried_is) first))

  pub picked_none : NoneIsOpen posted firsts tried lent → IsPick posted tried lent None
  picked_none none s posted_is tried_is lent_is = λ asked can.
      let own = opens classes posted ascends firsts are s posted_is asked can in
      none own.0
      (subst (λ jobs. IsOpenAt posted firsts tried jobs own.0) lent_is
      (subst (λ xs. IsOpenAt posted firsts xs s.lent own.0) tried_is own.1))

-- ---- no job being lent

abbrev with_none : State → State
with_none s = record s { lent = [] }

can_alone : (s : State) (asked : List Posted) → IsPresentComponent s asked → (Contains s.tried asked → ⊥)
    → CanBePicked (with_none s) asked
can_alone s asked present untried =
    record {
      component = present;
      untried = untried;
      not_out = λ out. contains_none out.0 out.1;
    }

pub least_untried : (posted : List Posted) (tried : List (List Posted)) (asked : List Posted)
    → IsPick posted tried [] (Some asked) → (s : State) → pool s ≡ posted → s.tried ≡ tried
    → IsLeast (IsUntried s) (first_tx asked)
least_untried posted tried asked pick s posted_is tried_is =
    let first = pick (with_none s) posted_is tried_is refl in (
      record {
        asked = asked;
        component = first.can.component;
        untried = first.can.untried;
        first = refl;
      },
      λ other one.
          subst (λ tx. first_tx asked ≤ tx) one.first
          (first.least one.asked (can_alone s one.asked one.component one.untried)),
    )

pub no_untried : (posted : List Posted) (tried : List (List Posted)) → IsPick posted tried [] None → (s : State)
    → pool s ≡ posted → s.tried ≡ tried → NoneIs (IsUntried s)
no_untried posted tried pick s posted_is tried_is = λ tx one.
    pick (with_none s) posted_is tried_is refl one.asked (can_alone s one.asked one.component one.untried)
