-- Friends of the pool of a state are picked, and answered together; or their result is stale.
use Rattle.std.proofs.Common.{◌≡◌, ℕ, zero, suc, ◌≤◌, Bool, true, false, List, [], ◌∷◌, ◌++◌, map}
use Rattle.std.proofs.Common.{refl, sym, ap, subst, ◌∙◌, arith, rules, inl, Some}
use Rattle.std.proofs.lemmas.Bool.{leb-true}
use Rattle.std.specs.Prelude.{Contains, nat_le, ◌==◌, if◌then◌else◌}
use Rattle.std.specs.List.{list_all}
use Rattle.ent_protocol_laws.proofs.Determined.{same_asked}
use Rattle.ent_semantics.specs.Component.{IsComponent, IsInRemainder, AreJoined}
use Rattle.ent_semantics.specs.Pool.{Posted, first_tx}
use Rattle.ent_semantics.proofs.Linked.{linked_end}
use Rattle.ent_protocol.specs.Event.{Reply}
use Rattle.ent_protocol.specs.Event as replies
use Rattle.ent_protocol.specs.Finish.{IsOutstandingSingle, IsTaken}
use Rattle.ent_protocol.specs.Job.{Job, One, Joint, Single, Done}
use Rattle.ent_protocol.specs.Member.{pool}
use Rattle.ent_protocol.specs.PoolEvents.{joining, joint_job, CanBePicked, IsOut, IsOutstandingJoint}
use Rattle.ent_protocol.specs.PoolEvents.{IsPresentComponent, Lends, Joins}
use Rattle.ent_lists.specs.Elements.{in_contains}
use Rattle.ent_lists.proofs.Contained.{of_mapped, to_mapped, contains_none}
use Rattle.ent_protocol.specs.PostedBy.{is_present}
use Rattle.ent_protocol.specs.State.{State}
use Rattle.ent_protocol_laws.proofs.Taken.{none_taken}
use Rattle.ent_examples.specs.Wish.{Friend, posted, joint_done}
use Rattle.ent_examples.specs.Wish as wishes
use Rattle.ent_examples.proofs.Choice.{taken, least_taken, have_partners}
use Rattle.ent_examples.proofs.Component.{chosen, are_served, are_closed, joined, ascends, component, remains}
use Rattle.ent_examples.proofs.Component.{joined_by}
use Rattle.ent_examples.proofs.Listed.{by_first, each_passes}

-- what has to be so of the members of a component
pub record AreTogether (friends : List Friend) (among : ℕ → Bool) (first : Friend) (more : List Friend) : Type 0 where
  pub are : chosen friends among ≡ first ∷ more
  pub served : are_served friends among ≡ true
  pub closed : are_closed friends among ≡ true
  pub star : list_all (joined first) more ≡ true
  pub by_number : ascends (first ∷ more) ≡ true

-- a state in whose pool are these friends, and no other
module _ (s : State) (friends : List Friend) (asked : pool s ≡ map posted friends) where
  -- a component begins with none before the first of all
  pub first_at_least : (n : ℕ) → list_all (λ friend. nat_le n friend.tx) friends ≡ true → (others : List Posted)
      → IsPresentComponent s others → n ≤ first_tx others
  first_at_least n h [] is =
      absurd (contains_none _ ((is.class is.first).1 (is.in_remainder, (zero, refl))))
  first_at_least n h (a ∷ others) is =
      let x = of_mapped posted friends a
      (subst (λ xs. Contains xs a) asked
      (in_contains (pool s) a (is_present (pool s) (a ∷ others) is a (inl refl)))) in
      subst (λ tx. n ≤ tx) (sym (ap (λ (a : Posted). a.tx) x.2)) (leb-true n x.0.tx (each_passes _ friends x.0 h x.1))

  module _ (among : ℕ → Bool) (first : Friend) (more : List Friend)
      (together : AreTogether friends among first more) where
    abbrev members : List Friend
    members = first ∷ more

    pub present : IsPresentComponent s (map posted members)
    present =
        subst (λ xs. IsComponent xs (map posted members)) (sym asked)
        (component friends among first more together.are together.served together.closed together.star
        together.by_number)

    least : list_all (λ friend. nat_le first.tx friend.tx) friends ≡ true → (others : List Posted)
        → CanBePicked s others → first.tx ≤ first_tx others
    least h others can = first_at_least first.tx h others can.component

    abbrev lent : {F : Type 0} → Reply F
    lent = replies.Lent (joint_job s (map posted members))

    pub lends : {F : Type 0} → s.tried ≡ [] → (IsOut s (map posted members) → ⊥)
        → list_all (λ friend. nat_le first.tx friend.tx) friends ≡ true
        → Lends {F = F} s lent (record s { lent = s.lent ++ joint_job s (map posted members) ∷ [] })
    lends tried_is not_out h =
        record {
          asked = map posted members;
          can = record {
            component = present;
            untried = λ tried. contains_none _ (subst (λ xs. Contains xs (map posted members)) tried_is tried);
            not_out = not_out;
          };
          least = least h;
          replies = refl;
          is = refl;
        }

    abbrev answered : {F : Type 0} → Reply F
    answered = replies.Answered

    pub joins : {F : Type 0} → have_partners members ≡ true → (left : List Job)
        → IsTaken (wishes.joint_job members) s.lent left
        → Joins {F = F} s (joint_done members) answered
        (joining (record s { lent = left }) (map posted members) (taken members))
    joins h left is_taken =
        record {
          meant = least_taken members h;
          outstanding = record {
            asked = map posted members;
            is_joint = refl;
            left = left;
            taken = is_taken;
            component = present;
          };
          groundings = Some (taken members);
          choice = refl;
          answers = (refl, refl);
        }

-- ---- what isn't outstanding

pub nothing_out : (s : State) (asked : List Posted) → s.lent ≡ [] → IsOut s asked → ⊥
nothing_out s asked e h = contains_none h.0 (subst (λ jobs. Contains jobs h.0) e h.1)

pub stale_joint : (s : State) (done : Done) → s.lent ≡ [] → IsOutstandingJoint s done → ⊥
stale_joint s done e h = none_taken done.job s.lent h.left e h.taken

pub stale_single : (s : State) (done : Done) → s.lent ≡ [] → IsOutstandingSingle s done → ⊥
stale_single s done e h = none_taken done.job s.lent h.1 e h.3

one_or_joint : (single : Single) (asked : List Posted) → One single ≡ Joint asked → ⊥
one_or_joint single asked e = cc

-- a result of one statement is no joint one, nor the other way round
pub not_joint : (s : State) (done : Done) (single : Single) → done.job.work ≡ One single → IsOutstandingJoint s done
    → ⊥
not_joint s done single e h = one_or_joint single h.asked (sym e ∙ h.is_joint)

pub not_single : (s : State) (done : Done) (asked : List Posted) → done.job.work ≡ Joint asked
    → IsOutstandingSingle s done → ⊥
not_single s done asked e h = one_or_joint h.0 asked (sym h.2 ∙ e)

-- ---- a component that grew

no_class : (pool ones : List Posted) (member next : Posted) → Contains ones member → AreJoined member next
    → IsInRemainder pool next → (Contains ones next → ⊥) → IsComponent pool ones → ⊥
no_class pool ones member next there join remains out h =
    let way = ((h.class member).0 there).1 in
    out ((h.class next).1 (remains, (suc way.0, linked_end pool way.0 h.first member next way.1 join remains)))

-- the result of a component with a member of which another one, who remains, is joined, and who isn't of it
pub grown : (s : State) (friends : List Friend) → pool s ≡ map posted friends → (among : ℕ → Bool)
    → are_served friends among ≡ true → (members : List Friend) (member next : Friend) → Contains members member
    → Contains (chosen friends among) next → joined member next ≡ true
    → list_all (λ other. if other.tx == next.tx then false else true) members ≡ true
    → IsOutstandingJoint s (joint_done members) → ⊥
grown s friends asked among served members member next there is_chosen join apart h =
    no_class (map posted friends) (map posted members) (posted member) (posted next)
    (to_mapped posted members member there) (joined_by friends among member next join)
    (remains friends among served next is_chosen) out
    (subst (λ xs. IsComponent xs (map posted members)) asked
    (subst (IsComponent (pool s)) (sym (same_asked (map posted members) h.asked h.is_joint)) h.component))
  where
    no_other : (n m : ℕ) → n ≡ m → (if n == m then false else true) ≡ true → ⊥
    no_other n m e k = grind (arith, rules)

    out : Contains (map posted members) (posted next) → ⊥
    out k =
        let x = of_mapped posted members (posted next) k in
        no_other x.0.tx next.tx (sym (ap (λ (p : Posted). p.tx) x.2)) (each_passes _ members x.0 apart x.1)

-- where nothing is posted no joint result is outstanding
pub gone : (s : State) → pool s ≡ [] → (done : Done) → IsOutstandingJoint s done → ⊥
gone s none done h =
    let first = h.component.in_remainder.is_in.0 in
    contains_none _ (subst (λ xs. Contains xs h.component.first) none first)

pub one_lent : (job other : Job) → Contains (job ∷ []) other → other ≡ job
one_lent job other h = by_first job other [] (λ e. e) (λ more. absurd (contains_none _ more)) h
