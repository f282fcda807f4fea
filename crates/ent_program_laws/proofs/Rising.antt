-- Every event keeps that joint answers name their members by number.
use Rattle.std.proofs.Common.{◌≡◌, ◌<◌, List, [], ◌∷◌, refl, sym, ap, subst, inl, inr}
use Rattle.std.specs.List.{AllByRecursion}
use Rattle.ent_semantics.specs.declared.statement.Statement.{Statement}
use Rattle.ent_value.specs.declared.value.Value.{Value}
use Rattle.ent_semantics.specs.declared.book.JointAnswer.{JointAnswer}
use Rattle.ent_semantics.specs.declared.book.Member.{Member as JointMember}
use Rattle.ent_semantics.specs.Entangled.{Valuation}
use Rattle.ent_semantics.specs.Pool.{Posted}
use Rattle.ent_protocol.specs.Finish.{finished}
use Rattle.ent_protocol.specs.Job.{Outcome, Shown, Changed, Bound, Choice, Fault}
use Rattle.ent_protocol.specs.PoolEvents.{IsPresentComponent, joint_answer, joint_members}
use Rattle.ent_protocol.specs.Reached.{IsReached}
use Rattle.ent_protocol.specs.Run.{Forms}
use Rattle.ent_protocol.specs.State.{State, Member}
use Rattle.ent_protocol_laws.proofs.Acts.{AreKept, reached}
use Rattle.ent_lists.specs.Elements.{In, Pairs, all_filtered, all_joined, index_pairs, of_all, to_all}

abbrev pub Before : JointMember → JointMember → Type 0
Before first second = first.tx < second.tx

abbrev pub Rises : JointAnswer → Type 0
Rises joint = Pairs Before joint.members

abbrev AllRise : State → Type 0
AllRise s = AllByRecursion Rises s.joints

abbrev AskedBefore : Posted → Posted → Type 0
AskedBefore first second = first.tx < second.tx

-- ---- the joint answer of a component

asked_by : (asked : List Posted) (groundings : List Valuation) (member : JointMember)
    → In member (joint_members asked groundings) → (query : Posted) × In query asked × (member.tx ≡ query.tx)
asked_by [] groundings member at = absurd at
asked_by (query ∷ asked) [] member at = absurd at
asked_by (query ∷ asked) (values ∷ more) member (inl same) =
    (query, inl refl, ap (λ (m : JointMember). m.tx) same)
asked_by (query ∷ asked) (values ∷ more) member (inr at) =
    let r = asked_by asked more member at in
    (r.0, inr r.1, r.2)

members_rise : (asked : List Posted) (groundings : List Valuation) → Pairs AskedBefore asked
    → Pairs Before (joint_members asked groundings)
members_rise [] groundings rise = tt
members_rise (query ∷ asked) [] rise = tt
members_rise (query ∷ asked) (values ∷ more) rise = (
  to_all (Before (record { tx = query.tx; place = query.place; grounding = values })) (joint_members asked more)
      (λ member at.
      let r = asked_by asked more member at in
      subst (λ n. query.tx < n) (sym r.2) (of_all (AskedBefore query) asked r.0 rise.0 r.1)),
  members_rise asked more rise.1,
)

answer_rises : (s : State) (asked : List Posted) (groundings : List Valuation) → IsPresentComponent s asked
    → Rises (joint_answer asked groundings)
answer_rises s asked groundings component =
    members_rise asked groundings
    (index_pairs (λ one other. one.tx < other.tx) asked component.ascending)

-- ---- all events

finished_rise : (s : State) (m : Member) (statement : Statement Value) (outcome : Outcome) → AllRise s
    → AllRise (finished s m statement outcome)
finished_rise s m statement (Changed count removed added) h = h
finished_rise s m statement (Bound value) h = h
finished_rise s m statement (Shown rows) h = h
finished_rise s m statement (Fault failure) h = h
finished_rise s m statement (Choice groundings) h = h

rise_kept : AreKept AllRise
rise_kept =
    record {
      submits = λ s script form h. h;
      starts = λ s off h. h;
      lends = λ s m statement idle next h. h;
      posts = λ s m statement idle next safe h. h;
      prepares = λ s m idle h. h;
      commits = λ s group ready h. h;
      rolls_back = λ s group cause h. all_filtered Rises _ s.joints h;
      takes = λ s job left taken h. h;
      finishes = λ s m left statement outcome back h. finished_rise (record s { lent = left }) m statement outcome h;
      picks = λ s asked component out h. h;
      joins = λ s job left asked groundings taken component grounded h.
          all_joined Rises s.joints (joint_answer asked groundings ∷ []) h
          (answer_rises s asked groundings component, tt);
      tries = λ s asked h. h;
      ends = λ s h. all_filtered Rises _ s.joints h;
      recalls = λ s h. h;
    }

pub reached_rise : {F : Type 0} (forms : Forms F) (s : State) → IsReached forms s → AllByRecursion Rises s.joints
reached_rise forms s r = reached forms AllRise rise_kept s tt r
