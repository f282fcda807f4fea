-- Components are picked, answered together, or left without a choice.
use Rattle.std.specs.Prelude.{◌≡◌, ◌⊎◌, ◌≤◌, ℕ, ◌==◌, List, [], ◌∷◌, ◌++◌, map, Contains}
use Rattle.std.specs.Prelude.{Option, Some, None, if◌then◌else◌}
use Rattle.std.specs.List.{flat_map, list_any, filter}
use Rattle.ent_semantics.specs.declared.answer.Answer.TheVariants as answers
use Rattle.ent_semantics.specs.declared.book.JointAnswer.{JointAnswer}
use Rattle.ent_semantics.specs.declared.book.Member.{Member as JointMember}
use Rattle.ent_semantics.specs.Entangled.{Valuation}
use Rattle.ent_semantics.specs.Form.{form_heads, form_bound}
use Rattle.ent_semantics.specs.Component.{IsComponent}
use Rattle.ent_semantics.specs.Pool.{Posted, first_tx}
use Rattle.ent_protocol.specs.Begin.{Refuses}
use Rattle.ent_protocol.specs.Event.{Reply}
use Rattle.ent_protocol.specs.Event as replies
use Rattle.ent_protocol.specs.Finish.{IsTaken, stepped}
use Rattle.ent_protocol.specs.Job.{Job, Joint, Done, Choice, IsEvaluated}
use Rattle.ent_protocol.specs.Member.{pool, is_tx, seen_now}
use Rattle.ent_protocol.specs.State.{State, Member, Use, members}
use Rattle.ent_protocol.specs.Begin.{with_uses}
use Rattle.ent_protocol.specs.Uses.{entangled_uses}

-- posted statements of members, of their attempts and at their places, that are exactly a component of the pool
abbrev pub IsPresentComponent : State → List Posted → Type 0
IsPresentComponent s asked = IsComponent (pool s) asked

-- ---- what may be picked

-- a joint job of exactly these statements is lent
abbrev pub IsOut : State → List Posted → Type 0
IsOut s asked = (job : Job) × Contains s.lent job × (job.work ≡ Joint asked)

-- a component that wasn't tried, and no job of which is out
pub record CanBePicked (s : State) (asked : List Posted) : Type 0 where
  pub component : IsPresentComponent s asked
  pub untried : Contains s.tried asked → ⊥
  pub not_out : IsOut s asked → ⊥

-- the uses of some statements, by table, each once
abbrev pub joint_uses : List Posted → List Use
joint_uses asked = with_uses (flat_map (λ query. entangled_uses query.statement) asked) []

abbrev pub joint_job : State → List Posted → Job
joint_job s asked = record { work = Joint asked; tables = seen_now s.opening.tables s.tables (joint_uses asked) }

-- ---- what an answer makes of the members

-- a member takes its values: its heads are its answer, and its host variables are bound
abbrev pub answered_by : Posted → Valuation → Member → Member
answered_by query values member =
    stepped (answers.Heads (form_heads (λ value. value) query.statement values))
    (record member { bound = member.bound ++ form_bound (λ value. value) query.statement values })

abbrev pub answered_among : List Posted → List Valuation → Member → Member
answered_among [] groundings member = member
answered_among (query ∷ asked) [] member = member
answered_among (query ∷ asked) (values ∷ more) member =
    if is_tx query.tx member then answered_by query values member else answered_among asked more member

-- the members of the joint answer, with their groundings
abbrev pub joint_members : List Posted → List Valuation → List JointMember
joint_members [] groundings = []
joint_members (query ∷ asked) [] = []
joint_members (query ∷ asked) (values ∷ more) =
    record { tx = query.tx; place = query.place; grounding = values } ∷ joint_members asked more

abbrev pub joint_answer : List Posted → List Valuation → JointAnswer
joint_answer asked groundings = record { members = joint_members asked groundings }

-- the groups of the members that are answered
abbrev pub answered_groups : State → List Posted → List ℕ
answered_groups s asked =
    map (λ member. member.group) (filter (λ member. list_any (λ query. is_tx query.tx member) asked) (members s))

-- the label that their groups get together: that of the first one's
abbrev pub joined_label : List ℕ → ℕ → ℕ
joined_label [] group = group
joined_label (first ∷ more) group = if list_any (λ joined. joined == group) (first ∷ more) then first else group

abbrev pub in_joined_group : List ℕ → Member → Member
in_joined_group groups member = record member { group = joined_label groups member.group }

-- the members leave the pool, answered, and their groups are one
abbrev pub joining : State → List Posted → List Valuation → State
joining s asked groundings =
    record s {
      prepared = map (in_joined_group (answered_groups s asked)) s.prepared;
      active = map (λ member. in_joined_group (answered_groups s asked) (answered_among asked groundings member))
          s.active;
      joints = s.joints ++ joint_answer asked groundings ∷ [];
    }

-- ---- results of joint jobs

-- the job of a result is lent, and its members are exactly a component now
pub record IsOutstandingJoint (s : State) (done : Done) : Type 0 where
  pub asked : List Posted
  pub is_joint : done.job.work ≡ Joint asked
  pub left : List Job
  pub taken : IsTaken done.job s.lent left
  pub component : IsPresentComponent s asked

module _ {F : Type 0} where
  -- the component with the least first member is lent
  pub record Lends (s : State) (reply : Reply F) (new : State) : Type 0 where
    pub asked : List Posted
    pub can : CanBePicked s asked
    pub least : (others : List Posted) → CanBePicked s others → first_tx asked ≤ first_tx others
    pub replies : reply ≡ replies.Lent (joint_job s asked)
    pub is : new ≡ record s { lent = s.lent ++ joint_job s asked ∷ [] }

  abbrev pub Picks : State → Reply F → State → Type 0
  Picks s reply new =
      Lends s reply new
      ⊎ (((asked : List Posted) → CanBePicked s asked → ⊥) × Refuses s replies.Nothing reply new)

  abbrev pub AnswersBy : State → List Posted → Option (List Valuation) → Reply F → State → Type 0
  AnswersBy s asked (Some groundings) reply new = (reply ≡ replies.Answered) × (new ≡ joining s asked groundings)
  AnswersBy s asked None reply new = (reply ≡ replies.NoChoice) × (new ≡ record s { tried = asked ∷ s.tried })

  -- The outcome is what the work means over its own tables. With a choice the members are answered; without one the
  -- component is tried; the job is lent no more.
  pub record Joins (s : State) (done : Done) (reply : Reply F) (new : State) : Type 0 where
    pub meant : IsEvaluated done
    pub outstanding : IsOutstandingJoint s done
    pub groundings : Option (List Valuation)
    pub choice : done.outcome ≡ Choice groundings
    pub answers : AnswersBy (record s { lent = outstanding.left }) outstanding.asked groundings reply new

  abbrev pub JoinsOrIsStale : State → Done → Reply F → State → Type 0
  JoinsOrIsStale s done reply new =
      Joins s done reply new
      ⊎ ((IsOutstandingJoint s done → ⊥) × Refuses s (replies.Stale done) reply new)
