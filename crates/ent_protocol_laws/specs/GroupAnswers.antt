-- Joint answers of members are good over what the members of their group did, run alone.
use Rattle.std.specs.Prelude.{◌≡◌, ℕ, List, ◌++◌, Contains, flat_map}
use Rattle.ent_tree.specs.declared.declaration.Create.{Create}
use Rattle.ent_semantics.specs.declared.book.JointAnswer.{JointAnswer}
use Rattle.ent_semantics.specs.declared.book.Member.{Member as JointMember}
use Rattle.ent_semantics.specs.Database.{Database, nothing_bound}
use Rattle.ent_semantics.specs.Joint.{IsGood}
use Rattle.ent_semantics.specs.Serial.{ReadView, read_views}
use Rattle.ent_protocol.specs.Reached.{live_joints}
use Rattle.ent_protocol.specs.State.{State, Member, members}
use Rattle.ent_protocol_laws.specs.GoodAnswers.{histories_read_views}
use Rattle.ent_protocol_laws.specs.GroupRuns.{GroupRuns, settled_database}
use Rattle.ent_protocol_laws.specs.History.{History}

-- what the entangled statements of a member see that runs from a database
abbrev pub history_read_views : List Create → Database → History → List ReadView
history_read_views declared first history =
    read_views declared history.member.tx 1 history.operations first nothing_bound

-- these are the histories that a group's runs give its unprepared members
pub record AreOthers (s : State) (group : ℕ) (runs : GroupRuns s group) (others : List History) : Type 0 where
  pub all : (member : Member) (active : Contains s.active member) (own : member.group ≡ group)
      → Contains others (runs.others member active own).history
  pub only : (history : History) → Contains others history
      → (member : Member) × (active : Contains s.active member) × (own : member.group ≡ group)
      × (history ≡ (runs.others member active own).history)

-- what the entangled statements of a group see: those of its prepared members, one after the other from the settled
-- database, and those of each other member, from where they end
abbrev pub group_read_views : (s : State) (group : ℕ) → GroupRuns s group → List History → List ReadView
group_read_views s group runs others =
    histories_read_views s.opening.tables runs.prepared (settled_database s)
    ++ flat_map (history_read_views s.opening.tables runs.start) others

-- all members of a joint answer are members of the run, in this group
abbrev pub IsOfGroup : State → ℕ → JointAnswer → Type 0
IsOfGroup s group joint =
    (asked : JointMember) → Contains joint.members asked
    → (member : Member) × Contains (members s) member × (member.tx ≡ asked.tx) × (member.group ≡ group)

-- each joint answer of members is of one group
abbrev pub HaveGroups : State → Type 0
HaveGroups s = (joint : JointAnswer) → Contains (live_joints s) joint → (group : ℕ) × IsOfGroup s group joint

-- a group's runs, and each joint answer of its members is good over what they see there
pub record GroupAnswers (s : State) (group : ℕ) : Type 0 where
  pub runs : GroupRuns s group
  pub others : List History
  pub of_others : AreOthers s group runs others
  pub good : (joint : JointAnswer) → Contains (live_joints s) joint → IsOfGroup s group joint
      → IsGood s.opening.tables (group_read_views s group runs others) joint.members
