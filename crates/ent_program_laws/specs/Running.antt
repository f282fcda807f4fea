-- Demands of members of a run for which the text of a member of their group may offer something.
use Rattle.std.specs.Prelude.{◌≡◌, ◌⊎◌, ◌<◌, ℕ, List, Some, IsTrue, Contains}
use Rattle.std.specs.List.{filter, filter_map}
use Rattle.ent_tree.specs.declared.script.Script.{Script}
use Rattle.ent_tree.specs.declared.script.Statement.{Statement}
use Rattle.ent_semantics.specs.Serial.{numbered}
use Rattle.ent_meetings.specs.PartyMeeting.{offers}
use Rattle.ent_meetings.specs.Party.{party_of}
use Rattle.ent_meetings.specs.declared.pattern.Pattern.{Pattern}
use Rattle.ent_protocol.specs.Member.{is_of}
use Rattle.ent_protocol.specs.Reached.{scripts_of}
use Rattle.ent_protocol.specs.State.{State, Member, members}

-- a member of the run is prepared, or stands behind this place
abbrev pub HasPassed : State → Member → ℕ → Type 0
HasPassed s member place = Contains s.prepared member ⊎ (Contains s.active member × (place < member.place))

-- the script of a member of this group offers, by its text, what may meet the demand
pub record IsMetInGroup (s : State) (group : ℕ) (demand : Pattern) : Type 0 where
  pub partner : Member
  pub script : Script
  pub is_member : Contains (members s) partner
  pub of_group : partner.group ≡ group
  pub of_list : numbered (scripts_of s) partner.tx ≡ Some script
  pub offers : IsTrue (offers demand (party_of script))

-- the scripts of the members of a group
abbrev pub group_scripts : State → ℕ → List Script
group_scripts s group =
    filter_map (λ member. numbered (scripts_of s) member.tx) (filter (is_of group) (members s))

-- each member of the group has passed all statements of its script
abbrev pub HaveAllPassed : State → ℕ → Type 0
HaveAllPassed s group =
    (member : Member) (script : Script) (place : ℕ) (statement : Statement) → Contains (members s) member
    → member.group ≡ group → numbered (scripts_of s) member.tx ≡ Some script
    → numbered script.statements place ≡ Some statement → HasPassed s member place
