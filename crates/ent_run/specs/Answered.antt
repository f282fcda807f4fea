-- Members that take a joint answer.
use Rattle.std.specs.Prelude.{◌≡◌, ℕ, List, [], ◌∷◌, ◌++◌, map, if◌then◌else◌}
use Rattle.ent_semantics.specs.Entangled.{Valuation}
use Rattle.ent_semantics.specs.Pool.{Posted}
use Rattle.ent_protocol.specs.Member.{is_tx}
use Rattle.ent_protocol.specs.PoolEvents.{in_joined_group, joining}
use Rattle.ent_protocol.specs.State.{State, Member}
use Rattle.ent_members.specs.Changes.{stepping}
use Rattle.ent_members.specs.Answered.{MemberAnswer, member_answer, answer_tx}
use Rattle.ent_run.specs.Joined.{labels_in}
use Rattle.ent_run.specs.Run.{Run}

-- what each member gets under its grounding
abbrev pub member_answers : List Posted → List Valuation → List MemberAnswer
member_answers [] groundings = []
member_answers (query ∷ asked) [] = []
member_answers (query ∷ asked) (values ∷ more) =
    member_answer query.tx query.statement values ∷ member_answers asked more

-- a member takes the first answer of its number, where there is one
abbrev pub answered_from : List MemberAnswer → Member → Member
answered_from [] member = member
answered_from (own ∷ more) member =
    if is_tx own.tx member then stepping own.answer own.bound member else answered_from more member

-- the labels of the groups of those who are answered
abbrev pub answered_labels : List MemberAnswer → Run → List ℕ
answered_labels given run = labels_in (map answer_tx given) (run.prepared ++ run.active)

-- members that aren't prepared take their answers, and their groups become one
pub record AnswerTogether (given : List MemberAnswer) (old new : Run) : Type 0 where
  pub prepared : new.prepared ≡ map (in_joined_group (answered_labels given old)) old.prepared
  pub active : new.active
      ≡ map (λ member. in_joined_group (answered_labels given old) (answered_from given member)) old.active

-- the members of a state in which these statements were answered
pub record IsJoining (s : State) (asked : List Posted) (groundings : List Valuation) (run : Run) : Type 0 where
  pub prepared : run.prepared ≡ (joining s asked groundings).prepared
  pub active : run.active ≡ (joining s asked groundings).active
