-- Members of joint answers, and the groundings that are told of statements.
use Rattle.std.specs.Prelude.{ℕ, suc, Bool, ◌==◌, ◌&&◌, List, [], ◌∷◌, ◌++◌, Option, Some, None, if◌then◌else◌}
use Rattle.std.specs.List.{find}
use Rattle.ent_tree.specs.declared.script.Statement.{Statement}
use Rattle.ent_semantics.specs.declared.book.JointAnswer.{JointAnswer}
use Rattle.ent_semantics.specs.declared.book.Member.{Member}
use Rattle.ent_semantics.specs.Entangled.{Valuation}
use Rattle.ent_semantics.specs.Serial.{Operation, is_entangled}

-- a member, the number of its joint answer, and its own number in that
pub record Placed : Type 0 where
  pub joint : ℕ
  pub number : ℕ
  pub member : Member

abbrev pub members_from : ℕ → ℕ → List Member → List Placed
members_from joint number [] = []
members_from joint number (member ∷ more) =
    record { joint = joint; number = number; member = member } ∷ members_from joint (suc number) more

-- the members of joint answers, the first of these having this number
abbrev pub placed_from : ℕ → List JointAnswer → List Placed
placed_from joint [] = []
placed_from joint (answer ∷ more) = members_from joint 1 answer.members ++ placed_from (suc joint) more

abbrev pub placed : List JointAnswer → List Placed
placed joint_answers = placed_from 1 joint_answers

-- a member is the statement of this place
abbrev pub stands_at : ℕ → ℕ → Member → Bool
stands_at tx place member = (member.tx == tx) && (member.place == place)

-- the first member that is the statement of this place
abbrev pub member_at : List Placed → ℕ → ℕ → Option Placed
member_at members tx place = find (λ one. stands_at tx place one.member) members

abbrev pub grounding_of : Option Placed → Valuation
grounding_of (Some one) = one.member.grounding
grounding_of None = []

-- statements, the first having this place, with the groundings that are told of the entangled ones
abbrev pub told_operations : List Placed → ℕ → ℕ → List Statement → List Operation
told_operations members tx place [] = []
told_operations members tx place (statement ∷ more) =
    record {
      statement = statement;
      valuation = if is_entangled statement then grounding_of (member_at members tx place) else [];
    }
    ∷ told_operations members tx (suc place) more
