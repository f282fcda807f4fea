-- Members of joint answers by their numbers, and what is told of a place.
use Rattle.std.specs.Prelude.{ℕ, List, Option}
use Rattle.std.specs.Option.{option_and_then}
use Rattle.ent_history.specs.Placed.{Placed}
use Rattle.ent_semantics.specs.Entangled.{Valuation}
use Rattle.ent_semantics.specs.Serial.{numbered}
use Rattle.ent_semantics.specs.declared.book.JointAnswer.{JointAnswer}
use Rattle.ent_semantics.specs.declared.book.Member.{Member}

-- the member of a number in the joint answer of a number, both counted from 1
abbrev pub member_in : List JointAnswer → ℕ × ℕ → Option Member
member_in joints seat =
    option_and_then (λ (joint : JointAnswer). numbered joint.members seat.1) (numbered joints seat.0)

-- the numbers of a seat, and the grounding that is told there
abbrev pub told_seat : Placed → ℕ × ℕ × Valuation
told_seat one = (one.joint, one.number, one.member.grounding)
