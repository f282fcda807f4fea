-- The joint answers of a book, by the numbers of the commits.
use Rattle.std.specs.Prelude.{ℕ, List, map, Option, Some, None}
use Rattle.ent_semantics.specs.Serial.{numbered}
use Rattle.ent_semantics.specs.declared.book.Fate.{Fate}
use Rattle.ent_semantics.specs.declared.book.Fate.TheVariants as fates
use Rattle.ent_semantics.specs.declared.book.Fated.{Fated}
use Rattle.ent_semantics.specs.declared.book.JointAnswer.{JointAnswer}
use Rattle.ent_semantics.specs.declared.book.Member.{Member}
use Rattle.ent_room.specs.declared.epoch_book.EpochBook.{EpochBook}
use Rattle.ent_meet.specs.declared.epochs.Answered.{Answered}
use Rattle.ent_meet.specs.declared.epochs.EpochJoints.{EpochJoints}
use Rattle.ent_meet.specs.declared.epochs.Joint.{Joint}

-- the number of the commit that a fate tells; 0 where it tells none
abbrev pub number_told : Fate → ℕ
number_told (fates.Committed number runs) = number
number_told (fates.GaveUp runs) = 0
number_told (fates.RolledBack runs) = 0
number_told (fates.Failed failure runs) = 0

abbrev pub commit_number : Option Fated → ℕ
commit_number None = 0
commit_number (Some fated) = number_told fated.fate

-- a member of a joint answer: its transaction by the number of the commit that its fate tells, and its place
abbrev pub answered_of : List Fated → Member → Answered
answered_of fated member = record { commit = commit_number (numbered fated member.tx); place = member.place }

abbrev pub joint_of : List Fated → JointAnswer → Joint
joint_of fated joint = record { members = map (answered_of fated) joint.members }

abbrev pub joints_of : List Fated → List JointAnswer → List Joint
joints_of fated joints = map (joint_of fated) joints

-- the joint answers of the book of an epoch
abbrev pub epoch_joints : EpochBook → EpochJoints
epoch_joints last = record { epoch = last.epoch; joints = joints_of last.book.fates last.book.joint_answers }
