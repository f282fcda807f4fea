-- At which line of its text each thing stands that a report tells of: the line with which it begins.
use Rattle.std.specs.Prelude.{◌≡◌, ◌≤◌, ◌+◌, ◌-◌, ℕ, zero, suc, List, [], ◌∷◌, ◌++◌, length, map}
use Rattle.std.specs.Prelude.{Contains, Option, Some, None, nat_lt, if◌then◌else◌}
use Rattle.std.specs.List.{AllByRecursion}
use Rattle.ent_book.specs.Report2.{line_count}
use Rattle.ent_history.specs.declared.finding.Thing.{Thing}
use Rattle.ent_history.specs.declared.finding.Thing.TheVariants as things
use Rattle.ent_history.specs.declared.history.History.{History}
use Rattle.ent_history.specs.declared.history.ToldJoint.{ToldJoint}
use Rattle.ent_history.specs.Draft.{Draft, blank}
use Rattle.ent_history.specs.Answers.{AnswerStands, TxStands, answers_so_far}
use Rattle.ent_history.specs.Joints.{JointStands, MemberStands}
use Rattle.ent_history.specs.Tables.{TableStands}
use Rattle.ent_history.specs.Stands.{AllStand, whole}
use Rattle.ent_report_reader.specs.declared.located.Counts.{Counts}
use Rattle.ent_report_reader.specs.declared.located.Located.{Located}

-- ---- where a thing stands

-- how many members the last joint answer has
abbrev pub members_so_far : List ToldJoint → ℕ
members_so_far [] = 0
members_so_far (joint ∷ []) = length joint.members
members_so_far (joint ∷ next ∷ more) = members_so_far (next ∷ more)

-- With this line the thing begins: it is the next of its sort below the lines above.
abbrev pub Begins : Thing → Draft → List ℕ → Draft → Type 0
Begins (things.Transaction tx) draft text next =
    TxStands draft text next × (tx ≡ length draft.told.transactions + 1)
Begins (things.Answer tx place) draft text next =
    AnswerStands draft text next × (tx ≡ length draft.told.transactions) × (1 ≤ tx)
    × (place ≡ answers_so_far draft.told.transactions + 1)
Begins (things.Joint joint) draft text next =
    JointStands draft text next × (joint ≡ length draft.told.joint_answers + 1)
Begins (things.Member joint member) draft text next =
    MemberStands draft text next × (joint ≡ length draft.told.joint_answers) × (1 ≤ joint)
    × (member ≡ members_so_far draft.told.joint_answers + 1)
Begins (things.Table table) draft text next =
    TableStands draft text next × (table ≡ length draft.told.tables + 1)

-- A thing stands at this line of a text, counted from 1: the lines above it stand, and with this one the thing begins.
pub record StandsAt (text : List ℕ) (thing : Thing) (line : ℕ) : Type 0 where
  pub above : List (List ℕ)
  pub own : List ℕ
  pub below : List ℕ
  pub before : Draft
  pub after : Draft
  pub parts : text ≡ whole above ++ (own ++ below)
  pub stand : AllStand blank above before
  pub begins : Begins thing before own after
  pub line_is : line ≡ line_count (whole above) + 1

-- ---- of which things a history tells

-- the number at an index from 0, and 0 behind the last
abbrev pub number_at : List ℕ → ℕ → ℕ
number_at [] index = 0
number_at (number ∷ more) zero = number
number_at (number ∷ more) (suc index) = number_at more index

-- a part of this number, of the thing of a number, where the things have so many parts each
abbrev pub IsPart : List ℕ → ℕ → ℕ → Type 0
IsPart counts number part = (1 ≤ number) × (1 ≤ part) × (part ≤ number_at counts (number - 1))

-- a thing that is told, where the transactions have so many answers each, and the joint answers so many members each,
-- and so many tables are shown; all are numbered from 1
abbrev pub IsAmong : List ℕ → List ℕ → ℕ → Thing → Type 0
IsAmong answers members tables (things.Transaction tx) = (1 ≤ tx) × (tx ≤ length answers)
IsAmong answers members tables (things.Answer tx place) = IsPart answers tx place
IsAmong answers members tables (things.Joint joint) = (1 ≤ joint) × (joint ≤ length members)
IsAmong answers members tables (things.Member joint member) = IsPart members joint member
IsAmong answers members tables (things.Table table) = (1 ≤ table) × (table ≤ tables)

abbrev pub answer_counts : History → List ℕ
answer_counts history = map (λ told. length told.answers) history.transactions

abbrev pub member_counts : History → List ℕ
member_counts history = map (λ joint. length joint.members) history.joint_answers

-- the history tells of the thing
abbrev pub TellsOf : History → Thing → Type 0
TellsOf history thing = IsAmong (answer_counts history) (member_counts history) (length history.tables) thing

-- These are the lines of what is told: each thing of them stands at its line, and all things that are told are among
-- them.
pub record AreLinesOf (text : List ℕ) (history : History) (lines : List Located) : Type 0 where
  pub each : AllByRecursion (λ located. StandsAt text located.thing located.line) lines
  pub all : (thing : Thing) → TellsOf history thing → Contains (map (λ located. located.thing) lines) thing

-- ---- what begins with a line, by how much is told

-- how many things are told: of each sort, and under the last transaction and the last joint answer
abbrev pub counts_of : History → Counts
counts_of told = record {
  transactions = length told.transactions;
  answers = answers_so_far told.transactions;
  joints = length told.joint_answers;
  members = members_so_far told.joint_answers;
  tables = length told.tables;
}

-- what is told behind the line and wasn't before
abbrev pub begun : Counts → Counts → Option Thing
begun before after =
    if nat_lt before.transactions after.transactions then Some (things.Transaction after.transactions)
    else if nat_lt before.answers after.answers then Some (things.Answer after.transactions after.answers)
    else if nat_lt before.joints after.joints then Some (things.Joint after.joints)
    else if nat_lt before.members after.members then Some (things.Member after.joints after.members)
    else if nat_lt before.tables after.tables then Some (things.Table after.tables)
    else None

-- the line of what begins with it stands behind those of what is above
abbrev pub located_behind : List Located → Option Thing → ℕ → List Located
located_behind lines (Some thing) line = lines ++ record { thing = thing; line = line } ∷ []
located_behind lines None line = lines
