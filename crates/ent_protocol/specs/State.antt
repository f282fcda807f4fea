-- What a core holds.
use Rattle.std.specs.Prelude.{ℕ, Bool, List, [], ◌∷◌, ◌++◌, Option, Some, None, nat_lt, if◌then◌else◌}
use Rattle.ent_value.specs.declared.value.Value.{Value}
use Rattle.ent_tree.specs.declared.declaration.Opening.{Opening}
use Rattle.ent_tree.specs.declared.script.Script.{Script}
use Rattle.ent_lock.specs.declared.mode.Mode.{Mode}
use Rattle.ent_semantics.specs.declared.answer.Answer.{Answer}
use Rattle.ent_semantics.specs.declared.book.Entry.{Entry}
use Rattle.ent_semantics.specs.declared.book.Fated.{Fated}
use Rattle.ent_semantics.specs.declared.book.JointAnswer.{JointAnswer}
use Rattle.ent_semantics.specs.Database.{Name, Rows}
use Rattle.ent_semantics.specs.declared.operand.Known.{Known}
use Rattle.ent_semantics.specs.declared.statement.Statement.{Statement}
use Rattle.ent_semantics.specs.Form.{Tables}
use Rattle.ent_semantics.specs.Pool.{Posted}
use Rattle.ent_protocol.specs.Job.{Job}

-- a script that was submitted, and its statements resolved
pub record Submitted : Type 0 where
  pub script : Script
  pub form : List (Statement Known)

-- a transaction that is in no run, and in how many it was
pub record Dormant : Type 0 where
  pub tx : ℕ
  pub runs : ℕ

-- a table, by its number, and how it is used
pub record Use : Type 0 where
  pub table : ℕ
  pub mode : Mode

-- a member of the present run
pub record Member : Type 0 where
  pub tx : ℕ
  -- the runs that it took part in, this one counted
  pub attempt : ℕ
  -- members of one label are of one group
  pub group : ℕ
  -- the number of its next statement, from 1
  pub place : ℕ
  -- what its host variables were bound to, the newest last
  pub bound : List (Name × Value)
  pub answers : List Answer
  -- the uses that it holds
  pub uses : List Use
  -- its next statement is in the pool
  pub posted : Bool

-- a table as it stood before a transaction changed it
pub record Change : Type 0 where
  pub tx : ℕ
  pub table : ℕ
  pub before : Rows

pub record State : Type 0 where
  pub opening : Opening
  -- by number from 1
  pub submitted : List Submitted
  pub dormant : List Dormant
  pub running : Bool
  -- members that asked to commit, in the order in which they did
  pub prepared : List Member
  -- the other members
  pub active : List Member
  -- joint answers in the order in which they were made, without those that were rolled back
  pub joints : List JointAnswer
  -- posted statements for which no choice was found
  pub tried : List (List Posted)
  pub lent : List Job
  -- the present rows of the tables, in the order of their declaration
  pub tables : Tables
  -- what members changed, the newest first
  pub changes : List Change
  pub journal : List Entry
  pub fates : List Fated

-- all members of the run
abbrev pub members : State → List Member
members s = s.prepared ++ s.active

-- put in by number, before the first of a greater one
abbrev pub inserted : {A : Type 0} → (A → ℕ) → A → List A → List A
inserted number x [] = x ∷ []
inserted number x (y ∷ ys) = if nat_lt (number x) (number y) then x ∷ y ∷ ys else (y ∷ inserted number x ys)

abbrev pub by_number : {A : Type 0} → (A → ℕ) → List A → List A
by_number number [] = []
by_number number (x ∷ xs) = inserted number x (by_number number xs)

-- the first of a list
abbrev pub first_of : {A : Type 0} → List A → Option A
first_of [] = None
first_of (x ∷ xs) = Some x
