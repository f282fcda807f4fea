-- A line of any sort that is taken in, or not.
use Rattle.std.specs.Prelude.{◌≡◌, ℕ, Bool, true, false, List}
use Rattle.ent_book.specs.Report.{line}
use Rattle.ent_history.specs.Draft.{Draft}
use Rattle.ent_history.specs.Opening.{OpeningStands}
use Rattle.ent_history.specs.Scripts.{ScriptStands}
use Rattle.ent_history.specs.Answers.{AnswerStands, TxStands}
use Rattle.ent_history.specs.Joints.{JointStands}
use Rattle.ent_history.specs.Tables.{EndStands, TableStands}
use Rattle.ent_history.specs.Stands.{Stands}
use Rattle.ent_report_reader.specs.Judging.{Cannot}
use Rattle.ent_report_reader.specs.Members.{MemberHasWords}

-- no line of the opening but a row, and none of the transactions or their answers but a row
pub record NothingAbove (draft : Draft) (text : List ℕ) : Type 0 where
  pub no_opening : Cannot (OpeningStands draft text)
  pub no_tx : Cannot (TxStands draft text)
  pub no_answer : Cannot (AnswerStands draft text)

-- no line of a joint answer, none of a table at the end but a row, and not the last one
pub record NothingBelow (draft : Draft) (text : List ℕ) : Type 0 where
  pub no_joint : Cannot (JointStands draft text)
  pub no_table : Cannot (TableStands draft text)
  pub no_end : Cannot (EndStands draft text)

abbrev pub TakesAbove : Draft → List ℕ → Bool → Draft → Type 0
TakesAbove old text true new = Stands old (line text) new
TakesAbove old text false new = NothingAbove old (line text) × (new ≡ old)

abbrev pub TakesBelow : Draft → List ℕ → Bool → Draft → Type 0
TakesBelow old text true new = Stands old (line text) new
TakesBelow old text false new = NothingBelow old (line text) × (new ≡ old)

abbrev pub TakesFree : Draft → List ℕ → Bool → Draft → Type 0
TakesFree old text true new = Stands old (line text) new
TakesFree old text false new = NothingAbove old (line text) × NothingBelow old (line text) × (new ≡ old)

-- where nothing stands, nothing but a script
pub record NoLine (draft : Draft) (text : List ℕ) : Type 0 where
  pub nothing : (next : Draft) → Stands draft text next → ScriptStands draft text next
  pub words : MemberHasWords draft

-- The line stands, and with it the report tells this; or none can stand there, and the draft is as before.
abbrev pub TakesLine : Draft → List ℕ → Bool → Draft → Type 0
TakesLine old text true new = Stands old (line text) new
TakesLine old text false new = NoLine old (line text) × (new ≡ old)
