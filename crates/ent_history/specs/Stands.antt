-- Which line can stand below those that stand above it, section by section, and what a text tells whose lines all
-- stand.
use Rattle.std.specs.Prelude.{◌≡◌, ℕ, List, [], ◌∷◌}
use Rattle.std.specs.List.{flat_map}
use Rattle.ent_history.specs.declared.history.History.{History}
use Rattle.ent_history.specs.Draft.{Draft, Ended, blank}
use Rattle.ent_history.specs.Opening.{HeadingStands, OpeningStands, OpeningRowStands}
use Rattle.ent_history.specs.Scripts.{ScriptStands}
use Rattle.ent_history.specs.Answers.{TxStands, AnswerStands, AnswerRowStands}
use Rattle.ent_history.specs.Joints.{JointStands, MemberStands}
use Rattle.ent_history.specs.Tables.{TableStands, TableRowStands, EndStands}

-- A line, or a script with its lines, can stand below what a report tells so far, and with it the report tells this.
pub data Stands (draft : Draft) (text : List ℕ) (next : Draft) : Type 0 where
  Heading : HeadingStands draft text next → Stands draft text next
  Opening : OpeningStands draft text next → Stands draft text next
  OpeningRow : OpeningRowStands draft text next → Stands draft text next
  Script : ScriptStands draft text next → Stands draft text next
  Tx : TxStands draft text next → Stands draft text next
  Answer : AnswerStands draft text next → Stands draft text next
  AnswerRow : AnswerRowStands draft text next → Stands draft text next
  Joint : JointStands draft text next → Stands draft text next
  Member : MemberStands draft text next → Stands draft text next
  Table : TableStands draft text next → Stands draft text next
  TableRow : TableRowStands draft text next → Stands draft text next
  End : EndStands draft text next → Stands draft text next

-- each of these pieces of a text, lines and scripts, stands below those above it
abbrev pub AllStand : Draft → List (List ℕ) → Draft → Type 0
AllStand draft [] next = draft ≡ next
AllStand draft (text ∷ more) next = (between : Draft) × Stands draft text between × AllStand between more next

abbrev pub whole : List (List ℕ) → List ℕ
whole = flat_map (λ text. text)

-- The text is a report that tells this: each line stands, and the text ends where it can.
abbrev pub Tells : List ℕ → History → Type 0
Tells text history =
    (pieces : List (List ℕ)) × (text ≡ whole pieces)
    × AllStand blank pieces (record { told = history; due = Ended })
