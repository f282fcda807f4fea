-- The histories that a text can tell: each thing of them can stand in a report, and they have all that one has.
use Rattle.std.specs.Prelude.{◌≡◌, ◌≢◌, ◌≤◌, true, false, List, [], ◌∷◌, length, map, AllPairs}
use Rattle.std.specs.List.{AllByRecursion, flat_map}
use Rattle.std.specs.Cmp.Lexicographic.{slice_cmp}
use Rattle.std.specs.Ordering.{nat_cmp}
use Rattle.std.specs.declared.cmp.Ordering.TheVariants.{Less}
use Rattle.ent_value.specs.Value.{kinds_of, row_cmp}
use Rattle.ent_value.specs.declared.limits.TheConstants.{MOST_ROWS}
use Rattle.ent_value.specs.declared.value.Value.{Value}
use Rattle.ent_tree.specs.declared.declaration.Column.{Column}
use Rattle.ent_tree.specs.declared.declaration.Create.{Create}
use Rattle.ent_tree.specs.declared.declaration.Opening.{Opening}
use Rattle.ent_tree.specs.declared.limits.TheConstants.{MOST_OPENING_ROWS, MOST_SCRIPTS, MOST_TABLES}
use Rattle.ent_tree.specs.declared.script.Script.{Script}
use Rattle.ent_tree.specs.declared.script.Statement.{Statement}
use Rattle.ent_semantics.specs.declared.answer.Answer.{Answer}
use Rattle.ent_semantics.specs.declared.answer.Answer.TheVariants as answers
use Rattle.ent_semantics.specs.Database.{rows_named}
use Rattle.ent_history.specs.declared.history.History.{History}
use Rattle.ent_history.specs.declared.history.Shown.{Shown}
use Rattle.ent_history.specs.declared.history.Told.{Told}
use Rattle.ent_history.specs.declared.history.ToldJoint.{ToldJoint}
use Rattle.ent_history.specs.declared.history.ToldMember.{ToldMember}
use Rattle.ent_history.specs.Told.{has_committed, opening_row}
use Rattle.ent_history.specs.Answers.{IsFact, IsFate, IsOfSort}
use Rattle.ent_history.specs.Joints.{BindsRight, PlacesRise, member_binds}
use Rattle.ent_history.specs.Opening.{IsDeclaration}
use Rattle.ent_history.specs.Parts.{IsNumber, IsRow, IsValue}
use Rattle.ent_history.specs.Scripts.{IsScript}

-- each row comes before those behind it
abbrev pub RowsRise : List (List Value) → Type 0
RowsRise rows = AllPairs (λ (row other : List Value). row_cmp row other ≡ Less) rows

-- rows of these columns, ascending
abbrev pub AreRowsOf : List Column → List (List Value) → Type 0
AreRowsOf columns rows =
    AllByRecursion (λ row. IsRow row × (kinds_of row ≡ map (λ column. column.kind) columns)) rows × RowsRise rows

-- tables by name, and behind each other the rows of each, without places
pub record IsOpeningTold (opening : Opening) : Type 0 where
  pub few_tables : length opening.tables ≤ MOST_TABLES
  pub few_rows : length opening.rows ≤ MOST_OPENING_ROWS
  pub declarations : AllByRecursion IsDeclaration opening.tables
  pub rise : AllPairs (λ (first second : Create). slice_cmp nat_cmp first.name.name second.name.name ≡ Less)
      opening.tables
  pub in_order : opening.rows
      ≡ flat_map (λ create. map (opening_row create.name.name) (rows_named opening create.name.name)) opening.tables
  pub rows : AllByRecursion (λ create. AreRowsOf create.columns (rows_named opening create.name.name)) opening.tables

abbrev pub IsAnswerTold : Answer → Type 0
IsAnswerTold (answers.Count count) = IsNumber count
IsAnswerTold (answers.Value value) = IsValue value
IsAnswerTold (answers.Rows rows) = IsNumber (length rows) × AllByRecursion IsRow rows × RowsRise rows
IsAnswerTold (answers.Heads facts) = (facts ≢ []) × AllByRecursion IsFact facts

-- an answer for each statement, of its sort
abbrev pub AreAnswersTo : List Statement → List Answer → Type 0
AreAnswersTo [] [] = Unit {0}
AreAnswersTo [] (answer ∷ more) = ⊥
AreAnswersTo (statement ∷ statements) [] = ⊥
AreAnswersTo (statement ∷ statements) (answer ∷ more) =
    IsOfSort statement answer × IsAnswerTold answer × AreAnswersTo statements more

-- answers where it is said to have committed, and none otherwise
pub record IsTransactionTold (script : Script) (told : Told) : Type 0 where
  pub fate : IsFate told.fate
  pub committed : has_committed told.fate ≡ true → AreAnswersTo script.statements told.answers
  pub otherwise : has_committed told.fate ≡ false → told.answers ≡ []

-- a transaction for each script
abbrev pub AreTransactionsOf : List Script → List Told → Type 0
AreTransactionsOf [] [] = Unit {0}
AreTransactionsOf [] (told ∷ more) = ⊥
AreTransactionsOf (script ∷ scripts) [] = ⊥
AreTransactionsOf (script ∷ scripts) (told ∷ more) = IsTransactionTold script told × AreTransactionsOf scripts more

pub record IsMemberTold (history : History) (told : ToldMember) : Type 0 where
  pub paired : length told.variables ≡ length told.member.grounding
  pub are_values : AllByRecursion IsValue told.member.grounding
  pub binds : BindsRight (member_binds history told.member.tx told.member.place) told.variables told.member.grounding

pub record IsJointTold (history : History) (joint : ToldJoint) : Type 0 where
  pub some : joint.members ≢ []
  pub rise : PlacesRise (map (λ told. (told.member.tx, told.member.place)) joint.members)
  pub members : AllByRecursion (IsMemberTold history) joint.members

-- the tables of the opening, each with its rows
abbrev pub AreTablesOf : List Create → List Shown → Type 0
AreTablesOf [] [] = Unit {0}
AreTablesOf [] (shown ∷ more) = ⊥
AreTablesOf (create ∷ creates) [] = ⊥
AreTablesOf (create ∷ creates) (shown ∷ more) =
    (shown.name ≡ create.name.name) × (length shown.rows ≤ MOST_ROWS) × AreRowsOf create.columns shown.rows
    × AreTablesOf creates more

pub record CanBeTold (history : History) : Type 0 where
  pub opening : IsOpeningTold history.opening
  pub few_scripts : length history.scripts ≤ MOST_SCRIPTS
  pub scripts : AllByRecursion (IsScript history) history.scripts
  pub transactions : AreTransactionsOf history.scripts history.transactions
  pub joints : AllByRecursion (IsJointTold history) history.joint_answers
  pub tables : AreTablesOf history.opening.tables history.tables
