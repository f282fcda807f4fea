-- Scripts that run, and what is asked of their answers.
use Rattle.std.specs.Prelude.{◌≡◌, Contains, List, [], ◌∷◌, length}
use Rattle.ent_tree.specs.declared.declaration.Create.{Create}
use Rattle.ent_tree.specs.declared.script.Script.{Script}
use Rattle.ent_tree.specs.declared.script.Statement.{Statement}
use Rattle.ent_print.specs.Reading.{IsReadable}
use Rattle.ent_semantics.specs.declared.answer.Answer.{Answer}
use Rattle.ent_semantics.specs.declared.answer.Answer.TheVariants as answers
use Rattle.ent_semantics.specs.Database.{Database}
use Rattle.ent_semantics.specs.Effect.{Effect}
use Rattle.ent_semantics.specs.Joint.{IsGrounded}
use Rattle.ent_semantics.specs.Serial.{ReadView, Turn}
use Rattle.ent_form.specs.Catalogue.{schemas_of}
use Rattle.ent_form.specs.Kinds.{Bound}
use Rattle.ent_form.specs.ScriptFaults.{script_faults}
use Rattle.ent_sql_laws.specs.Fits.{ScriptFits}
use Rattle.ent_history.specs.Answers.{IsOfSort}
use Rattle.ent_history.specs.Parts.{IsNumber}
use Rattle.ent_report_laws.specs.Tellable.{AreAnswersTo, IsAnswerTold}
use Rattle.ent_program_laws.specs.Held.{HoldsRowsOf, HoldsValuesOf}

-- a script without a fault of form over the tables, within the limits, whose names and literals can stand in a text
pub record CanRun (declared : List Create) (script : Script) : Type 0 where
  pub resolved : script_faults (schemas_of declared) script ≡ []
  pub fits : ScriptFits script
  pub readable : IsReadable script

-- A report can say how many rows the answer has: of a SELECT over four full tables there may be more than it can say.
abbrev pub CanBeCounted : Answer → Type 0
CanBeCounted (answers.Rows rows) = IsNumber (length rows)
CanBeCounted (answers.Count count) = Unit {0}
CanBeCounted (answers.Value value) = Unit {0}
CanBeCounted (answers.Heads facts) = Unit {0}

-- what a statement leaves can be told, and its answer is of its sort and can be told
pub record IsEffectTold (declared : List Create) (after : Bound) (statement : Statement) (effect : Effect Database)
    : Type 0 where
  pub rows : HoldsRowsOf declared effect.database
  pub bound : HoldsValuesOf after effect.environment
  pub sort : IsOfSort statement effect.answer
  pub told : CanBeCounted effect.answer → IsAnswerTold effect.answer

-- each entangled statement is answered by a grounding over the database that it sees
abbrev pub AreGrounded : List Create → List ReadView → Type 0
AreGrounded declared run = (read_view : ReadView) → Contains run read_view → IsGrounded declared read_view

-- each turn's answers are those that its script can have
abbrev pub AreTurnsAnswered : List Turn → List (List Answer) → Type 0
AreTurnsAnswered [] [] = Unit {0}
AreTurnsAnswered [] (given ∷ more) = ⊥
AreTurnsAnswered (turn ∷ turns) [] = ⊥
AreTurnsAnswered (turn ∷ turns) (given ∷ more) =
    AreAnswersTo turn.script.statements given × AreTurnsAnswered turns more
