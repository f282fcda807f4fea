-- Values with a property, and where they stand.
use Rattle.std.specs.Prelude.{◌≡◌, ℕ, Bool, true, List, Some}
use Rattle.std.specs.List.{AllByRecursion}
use Rattle.std.specs.Str.{IsUtf8}
use Rattle.ent_lists.specs.Sets as set
use Rattle.ent_value.specs.declared.value.Value.{Value}
use Rattle.ent_value.specs.declared.value.Value.TheVariants.{Int, Text}
use Rattle.ent_text.specs.declared.token.TokenKind.TheVariants.{Literal}
use Rattle.ent_tree.specs.declared.script.Script.{Script}
use Rattle.ent_tree.specs.declared.script.Statement.{Statement}
use Rattle.ent_print.specs.Lexeme.{Lexeme, Token}
use Rattle.ent_print.specs.Spelling.{script_spelling, statement_spelling}
use Rattle.ent_semantics.specs.declared.answer.Answer.{Answer}
use Rattle.ent_semantics.specs.declared.answer.Answer.TheVariants as answers
use Rattle.ent_semantics.specs.declared.answer.Fact.{Fact}
use Rattle.ent_semantics.specs.Database.{Database, Environment, Name}
use Rattle.ent_semantics.specs.Effect.{Effect}

-- a value that has this property where it is a text
abbrev pub IsOfText : (List ℕ → Type 0) → Value → Type 0
IsOfText P (Int number) = Unit {0}
IsOfText P (Text content) = P content

-- a value that is of whole characters where it is a text
abbrev pub IsOfCharacters : Value → Type 0
IsOfCharacters = IsOfText IsUtf8

-- a value that passes a test where it is a text
abbrev pub IsPassed : (List ℕ → Bool) → Value → Type 0
IsPassed passes = IsOfText (λ content. passes content ≡ true)

-- P is a property of values that all numbers have
module _ (P : Value → Type 0) where
  -- each value of each row of each table
  abbrev pub HoldsValues : Database → Type 0
  HoldsValues database =
      (name : Name) (row : List Value) → set.contains (database name) row ≡ true → AllByRecursion P row

  -- each host variable
  abbrev pub BindsValues : Environment → Type 0
  BindsValues environment = (name : Name) (value : Value) → environment name ≡ Some value → P value

  -- a text that is written
  abbrev pub IsWritten : Lexeme → Type 0
  IsWritten (Token (Literal content)) = P (Text content)
  IsWritten other = Unit {0}

  -- each text that is written in a statement
  abbrev pub WritesValues : Statement → Type 0
  WritesValues statement = AllByRecursion IsWritten (statement_spelling statement)

  abbrev pub ScriptWrites : Script → Type 0
  ScriptWrites script = AllByRecursion IsWritten (script_spelling script)

  -- each value of a fact
  abbrev pub StatesValues : Fact → Type 0
  StatesValues fact = AllByRecursion P fact.values

  -- each value of an answer
  abbrev pub AnswersValues : Answer → Type 0
  AnswersValues (answers.Count count) = Unit {0}
  AnswersValues (answers.Value value) = P value
  AnswersValues (answers.Rows rows) = AllByRecursion (AllByRecursion P) rows
  AnswersValues (answers.Heads facts) = AllByRecursion StatesValues facts

  -- each value that a statement leaves and answers
  pub record LeavesValues (effect : Effect Database) : Type 0 where
    pub tables : HoldsValues effect.database
    pub variables : BindsValues effect.environment
    pub answered : AnswersValues effect.answer
