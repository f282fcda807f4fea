-- What is of whole characters: each text in it is UTF-8.
use Rattle.std.specs.Prelude.{List}
use Rattle.std.specs.List.{AllByRecursion}
use Rattle.std.specs.Str.{IsUtf8}
use Rattle.ent_value.specs.declared.value.Value.{Value}
use Rattle.ent_text.specs.declared.token.TokenKind.{TokenKind}
use Rattle.ent_text.specs.declared.token.TokenKind.TheVariants.{Literal}
use Rattle.ent_tree.specs.declared.declaration.Opening.{Opening}
use Rattle.ent_tree.specs.declared.script.Script.{Script}
use Rattle.ent_print.specs.Lexeme.{Lexeme, Token, Negative}
use Rattle.ent_print.specs.Spelling.{script_spelling}
use Rattle.ent_semantics.specs.declared.answer.Answer.{Answer}
use Rattle.ent_semantics.specs.Database.{row_of}
use Rattle.ent_history.specs.declared.history.History.{History}
use Rattle.ent_program_laws.specs.Values.{AnswersValues, IsOfCharacters}

abbrev pub IsRowOfCharacters : List Value → Type 0
IsRowOfCharacters row = AllByRecursion IsOfCharacters row

-- each value in its rows
abbrev pub IsOpeningOfCharacters : Opening → Type 0
IsOpeningOfCharacters opening = AllByRecursion (λ row. IsRowOfCharacters (row_of row)) opening.rows

-- a literal that is UTF-8, and any other token
abbrev pub IsKindOfCharacters : TokenKind → Type 0
IsKindOfCharacters (Literal content) = IsUtf8 content
IsKindOfCharacters other = Unit {0}

abbrev pub IsLexemeOfCharacters : Lexeme → Type 0
IsLexemeOfCharacters (Token kind) = IsKindOfCharacters kind
IsLexemeOfCharacters (Negative n) = Unit {0}

-- each literal in it
abbrev pub IsScriptOfCharacters : Script → Type 0
IsScriptOfCharacters script = AllByRecursion IsLexemeOfCharacters (script_spelling script)

-- each value in it
abbrev pub IsAnswerOfCharacters : Answer → Type 0
IsAnswerOfCharacters answer = AnswersValues IsOfCharacters answer

-- each value that it tells, and each literal in its scripts
pub record HoldsCharacters (history : History) : Type 0 where
  pub opening : IsOpeningOfCharacters history.opening
  pub scripts : AllByRecursion IsScriptOfCharacters history.scripts
  pub answers : AllByRecursion (λ told. AllByRecursion IsAnswerOfCharacters told.answers) history.transactions
  pub groundings : AllByRecursion
      (λ joint. AllByRecursion (λ told. IsRowOfCharacters told.member.grounding) joint.members)
      history.joint_answers
  pub tables : AllByRecursion (λ shown. AllByRecursion IsRowOfCharacters shown.rows) history.tables
