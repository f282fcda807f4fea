-- What a text says, in words of the language.
use Rattle.std.specs.Prelude.{ℕ, List}
use Rattle.ent_text.specs.declared.token.Token.{Token}
use Rattle.ent_text.specs.Reading.{AreTokens}
use Rattle.ent_tree.specs.declared.script.Input.{Input}
use Rattle.ent_sql_laws.specs.Scripts.{input}

-- the text's tokens are the phrase of the input
pub record SaysInput (text : List ℕ) (tree : Input) : Type 0 where
  pub tokens : List Token
  pub are_tokens : AreTokens text tokens
  pub said : input tree tokens
