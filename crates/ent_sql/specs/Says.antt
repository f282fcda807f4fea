-- What a text says.
use Rattle.std.specs.Prelude.{◌≡◌, ℕ, List, true, Ok}
use Rattle.ent_text.specs.declared.token.Token.{Token}
use Rattle.ent_text.specs.Lexing.{tokens_of}
use Rattle.ent_tree.specs.declared.script.Input.{Input}
use Rattle.ent_text.specs.GrammarSpelling.{spells}
use Rattle.ent_sql.specs.Scripts.{input}

-- the text's tokens spell the input, and keep the limits
pub record Says (text : List ℕ) (tree : Input) : Type 0 where
  pub tokens : List Token
  pub are_tokens : tokens_of text ≡ Ok tokens
  pub spelled : spells input true tree tokens

-- no input is what the text says
abbrev pub SaysNothing : List ℕ → Type 0
SaysNothing text = (tree : Input) → Says text tree → ⊥
