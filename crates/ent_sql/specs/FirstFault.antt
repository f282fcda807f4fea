-- What a fault of grammar means for a text: the first token that can't follow, or that begins a thing too much.
use Rattle.std.specs.Prelude.{◌≡◌, ℕ, List, length, Ok}
use Rattle.ent_text.specs.declared.token.Token.{Token}
use Rattle.ent_text.specs.Lexing.{tokens_of}
use Rattle.ent_text.specs.FirstFault as first
use Rattle.ent_sql.specs.Scripts.{input}

-- The text's tokens up to a place begin an input, and none goes on with the token that stands there.
pub record CantFollow (text : List ℕ) (place : ℕ) : Type 0 where
  pub tokens : List Token
  pub are_tokens : tokens_of text ≡ Ok tokens
  pub stands : first.CantFollow input (length text) tokens place

-- The text's tokens up to and with the one at a place begin an input, but none that keeps the limits.
pub record IsTooMuch (text : List ℕ) (place : ℕ) : Type 0 where
  pub tokens : List Token
  pub are_tokens : tokens_of text ≡ Ok tokens
  pub stands : first.IsTooMuch input tokens place
