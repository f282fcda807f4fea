-- What a grammar reads from tokens of given kinds, wherever they stand.
use Rattle.std.specs.Prelude.{◌≡◌, true, List, map}
use Rattle.ent_text.specs.declared.token.Token.{Token}
use Rattle.ent_text.specs.declared.token.TokenKind.{TokenKind}
use Rattle.ent_text.specs.Grammar.{Grammar}
use Rattle.ent_text.specs.GrammarSpelling.{spells}

-- tokens of these kinds, whatever their places, spell such a value within the limits
pub record Rereads {A : Type 0} (g : Grammar A) (same : A → Type 0) (kinds : List TokenKind) : Type 0 where
  pub read : (tokens : List Token) → map (λ (t : Token). t.kind) tokens ≡ kinds
      → (y : A) × spells g true y tokens × same y
