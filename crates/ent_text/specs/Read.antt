-- What a reader gives, and the token at the front of tokens.
use Rattle.std.specs.Prelude.{ℕ, Bool, false, List, Option, Some, None, Result}
use Rattle.ent_text.specs.declared.token.Token.{Token}
use Rattle.ent_text.specs.declared.token.TokenKind.{TokenKind}
use Rattle.ent_text.specs.Left.{kind_of_first, start_of_first}
use Rattle.ent_text.specs.declared.grammar_fault.GrammarFault.{GrammarFault}

-- a value and the tokens behind it, or a fault
abbrev pub Read : Type 0 → Type 0
Read A = Result (A × List Token) GrammarFault

-- where the first of these tokens stands; the end, if there is none
abbrev pub place_of : ℕ → List Token → ℕ
place_of end tokens = start_of_first end tokens

abbrev pub passes : (TokenKind → Bool) → Option TokenKind → Bool
passes test None = false
passes test (Some kind) = test kind

-- the first of these tokens passes
abbrev pub begins : (TokenKind → Bool) → List Token → Bool
begins test tokens = passes test (kind_of_first tokens)
