-- The tokens of a printed text.
use Rattle.std.specs.Prelude.{◌≡◌, ℕ, List, [], ◌∷◌, map}
use Rattle.std.specs.List.{All, flat_map}
use Rattle.ent_text.specs.declared.symbol.Symbol.TheVariants.{Minus}
use Rattle.ent_text.specs.declared.token.Token.{Token as PlacedToken}
use Rattle.ent_text.specs.declared.token.TokenKind.{TokenKind}
use Rattle.ent_text.specs.declared.token.TokenKind.TheVariants.{Number, Sign}
use Rattle.ent_text.specs.Spelling.{Spells, IsWithinLimit}
use Rattle.ent_text.specs.Reading.{AreTokens}
use Rattle.ent_tree.specs.declared.script.Script.{Script}
use Rattle.ent_print.specs.Lexeme.{Lexeme, Token, Negative}
use Rattle.ent_print.specs.Spelling.{script_spelling}

abbrev pub lexeme_kinds : Lexeme → List TokenKind
lexeme_kinds (Token kind) = kind ∷ []
lexeme_kinds (Negative n) = Sign Minus ∷ Number n ∷ []

-- the tokens that spell lexemes, in order
abbrev pub kinds_of : List Lexeme → List TokenKind
kinds_of = flat_map lexeme_kinds

-- a token that a text can have: some bytes spell it, and it is within its limit
abbrev pub CanStand : TokenKind → Type 0
CanStand kind = ((bytes : List ℕ) × Spells bytes kind) × IsWithinLimit kind

abbrev pub CanBeRead : Lexeme → Type 0
CanBeRead (Token kind) = CanStand kind
CanBeRead (Negative n) = CanStand (Number n)

-- each lexeme of the script can stand in a text: no name is a reserved word, no text has a control character, no number
-- is beyond its limit
abbrev pub IsReadable : Script → Type 0
IsReadable script = All CanBeRead (script_spelling script)

-- the text has these tokens, wherever they stand
abbrev pub HasKinds : List ℕ → List TokenKind → Type 0
HasKinds text kinds =
    (tokens : List PlacedToken) × AreTokens text tokens × (map (λ token. token.kind) tokens ≡ kinds)
