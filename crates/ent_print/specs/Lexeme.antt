-- What a printed text is made of, and how its parts stand side by side.
use Rattle.std.specs.Prelude.{ℕ, Bool, true, false, not, ◌&&◌, if◌then◌else◌}
use Rattle.std.specs.Prelude.{List, [], ◌∷◌, ◌++◌}
use Rattle.std.specs.Fmt.{decimal}
use Rattle.ent_value.specs.Print.{quoted}
use Rattle.ent_text.specs.Keyword.{keyword_text}
use Rattle.ent_text.specs.Symbol.{symbol_text}
use Rattle.ent_text.specs.declared.symbol.Symbol.{Symbol}
use Rattle.ent_text.specs.declared.symbol.Symbol.TheVariants.{Open, Close, Comma, Semicolon, Dot}
use Rattle.ent_text.specs.declared.token.TokenKind.{TokenKind}
use Rattle.ent_text.specs.declared.token.TokenKind.TheVariants.{Word, Name, HostVariable, Number, Literal, Sign, Fault}

-- A part of a printed text: a token, or the two tokens of a negative number, which nothing keeps apart.
pub data Lexeme : Type 0 where
  Token : TokenKind → Lexeme
  Negative : ℕ → Lexeme

-- The one spelling that is printed: a reserved word in capitals, a number without leading zeros. A fault has none.
abbrev pub kind_text : TokenKind → List ℕ
kind_text (Word keyword) = keyword_text keyword
kind_text (Name word) = word
kind_text (HostVariable word) = 64 ∷ word
kind_text (Number n) = decimal n
kind_text (Literal text) = quoted text
kind_text (Sign symbol) = symbol_text symbol
kind_text (Fault fault) = []

abbrev pub lexeme_text : Lexeme → List ℕ
lexeme_text (Token kind) = kind_text kind
lexeme_text (Negative n) = 45 ∷ decimal n

-- no space stands before these symbols
abbrev pub is_near_left : Symbol → Bool
is_near_left Comma = true
is_near_left Semicolon = true
is_near_left Close = true
is_near_left Dot = true
is_near_left other = false

-- no space stands behind these
abbrev pub is_near_right : Symbol → Bool
is_near_right Open = true
is_near_right Dot = true
is_near_right Semicolon = true
is_near_right other = false

abbrev pub wants_before : Lexeme → Bool
wants_before (Token (Sign symbol)) = not (is_near_left symbol)
wants_before other = true

abbrev pub wants_behind : Lexeme → Bool
wants_behind (Token (Sign symbol)) = not (is_near_right symbol)
wants_behind other = true

-- a `;` ends its line
abbrev pub line_end : Lexeme → List ℕ
line_end (Token (Sign Semicolon)) = 10 ∷ []
line_end other = []

-- one space, where both sides want it
abbrev pub space : Bool → Lexeme → List ℕ
space wanted lexeme = if wanted && wants_before lexeme then 32 ∷ [] else []

-- The text of lexemes, the one before them wanting a space behind it, or not. Each stands behind the one before it,
-- with a space between them where both want it, and a line ends where a `;` stands.
abbrev pub text_behind : Bool → List Lexeme → List ℕ
text_behind wanted [] = []
text_behind wanted (lexeme ∷ more) =
    space wanted lexeme ++ (lexeme_text lexeme ++ (line_end lexeme ++ text_behind (wants_behind lexeme) more))

-- the text of lexemes from the beginning of a line
abbrev pub text_of : List Lexeme → List ℕ
text_of = text_behind false
