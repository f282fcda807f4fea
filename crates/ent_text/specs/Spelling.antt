-- What spells a token, and which spelling is the longest that could stand at a place.
use Rattle.std.specs.Prelude.{◌≡◌, ℕ, ◌≤◌, List, [], ◌∷◌, ◌++◌, map, length, Option, Some, None, ◌⊎◌, Bool, not, ◌||◌}
use Rattle.std.specs.Prelude.{◌==◌, IsTrue, IsFalse, slice_index, ⊤}
use Rattle.std.specs.List.{list_all, list_any}
use Rattle.std.specs.Char.{is_ascii_alphabetic, is_ascii_control, to_ascii_uppercase}
use Rattle.std.specs.Str.Parse.{IsNumeral, digits_value}
use Rattle.ent_value.specs.Name.{is_word_byte}
use Rattle.ent_value.specs.Print.{quoted}
use Rattle.ent_value.specs.declared.name.TheConstants.{LONGEST_NAME}
use Rattle.ent_value.specs.declared.text.TheConstants.{LONGEST_TEXT}
use Rattle.ent_text.specs.declared.keyword.Keyword.{Keyword}
use Rattle.ent_text.specs.declared.token.TokenKind.{TokenKind}
use Rattle.ent_text.specs.declared.token.TokenKind.TheVariants.{Word, Name, HostVariable, Number, Literal, Sign, Fault}
use Rattle.ent_text.specs.Keyword.{keyword_text}
use Rattle.ent_text.specs.Symbol.{SpellsSymbol}

-- a letter, then letters, digits and `_`
abbrev pub IsWordLike : List ℕ → Type 0
IsWordLike bytes = IsTrue (is_ascii_alphabetic (slice_index bytes 0)) × IsTrue (list_all is_word_byte bytes)

-- the reserved word, in any case
abbrev pub IsInAnyCase : Keyword → List ℕ → Type 0
IsInAnyCase keyword bytes = map to_ascii_uppercase bytes ≡ keyword_text keyword

-- no control character stands among them
abbrev pub IsPlain : List ℕ → Type 0
IsPlain bytes = IsFalse (list_any is_ascii_control bytes)

-- These bytes spell this token, whatever its length or value. A host variable is an `@` and any word directly after
-- it. In a text each quote is doubled. Nothing spells a fault.
abbrev pub Spells : List ℕ → TokenKind → Type 0
Spells bytes (Word keyword) = IsWordLike bytes × IsInAnyCase keyword bytes
Spells bytes (Name word) = IsWordLike bytes × (bytes ≡ word) × ((keyword : Keyword) → ¬ (IsInAnyCase keyword bytes))
Spells bytes (HostVariable word) = (bytes ≡ 64 ∷ word) × IsWordLike word
Spells bytes (Number n) = IsNumeral 10 bytes × (digits_value 10 bytes ≡ n)
Spells bytes (Literal text) = (bytes ≡ quoted text) × IsPlain text
Spells bytes (Sign symbol) = SpellsSymbol bytes symbol
Spells bytes (Fault fault) = ⊥

-- what a token may be at most: a name 63 bytes, also that of a host variable, a number 9223372036854775807, a text 255
-- bytes
abbrev pub IsWithinLimit : TokenKind → Type 0
IsWithinLimit (Word keyword) = ⊤
IsWithinLimit (Name word) = length word ≤ LONGEST_NAME
IsWithinLimit (HostVariable word) = length word ≤ LONGEST_NAME
IsWithinLimit (Number n) = n ≤ 9223372036854775807
IsWithinLimit (Literal text) = length text ≤ LONGEST_TEXT
IsWithinLimit (Sign symbol) = ⊤
IsWithinLimit (Fault fault) = ⊥

-- space, tab, CR, LF
abbrev pub is_blank : ℕ → Bool
is_blank b = (b == 32) || ((b == 9) || ((b == 13) || (b == 10)))

-- a byte of white space
abbrev pub IsBlank : List ℕ → Type 0
IsBlank bytes = (b : ℕ) × (bytes ≡ b ∷ []) × IsTrue (is_blank b)

-- any byte but LF
abbrev pub is_in_line : ℕ → Bool
is_in_line b = not (b == 10)

-- `--`, and any bytes of the same line behind it
abbrev pub IsComment : List ℕ → Type 0
IsComment bytes = (content : List ℕ) × (bytes ≡ 45 ∷ 45 ∷ content) × IsTrue (list_all is_in_line content)

-- what stands between tokens: a byte of white space, or a comment
abbrev pub IsGap : List ℕ → Type 0
IsGap bytes = IsBlank bytes ⊎ IsComment bytes

-- A piece of a text: a gap, or a token.
abbrev pub IsPiece : List ℕ → Option TokenKind → Type 0
IsPiece bytes None = IsGap bytes
IsPiece bytes (Some kind) = Spells bytes kind

-- These bytes, before the rest, are the longest possible: whatever longer front of the text one takes, no piece
-- begins with it. So a comment goes on up to the next LF or the end of the text, and no `-` before another is a symbol.
abbrev pub IsLongest : List ℕ → List ℕ → Type 0
IsLongest bytes rest =
    (front behind more : List ℕ) (piece : Option TokenKind) → front ++ behind ≡ bytes ++ rest
    → IsPiece (front ++ more) piece → length front ≤ length bytes
