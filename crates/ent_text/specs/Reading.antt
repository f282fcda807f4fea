-- The tokens of a text, and its first fault.
use Rattle.std.specs.Prelude.{◌≡◌, ◌≢◌, ◌⊎◌, ℕ, ◌+◌, ◌<◌, List, [], ◌∷◌, ◌++◌, length, Option, IsTrue}
use Rattle.std.specs.Char.{is_ascii_control}
use Rattle.ent_value.specs.Print.{doubled}
use Rattle.ent_value.specs.declared.name.TheConstants.{LONGEST_NAME}
use Rattle.ent_value.specs.declared.text.TheConstants.{LONGEST_TEXT}
use Rattle.ent_text.specs.declared.fault.TextFault.{TextFault}
use Rattle.ent_text.specs.declared.fault.TextFault.TheVariants.{BadChar, OpenText, NumberTooLarge, TextTooLong}
use Rattle.ent_text.specs.declared.token.Token.{Token}
use Rattle.ent_text.specs.declared.token.TokenKind.{TokenKind}
use Rattle.ent_text.specs.declared.token.TokenKind.TheVariants.{Word, Name, HostVariable, Number, Literal, Sign, Fault}
use Rattle.ent_text.specs.Spelling.{Spells, IsPlain, IsWithinLimit, IsGap, IsPiece, IsLongest}

-- The bytes from a place on are gaps, of white space and comments, and these tokens in turn, up to the end, where the
-- rest stands. Each is the longest possible, and each token within its limit.
pub data Reads : ℕ → List ℕ → List Token → ℕ → List ℕ → Type 0 where
  nothing : (place : ℕ) (rest : List ℕ) → Reads place rest [] place rest
  gap : (place : ℕ) (bytes behind : List ℕ) (tokens : List Token) (end : ℕ) (rest : List ℕ)
      → IsGap bytes → IsLongest bytes behind
      → Reads (place + length bytes) behind tokens end rest → Reads place (bytes ++ behind) tokens end rest
  token : (place : ℕ) (bytes behind : List ℕ) (kind : TokenKind) (tokens : List Token) (end : ℕ) (rest : List ℕ)
      → Spells bytes kind → IsLongest bytes behind → IsWithinLimit kind
      → Reads (place + length bytes) behind tokens end rest
      → Reads place (bytes ++ behind)
      (record { kind = kind; start = place; end = place + length bytes } ∷ tokens) end rest

-- the whole text is gaps and these tokens
abbrev pub AreTokens : List ℕ → List Token → Type 0
AreTokens text tokens = Reads 0 text tokens (length text) []

-- these bytes begin with this token, as far as it goes, whatever its length or value
abbrev pub BeginsWith : List ℕ → TokenKind → Type 0
BeginsWith bytes kind = (front behind : List ℕ) × (bytes ≡ front ++ behind) × Spells front kind × IsLongest front behind

-- the character here begins no gap and no token, and is no quote, which always begins a text
abbrev pub BeginsNothing : List ℕ → Type 0
BeginsNothing bytes =
    (c : ℕ) × (others : List ℕ) × (bytes ≡ c ∷ others) × (c ≢ 39)
    × ((front behind : List ℕ) (piece : Option TokenKind) → bytes ≡ front ++ behind → ¬ (IsPiece front piece))

-- a text begins here, and before any quote that closes it there is a control character, so far behind its opening
-- quote
abbrev pub HasControl : List ℕ → ℕ → Type 0
HasControl bytes far =
    (front behind : List ℕ) × (c : ℕ) × (bytes ≡ 39 ∷ (doubled front ++ c ∷ behind)) × IsPlain front
    × IsTrue (is_ascii_control c) × (far ≡ 1 + length (doubled front))

-- a text begins here that is never closed, and no control character stands in it
abbrev pub IsOpen : List ℕ → Type 0
IsOpen bytes = (content : List ℕ) × (bytes ≡ 39 ∷ doubled content) × IsPlain content

-- a word, a host variable or a text beyond its limit
abbrev pub IsTooLong : TokenKind → Type 0
IsTooLong (Word keyword) = ⊥
IsTooLong (Name word) = LONGEST_NAME < length word
IsTooLong (HostVariable word) = LONGEST_NAME < length word
IsTooLong (Number n) = ⊥
IsTooLong (Literal text) = LONGEST_TEXT < length text
IsTooLong (Sign symbol) = ⊥
IsTooLong (Fault fault) = ⊥

-- what stands at this place has this fault
abbrev pub IsFaulty : ℕ → List ℕ → TextFault → Type 0
IsFaulty place bytes (BadChar at) =
    ((at ≡ place) × BeginsNothing bytes) ⊎ ((far : ℕ) × (at ≡ place + far) × HasControl bytes far)
IsFaulty place bytes (OpenText at) = (at ≡ place) × IsOpen bytes
IsFaulty place bytes (NumberTooLarge at) =
    (at ≡ place) × ((n : ℕ) × BeginsWith bytes (Number n) × (9223372036854775807 < n))
IsFaulty place bytes (TextTooLong at) = (at ≡ place) × ((kind : TokenKind) × BeginsWith bytes kind × IsTooLong kind)

-- the text is gaps and tokens up to some place, and what stands there has this fault
abbrev pub HasFault : List ℕ → TextFault → Type 0
HasFault text fault =
    (tokens : List Token) × (place : ℕ) × (rest : List ℕ) × Reads 0 text tokens place rest × IsFaulty place rest fault
