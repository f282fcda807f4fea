-- A token seen where it stands in its text.
use Rattle.std.specs.Prelude.{◌≡◌, ◌≤◌, ◌==◌, ◌||◌, not, ℕ, Bool, List, [], length, Option, Some, None, Result}
use Rattle.std.specs.Prelude.{Ok, Err, ⊤}
use Rattle.std.specs.Char.{is_ascii_control}
use Rattle.std.specs.Borrow.{Bor}
use Rattle.ent_value.specs.Name.{IsWord}
use Rattle.ent_value.specs.declared.text.TheConstants.{LONGEST_TEXT}
use Rattle.ent_text.specs.declared.fault.TextFault.{TextFault}
use Rattle.ent_text.specs.declared.token.TokenKind.{TokenKind}
use Rattle.ent_text.specs.declared.token.TokenKind.TheVariants.{Word, Name, HostVariable, Number, Literal, Sign, Fault}
use Rattle.ent_text.specs.declared.view.TokenView.{TokenView}
use Rattle.ent_text.specs.declared.view.TokenView.TheVariants as views
use Rattle.ent_text.specs.Lexing.{Piece, word_kind, quoted_at}

-- what stands in quotes, if they are closed
abbrev pub content_of : Result (List ℕ × List ℕ) TextFault → List ℕ
content_of (Ok text) = text.0
content_of (Err fault) = []

-- what stands in the quotes that open just before these bytes
abbrev pub content : List ℕ → List ℕ
content behind = content_of (quoted_at 0 0 behind)

-- the byte stands in quotes as it is: no quote, and no control character
abbrev pub is_verbatim : ℕ → Bool
is_verbatim b = not ((b == 39) || is_ascii_control b)

-- a text without fault begins just before these bytes
abbrev pub IsContent : List ℕ → Type 0
IsContent behind = (text : List ℕ × List ℕ) × (quoted_at 0 0 behind ≡ Ok text) × (length text.0 ≤ LONGEST_TEXT)

-- a text with a content of this length begins just before these bytes, the last so many of which stand behind it
abbrev pub Encloses : List ℕ → ℕ → ℕ → Type 0
Encloses behind len left =
    (text : List ℕ × List ℕ) × (quoted_at 0 0 behind ≡ Ok text) × (length text.0 ≡ len) × (length text.1 ≡ left)

-- the token that is seen
abbrev pub kind_seen : TokenView → TokenKind
kind_seen (views.Word keyword) = Word keyword
kind_seen (views.Name word) = Name word.now
kind_seen (views.HostVariable word) = HostVariable word.now
kind_seen (views.Number n) = Number n
kind_seen (views.Literal text) = Literal text.now
kind_seen (views.Doubled behind) = Literal (content behind.now)
kind_seen (views.Sign symbol) = Sign symbol
kind_seen (views.Fault fault) = Fault fault

-- a token that is seen can be made
abbrev pub CanBeMade : TokenView → Type 0
CanBeMade (views.Word keyword) = ⊤
CanBeMade (views.Name word) = IsWord word.now
CanBeMade (views.HostVariable word) = IsWord word.now
CanBeMade (views.Number n) = ⊤
CanBeMade (views.Literal text) = length text.now ≤ LONGEST_TEXT
CanBeMade (views.Doubled behind) = IsContent behind.now
CanBeMade (views.Sign symbol) = ⊤
CanBeMade (views.Fault fault) = ⊤

abbrev pub kind_if_seen : Option TokenView → Option TokenKind
kind_if_seen None = None
kind_if_seen (Some view) = Some (kind_seen view)

abbrev pub CanBeMadeIfSeen : Option TokenView → Type 0
CanBeMadeIfSeen None = ⊤
CanBeMadeIfSeen (Some view) = CanBeMade view

abbrev pub kind_if_lent : Option (Bor TokenView) → Option TokenKind
kind_if_lent None = None
kind_if_lent (Some view) = Some (kind_seen view.now)

abbrev pub CanBeMadeIfLent : Option (Bor TokenView) → Type 0
CanBeMadeIfLent None = ⊤
CanBeMadeIfLent (Some view) = CanBeMade view.now

-- this piece is seen and can be made, or this fault is found
abbrev pub Sees : Result (Option TokenView × Bor (List ℕ)) TextFault → Result Piece TextFault → Type 0
Sees (Ok piece) meant = (meant ≡ Ok (kind_if_seen piece.0, piece.1.now)) × CanBeMadeIfSeen piece.0
Sees (Err fault) meant = meant ≡ Err fault

-- these bytes stand behind the piece, or this fault is found
abbrev pub IsBehind : Result (Bor (List ℕ)) TextFault → Result Piece TextFault → Type 0
IsBehind (Ok rest) meant = (kind : Option TokenKind) × (meant ≡ Ok (kind, rest.now))
IsBehind (Err fault) meant = meant ≡ Err fault

-- this word is the piece and can be a name, with the bytes behind it, or this fault is found
abbrev pub FindsWord : Result (Bor (List ℕ) × Bor (List ℕ)) TextFault → Result Piece TextFault → Type 0
FindsWord (Ok found) meant = (meant ≡ Ok (Some (word_kind found.0.now), found.1.now)) × IsWord found.0.now
FindsWord (Err fault) meant = meant ≡ Err fault

-- a text with a content of this length, or this fault
abbrev pub Measures : Result (ℕ × Bor (List ℕ)) TextFault → Result (List ℕ × List ℕ) TextFault → Type 0
Measures (Ok text) meant = (content : List ℕ) × (meant ≡ Ok (content, text.1.now)) × (length content ≡ text.0)
Measures (Err fault) meant = meant ≡ Err fault
