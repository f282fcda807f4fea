-- The first byte of a piece tells what it is.
use Rattle.std.proofs.Common.{◌≡◌, ℕ, ◌<◌, ◌≤◌, Bool, true, false, not, cond, leb, eqb, List, [], ◌∷◌, length, Result}
use Rattle.std.proofs.Common.{Ok, refl, ap, sym, ◌∙◌, arith, Option, Some, None, ◌⊎◌, inl, inr}
use Rattle.std.specs.Prelude.{◌||◌, slice_index}
use Rattle.std.specs.Char.{is_ascii_alphabetic, is_ascii_digit}
use Rattle.std.specs.Int.{is_in_range}
use Rattle.std.proofs.lemmas.Bool.{agree_below_at, and_parts, or_cases, leb-true, eqb-true}
use Rattle.ent_text.specs.declared.fault.TextFault.{TextFault}
use Rattle.ent_text.specs.declared.token.TokenKind.{TokenKind}
use Rattle.ent_text.specs.declared.token.TokenKind.TheVariants.{Word, Name, HostVariable, Number, Literal, Sign, Fault}
use Rattle.ent_text.specs.declared.symbol.Symbol.{Symbol}
use Rattle.ent_text.specs.declared.symbol.Symbol.TheVariants.{Open, Close, Comma, Semicolon, Dot, Star, Plus, Minus}
use Rattle.ent_text.specs.declared.symbol.Symbol.TheVariants.{Equal, NotEqual, Less, LessOrEqual, Greater}
use Rattle.ent_text.specs.declared.symbol.Symbol.TheVariants.{GreaterOrEqual}
use Rattle.ent_text.specs.Symbol.{symbol_text, SpellsSymbol}
use Rattle.ent_text.specs.Spelling.{Spells, is_blank, is_in_line, IsBlank, IsComment, IsPiece}
use Rattle.ent_text.specs.Lexing.{Piece, after, word_at, number_at, text_at, host_variable_at, begins_comment}
use Rattle.ent_text.specs.Lexing.{symbol_at, piece_at}
use Rattle.ent_text.proofs.Digits.{is_digit}

abbrev pub class_from : Bool → Bool → Bool → Bool → Bool → ℕ
class_from true letter digit quote host = 0
class_from false true digit quote host = 1
class_from false false true quote host = 2
class_from false false false true host = 3
class_from false false false false true = 5
class_from false false false false false = 4

-- white space, letter, digit, quote, `@` or another
pub class_of : ℕ → ℕ
class_of b = class_from (is_blank b) (is_ascii_alphabetic b) (is_ascii_digit b) (eqb b 39) (eqb b 64)

implied : (x y : Bool) → not x || y ≡ true → x ≡ true → y ≡ true
implied true y h e = h
implied false y h e = absurd cc

pub class_of_blank : (b : ℕ) → is_blank b ≡ true → class_of b ≡ 0
unfolding class_of
class_of_blank b e = on (is_blank b) e
  where
    on : (t : Bool) → t ≡ true → class_from t (is_ascii_alphabetic b) (is_ascii_digit b) (eqb b 39) (eqb b 64) ≡ 0
    on true e = refl
    on false e = absurd cc

letter_is_small : (b : ℕ) → is_ascii_alphabetic b ≡ true → b < 128
letter_is_small b e =
    elim (or_cases (is_in_range 65 90 b) (is_in_range 97 122 b) e) [
      | inl h ↦ let k : b ≤ 90 = leb-true b 90 (and_parts (leb 65 b) (leb b 90) h).1 in omega arith
      | inr h ↦ let k : b ≤ 122 = leb-true b 122 (and_parts (leb 97 b) (leb b 122) h).1 in omega arith
    ]

digit_is_small : (b : ℕ) → is_ascii_digit b ≡ true → b < 128
digit_is_small b e = let k : b ≤ 57 = leb-true b 57 (and_parts (leb 48 b) (leb b 57) e).1 in omega arith

pub class_of_letter : (b : ℕ) → is_ascii_alphabetic b ≡ true → class_of b ≡ 1
unfolding class_of
class_of_letter b e = eqb-true (class_of b) 1
    (implied (is_ascii_alphabetic b) (eqb (class_of b) 1)
    (agree_below_at (λ c. not (is_ascii_alphabetic c) || eqb (class_of c) 1) (λ c. true) 128 b refl
    (letter_is_small b e)) e)

pub class_of_digit : (b : ℕ) → is_ascii_digit b ≡ true → class_of b ≡ 2
unfolding class_of
class_of_digit b e = eqb-true (class_of b) 2
    (implied (is_ascii_digit b) (eqb (class_of b) 2)
    (agree_below_at (λ c. not (is_ascii_digit c) || eqb (class_of c) 2) (λ c. true) 128 b refl (digit_is_small b e)) e)

pub class_of_other : (b : ℕ) → is_blank b ≡ false → is_ascii_alphabetic b ≡ false → is_ascii_digit b ≡ false
    → eqb b 39 ≡ false → eqb b 64 ≡ false → class_of b ≡ 4
unfolding class_of
class_of_other b e f g h i = on (is_blank b) (is_ascii_alphabetic b) (is_ascii_digit b) (eqb b 39) (eqb b 64) e f g h i
  where
    on : (t u v w x : Bool) → t ≡ false → u ≡ false → v ≡ false → w ≡ false → x ≡ false → class_from t u v w x ≡ 4
    on t u v w x p q r s o = rw (p, q, r, s, o) refl

pub class_of_quote : class_of 39 ≡ 3
unfolding class_of
class_of_quote = refl

pub class_of_at_sign : class_of 64 ≡ 5
unfolding class_of
class_of_at_sign = refl

pub class_of_minus : class_of 45 ≡ 4
unfolding class_of
class_of_minus = refl

abbrev pub class_of_kind : TokenKind → ℕ
class_of_kind (Word keyword) = 1
class_of_kind (Name word) = 1
class_of_kind (HostVariable word) = 5
class_of_kind (Number n) = 2
class_of_kind (Literal text) = 3
class_of_kind (Sign symbol) = 4
class_of_kind (Fault fault) = 4

-- a piece whose first byte is of this class; a comment begins as a symbol does
abbrev pub PieceOf : ℕ → List ℕ → Option TokenKind → Type 0
PieceOf k bytes None = ((k ≡ 0) × IsBlank bytes) ⊎ ((k ≡ 4) × IsComment bytes)
PieceOf k bytes (Some kind) = (k ≡ class_of_kind kind) × Spells bytes kind

class_of_mark : (symbol : Symbol) → class_of (slice_index (symbol_text symbol) 0) ≡ 4
unfolding class_of
class_of_mark Open = refl
class_of_mark Close = refl
class_of_mark Comma = refl
class_of_mark Semicolon = refl
class_of_mark Dot = refl
class_of_mark Star = refl
class_of_mark Plus = refl
class_of_mark Minus = refl
class_of_mark Equal = refl
class_of_mark NotEqual = refl
class_of_mark Less = refl
class_of_mark LessOrEqual = refl
class_of_mark Greater = refl
class_of_mark GreaterOrEqual = refl

class_of_exclamation : class_of 33 ≡ 4
unfolding class_of
class_of_exclamation = refl

pub class_of_symbol : (bytes : List ℕ) (symbol : Symbol) → SpellsSymbol bytes symbol
    → class_of (slice_index bytes 0) ≡ 4
class_of_symbol bytes symbol (inl e) = ap (λ (l : List ℕ). class_of (slice_index l 0)) e ∙ class_of_mark symbol
class_of_symbol bytes symbol (inr e) = ap (λ (l : List ℕ). class_of (slice_index l 0)) e.0 ∙ class_of_exclamation

pub kind_of_first : (b : ℕ) (bytes : List ℕ) (kind : TokenKind) → Spells (b ∷ bytes) kind
    → class_of b ≡ class_of_kind kind
kind_of_first b bytes (Word keyword) h = class_of_letter b h.0.0
kind_of_first b bytes (Name word) h = class_of_letter b h.0.0
kind_of_first b bytes (HostVariable word) h = let k : b ≡ 64 = ap (λ (l : List ℕ). slice_index l 0) h.0 in
    ap class_of k ∙ class_of_at_sign
kind_of_first b bytes (Number n) h = class_of_digit b (is_digit b h.0.1.0)
kind_of_first b bytes (Literal text) h = let k : b ≡ 39 = ap (λ (l : List ℕ). slice_index l 0) h.0 in
    ap class_of k ∙ class_of_quote
kind_of_first b bytes (Sign symbol) h = class_of_symbol (b ∷ bytes) symbol h
kind_of_first b bytes (Fault fault) h = absurd h

pub piece_of_first : (b k : ℕ) (bytes : List ℕ) (piece : Option TokenKind) → class_of b ≡ k → IsPiece (b ∷ bytes) piece
    → PieceOf k (b ∷ bytes) piece
piece_of_first b k bytes None e (inl h) = let first : b ≡ h.0 = ap (λ (l : List ℕ). slice_index l 0) h.1 in
    inl (sym e ∙ ap class_of first ∙ class_of_blank h.0 h.2, h)
piece_of_first b k bytes None e (inr h) = let first : b ≡ 45 = ap (λ (l : List ℕ). slice_index l 0) h.1 in
    inr (sym e ∙ ap class_of first ∙ class_of_minus, h)
piece_of_first b k bytes (Some kind) e h = (sym e ∙ kind_of_first b bytes kind h, h)

length_of_mark : (symbol : Symbol) → 0 < length (symbol_text symbol)
length_of_mark Open = omega arith
length_of_mark Close = omega arith
length_of_mark Comma = omega arith
length_of_mark Semicolon = omega arith
length_of_mark Dot = omega arith
length_of_mark Star = omega arith
length_of_mark Plus = omega arith
length_of_mark Minus = omega arith
length_of_mark Equal = omega arith
length_of_mark NotEqual = omega arith
length_of_mark Less = omega arith
length_of_mark LessOrEqual = omega arith
length_of_mark Greater = omega arith
length_of_mark GreaterOrEqual = omega arith

-- a piece has a byte
pub no_empty_piece : (piece : Option TokenKind) → IsPiece [] piece → ⊥
no_empty_piece None (inl h) = absurd (omega (arith, ap length h.1))
no_empty_piece None (inr h) = absurd (omega (arith, ap length h.1))
no_empty_piece (Some (Word keyword)) h = absurd cc
no_empty_piece (Some (Name word)) h = absurd cc
no_empty_piece (Some (HostVariable word)) h = absurd (omega (arith, ap length h.0))
no_empty_piece (Some (Number n)) h = absurd (omega arith)
no_empty_piece (Some (Literal text)) h = absurd cc
no_empty_piece (Some (Sign symbol)) (inl e) = absurd (omega (arith, length_of_mark symbol, ap length e))
no_empty_piece (Some (Sign symbol)) (inr e) = absurd (omega (arith, ap length e.0))
no_empty_piece (Some (Fault fault)) h = absurd h

-- ---- what is read there

abbrev Chosen : Bool → Bool → Bool → Bool → Bool → Result Piece TextFault → Result Piece TextFault
    → Result Piece TextFault → Result Piece TextFault → Result Piece TextFault → Result Piece TextFault
    → Result Piece TextFault
Chosen t u v w x a b c d e f = cond t a (cond u b (cond v c (cond w d (cond x e f))))

pick_word : (t u v w x : Bool) (a b c d e f : Result Piece TextFault) → class_from t u v w x ≡ 1
    → Chosen t u v w x a b c d e f ≡ b
pick_word true u v w x a b c d e f k = absurd (omega arith)
pick_word false true v w x a b c d e f k = refl
pick_word false false true w x a b c d e f k = absurd (omega arith)
pick_word false false false true x a b c d e f k = absurd (omega arith)
pick_word false false false false true a b c d e f k = absurd (omega arith)
pick_word false false false false false a b c d e f k = absurd (omega arith)

pick_number : (t u v w x : Bool) (a b c d e f : Result Piece TextFault) → class_from t u v w x ≡ 2
    → Chosen t u v w x a b c d e f ≡ c
pick_number true u v w x a b c d e f k = absurd (omega arith)
pick_number false true v w x a b c d e f k = absurd (omega arith)
pick_number false false true w x a b c d e f k = refl
pick_number false false false true x a b c d e f k = absurd (omega arith)
pick_number false false false false true a b c d e f k = absurd (omega arith)
pick_number false false false false false a b c d e f k = absurd (omega arith)

pick_other : (t u v w x : Bool) (a b c d e f : Result Piece TextFault) → class_from t u v w x ≡ 4
    → Chosen t u v w x a b c d e f ≡ f
pick_other true u v w x a b c d e f k = absurd (omega arith)
pick_other false true v w x a b c d e f k = absurd (omega arith)
pick_other false false true w x a b c d e f k = absurd (omega arith)
pick_other false false false true x a b c d e f k = absurd (omega arith)
pick_other false false false false true a b c d e f k = absurd (omega arith)
pick_other false false false false false a b c d e f k = refl

pub word_is_read : (place b : ℕ) (bytes : List ℕ) → class_of b ≡ 1
    → piece_at place (b ∷ bytes) ≡ word_at place (b ∷ bytes)
unfolding piece_at class_of
word_is_read place b bytes k = pick_word (is_blank b) (is_ascii_alphabetic b) (is_ascii_digit b) (eqb b 39)
    (eqb b 64) _ _ _ _ _ _ k

pub number_is_read : (place b : ℕ) (bytes : List ℕ) → class_of b ≡ 2
    → piece_at place (b ∷ bytes) ≡ number_at place (b ∷ bytes)
unfolding piece_at class_of
number_is_read place b bytes k = pick_number (is_blank b) (is_ascii_alphabetic b) (is_ascii_digit b) (eqb b 39)
    (eqb b 64) _ _ _ _ _ _ k

abbrev CommentOr : List ℕ → Result Piece TextFault → Bool → Result Piece TextFault
CommentOr bytes symbol comment = cond comment (Ok (None, after is_in_line bytes)) symbol

other_is_read : (place b : ℕ) (bytes : List ℕ) → class_of b ≡ 4
    → piece_at place (b ∷ bytes) ≡ CommentOr (b ∷ bytes) (symbol_at place (b ∷ bytes)) (begins_comment (b ∷ bytes))
unfolding piece_at class_of
other_is_read place b bytes k = pick_other (is_blank b) (is_ascii_alphabetic b) (is_ascii_digit b) (eqb b 39)
    (eqb b 64) _ _ _ _ _ _ k

pub comment_is_read : (place b : ℕ) (bytes : List ℕ) → class_of b ≡ 4 → begins_comment (b ∷ bytes) ≡ true
    → piece_at place (b ∷ bytes) ≡ Ok (None, after is_in_line (b ∷ bytes))
comment_is_read place b bytes k e =
    other_is_read place b bytes k ∙ ap (CommentOr (b ∷ bytes) (symbol_at place (b ∷ bytes))) e

pub symbol_is_read : (place b : ℕ) (bytes : List ℕ) → class_of b ≡ 4 → begins_comment (b ∷ bytes) ≡ false
    → piece_at place (b ∷ bytes) ≡ symbol_at place (b ∷ bytes)
symbol_is_read place b bytes k e =
    other_is_read place b bytes k ∙ ap (CommentOr (b ∷ bytes) (symbol_at place (b ∷ bytes))) e

pub host_variable_is_read : (place : ℕ) (bytes : List ℕ)
    → piece_at place (64 ∷ bytes) ≡ host_variable_at place (64 ∷ bytes)
unfolding piece_at
host_variable_is_read place bytes = refl

pub text_is_read : (place : ℕ) (bytes : List ℕ) → piece_at place (39 ∷ bytes) ≡ text_at place (39 ∷ bytes)
unfolding piece_at
text_is_read place bytes = refl

pub blank_is_read : (place b : ℕ) (bytes : List ℕ) → is_blank b ≡ true → piece_at place (b ∷ bytes) ≡ Ok (None, bytes)
unfolding piece_at
blank_is_read place b bytes e = on (is_blank b) _ e
  where
    on : (t : Bool) (others : Result Piece TextFault) → t ≡ true → cond t (Ok (None, bytes)) others ≡ Ok (None, bytes)
    on true others h = refl
    on false others h = absurd cc
