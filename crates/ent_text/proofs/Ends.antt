-- A token that no byte goes on is the longest piece where it stands.
use Rattle.std.proofs.Common.{◌≡◌, ℕ, Bool, true, false, eqb, List, [], ◌∷◌, ◌++◌, length, take, drop, refl}
use Rattle.std.proofs.Common.{sym, subst, arith, Some, inl, inr}
use Rattle.std.specs.Prelude.{slice_index}
use Rattle.std.specs.List.{list_all}
use Rattle.std.specs.Char.{is_ascii_digit}
use Rattle.std.proofs.lemmas.Bool.{and_parts, or_parts}
use Rattle.std.proofs.lemmas.List.{take_at, drop_at, length-append}
use Rattle.ent_value.specs.Name.{is_word_byte}
use Rattle.ent_text.specs.declared.symbol.Symbol.{Symbol}
use Rattle.ent_text.specs.declared.symbol.Symbol.TheVariants.{Open, Close, Comma, Semicolon, Dot, Star, Plus, Minus}
use Rattle.ent_text.specs.declared.symbol.Symbol.TheVariants.{Equal, NotEqual, Less, LessOrEqual, Greater}
use Rattle.ent_text.specs.declared.symbol.Symbol.TheVariants.{GreaterOrEqual}
use Rattle.ent_text.specs.declared.token.TokenKind.{TokenKind}
use Rattle.ent_text.specs.declared.token.TokenKind.TheVariants.{Word, Name, HostVariable, Number, Literal, Sign, Fault}
use Rattle.ent_text.specs.Symbol.{symbol_text, SpellsSymbol}
use Rattle.ent_text.specs.Spelling.{IsWordLike, IsLongest, Spells, is_blank}
use Rattle.ent_text.specs.Lexing.{Stops, symbol_of, begins_comment}
use Rattle.ent_text.specs.Ends.{goes_on}
use Rattle.ent_text.proofs.Digits.{digits_pass}
use Rattle.ent_text.proofs.Fronts.{taken_is, after_is}
use Rattle.ent_text.proofs.Firsts.{class_of_letter, class_of_digit, class_of_symbol, class_of_blank}
use Rattle.ent_text.proofs.Firsts.{no_empty_piece}
use Rattle.ent_text.proofs.Runs.{blank_longest, word_longest, number_longest, host_variable_longest}
use Rattle.ent_text.proofs.Symbols.{symbol_longest}
use Rattle.ent_text.proofs.Texts.{is_quote, text_longest}

-- where the first byte doesn't pass, nothing passing stands first
stops : (test : ℕ → Bool) (behind : List ℕ) → test (slice_index behind 0) ≡ false → Stops test behind
stops test [] e = tt
stops test (c ∷ others) e = e

word_ends : (bytes behind : List ℕ) → IsWordLike bytes → Stops is_word_byte behind → IsLongest bytes behind
word_ends [] behind like stop = absurd cc
word_ends (b ∷ others) behind like stop =
    let longest = word_longest b (others ++ behind) (class_of_letter b like.0) in
    rw (taken_is is_word_byte (b ∷ others) behind like.1 stop, after_is is_word_byte (b ∷ others) behind like.1 stop)
    at longest

host_variable_ends : (word behind : List ℕ) → IsWordLike word → Stops is_word_byte behind
    → IsLongest (64 ∷ word) behind
host_variable_ends word behind like stop =
    let longest = host_variable_longest (word ++ behind) in
    rw (taken_is is_word_byte word behind like.1 stop, after_is is_word_byte word behind like.1 stop) at longest

number_ends : (bytes behind : List ℕ) (n : ℕ) → Spells bytes (Number n) → Stops is_ascii_digit behind
    → IsLongest bytes behind
number_ends [] behind n spelled stop = absurd (omega (arith, spelled.0.0))
number_ends (b ∷ others) behind n spelled stop =
    let all = digits_pass (b ∷ others) spelled.0.1 in
    let first = and_parts (is_ascii_digit b) (list_all is_ascii_digit others) all in
    let longest = number_longest b (others ++ behind) (class_of_digit b first.0) in
    rw (taken_is is_ascii_digit (b ∷ others) behind all stop, after_is is_ascii_digit (b ∷ others) behind all stop)
    at longest

-- ---- symbols

marked : (symbol : Symbol) (behind : List ℕ) → goes_on (Sign symbol) (slice_index behind 0) ≡ false
    → symbol_of (slice_index (symbol_text symbol ++ behind) 0) (slice_index (symbol_text symbol ++ behind) 1)
    ≡ Some (symbol, length (symbol_text symbol))
unfolding symbol_of
marked Open behind e = refl
marked Close behind e = refl
marked Comma behind e = refl
marked Semicolon behind e = refl
marked Dot behind e = refl
marked Star behind e = refl
marked Plus behind e = refl
marked Minus behind e = refl
marked Equal behind e = refl
marked NotEqual behind e = refl
marked Less behind e =
    let h = or_parts (eqb (slice_index behind 0) 62) (eqb (slice_index behind 0) 61) e in rw (h.0, h.1) refl
marked LessOrEqual behind e = refl
marked Greater behind e = rw e refl
marked GreaterOrEqual behind e = refl

no_comment : (symbol : Symbol) (behind : List ℕ) → goes_on (Sign symbol) (slice_index behind 0) ≡ false
    → begins_comment (symbol_text symbol ++ behind) ≡ false
no_comment Open behind e = refl
no_comment Close behind e = refl
no_comment Comma behind e = refl
no_comment Semicolon behind e = refl
no_comment Dot behind e = refl
no_comment Star behind e = refl
no_comment Plus behind e = refl
no_comment Minus behind e = e
no_comment Equal behind e = refl
no_comment NotEqual behind e = refl
no_comment Less behind e = refl
no_comment LessOrEqual behind e = refl
no_comment Greater behind e = refl
no_comment GreaterOrEqual behind e = refl

-- the symbol is read, and no comment
abbrev IsRead : List ℕ → Symbol → List ℕ → Type 0
IsRead bytes symbol behind =
    (symbol_of (slice_index (bytes ++ behind) 0) (slice_index (bytes ++ behind) 1) ≡ Some (symbol, length bytes))
    × (begins_comment (bytes ++ behind) ≡ false)

symbol_is_read : (bytes behind : List ℕ) (symbol : Symbol) → SpellsSymbol bytes symbol
    → goes_on (Sign symbol) (slice_index behind 0) ≡ false → IsRead bytes symbol behind
unfolding symbol_of
symbol_is_read bytes behind symbol (inl is) e =
    subst (λ (l : List ℕ). IsRead l symbol behind) (sym is) (marked symbol behind e, no_comment symbol behind e)
symbol_is_read bytes behind symbol (inr is) e =
    subst (λ (s : Symbol). IsRead bytes s behind) (sym is.1)
    (subst (λ (l : List ℕ). IsRead l NotEqual behind) (sym is.0) (refl, refl))

symbol_ends : (bytes behind : List ℕ) (symbol : Symbol) → SpellsSymbol bytes symbol
    → goes_on (Sign symbol) (slice_index behind 0) ≡ false → IsLongest bytes behind
symbol_ends [] behind symbol spelled e = absurd (no_empty_piece (Some (Sign symbol)) spelled)
symbol_ends (b ∷ others) behind symbol spelled e =
    let read = symbol_is_read (b ∷ others) behind symbol spelled e in
    let longest = symbol_longest b (others ++ behind) (symbol, length (b ∷ others)) (class_of_symbol (b ∷ others) symbol
    spelled) read.1 (omega arith) (omega (arith, length-append others behind)) read.0 in
    let n = length (b ∷ others) in
    let front : take n (b ∷ (others ++ behind)) ≡ b ∷ others = take_at (b ∷ others) behind n refl in
    let rest : drop n (b ∷ (others ++ behind)) ≡ behind = drop_at (b ∷ others) behind n refl in
    subst (λ (l : List ℕ). IsLongest (b ∷ others) l) rest
    (subst (λ (l : List ℕ). IsLongest l (drop n (b ∷ (others ++ behind)))) front longest)

-- ---- all kinds

pub token_ends : (bytes behind : List ℕ) (kind : TokenKind) → Spells bytes kind
    → goes_on kind (slice_index behind 0) ≡ false → IsLongest bytes behind
token_ends bytes behind (Word keyword) spelled e = word_ends bytes behind spelled.0 (stops is_word_byte behind e)
token_ends bytes behind (Name word) spelled e = word_ends bytes behind spelled.0 (stops is_word_byte behind e)
token_ends bytes behind (HostVariable word) spelled e =
    subst (λ (l : List ℕ). IsLongest l behind) (sym spelled.0)
    (host_variable_ends word behind spelled.1 (stops is_word_byte behind e))
token_ends bytes behind (Number n) spelled e = number_ends bytes behind n spelled (stops is_ascii_digit behind e)
token_ends bytes behind (Literal text) spelled e =
    subst (λ (l : List ℕ). IsLongest l behind) (sym spelled.0) (text_longest text behind (stops is_quote behind e))
token_ends bytes behind (Sign symbol) spelled e = symbol_ends bytes behind symbol spelled e
token_ends bytes behind (Fault fault) spelled e = absurd spelled

pub blank_ends : (b : ℕ) (behind : List ℕ) → is_blank b ≡ true → IsLongest (b ∷ []) behind
blank_ends b behind e = blank_longest b behind (class_of_blank b e)
