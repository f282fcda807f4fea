-- A printed text is read as the tokens that were printed.
use Rattle.std.proofs.Common.{◌≡◌, ℕ, ◌+◌, Bool, true, false, eqb, List, [], ◌∷◌, ◌++◌, length, map, refl, suc}
use Rattle.std.proofs.Common.{ap, subst, arith, inl}
use Rattle.std.specs.Prelude.{slice_index, ◌&&◌, if◌then◌else◌}
use Rattle.std.specs.List.{All}
use Rattle.std.specs.Fmt.{decimal}
use Rattle.std.specs.Char.{is_ascii_digit}
use Rattle.std.specs.Str.Parse.{IsNumeral}
use Rattle.std.proofs.lemmas.Bool.{or_from, ne_eqb}
use Rattle.std.proofs.lemmas.Fmt.{decimal_is_IsNumeral}
use Rattle.std.proofs.lemmas.List.{length-append}
use Rattle.std.proofs.lemmas.Str.Parse.{tells_digits}
use Rattle.ent_value.specs.Name.{is_word_byte}
use Rattle.ent_text.specs.declared.keyword.Keyword.{Keyword}
use Rattle.ent_text.specs.declared.keyword.Keyword.TheVariants as keywords
use Rattle.ent_text.specs.declared.symbol.Symbol.TheVariants as symbols
use Rattle.ent_text.specs.declared.token.Token.{Token as PlacedToken}
use Rattle.ent_text.specs.declared.token.TokenKind.{TokenKind}
use Rattle.ent_text.specs.declared.token.TokenKind.TheVariants.{Word, Name, HostVariable, Number, Literal, Sign, Fault}
use Rattle.ent_text.specs.Keyword.{keyword_text}
use Rattle.ent_text.specs.Spelling.{Spells, IsWithinLimit, IsLongest, is_blank}
use Rattle.ent_text.specs.Ends.{goes_on}
use Rattle.ent_text.specs.Reading.{Reads, nothing, gap, token}
use Rattle.ent_print.specs.Lexeme.{Lexeme, Token, Negative, kind_text, lexeme_text, line_end, wants_before}
use Rattle.ent_print.specs.Lexeme.{wants_behind, text_behind, text_of}
use Rattle.ent_print.specs.Reading.{lexeme_kinds, kinds_of, CanStand, CanBeRead, HasKinds}

-- the law of the ends of tokens, and that of white space
abbrev pub TokensEnd : Type 0
TokensEnd = (bytes behind : List ℕ) (kind : TokenKind) → Spells bytes kind
    → goes_on kind (slice_index behind 0) ≡ false → IsLongest bytes behind

abbrev pub BlanksEnd : Type 0
BlanksEnd = (b : ℕ) (behind : List ℕ) → is_blank b ≡ true → IsLongest (b ∷ []) behind

-- from any place on, these bytes are tokens of these kinds, up to the end
abbrev IsRead : List ℕ → List TokenKind → Type 0
IsRead bytes kinds =
    (place : ℕ) → (tokens : List PlacedToken) × Reads place bytes tokens (place + length bytes) []
    × (map (λ (t : PlacedToken). t.kind) tokens ≡ kinds)

read_token : TokensEnd → (bytes behind : List ℕ) (kind : TokenKind) (kinds : List TokenKind) → Spells bytes kind
    → IsWithinLimit kind → goes_on kind (slice_index behind 0) ≡ false → IsRead behind kinds
    → IsRead (bytes ++ behind) (kind ∷ kinds)
read_token ends bytes behind kind kinds spelled small e others place =
    let rest = others (place + length bytes) in
    let end : (place + length bytes) + length behind ≡ place + length (bytes ++ behind) =
    omega (arith, length-append bytes behind) in (
      record { kind = kind; start = place; end = place + length bytes } ∷ rest.0,
      token place bytes behind kind rest.0 (place + length (bytes ++ behind)) [] spelled (ends bytes behind kind
          spelled e)
          small (subst (λ (n : ℕ). Reads (place + length bytes) behind rest.0 n []) end rest.1),
      ap (λ (ks : List TokenKind). kind ∷ ks) rest.2,
    )

read_blank : BlanksEnd → (b : ℕ) (behind : List ℕ) (kinds : List TokenKind) → is_blank b ≡ true → IsRead behind kinds
    → IsRead (b ∷ behind) kinds
read_blank blanks b behind kinds e others place =
    let rest = others (place + 1) in
    let end : (place + 1) + length behind ≡ place + length (b ∷ behind) = omega arith in (
      rest.0,
      gap place (b ∷ []) behind rest.0 (place + length (b ∷ behind)) [] (inl (b, refl, e)) (blanks b behind e)
          (subst (λ (n : ℕ). Reads (place + 1) behind rest.0 n []) end rest.1),
      rest.2,
    )

read_end : IsRead [] []
read_end place = ([], subst (λ (n : ℕ). Reads place [] [] n []) (omega arith) (nothing place []), refl)

-- ---- each kind as it is printed

word_spelled : (keyword : Keyword) → Spells (keyword_text keyword) (Word keyword)
word_spelled keywords.And = ((refl, refl), refl)
word_spelled keywords.Answer = ((refl, refl), refl)
word_spelled keywords.As = ((refl, refl), refl)
word_spelled keywords.Begin = ((refl, refl), refl)
word_spelled keywords.Choose = ((refl, refl), refl)
word_spelled keywords.Commit = ((refl, refl), refl)
word_spelled keywords.Create = ((refl, refl), refl)
word_spelled keywords.Delete = ((refl, refl), refl)
word_spelled keywords.From = ((refl, refl), refl)
word_spelled keywords.In = ((refl, refl), refl)
word_spelled keywords.Insert = ((refl, refl), refl)
word_spelled keywords.Int = ((refl, refl), refl)
word_spelled keywords.Into = ((refl, refl), refl)
word_spelled keywords.Rollback = ((refl, refl), refl)
word_spelled keywords.Runs = ((refl, refl), refl)
word_spelled keywords.Select = ((refl, refl), refl)
word_spelled keywords.Set = ((refl, refl), refl)
word_spelled keywords.Table = ((refl, refl), refl)
word_spelled keywords.Text = ((refl, refl), refl)
word_spelled keywords.Transaction = ((refl, refl), refl)
word_spelled keywords.Update = ((refl, refl), refl)
word_spelled keywords.Values = ((refl, refl), refl)
word_spelled keywords.Where = ((refl, refl), refl)
word_spelled keywords.Within = ((refl, refl), refl)

spelled : (kind : TokenKind) → CanStand kind → Spells (kind_text kind) kind
spelled (Word keyword) can = word_spelled keyword
spelled (Name word) can = subst (λ (l : List ℕ). Spells l (Name word)) can.0.1.1 can.0.1
spelled (HostVariable word) can = (refl, can.0.1.1)
spelled (Number n) can = let h = decimal_is_IsNumeral n (omega (arith, can.1)) in (h.0, h.1)
spelled (Literal text) can = (refl, can.0.1.1)
spelled (Sign symbol) can = inl refl
spelled (Fault fault) can = absurd can.1

-- ---- what stands behind a lexeme

-- a byte that goes on no token
quiet : (b : ℕ) → is_word_byte b ≡ false → is_ascii_digit b ≡ false → eqb b 39 ≡ false → eqb b 62 ≡ false
    → eqb b 61 ≡ false → eqb b 45 ≡ false → (kind : TokenKind) → goes_on kind b ≡ false
quiet b w d q g e m (Word keyword) = w
quiet b w d q g e m (Name word) = w
quiet b w d q g e m (HostVariable word) = w
quiet b w d q g e m (Number n) = d
quiet b w d q g e m (Literal text) = q
quiet b w d q g e m (Sign symbols.Less) = or_from (eqb b 62) (eqb b 61) g e
quiet b w d q g e m (Sign symbols.Greater) = e
quiet b w d q g e m (Sign symbols.Minus) = m
quiet b w d q g e m (Sign other) = refl
quiet b w d q g e m (Fault fault) = refl

at_end : (kind : TokenKind) → goes_on kind 0 ≡ false
at_end = quiet 0 refl refl refl refl refl refl

before_space : (kind : TokenKind) → goes_on kind 32 ≡ false
before_space = quiet 32 refl refl refl refl refl refl

-- behind a lexeme that wants a space nothing goes on a token
apart : (more : List Lexeme) (kind : TokenKind) → goes_on kind (slice_index (text_behind true more) 0) ≡ false
apart [] kind = at_end kind
apart (Token (Sign symbols.Comma) ∷ more) kind = quiet 44 refl refl refl refl refl refl kind
apart (Token (Sign symbols.Semicolon) ∷ more) kind = quiet 59 refl refl refl refl refl refl kind
apart (Token (Sign symbols.Close) ∷ more) kind = quiet 41 refl refl refl refl refl refl kind
apart (Token (Sign symbols.Dot) ∷ more) kind = quiet 46 refl refl refl refl refl refl kind
apart (lexeme ∷ more) kind = before_space kind

no_minus : (ds rest : List ℕ) → IsNumeral 10 ds → goes_on (Sign symbols.Minus) (slice_index (ds ++ rest) 0) ≡ false
no_minus [] rest numeral = absurd (omega (arith, numeral.0))
no_minus (d ∷ ds) rest numeral =
    let h = (tells_digits.parts d [] (numeral.1.0, tt)).0 in ne_eqb d 45 (λ e. absurd (omega (arith, h.0)))

-- ---- lexemes one behind the other

spaced : BlanksEnd → (t : Bool) (text : List ℕ) (kinds : List TokenKind) → IsRead text kinds
    → IsRead ((if t then 32 ∷ [] else []) ++ text) kinds
spaced blanks true text kinds read = read_blank blanks 32 text kinds refl read
spaced blanks false text kinds read = read

read_lexeme : TokensEnd → BlanksEnd → (lexeme : Lexeme) (more : List Lexeme) (kinds : List TokenKind)
    → CanBeRead lexeme → IsRead (text_behind (wants_behind lexeme) more) kinds
    → IsRead (lexeme_text lexeme ++ (line_end lexeme ++ text_behind (wants_behind lexeme) more))
    (lexeme_kinds lexeme ++ kinds)
read_lexeme ends blanks (Token (Sign symbols.Semicolon)) more kinds can read =
    read_token ends (59 ∷ []) (10 ∷ text_behind false more) (Sign symbols.Semicolon) kinds (inl refl) tt refl
    (read_blank blanks 10 (text_behind false more) kinds refl read)
read_lexeme ends blanks (Token (Sign symbols.Open)) more kinds can read =
    read_token ends (40 ∷ []) (text_behind false more) (Sign symbols.Open) kinds (inl refl) tt refl read
read_lexeme ends blanks (Token (Sign symbols.Dot)) more kinds can read =
    read_token ends (46 ∷ []) (text_behind false more) (Sign symbols.Dot) kinds (inl refl) tt refl read
read_lexeme ends blanks (Token kind) more kinds can read =
    read_token ends (kind_text kind) (text_behind true more) kind kinds (spelled kind can) can.1 (apart more kind) read
read_lexeme ends blanks (Negative n) more kinds can read =
    let number = spelled (Number n) can in
    read_token ends (45 ∷ []) (decimal n ++ text_behind true more) (Sign symbols.Minus) (Number n ∷ kinds) (inl refl) tt
    (no_minus (decimal n) (text_behind true more) number.0)
    (read_token ends (decimal n) (text_behind true more) (Number n) kinds number can.1 (apart more (Number n)) read)

read_lexemes : TokensEnd → BlanksEnd → (wanted : Bool) (lexemes : List Lexeme) → All CanBeRead lexemes
    → IsRead (text_behind wanted lexemes) (kinds_of lexemes)
read_lexemes ends blanks wanted [] can = read_end
read_lexemes ends blanks wanted (lexeme ∷ more) can =
    spaced blanks (wanted && wants_before lexeme) _ _
    (read_lexeme ends blanks lexeme more (kinds_of more) (can 0 lexeme (omega arith))
    (read_lexemes ends blanks (wants_behind lexeme) more (λ k d lt. can (suc k) d (omega arith))))

pub text_is_read : TokensEnd → BlanksEnd → (lexemes : List Lexeme) → All CanBeRead lexemes
    → HasKinds (text_of lexemes) (kinds_of lexemes)
text_is_read ends blanks lexemes can =
    let read = read_lexemes ends blanks false lexemes can 0 in
    (read.0, subst (λ (n : ℕ). Reads 0 (text_of lexemes) read.0 n []) (omega arith) read.1, read.2)
