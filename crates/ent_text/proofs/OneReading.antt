-- Whatever is a reading of a text is what the reader answers, so there is only one.
use Rattle.std.proofs.Common.{◌≡◌, ℕ, ◌+◌, ◌-◌, ◌<◌, ◌≤◌, Bool, true, false, cond, ltb, eqb, List, [], ◌∷◌, ◌++◌}
use Rattle.std.proofs.Common.{length, take, drop, Result, Ok, Err, refl, ap, sym, ◌∙◌, subst, append_assoc, arith}
use Rattle.std.proofs.Common.{Option, Some, None, inl, inr}
use Rattle.std.proofs.lemmas.List.{length-append, append-nil, take_at, drop_at, take-append-drop, length-take-le}
use Rattle.std.proofs.lemmas.List.Folds.{list_all-append, list_any-append}
use Rattle.std.proofs.lemmas.Bool.{eqb-true, ne_eqb, and_from, or_from, or_parts, lt-ltb, le-ltb}
use Rattle.std.specs.Prelude.{slice_index, ◌≢◌}
use Rattle.std.specs.Option.{option_map_or}
use Rattle.std.specs.List.{take_while, list_all, list_any}
use Rattle.std.specs.Char.{is_ascii_alphabetic, is_ascii_digit, is_ascii_control}
use Rattle.std.specs.Str.Parse.{IsNumeral, digits_value}
use Rattle.ent_lists.proofs.Lists.{same_first}
use Rattle.ent_value.specs.Refusal.{◌>>=◌}
use Rattle.ent_value.specs.declared.refusal.Refusal.TheVariants as errors
use Rattle.ent_value.specs.Name.{is_word_byte}
use Rattle.ent_value.specs.Print.{doubled, quoted}
use Rattle.ent_text.specs.declared.symbol.Symbol.{Symbol}
use Rattle.ent_text.specs.declared.symbol.Symbol.TheVariants.{Open, Close, Comma, Semicolon, Dot, Star, Plus, Minus}
use Rattle.ent_text.specs.declared.symbol.Symbol.TheVariants.{Equal, NotEqual, Less, LessOrEqual, Greater}
use Rattle.ent_text.specs.declared.symbol.Symbol.TheVariants.{GreaterOrEqual}
use Rattle.ent_text.specs.declared.fault.TextFault.{TextFault}
use Rattle.ent_text.specs.declared.fault.TextFault.TheVariants.{BadChar, OpenText, NumberTooLarge, TextTooLong}
use Rattle.ent_text.specs.declared.token.Token.{Token}
use Rattle.ent_text.specs.declared.token.TokenKind.{TokenKind}
use Rattle.ent_text.specs.declared.token.TokenKind.TheVariants.{Word, Name, HostVariable, Number, Literal, Sign, Fault}
use Rattle.ent_text.specs.Symbol.{SpellsSymbol}
use Rattle.ent_text.specs.Spelling.{Spells, IsPlain, IsPiece, IsLongest, IsWordLike, IsComment, is_blank, is_in_line}
use Rattle.ent_text.specs.Reading.{Reads, nothing, gap, token, AreTokens, IsTooLong, IsFaulty, HasFault}
use Rattle.ent_text.specs.Lexing.{Piece, after, Stops, word_kind, word_at, number_at, value_from, host_variable_at}
use Rattle.ent_text.specs.Lexing.{begins_comment, symbol_of, symbol_at, with_byte, quoted_at, text_at, piece_at}
use Rattle.ent_text.specs.Lexing.{tokens_of, with_token}
use Rattle.ent_text.proofs.Digits.{digits_pass, all_digits, value_is}
use Rattle.ent_text.proofs.Fronts.{taken_is, after_is}
use Rattle.ent_text.proofs.Firsts.{class_of, class_of_minus, kind_of_first, no_empty_piece, word_is_read}
use Rattle.ent_text.proofs.Firsts.{number_is_read, host_variable_is_read, comment_is_read, symbol_is_read, text_is_read}
use Rattle.ent_text.proofs.Firsts.{blank_is_read}
use Rattle.ent_text.proofs.Words.{letter_first, word_spells, keyword_kind, keyword_is_short, name_kind}
use Rattle.ent_text.proofs.Runs.{comment_is_in_line, comment_begins, begins_two}
use Rattle.ent_text.proofs.Symbols.{Marks, symbol_marks, symbol_takes, takes_none, takes_at_most}
use Rattle.ent_text.proofs.Texts.{is_quote}
use Rattle.ent_text.proofs.Reading.{Body, quoted-doubled, quoted-closed, quoted-control, quoted-other}
use Rattle.ent_text.proofs.Found.{Cut, IsPieceWithin, piece_cut}
use Rattle.ent_text.proofs.Slices.{piece_has_byte}
use Rattle.ent_text.proofs.Rest.{LeftToRead, left_at_first, nothing_left, fault_here, left_behind}

-- ---- the longest piece stops where it could go on

goes_on : (word rest : List ℕ) (c : ℕ) (more : List ℕ) (piece : Option TokenKind) → IsLongest word (c ∷ rest)
    → IsPiece ((word ++ c ∷ []) ++ more) piece → ⊥
goes_on word rest c more piece longest spelled =
    let le = longest (word ++ c ∷ []) rest more piece (append_assoc word (c ∷ []) rest) spelled in
    omega (arith, length-append word (c ∷ []))

stops : (test : ℕ → Bool) (word rest : List ℕ) → IsLongest word rest
    → ((c : ℕ) → test c ≡ true → (more : List ℕ) × (piece : Option TokenKind)
    × IsPiece ((word ++ c ∷ []) ++ more) piece) → Stops test rest
stops test word [] longest more = tt
stops test word (c ∷ rest) longest more = on (test c) refl
  where
    on : (t : Bool) → test c ≡ t → t ≡ false
    on true e = let p = more c e in absurd (goes_on word rest c p.0 p.1 longest p.2)
    on false e = refl

longer_run : (test : ℕ → Bool) (bytes : List ℕ) (c : ℕ) → list_all test bytes ≡ true → test c ≡ true
    → list_all test (bytes ++ c ∷ []) ≡ true
longer_run test bytes c all e = list_all-append test bytes (c ∷ [])
    ∙ and_from (list_all test bytes) (list_all test (c ∷ [])) all (and_from (test c) true e refl)

-- ---- words

longer_word : (word : List ℕ) (c : ℕ) → IsWordLike word → is_word_byte c ≡ true → IsWordLike (word ++ c ∷ [])
longer_word word c like e = (letter_first word (c ∷ []) like.0, longer_run is_word_byte word c like.1 e)

nothing_more : (word : List ℕ) (piece : Option TokenKind) → IsPiece word piece → IsPiece (word ++ []) piece
nothing_more word piece h = subst (λ (l : List ℕ). IsPiece l piece) (sym (append-nil word)) h

abbrev WordRead : ℕ → List ℕ → List ℕ → Result Piece TextFault
WordRead place word rest = cond (ltb 63 (length word)) (Err (TextTooLong place)) (Ok (Some (word_kind word), rest))

word_read : (place : ℕ) (bytes : List ℕ) → word_at place bytes ≡ WordRead place (take_while is_word_byte bytes)
    (after is_word_byte bytes)
unfolding word_at
word_read place bytes = refl

word_reads : (place b : ℕ) (word rest : List ℕ) → class_of b ≡ 1 → IsWordLike (b ∷ word) → IsLongest (b ∷ word) rest
    → piece_at place (b ∷ (word ++ rest)) ≡ WordRead place (b ∷ word) rest
word_reads place b word rest k like longest =
    let stop : Stops is_word_byte rest = stops is_word_byte (b ∷ word) rest longest
    (λ c e. (
      [],
      Some (word_kind ((b ∷ word) ++ c ∷ [])),
      nothing_more ((b ∷ word) ++ c ∷ [])
          (Some (word_kind ((b ∷ word) ++ c ∷ [])))
          (word_spells ((b ∷ word) ++ c ∷ []) (longer_word (b ∷ word) c like e)),
    )) in
    word_is_read place b (word ++ rest) k ∙ word_read place (b ∷ (word ++ rest))
    ∙ ap (λ (l : List ℕ). WordRead place l (after is_word_byte (b ∷ (word ++ rest))))
    (taken_is is_word_byte (b ∷ word) rest like.1 stop)
    ∙ ap (WordRead place (b ∷ word)) (after_is is_word_byte (b ∷ word) rest like.1 stop)

-- ---- host variables

abbrev HostVariableRead : ℕ → List ℕ → List ℕ → Result Piece TextFault
HostVariableRead place word rest =
    cond (ltb 63 (length word)) (Err (TextTooLong place)) (Ok (Some (HostVariable word), rest))

host_variable_read : (place : ℕ) (bytes : List ℕ) → is_ascii_alphabetic (slice_index bytes 0) ≡ true
    → host_variable_at place (64 ∷ bytes) ≡ HostVariableRead place (take_while is_word_byte bytes)
    (after is_word_byte bytes)
unfolding host_variable_at
host_variable_read place bytes letter =
    let word = take_while is_word_byte bytes in
    let rest = after is_word_byte bytes in
    ap (λ (t : Bool). let r : Result Piece TextFault = cond t (HostVariableRead place word rest)
    (Err (BadChar place)) in r) letter

host_variable_reads : (place : ℕ) (word rest : List ℕ) → IsWordLike word → IsLongest (64 ∷ word) rest
    → piece_at place (64 ∷ (word ++ rest)) ≡ HostVariableRead place word rest
host_variable_reads place word rest like longest =
    let stop : Stops is_word_byte rest = stops is_word_byte (64 ∷ word) rest longest
    (λ c e. (
      [],
      Some (HostVariable (word ++ c ∷ [])),
      nothing_more (64 ∷ (word ++ c ∷ []))
          (Some (HostVariable (word ++ c ∷ []))) (refl, longer_word word c like e),
    )) in
    host_variable_is_read place (word ++ rest) ∙ host_variable_read place (word ++ rest) (letter_first word rest like.0)
    ∙ ap (λ (l : List ℕ). HostVariableRead place l (after is_word_byte (word ++ rest)))
    (taken_is is_word_byte word rest like.1 stop)
    ∙ ap (HostVariableRead place word) (after_is is_word_byte word rest like.1 stop)

-- ---- numbers

longer_number : (word : List ℕ) (c : ℕ) → IsNumeral 10 word → is_ascii_digit c ≡ true → IsNumeral 10 (word ++ c ∷ [])
longer_number word c h e = (
  omega (arith, length-append word (c ∷ [])),
  all_digits (word ++ c ∷ [])
      (longer_run is_ascii_digit word c (digits_pass word h.1) e),
)

abbrev NumberRead : ℕ → ℕ → List ℕ → Result Piece TextFault
NumberRead place value rest =
    cond (ltb 9223372036854775807 value) (Err (NumberTooLarge place)) (Ok (Some (Number value), rest))

number_read : (place : ℕ) (bytes : List ℕ)
    → number_at place bytes ≡ NumberRead place (value_from 0 (take_while is_ascii_digit bytes))
    (after is_ascii_digit bytes)
unfolding number_at
number_read place bytes = refl

number_reads : (place b : ℕ) (word rest : List ℕ) (n : ℕ) → class_of b ≡ 2 → Spells (b ∷ word) (Number n)
    → IsLongest (b ∷ word) rest → piece_at place (b ∷ (word ++ rest)) ≡ NumberRead place n rest
number_reads place b word rest n k spelled longest =
    let digits = digits_pass (b ∷ word) spelled.0.1 in
    let stop : Stops is_ascii_digit rest = stops is_ascii_digit (b ∷ word) rest longest
    (λ c e. (
      [],
      Some (Number (digits_value 10 ((b ∷ word) ++ c ∷ []))),
      nothing_more ((b ∷ word) ++ c ∷ [])
          (Some (Number (digits_value 10 ((b ∷ word) ++ c ∷ [])))) (longer_number (b ∷ word) c spelled.0 e, refl),
    )) in
    number_is_read place b (word ++ rest) k ∙ number_read place (b ∷ (word ++ rest))
    ∙ ap (λ (l : List ℕ). NumberRead place (value_from 0 l) (after is_ascii_digit (b ∷ (word ++ rest))))
    (taken_is is_ascii_digit (b ∷ word) rest digits stop)
    ∙ ap (NumberRead place (value_from 0 (b ∷ word))) (after_is is_ascii_digit (b ∷ word) rest digits stop)
    ∙ ap (λ (m : ℕ). NumberRead place m rest) (value_is (b ∷ word) spelled.0.1 ∙ spelled.1)

-- ---- texts

doubled-quote : (b : ℕ) (bytes : List ℕ) → eqb b 39 ≡ true → doubled (b ∷ bytes) ≡ 39 ∷ 39 ∷ doubled bytes
doubled-quote b bytes e = rw e refl

doubled-other : (b : ℕ) (bytes : List ℕ) → eqb b 39 ≡ false → doubled (b ∷ bytes) ≡ b ∷ doubled bytes
doubled-other b bytes e = rw e refl

doubled_more : (content : List ℕ) → doubled (content ++ 39 ∷ []) ≡ doubled content ++ 39 ∷ 39 ∷ []
doubled_more [] = refl
doubled_more (b ∷ content) = on (doubled_more content) (eqb b 39) refl
  where
    on : doubled (content ++ 39 ∷ []) ≡ doubled content ++ 39 ∷ 39 ∷ [] → (t : Bool) → eqb b 39 ≡ t
        → doubled (b ∷ (content ++ 39 ∷ [])) ≡ doubled (b ∷ content) ++ 39 ∷ 39 ∷ []
    on h true e = doubled-quote b (content ++ 39 ∷ []) e ∙ ap (λ (l : List ℕ). 39 ∷ 39 ∷ l) h
        ∙ ap (λ (l : List ℕ). l ++ 39 ∷ 39 ∷ []) (sym (doubled-quote b content e))
    on h false e = doubled-other b (content ++ 39 ∷ []) e ∙ ap (λ (l : List ℕ). b ∷ l) h
        ∙ ap (λ (l : List ℕ). l ++ 39 ∷ 39 ∷ []) (sym (doubled-other b content e))

longer_text : (content : List ℕ) (c : ℕ) → IsPlain content → is_quote c ≡ true
    → Spells ((quoted content ++ c ∷ []) ++ 39 ∷ []) (Literal (content ++ 39 ∷ []))
longer_text content c plain e =
    let joined : ((doubled content ++ 39 ∷ []) ++ 39 ∷ []) ++ 39 ∷ [] ≡ doubled (content ++ 39 ∷ []) ++ 39 ∷ [] =
    ap (λ (l : List ℕ). l ++ 39 ∷ [])
    (append_assoc (doubled content) (39 ∷ []) (39 ∷ []) ∙ sym (doubled_more content)) in (
      ap (λ (y : ℕ). 39 ∷ (((doubled content ++ 39 ∷ []) ++ y ∷ []) ++ 39 ∷ [])) (eqb-true c 39 e)
          ∙ ap (λ (l : List ℕ). 39 ∷ l) joined,
      list_any-append is_ascii_control content (39 ∷ []) ∙ or_from (list_any is_ascii_control content) false plain refl,
    )

pub quoted_closed : (content rest : List ℕ) (quote place : ℕ) → IsPlain content → Stops is_quote rest
    → quoted_at quote place (doubled content ++ 39 ∷ rest) ≡ Ok (content, rest)
unfolding quoted_at
quoted_closed [] [] quote place plain stop = refl
quoted_closed [] (c ∷ rest) quote place plain stop = quoted-closed quote place rest c stop
quoted_closed (b ∷ content) rest quote place plain stop =
    let parts = or_parts (is_ascii_control b) (list_any is_ascii_control content) plain in
    on (λ at. quoted_closed content rest quote at parts.1 stop) parts.0 (eqb b 39) refl
  where
    on : ((at : ℕ) → quoted_at quote at (doubled content ++ 39 ∷ rest) ≡ Ok (content, rest))
        → is_ascii_control b ≡ false → (t : Bool) → eqb b 39 ≡ t
        → quoted_at quote place (doubled (b ∷ content) ++ 39 ∷ rest) ≡ Ok (b ∷ content, rest)
    on others control true e =
        ap (λ (l : List ℕ). quoted_at quote place (l ++ 39 ∷ rest)) (doubled-quote b content e)
        ∙ quoted-doubled quote place (doubled content ++ 39 ∷ rest) ∙ ap (with_byte 39) (others (place + 2))
        ∙ ap (λ (y : ℕ). let r : Body = Ok (y ∷ content, rest) in r) (sym (eqb-true b 39 e))
    on others control false e =
        ap (λ (l : List ℕ). quoted_at quote place (l ++ 39 ∷ rest)) (doubled-other b content e)
        ∙ quoted-other quote place b (doubled content ++ 39 ∷ rest) e control
        ∙ ap (with_byte b) (others (place + 1))

no_quote : (c : ℕ) → is_ascii_control c ≡ true → eqb c 39 ≡ false
no_quote c e = ne_eqb c 39 (λ is. let k : is_ascii_control 39 ≡ true = ap is_ascii_control (sym is) ∙ e in absurd cc)

quoted_controlled : (front : List ℕ) (c : ℕ) (behind : List ℕ) (quote place : ℕ) → IsPlain front
    → is_ascii_control c ≡ true → quoted_at quote place (doubled front ++ c ∷ behind) ≡ Err
    (BadChar (place + length (doubled front)))
quoted_controlled [] c behind quote place plain control =
    let e : place ≡ place + length {A = ℕ} [] = omega arith in
    quoted-control quote place c behind (no_quote c control) control
    ∙ ap (λ (n : ℕ). let r : Body = Err (BadChar n) in r) e
quoted_controlled (b ∷ front) c behind quote place plain control =
    let parts = or_parts (is_ascii_control b) (list_any is_ascii_control front) plain in
    on (λ at. quoted_controlled front c behind quote at parts.1 control) parts.0 (eqb b 39) refl
  where
    on : ((at : ℕ) → quoted_at quote at (doubled front ++ c ∷ behind) ≡ Err (BadChar (at + length (doubled front))))
        → is_ascii_control b ≡ false → (t : Bool) → eqb b 39 ≡ t
        → quoted_at quote place (doubled (b ∷ front) ++ c ∷ behind) ≡ Err
        (BadChar (place + length (doubled (b ∷ front))))
    on others plain_b true e =
        let far : place + 2 + length (doubled front) ≡ place + length (doubled (b ∷ front)) =
        omega (arith, ap length (doubled-quote b front e)) in
        ap (λ (l : List ℕ). quoted_at quote place (l ++ c ∷ behind)) (doubled-quote b front e)
        ∙ quoted-doubled quote place (doubled front ++ c ∷ behind) ∙ ap (with_byte 39) (others (place + 2))
        ∙ ap (λ (n : ℕ). let r : Body = Err (BadChar n) in r) far
    on others plain_b false e =
        let far : place + 1 + length (doubled front) ≡ place + length (doubled (b ∷ front)) =
        omega (arith, ap length (doubled-other b front e)) in
        ap (λ (l : List ℕ). quoted_at quote place (l ++ c ∷ behind)) (doubled-other b front e)
        ∙ quoted-other quote place b (doubled front ++ c ∷ behind) e plain_b ∙ ap (with_byte b) (others (place + 1))
        ∙ ap (λ (n : ℕ). let r : Body = Err (BadChar n) in r) far

quoted_open : (content : List ℕ) (quote place : ℕ) → IsPlain content
    → quoted_at quote place (doubled content) ≡ Err (OpenText quote)
unfolding quoted_at
quoted_open [] quote place plain = refl
quoted_open (b ∷ content) quote place plain =
    let parts = or_parts (is_ascii_control b) (list_any is_ascii_control content) plain in
    on (λ at. quoted_open content quote at parts.1) parts.0 (eqb b 39) refl
  where
    on : ((at : ℕ) → quoted_at quote at (doubled content) ≡ Err (OpenText quote)) → is_ascii_control b ≡ false
        → (t : Bool) → eqb b 39 ≡ t → quoted_at quote place (doubled (b ∷ content)) ≡ Err (OpenText quote)
    on others plain_b true e = ap (quoted_at quote place) (doubled-quote b content e)
        ∙ quoted-doubled quote place (doubled content) ∙ ap (with_byte 39) (others (place + 2))
    on others plain_b false e = ap (quoted_at quote place) (doubled-other b content e)
        ∙ quoted-other quote place b (doubled content) e plain_b ∙ ap (with_byte b) (others (place + 1))

abbrev TextRead : ℕ → Body → Result Piece TextFault
TextRead place read = read >>= λ text. cond (ltb 255 (length text.0)) (Err (TextTooLong place))
    (Ok (Some (Literal text.0), text.1))

text_read : (place : ℕ) (bytes : List ℕ)
    → piece_at place (39 ∷ bytes) ≡ TextRead place (quoted_at place (place + 1) bytes)
unfolding text_at
text_read place bytes = text_is_read place bytes

text_reads : (place : ℕ) (content rest : List ℕ) → IsPlain content → IsLongest (quoted content) rest
    → piece_at place (quoted content ++ rest) ≡ TextRead place (Ok (content, rest))
text_reads place content rest plain longest =
    let stop : Stops is_quote rest = stops is_quote (quoted content) rest longest
    (λ c e. (39 ∷ [], Some (Literal (content ++ 39 ∷ [])), longer_text content c plain e)) in
    text_read place ((doubled content ++ 39 ∷ []) ++ rest)
    ∙ ap (λ (l : List ℕ). TextRead place (quoted_at place (place + 1) l))
    (append_assoc (doubled content) (39 ∷ []) rest)
    ∙ ap (TextRead place) (quoted_closed content rest place (place + 1) plain stop)

-- ---- symbols

symbol_is : (bytes : List ℕ) (symbol : Symbol) → SpellsSymbol bytes symbol
    → symbol_of (slice_index bytes 0) (slice_index bytes 1) ≡ Some (symbol, length bytes)
unfolding symbol_of
symbol_is bytes Open (inl e) = rw e refl
symbol_is bytes Close (inl e) = rw e refl
symbol_is bytes Comma (inl e) = rw e refl
symbol_is bytes Semicolon (inl e) = rw e refl
symbol_is bytes Dot (inl e) = rw e refl
symbol_is bytes Star (inl e) = rw e refl
symbol_is bytes Plus (inl e) = rw e refl
symbol_is bytes Minus (inl e) = rw e refl
symbol_is bytes Equal (inl e) = rw e refl
symbol_is bytes NotEqual (inl e) = rw e refl
symbol_is bytes Less (inl e) = rw e refl
symbol_is bytes LessOrEqual (inl e) = rw e refl
symbol_is bytes Greater (inl e) = rw e refl
symbol_is bytes GreaterOrEqual (inl e) = rw e refl
symbol_is bytes symbol (inr e) = rw (e.0, e.1) refl

one_symbol : (bytes : List ℕ) (symbol other : Symbol) → SpellsSymbol bytes symbol → SpellsSymbol bytes other
    → symbol ≡ other
one_symbol bytes symbol other p q = ap (λ (o : Option (Symbol × ℕ)). option_map_or (λ x. x.0) o symbol)
    (sym (symbol_is bytes symbol p) ∙ symbol_is bytes other q)

abbrev SymbolRead : ℕ → List ℕ → Option (Symbol × ℕ) → Result Piece TextFault
SymbolRead place bytes read = option_map_or (λ s. Ok (Some (Sign s.0), drop s.1 bytes)) read (Err (BadChar place))

symbol_read : (place b : ℕ) (bytes : List ℕ) → symbol_at place (b ∷ bytes) ≡ SymbolRead place (b ∷ bytes)
    (symbol_of b (slice_index bytes 0))
unfolding symbol_at
symbol_read place b bytes = refl

the_symbol : (b : ℕ) (word rest : List ℕ) (symbol : Symbol) (o : Option (Symbol × ℕ))
    → symbol_of b (slice_index (word ++ rest) 0) ≡ o → SpellsSymbol (b ∷ word) symbol → IsLongest (b ∷ word) rest
    → o ≡ Some (symbol, length (b ∷ word))
the_symbol b word rest symbol None is spelled longest =
    absurd (takes_none _ _ is (symbol_takes (b ∷ word) rest symbol spelled))
the_symbol b word rest symbol (Some x) is spelled longest =
    let marks : Marks (b ∷ (word ++ rest)) (Some x) =
    subst (Marks (b ∷ (word ++ rest))) is (symbol_marks b (word ++ rest)) in
    let least : length (b ∷ word) ≤ x.1 = takes_at_most _ _ x is (symbol_takes (b ∷ word) rest symbol spelled) in
    let front = take x.1 (b ∷ (word ++ rest)) in
    let most : length front ≤ length (b ∷ word) = longest front (drop x.1 (b ∷ (word ++ rest))) [] (Some (Sign x.0))
    (take-append-drop x.1 (b ∷ (word ++ rest))) (nothing_more front (Some (Sign x.0)) marks.2) in
    let size : x.1 ≡ length (b ∷ word) = omega (arith, length-take-le x.1 (b ∷ (word ++ rest)) marks.1) in
    let cut : front ≡ b ∷ word = take_at (b ∷ word) rest x.1 (sym size) in
    let same : x.0 ≡ symbol =
    one_symbol (b ∷ word) x.0 symbol (subst (λ (l : List ℕ). SpellsSymbol l x.0) cut marks.2) spelled in
    λ i. Some (same i, size i)

-- the symbol that a minus sign begins is that alone
minus_is_short : (word : List ℕ) (symbol : Symbol) → SpellsSymbol (45 ∷ word) symbol → length (45 ∷ word) ≡ 1
unfolding symbol_of
minus_is_short word symbol spelled =
    ap (λ (o : Option (Symbol × ℕ)). option_map_or (λ x. x.1) o 1) (sym (symbol_is (45 ∷ word) symbol spelled))

-- the symbol that is the longest piece is no beginning of a comment
symbol_is_plain : (b : ℕ) (word rest : List ℕ) (symbol : Symbol) → SpellsSymbol (b ∷ word) symbol
    → IsLongest (b ∷ word) rest → begins_comment (b ∷ (word ++ rest)) ≡ false
symbol_is_plain b word rest symbol spelled longest = on (begins_comment (b ∷ (word ++ rest))) refl
  where
    on : (t : Bool) → begins_comment (b ∷ (word ++ rest)) ≡ t → t ≡ false
    on false e = refl
    on true e =
        let two : b ∷ (word ++ rest) ≡ 45 ∷ 45 ∷ drop 1 (word ++ rest) = begins_two b (word ++ rest) e in
        let first : b ≡ 45 = ap (λ (l : List ℕ). slice_index l 0) two in
        let short : length (45 ∷ word) ≡ 1 =
        minus_is_short word symbol (subst (λ (y : ℕ). SpellsSymbol (y ∷ word) symbol) first spelled) in
        let le : length {A = ℕ} (45 ∷ 45 ∷ []) ≤ length (b ∷ word) =
        longest (45 ∷ 45 ∷ []) (drop 1 (word ++ rest)) [] None (sym two) (inr ([], refl, refl)) in
        absurd (omega arith)

symbol_reads : (place b : ℕ) (word rest : List ℕ) (symbol : Symbol) → class_of b ≡ 4 → SpellsSymbol (b ∷ word) symbol
    → IsLongest (b ∷ word) rest → piece_at place (b ∷ (word ++ rest)) ≡ Ok (Some (Sign symbol), rest)
symbol_reads place b word rest symbol k spelled longest =
    symbol_is_read place b (word ++ rest) k (symbol_is_plain b word rest symbol spelled longest)
    ∙ symbol_read place b (word ++ rest)
    ∙ ap (SymbolRead place (b ∷ (word ++ rest)))
    (the_symbol b word rest symbol (symbol_of b (slice_index (word ++ rest) 0)) refl spelled longest)
    ∙ ap (λ (l : List ℕ). let r : Result Piece TextFault = Ok (Some (Sign symbol), l) in r)
    (drop_at (b ∷ word) rest (length (b ∷ word)) refl)

-- ---- comments

longer_comment : (bytes : List ℕ) (c : ℕ) → IsComment bytes → is_in_line c ≡ true → IsComment (bytes ++ c ∷ [])
longer_comment bytes c (content, is, plain) e =
    (content ++ c ∷ [], ap (λ (l : List ℕ). l ++ c ∷ []) is, longer_run is_in_line content c plain e)

comment_reads : (place b : ℕ) (word rest : List ℕ) → IsComment (b ∷ word) → IsLongest (b ∷ word) rest
    → piece_at place (b ∷ (word ++ rest)) ≡ Ok (None, rest)
comment_reads place b word rest comment longest =
    let stop : Stops is_in_line rest = stops is_in_line (b ∷ word) rest longest
    (λ c e. ([], None, nothing_more ((b ∷ word) ++ c ∷ []) None (inr (longer_comment (b ∷ word) c comment e)))) in
    let first : b ≡ 45 = ap (λ (l : List ℕ). slice_index l 0) comment.1 in
    comment_is_read place b (word ++ rest) (ap class_of first ∙ class_of_minus) (comment_begins (b ∷ word) rest comment)
    ∙ ap (λ (l : List ℕ). let r : Result Piece TextFault = Ok (None, l) in r)
    (after_is is_in_line (b ∷ word) rest (comment_is_in_line (b ∷ word) comment) stop)

-- ---- all pieces

-- a piece by its limit
abbrev pub judged : ℕ → Option TokenKind → List ℕ → Result Piece TextFault
judged place None rest = Ok (None, rest)
judged place (Some (Word keyword)) rest = Ok (Some (Word keyword), rest)
judged place (Some (Name word)) rest =
    cond (ltb 63 (length word)) (Err (TextTooLong place)) (Ok (Some (Name word), rest))
judged place (Some (HostVariable word)) rest = HostVariableRead place word rest
judged place (Some (Number n)) rest = NumberRead place n rest
judged place (Some (Literal text)) rest = TextRead place (Ok (text, rest))
judged place (Some (Sign symbol)) rest = Ok (Some (Sign symbol), rest)
judged place (Some (Fault fault)) rest = Err fault

pub reads_as : (place : ℕ) (word rest : List ℕ) (piece : Option TokenKind) → IsPiece word piece → IsLongest word rest
    → piece_at place (word ++ rest) ≡ judged place piece rest
reads_as place [] rest piece spelled longest = absurd (no_empty_piece piece spelled)
reads_as place (b ∷ word) rest None (inr comment) longest = comment_reads place b word rest comment longest
reads_as place (b ∷ word) rest None (inl (c, is, h)) longest =
    let first : b ≡ c = cc in
    let others : word ≡ [] = cc in
    blank_is_read place b (word ++ rest) (ap is_blank first ∙ h)
    ∙ ap (λ (l : List ℕ). let r : Result Piece TextFault = Ok (None, l ++ rest) in r) others
reads_as place (b ∷ word) rest (Some (Word keyword)) spelled longest =
    let short : ltb 63 (length (b ∷ word)) ≡ false =
    le-ltb 63 (length (b ∷ word)) (keyword_is_short (b ∷ word) keyword spelled.1) in
    let read = word_reads place b word rest (kind_of_first b word (Word keyword) spelled) spelled.0 longest in
    read ∙ ap (λ (t : Bool). cond t (Err (TextTooLong place)) (Ok (Some (word_kind (b ∷ word)), rest))) short
    ∙ ap (λ (kind : TokenKind). let r : Result Piece TextFault = Ok (Some kind, rest) in r)
    (keyword_kind (b ∷ word) keyword spelled.1)
reads_as place (b ∷ word) rest (Some (Name name)) spelled longest =
    let read = word_reads place b word rest (kind_of_first b word (Name name) spelled) spelled.0 longest in
    let named : word_kind (b ∷ word) ≡ Name (b ∷ word) = name_kind (b ∷ word) spelled.2 in
    read ∙ ap (λ (kind : TokenKind). let r : Result Piece TextFault = cond (ltb 63 (length (b ∷ word)))
    (Err (TextTooLong place)) (Ok (Some kind, rest)) in r) named
    ∙ ap (λ (l : List ℕ). judged place (Some (Name l)) rest) spelled.1
reads_as place (b ∷ word) rest (Some (HostVariable name)) spelled longest =
    let longest_name : IsLongest (64 ∷ name) rest = subst (λ (l : List ℕ). IsLongest l rest) spelled.0 longest in
    ap (λ (l : List ℕ). piece_at place (l ++ rest)) spelled.0
    ∙ host_variable_reads place name rest spelled.1 longest_name
reads_as place (b ∷ word) rest (Some (Number n)) spelled longest =
    number_reads place b word rest n (kind_of_first b word (Number n) spelled) spelled longest
reads_as place (b ∷ word) rest (Some (Literal text)) spelled longest =
    let closed : IsLongest (quoted text) rest = subst (λ (l : List ℕ). IsLongest l rest) spelled.0 longest in
    ap (λ (l : List ℕ). piece_at place (l ++ rest)) spelled.0 ∙ text_reads place text rest spelled.1 closed
reads_as place (b ∷ word) rest (Some (Sign symbol)) spelled longest =
    symbol_reads place b word rest symbol (kind_of_first b word (Sign symbol) spelled) spelled longest
reads_as place (b ∷ word) rest (Some (Fault fault)) spelled longest = absurd spelled

within_is_read : (place : ℕ) (piece : Option TokenKind) (rest : List ℕ) → IsPieceWithin piece
    → judged place piece rest ≡ Ok (piece, rest)
within_is_read place None rest h = refl
within_is_read place (Some (Word keyword)) rest h = refl
within_is_read place (Some (Name word)) rest h =
    ap (λ (t : Bool). let r : Result Piece TextFault = cond t (Err (TextTooLong place)) (Ok (Some (Name word), rest)) in
    r) (le-ltb 63 (length word) h)
within_is_read place (Some (HostVariable word)) rest h =
    ap (λ (t : Bool). let r : Result Piece TextFault = cond t (Err (TextTooLong place))
    (Ok (Some (HostVariable word), rest)) in r) (le-ltb 63 (length word) h)
within_is_read place (Some (Number n)) rest h =
    ap (λ (t : Bool). let r : Result Piece TextFault = cond t (Err (NumberTooLarge place))
    (Ok (Some (Number n), rest)) in r) (le-ltb 9223372036854775807 n h)
within_is_read place (Some (Literal text)) rest h =
    ap (λ (t : Bool). let r : Result Piece TextFault = cond t (Err (TextTooLong place))
    (Ok (Some (Literal text), rest)) in r) (le-ltb 255 (length text) h)
within_is_read place (Some (Sign symbol)) rest h = refl
within_is_read place (Some (Fault fault)) rest h = absurd h

too_long_is_read : (place : ℕ) (kind : TokenKind) (rest : List ℕ) → IsTooLong kind
    → judged place (Some kind) rest ≡ Err (TextTooLong place)
too_long_is_read place (Word keyword) rest h = absurd h
too_long_is_read place (Name word) rest h =
    ap (λ (t : Bool). let r : Result Piece TextFault = cond t (Err (TextTooLong place)) (Ok (Some (Name word), rest)) in
    r) (lt-ltb 63 (length word) h)
too_long_is_read place (HostVariable word) rest h =
    ap (λ (t : Bool). let r : Result Piece TextFault = cond t (Err (TextTooLong place))
    (Ok (Some (HostVariable word), rest)) in r) (lt-ltb 63 (length word) h)
too_long_is_read place (Number n) rest h = absurd h
too_long_is_read place (Literal text) rest h =
    ap (λ (t : Bool). let r : Result Piece TextFault = cond t (Err (TextTooLong place))
    (Ok (Some (Literal text), rest)) in r) (lt-ltb 255 (length text) h)
too_long_is_read place (Sign symbol) rest h = absurd h
too_long_is_read place (Fault fault) rest h = absurd h

-- ---- faults

nothing_is_read : (place c : ℕ) (others : List ℕ) → c ≢ 39
    → ((front behind : List ℕ) (piece : Option TokenKind) → c ∷ others ≡ front ++ behind → IsPiece front piece → ⊥)
    → (read : Result Piece TextFault) → Cut place (c ∷ others) read → read ≡ Err (BadChar place)
nothing_is_read place c others ne none (Ok x) (word, is, spelled, longest, within) =
    absurd (none word x.1 x.0 is spelled)
nothing_is_read place c others ne none (Err (BadChar at)) (inl h) =
    ap (λ (n : ℕ). let r : Result Piece TextFault = Err (BadChar n) in r) h.0
nothing_is_read place c others ne none (Err (BadChar at)) (inr (far, e, (front, behind, d, is, plain, control, f))) =
    absurd (ne (same_first c 39 others (doubled front ++ d ∷ behind) is))
nothing_is_read place c others ne none (Err (OpenText at)) (e, (content, is, plain)) =
    absurd (ne (same_first c 39 others (doubled content) is))
nothing_is_read place c others ne none (Err (NumberTooLarge at)) (e, (n, (front, behind, is, spelled, longest), lt)) =
    absurd (none front behind (Some (Number n)) is spelled)
nothing_is_read place c others ne none (Err (TextTooLong at)) (e, (kind, (front, behind, is, spelled, longest), lt)) =
    absurd (none front behind (Some kind) is spelled)

bad_place : {at place : ℕ} → at ≡ place → (let r : Result Piece TextFault = Err (BadChar place) in r) ≡ Err (BadChar at)
bad_place e = ap (λ (n : ℕ). let r : Result Piece TextFault = Err (BadChar n) in r) (sym e)

pub fault_reads : (place : ℕ) (bytes : List ℕ) (f : TextFault) → IsFaulty place bytes f → piece_at place bytes ≡ Err f
fault_reads place bytes (BadChar at) (inl (e, (c, others, is, ne, none))) =
    ap (piece_at place) is ∙ nothing_is_read place c others ne
    (λ front behind piece same spelled. none front behind piece (is ∙ same) spelled) (piece_at place (c ∷ others))
    (piece_cut place c others) ∙ bad_place e
fault_reads place bytes (BadChar at) (inr (far, e, (front, behind, c, is, plain, control, f))) =
    let where_it_is : at ≡ place + 1 + length (doubled front) = omega arith in
    ap (piece_at place) is ∙ text_read place (doubled front ++ c ∷ behind)
    ∙ ap (TextRead place) (quoted_controlled front c behind place (place + 1) plain control) ∙ bad_place where_it_is
fault_reads place bytes (OpenText at) (e, (content, is, plain)) =
    ap (piece_at place) is ∙ text_read place (doubled content)
    ∙ ap (TextRead place) (quoted_open content place (place + 1) plain)
    ∙ ap (λ (n : ℕ). let r : Result Piece TextFault = Err (OpenText n) in r) (sym e)
fault_reads place bytes (NumberTooLarge at) (e, (n, (front, behind, is, spelled, longest), lt)) =
    ap (piece_at place) is ∙ reads_as place front behind (Some (Number n)) spelled longest
    ∙ ap (λ (t : Bool). let r : Result Piece TextFault = cond t (Err (NumberTooLarge place))
    (Ok (Some (Number n), behind)) in r) (lt-ltb 9223372036854775807 n lt)
    ∙ ap (λ (m : ℕ). let r : Result Piece TextFault = Err (NumberTooLarge m) in r) (sym e)
fault_reads place bytes (TextTooLong at) (e, (kind, (front, behind, is, spelled, longest), long)) =
    ap (piece_at place) is ∙ reads_as place front behind (Some kind) spelled longest
    ∙ too_long_is_read place kind behind long
    ∙ ap (λ (m : ℕ). let r : Result Piece TextFault = Err (TextTooLong m) in r) (sym e)

begun : (bytes front behind : List ℕ) (kind : TokenKind) → bytes ≡ front ++ behind → Spells front kind
    → 0 < length bytes
begun bytes front behind kind is spelled =
    omega (arith, ap length is, length-append front behind, piece_has_byte front (Some kind) spelled)

pub fault_has_byte : (place : ℕ) (bytes : List ℕ) (f : TextFault) → IsFaulty place bytes f → 0 < length bytes
fault_has_byte place bytes (BadChar at) (inl (e, (c, others, is, ne, none))) = omega (arith, ap length is)
fault_has_byte place bytes (BadChar at) (inr (far, e, (front, behind, c, is, plain, control, f))) =
    omega (arith, ap length is)
fault_has_byte place bytes (OpenText at) (e, (content, is, plain)) = omega (arith, ap length is)
fault_has_byte place bytes (NumberTooLarge at) (e, (n, (front, behind, is, spelled, longest), lt)) =
    begun bytes front behind (Number n) is spelled
fault_has_byte place bytes (TextTooLong at) (e, (kind, (front, behind, is, spelled, longest), long)) =
    begun bytes front behind kind is spelled

-- ---- all tokens

pub piece_reads : (place : ℕ) (word rest : List ℕ) (piece : Option TokenKind) → IsPiece word piece → IsLongest word rest
    → IsPieceWithin piece → piece_at place (word ++ rest) ≡ Ok (piece, rest)
piece_reads place word rest piece spelled longest within = reads_as place word rest piece spelled longest
    ∙ within_is_read place piece rest within

-- what is left behind a piece
left_after : (found : List Token) (place : ℕ) (word rest : List ℕ) (piece : Option TokenKind)
    (total : Result (List Token) TextFault) → IsPiece word piece → IsLongest word rest → IsPieceWithin piece
    → LeftToRead found place (word ++ rest) total
    → LeftToRead (found ++ with_token piece place (place + length word) []) (place + length word) rest total
left_after found place word rest piece total spelled longest within left =
    let some : 0 < length (word ++ rest) = omega (arith, length-append word rest, piece_has_byte word piece spelled) in
    let next : place + (length (word ++ rest) - length rest) ≡ place + length word =
    omega (arith, length-append word rest) in
    subst (λ (n : ℕ). LeftToRead (found ++ with_token piece place n []) n rest total) next
    (left_behind found place (word ++ rest) total (piece, rest) some
    (piece_reads place word rest piece spelled longest within) left)

read_on : {place : ℕ} {bytes : List ℕ} {ts : List Token} {end : ℕ} {rest : List ℕ} → Reads place bytes ts end rest
    → (found : List Token) (total : Result (List Token) TextFault) → LeftToRead found place bytes total
    → LeftToRead (found ++ ts) end rest total
read_on (nothing place rest) found total left =
    subst (λ (l : List Token). LeftToRead l place rest total) (sym (append-nil found)) left
read_on (gap place bytes behind ts end rest spelled longest more) found total left =
    let h = left_after found place bytes behind None total spelled longest tt left in
    read_on more found total
    (subst (λ (l : List Token). LeftToRead l (place + length bytes) behind total) (append-nil found) h)
read_on (token place bytes behind kind ts end rest spelled longest within more) found total left =
    let t : Token = record { kind = kind; start = place; end = place + length bytes } in
    let h = left_after found place bytes behind (Some kind) total spelled longest within left in
    subst (λ (l : List Token). LeftToRead l end rest total) (append_assoc found (t ∷ []) ts)
    (read_on more (found ++ t ∷ []) total h)

pub tokens_are_read : (text : List ℕ) (ts : List Token) → AreTokens text ts → tokens_of text ≡ Ok ts
tokens_are_read text ts h = nothing_left ts (length text) [] (tokens_of text) refl
    (read_on h [] (tokens_of text) (left_at_first [] text text refl refl))

pub fault_is_read : (text : List ℕ) (f : TextFault) → HasFault text f → tokens_of text ≡ Err f
fault_is_read text f (ts, place, rest, reads, faulty) =
    fault_here (errors.Fault f) ts place rest (tokens_of text) (fault_has_byte place rest f faulty)
    (fault_reads place rest f faulty) (read_on reads [] (tokens_of text) (left_at_first [] text text refl refl))

pub one_list : (text : List ℕ) (these those : List Token) → AreTokens text these → AreTokens text those → these ≡ those
one_list text these those p q = let e : (let r : Result (List Token) TextFault = Ok these in r) ≡ Ok those =
    sym (tokens_are_read text these p) ∙ tokens_are_read text those q in cc

pub one_fault : (text : List ℕ) (this that : TextFault) → HasFault text this → HasFault text that → this ≡ that
one_fault text this that p q = let e : (let r : Result (List Token) TextFault = Err this in r) ≡ Err that =
    sym (fault_is_read text this p) ∙ fault_is_read text that q in cc

pub never_both : (text : List ℕ) (tokens : List Token) (fault : TextFault) → AreTokens text tokens → HasFault text fault
    → ⊥
never_both text tokens fault p q = let e : (let r : Result (List Token) TextFault = Ok tokens in r) ≡ Err fault =
    sym (tokens_are_read text tokens p) ∙ fault_is_read text fault q in absurd cc
