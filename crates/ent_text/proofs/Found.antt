-- What the reader answers is so: its tokens are the text's, and its fault is the text's first.
use Rattle.std.proofs.Common.{◌≡◌, ℕ, zero, suc, ◌+◌, ◌-◌, ◌<◌, ◌≤◌, Bool, true, false, cond, ltb, eqb, List, [], ◌∷◌}
use Rattle.std.proofs.Common.{◌++◌, length, take, drop, Result, Ok, Err, refl, ap, sym, ◌∙◌, subst, append_assoc, arith}
use Rattle.std.proofs.Common.{Option, Some, None, ◌⊎◌, inl, inr}
use Rattle.std.proofs.lemmas.List.{length-append, take-append-drop}
use Rattle.std.proofs.lemmas.List.Folds.{length-prefix_len}
use Rattle.std.proofs.lemmas.Bool.{eqb-true, ltb-false, ltb-true}
use Rattle.std.specs.Prelude.{slice_index}
use Rattle.std.specs.Option.{option_map_or}
use Rattle.std.specs.List.{prefix_len, take_while}
use Rattle.std.specs.Char.{is_ascii_alphabetic, is_ascii_digit}
use Rattle.ent_value.specs.Refusal.{◌>>=◌}
use Rattle.ent_value.specs.Name.{is_word_byte}
use Rattle.ent_value.specs.Print.{doubled, quoted}
use Rattle.ent_text.specs.declared.keyword.Keyword.{Keyword}
use Rattle.ent_text.specs.declared.symbol.Symbol.{Symbol}
use Rattle.ent_text.specs.declared.fault.TextFault.{TextFault}
use Rattle.ent_text.specs.declared.fault.TextFault.TheVariants.{BadChar, OpenText, NumberTooLarge, TextTooLong}
use Rattle.ent_text.specs.declared.token.Token.{Token}
use Rattle.ent_text.specs.declared.token.TokenKind.{TokenKind}
use Rattle.ent_text.specs.declared.token.TokenKind.TheVariants.{Word, Name, HostVariable, Number, Literal, Sign}
use Rattle.ent_text.specs.Spelling.{Spells, IsPiece, IsLongest, IsWithinLimit, is_blank, is_in_line}
use Rattle.ent_text.specs.Reading.{Reads, nothing, gap, token, AreTokens, IsTooLong, IsFaulty, HasFault}
use Rattle.ent_text.specs.Lexing.{Piece, after, keyword_of, word_kind, word_at, number_at, value_from, symbol_of}
use Rattle.ent_text.specs.Lexing.{symbol_at, quoted_at, text_at, host_variable_at, begins_comment, piece_at}
use Rattle.ent_text.specs.Lexing.{tokens_from, tokens_of, with_token}
use Rattle.ent_text.proofs.Shorter.{piece_shorter}
use Rattle.ent_text.proofs.Digits.{all_digits, value_is}
use Rattle.ent_text.proofs.Fronts.{front_passes, parts}
use Rattle.ent_text.proofs.Firsts.{class_of, class_of_blank, class_of_letter, class_of_digit, class_of_other}
use Rattle.ent_text.proofs.Words.{front_is_wordlike, word_spells, found_is_keyword, keyword_is_short}
use Rattle.ent_text.proofs.Runs.{blank_longest, word_longest, number_longest, host_variable_longest, comment_longest}
use Rattle.ent_text.proofs.Runs.{comment_front}
use Rattle.ent_text.proofs.Symbols.{Marks, symbol_marks, symbol_longest, nothing_begins, at_sign_begins_nothing}
use Rattle.ent_text.proofs.Texts.{Quoted, quoted_is, text_longest}

-- a gap has no limit
abbrev pub IsPieceWithin : Option TokenKind → Type 0
IsPieceWithin None = Unit {0}
IsPieceWithin (Some kind) = IsWithinLimit kind

-- a piece is cut off as it should be, or there is that fault
abbrev pub Cut : ℕ → List ℕ → Result Piece TextFault → Type 0
Cut place bytes (Ok x) = (word : List ℕ) × (bytes ≡ word ++ x.1) × IsPiece word x.0 × IsLongest word x.1
    × IsPieceWithin x.0
Cut place bytes (Err f) = IsFaulty place bytes f

cut_cond : (place : ℕ) (bytes : List ℕ) (b : Bool) (x y : Result Piece TextFault) → (b ≡ true → Cut place bytes x)
    → (b ≡ false → Cut place bytes y) → Cut place bytes (cond b x y)
cut_cond place bytes true x y p q = p refl
cut_cond place bytes false x y p q = q refl

-- ---- words

abbrev ShortOr : ℕ → List ℕ → TokenKind → Type 0
ShortOr place word kind = (length word ≤ 63 → IsWithinLimit kind) × (63 < length word → IsTooLong kind)

word_limits : (place : ℕ) (word : List ℕ) → ShortOr place word (word_kind word)
word_limits place word = on (keyword_of word) refl
  where
    on : (o : Option Keyword) → keyword_of word ≡ o
        → ShortOr place word (option_map_or (λ keyword. Word keyword) o (Name word))
    on None e = (λ le. le, λ lt. lt)
    on (Some keyword) e = (
      λ le. tt,
      λ lt. absurd
          (omega (arith, keyword_is_short word keyword (found_is_keyword word keyword e))),
    )

word_cut : (place b : ℕ) (bytes : List ℕ) → is_ascii_alphabetic b ≡ true
    → Cut place (b ∷ bytes) (word_at place (b ∷ bytes))
unfolding word_at
word_cut place b bytes letter =
    let word = take_while is_word_byte (b ∷ bytes) in
    let spelled : Spells word (word_kind word) = word_spells word (front_is_wordlike (b ∷ bytes) letter) in
    let longest : IsLongest word (after is_word_byte (b ∷ bytes)) = word_longest b bytes (class_of_letter b letter) in
    cut_cond place (b ∷ bytes) (ltb 63 (length word)) _ _
    (λ e. (
      refl,
      (
        word_kind word,
        (word, after is_word_byte (b ∷ bytes), parts is_word_byte (b ∷ bytes), spelled, longest),
        (word_limits place word).1 (ltb-true 63 (length word) e),
      ),
    ))
    (λ e. (
      word,
      parts is_word_byte (b ∷ bytes),
      spelled,
      longest,
      (word_limits place word).0
          (ltb-false 63 (length word) e),
    ))

-- ---- host variables

host_variable_cut : (place : ℕ) (bytes : List ℕ) → Cut place (64 ∷ bytes) (host_variable_at place (64 ∷ bytes))
unfolding host_variable_at
host_variable_cut place bytes =
    cut_cond place (64 ∷ bytes) (is_ascii_alphabetic (slice_index bytes 0)) _ _
    (λ letter.
    let word = take_while is_word_byte bytes in
    let is : 64 ∷ bytes ≡ 64 ∷ (word ++ after is_word_byte bytes) =
    ap (λ (l : List ℕ). 64 ∷ l) (parts is_word_byte bytes) in
    let spelled : Spells (64 ∷ word) (HostVariable word) = (refl, front_is_wordlike bytes letter) in
    let longest : IsLongest (64 ∷ word) (after is_word_byte bytes) = host_variable_longest bytes in
    cut_cond place (64 ∷ bytes) (ltb 63 (length word)) _ _
    (λ e. (
      refl,
      (
        HostVariable word,
        (64 ∷ word, after is_word_byte bytes, is, spelled, longest),
        ltb-true 63
            (length word) e,
      ),
    ))
    (λ e. (64 ∷ word, is, spelled, longest, ltb-false 63 (length word) e)))
    (λ e. inl (refl, at_sign_begins_nothing bytes e))

-- ---- numbers

digit_first : (b : ℕ) (bytes : List ℕ) → is_ascii_digit b ≡ true → 0 < length (take_while is_ascii_digit (b ∷ bytes))
digit_first b bytes e = let h : 0 < prefix_len is_ascii_digit (b ∷ bytes) = rw e (omega arith) in
    omega (arith, length-prefix_len is_ascii_digit (b ∷ bytes))

number_cut : (place b : ℕ) (bytes : List ℕ) → is_ascii_digit b ≡ true
    → Cut place (b ∷ bytes) (number_at place (b ∷ bytes))
unfolding number_at
number_cut place b bytes digit =
    let word = take_while is_ascii_digit (b ∷ bytes) in
    let digits = all_digits word (front_passes is_ascii_digit (b ∷ bytes)) in
    let spelled : Spells word (Number (value_from 0 word)) =
    ((digit_first b bytes digit, digits), sym (value_is word digits)) in
    let longest : IsLongest word (after is_ascii_digit (b ∷ bytes)) = number_longest b bytes (class_of_digit b digit) in
    cut_cond place (b ∷ bytes) (ltb 9223372036854775807 (value_from 0 word)) _ _
    (λ e. (
      refl,
      (
        value_from 0 word,
        (word, after is_ascii_digit (b ∷ bytes), parts is_ascii_digit (b ∷ bytes), spelled, longest),
        ltb-true
            9223372036854775807 (value_from 0 word) e,
      ),
    ))
    (λ e. (
      word,
      parts is_ascii_digit (b ∷ bytes),
      spelled,
      longest,
      ltb-false 9223372036854775807 (value_from 0 word)
          e,
    ))

-- ---- texts

text_cut : (place : ℕ) (bytes : List ℕ) → Cut place (39 ∷ bytes) (text_at place (39 ∷ bytes))
unfolding text_at
text_cut place bytes = on (quoted_at place (place + 1) bytes) (quoted_is place (place + 1) bytes)
  where
    on : (read : Result (List ℕ × List ℕ) TextFault) → Quoted place (place + 1) bytes read
        → Cut place (39 ∷ bytes)
        (read >>= λ text. cond (ltb 255 (length text.0)) (Err (TextTooLong place))
        (Ok (Some (Literal text.0), text.1)))
    on (Ok x) h =
        let is : 39 ∷ bytes ≡ quoted x.0 ++ x.1 =
        ap (λ (l : List ℕ). 39 ∷ l) (h.0 ∙ sym (append_assoc (doubled x.0) (39 ∷ []) x.1)) in
        let longest : IsLongest (quoted x.0) x.1 = text_longest x.0 x.1 h.2 in
        cut_cond place (39 ∷ bytes) (ltb 255 (length x.0)) _ _
        (λ e. (refl, (Literal x.0, (quoted x.0, x.1, is, (refl, h.1), longest), ltb-true 255 (length x.0) e)))
        (λ e. (quoted x.0, is, (refl, h.1), longest, ltb-false 255 (length x.0) e))
    on (Err (BadChar at)) (front, behind, c, is, plain, control, far) =
        inr (
          1 + length (doubled front),
          omega arith,
          (front, behind, c, ap (λ (l : List ℕ). 39 ∷ l) is, plain, control, refl),
        )
    on (Err (OpenText at)) (content, same, is, plain) = (same, (content, ap (λ (l : List ℕ). 39 ∷ l) is, plain))
    on (Err (NumberTooLarge at)) h = absurd h
    on (Err (TextTooLong at)) h = absurd h

-- ---- comments

comment_cut : (place b : ℕ) (bytes : List ℕ) → class_of b ≡ 4 → begins_comment (b ∷ bytes) ≡ true
    → Cut place (b ∷ bytes) (Ok (None, after is_in_line (b ∷ bytes)))
comment_cut place b bytes k e = (
  take_while is_in_line (b ∷ bytes),
  parts is_in_line (b ∷ bytes),
  inr (comment_front b bytes e),
  comment_longest b
      bytes k,
  tt,
)

-- ---- symbols

symbol_cut : (place b : ℕ) (bytes : List ℕ) → class_of b ≡ 4 → eqb b 39 ≡ false → begins_comment (b ∷ bytes) ≡ false
    → Cut place (b ∷ bytes) (symbol_at place (b ∷ bytes))
unfolding symbol_at
symbol_cut place b bytes k e plain = on (symbol_of b (slice_index bytes 0)) refl (symbol_marks b bytes)
  where
    on : (o : Option (Symbol × ℕ)) → symbol_of b (slice_index bytes 0) ≡ o → Marks (b ∷ bytes) o
        → Cut place (b ∷ bytes) (option_map_or (λ s. Ok (Some (Sign s.0), drop s.1 (b ∷ bytes))) o
        (Err (BadChar place)))
    on None is h = inl (refl, nothing_begins b bytes k e plain is)
    on (Some x) is h = (
      take x.1 (b ∷ bytes),
      sym (take-append-drop x.1 (b ∷ bytes)),
      h.2,
      symbol_longest b bytes x k
          plain h.0 h.1 is,
      tt,
    )

-- ---- all pieces

pub piece_cut : (place b : ℕ) (bytes : List ℕ) → Cut place (b ∷ bytes) (piece_at place (b ∷ bytes))
unfolding piece_at
piece_cut place b bytes =
    cut_cond place (b ∷ bytes) (is_blank b) _ _
    (λ e. (b ∷ [], refl, inl (b, refl, e), blank_longest b bytes (class_of_blank b e), tt)) (λ e0.
    cut_cond place (b ∷ bytes) (is_ascii_alphabetic b) _ _ (word_cut place b bytes) (λ e1.
    cut_cond place (b ∷ bytes) (is_ascii_digit b) _ _ (number_cut place b bytes) (λ e2.
    cut_cond place (b ∷ bytes) (eqb b 39) _ _
    (λ e. subst (λ (q : ℕ). Cut place (q ∷ bytes) (text_at place (q ∷ bytes))) (sym (eqb-true b 39 e))
    (text_cut place bytes)) (λ e3.
    cut_cond place (b ∷ bytes) (eqb b 64) _ _
    (λ e. subst (λ (q : ℕ). Cut place (q ∷ bytes) (host_variable_at place (q ∷ bytes))) (sym (eqb-true b 64 e))
    (host_variable_cut place bytes)) (λ e4.
    let k : class_of b ≡ 4 = class_of_other b e0 e1 e2 e3 e4 in
    cut_cond place (b ∷ bytes) (begins_comment (b ∷ bytes)) _ _ (comment_cut place b bytes k)
    (symbol_cut place b bytes k e3))))))

-- ---- all tokens

abbrev AllCut : ℕ → List ℕ → Result (List Token) TextFault → Type 0
AllCut place bytes (Ok ts) = Reads place bytes ts (place + length bytes) []
AllCut place bytes (Err f) = (ts : List Token) × (at : ℕ) × (rest : List ℕ) × Reads place bytes ts at rest
    × IsFaulty at rest f

-- a piece before what is read behind it
reads_piece : (place : ℕ) (word rest : List ℕ) (piece : Option TokenKind) (ts : List Token) (end : ℕ) (last : List ℕ)
    → IsPiece word piece → IsLongest word rest → IsPieceWithin piece
    → Reads (place + length word) rest ts end last
    → Reads place (word ++ rest) (with_token piece place (place + length word) ts) end last
reads_piece place word rest None ts end last spelled longest within h =
    gap place word rest ts end last spelled longest h
reads_piece place word rest (Some kind) ts end last spelled longest within h =
    token place word rest kind ts end last spelled longest within h

put : (place : ℕ) (word rest : List ℕ) (piece : Option TokenKind) (read : Result (List Token) TextFault)
    → IsPiece word piece → IsLongest word rest → IsPieceWithin piece → AllCut (place + length word) rest read
    → AllCut place (word ++ rest) (read >>= λ more. Ok (with_token piece place (place + length word) more))
put place word rest piece (Ok ts) spelled longest within h =
    let end : place + length word + length rest ≡ place + length (word ++ rest) =
    omega (arith, length-append word rest) in
    subst (λ (n : ℕ). Reads place (word ++ rest) (with_token piece place (place + length word) ts) n []) end
    (reads_piece place word rest piece ts (place + length word + length rest) [] spelled longest within h)
put place word rest piece (Err f) spelled longest within (ts, at, last, reads, faulty) = (
  with_token piece place (place + length word) ts,
  at,
  last,
  reads_piece place word rest piece ts at last spelled
      longest within reads,
  faulty,
)

on_piece : (place : ℕ) (bytes : List ℕ) (read : Result Piece TextFault)
    (others : ℕ → List ℕ → Result (List Token) TextFault) → Cut place bytes read
    → ((x : Piece) (next : ℕ) → read ≡ Ok x → AllCut next x.1 (others next x.1))
    → AllCut place bytes (read >>= λ piece. others (place + (length bytes - length piece.1)) piece.1
    >>= λ more. Ok (with_token piece.0 place (place + (length bytes - length piece.1)) more))
on_piece place bytes (Err f) others cut step = ([], place, bytes, nothing place bytes, cut)
on_piece place bytes (Ok x) others (word, is, spelled, longest, within) step =
    let n : place + length word ≡ place + (length bytes - length x.1) =
    omega (arith, ap length is, length-append word x.1) in
    let all : AllCut place (word ++ x.1)
    (others (place + length word) x.1 >>= λ more. Ok (with_token x.0 place (place + length word) more)) =
    put place word x.1 x.0 (others (place + length word) x.1) spelled longest within
    (step x (place + length word) refl) in
    let moved : AllCut place (word ++ x.1)
    (others (place + (length bytes - length x.1)) x.1
    >>= λ more. Ok (with_token x.0 place (place + (length bytes - length x.1)) more)) =
    subst (λ (m : ℕ). AllCut place (word ++ x.1) (others m x.1 >>= λ more. Ok (with_token x.0 place m more))) n
    all in
    subst (λ (y : List ℕ). AllCut place y
    (others (place + (length bytes - length x.1)) x.1
    >>= λ more. Ok (with_token x.0 place (place + (length bytes - length x.1)) more))) (sym is) moved

none_left : (place : ℕ) → Reads place [] [] (place + length {A = ℕ} []) []
none_left place = let e : place ≡ place + length {A = ℕ} [] = omega arith in
    subst (λ (n : ℕ). Reads place [] [] n []) e (nothing place [])

all_cut : (n place : ℕ) (bytes : List ℕ) → length bytes ≤ n → AllCut place bytes (tokens_from n place bytes)
unfolding tokens_from
all_cut zero place [] le = none_left place
all_cut (suc n) place [] le = none_left place
all_cut zero place (b ∷ bytes) le = absurd (omega arith)
all_cut (suc n) place (b ∷ bytes) le =
    on_piece place (b ∷ bytes) (piece_at place (b ∷ bytes)) (tokens_from n) (piece_cut place b bytes)
    (λ x next e. all_cut n next x.1 (let h = piece_shorter place (b ∷ bytes) x (omega arith) e in omega arith))

abbrev IsFound : List ℕ → Result (List Token) TextFault → Type 0
IsFound text (Ok ts) = AreTokens text ts
IsFound text (Err f) = HasFault text f

found : (text : List ℕ) (read : Result (List Token) TextFault) → AllCut 0 text read → IsFound text read
found text (Ok ts) h = let e : 0 + length text ≡ length text = omega arith in
    subst (λ (n : ℕ). Reads 0 text ts n []) e h
found text (Err f) h = h

all_found : (text : List ℕ) → IsFound text (tokens_of text)
unfolding tokens_of
all_found text = found text (tokens_from (length text) 0 text) (all_cut (length text) 0 text (omega arith))

-- what is read are the text's tokens
pub found_are_tokens : (text : List ℕ) (ts : List Token) → tokens_of text ≡ Ok ts → AreTokens text ts
found_are_tokens text ts e = subst (IsFound text) e (all_found text)

-- and the fault is the text's
pub fault_is_found : (text : List ℕ) (f : TextFault) → tokens_of text ≡ Err f → HasFault text f
fault_is_found text f e = subst (IsFound text) e (all_found text)

-- each text has tokens or a fault
pub some_reading : (text : List ℕ) → ((tokens : List Token) × AreTokens text tokens)
    ⊎ ((fault : TextFault) × HasFault text fault)
some_reading text = on (tokens_of text) (all_found text)
  where
    on : (read : Result (List Token) TextFault) → IsFound text read → ((tokens : List Token) × AreTokens text tokens)
        ⊎ ((fault : TextFault) × HasFault text fault)
    on (Ok tokens) h = inl (tokens, h)
    on (Err fault) h = inr (fault, h)
