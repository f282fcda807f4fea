-- White space, comments, words, host variables and numbers: the longest front of their bytes is the longest piece.
use Rattle.std.proofs.Common.{◌≡◌, ℕ, ◌≤◌, Bool, true, false, List, [], ◌∷◌, ◌++◌, length, refl, ap, sym, ◌∙◌, subst}
use Rattle.std.proofs.Common.{arith, Option, Some, None, inl, inr, eqb, drop}
use Rattle.std.specs.Prelude.{slice_index}
use Rattle.std.proofs.lemmas.Bool.{and_parts, eqb-true}
use Rattle.std.specs.List.{list_all, prefix_len, take_while}
use Rattle.std.specs.Char.{is_ascii_digit}
use Rattle.std.proofs.lemmas.List.{length-append}
use Rattle.std.proofs.lemmas.List.Folds.{length-prefix_len}
use Rattle.std.proofs.lemmas.List.Sums.{take_while-cons}
use Rattle.ent_value.specs.Name.{is_word_byte}
use Rattle.ent_text.specs.declared.token.TokenKind.{TokenKind}
use Rattle.ent_text.specs.declared.token.TokenKind.TheVariants.{Word, Name, HostVariable, Number, Literal, Sign, Fault}
use Rattle.ent_text.specs.Spelling.{is_in_line, IsWordLike, IsComment, IsPiece, IsLongest}
use Rattle.ent_text.specs.declared.symbol.Symbol.{Symbol}
use Rattle.ent_text.specs.declared.symbol.Symbol.TheVariants.{Open, Close, Comma, Semicolon, Dot, Star, Plus, Minus}
use Rattle.ent_text.specs.declared.symbol.Symbol.TheVariants.{Equal, NotEqual, Less, LessOrEqual, Greater}
use Rattle.ent_text.specs.declared.symbol.Symbol.TheVariants.{GreaterOrEqual}
use Rattle.ent_text.specs.Symbol.{symbol_text, SpellsSymbol}
use Rattle.ent_text.specs.Lexing.{after, begins_comment}
use Rattle.ent_text.proofs.Digits.{digits_pass}
use Rattle.ent_text.proofs.Firsts.{PieceOf, class_of, class_of_at_sign, piece_of_first}
use Rattle.ent_text.proofs.Fronts.{parts, front_passes, passing_front, front_is_taken}

-- where each piece that begins with this byte has only bytes that pass
run_longest : (test : ℕ → Bool) (b : ℕ) (bytes : List ℕ)
    → ((others : List ℕ) (piece : Option TokenKind) → IsPiece (b ∷ others) piece → list_all test (b ∷ others) ≡ true)
    → IsLongest (take_while test (b ∷ bytes)) (after test (b ∷ bytes))
run_longest test b bytes only [] behind more piece same spelled = omega arith
run_longest test b bytes only (x ∷ front) behind more piece same spelled =
    let whole : x ∷ (front ++ behind) ≡ b ∷ bytes = same ∙ sym (parts test (b ∷ bytes)) in
    let first : x ≡ b = ap (λ (l : List ℕ). slice_index l 0) whole in
    let begins : IsPiece (b ∷ (front ++ more)) piece =
    subst (λ (y : ℕ). IsPiece (y ∷ (front ++ more)) piece) first spelled in
    let passes : list_all test (b ∷ front) ≡ true =
    passing_front test (b ∷ front) more (only (front ++ more) piece begins) in
    let le : length (b ∷ front) ≤ prefix_len test (b ∷ (front ++ behind)) =
    front_is_taken test (b ∷ front) behind passes in
    let is : prefix_len test (b ∷ (front ++ behind)) ≡ prefix_len test (b ∷ bytes) =
    ap (λ (y : ℕ). prefix_len test (y ∷ (front ++ behind))) (sym first) ∙ ap (prefix_len test) whole in
    omega (arith, length-prefix_len test (b ∷ bytes))

word_bytes : (bytes : List ℕ) (piece : Option TokenKind) → PieceOf 1 bytes piece → list_all is_word_byte bytes ≡ true
word_bytes bytes None (inl h) = absurd (omega (arith, h.0))
word_bytes bytes None (inr h) = absurd (omega (arith, h.0))
word_bytes bytes (Some (Word keyword)) h = h.1.0.1
word_bytes bytes (Some (Name word)) h = h.1.0.1
word_bytes bytes (Some (HostVariable word)) h = absurd (omega (arith, h.0))
word_bytes bytes (Some (Number n)) h = absurd (omega (arith, h.0))
word_bytes bytes (Some (Literal text)) h = absurd (omega (arith, h.0))
word_bytes bytes (Some (Sign symbol)) h = absurd (omega (arith, h.0))
word_bytes bytes (Some (Fault fault)) h = absurd h.1

number_bytes : (bytes : List ℕ) (piece : Option TokenKind) → PieceOf 2 bytes piece
    → list_all is_ascii_digit bytes ≡ true
number_bytes bytes None (inl h) = absurd (omega (arith, h.0))
number_bytes bytes None (inr h) = absurd (omega (arith, h.0))
number_bytes bytes (Some (Word keyword)) h = absurd (omega (arith, h.0))
number_bytes bytes (Some (Name word)) h = absurd (omega (arith, h.0))
number_bytes bytes (Some (HostVariable word)) h = absurd (omega (arith, h.0))
number_bytes bytes (Some (Number n)) h = digits_pass bytes h.1.0.1
number_bytes bytes (Some (Literal text)) h = absurd (omega (arith, h.0))
number_bytes bytes (Some (Sign symbol)) h = absurd (omega (arith, h.0))
number_bytes bytes (Some (Fault fault)) h = absurd h.1

pub word_longest : (b : ℕ) (bytes : List ℕ) → class_of b ≡ 1
    → IsLongest (take_while is_word_byte (b ∷ bytes)) (after is_word_byte (b ∷ bytes))
word_longest b bytes k = run_longest is_word_byte b bytes
    (λ others piece spelled. word_bytes (b ∷ others) piece (piece_of_first b 1 others piece k spelled))

pub number_longest : (b : ℕ) (bytes : List ℕ) → class_of b ≡ 2
    → IsLongest (take_while is_ascii_digit (b ∷ bytes)) (after is_ascii_digit (b ∷ bytes))
number_longest b bytes k = run_longest is_ascii_digit b bytes
    (λ others piece spelled. number_bytes (b ∷ others) piece (piece_of_first b 2 others piece k spelled))

-- ---- host variables

pub is_host_variable : (bytes : List ℕ) (piece : Option TokenKind) → PieceOf 5 bytes piece
    → (word : List ℕ) × (bytes ≡ 64 ∷ word) × IsWordLike word
is_host_variable bytes None (inl h) = absurd (omega (arith, h.0))
is_host_variable bytes None (inr h) = absurd (omega (arith, h.0))
is_host_variable bytes (Some (Word keyword)) h = absurd (omega (arith, h.0))
is_host_variable bytes (Some (Name word)) h = absurd (omega (arith, h.0))
is_host_variable bytes (Some (HostVariable word)) h = (word, h.1.0, h.1.1)
is_host_variable bytes (Some (Number n)) h = absurd (omega (arith, h.0))
is_host_variable bytes (Some (Literal text)) h = absurd (omega (arith, h.0))
is_host_variable bytes (Some (Sign symbol)) h = absurd (omega (arith, h.0))
is_host_variable bytes (Some (Fault fault)) h = absurd h.1

-- what begins with an `@` is that and a word
pub behind_at_sign : (x : ℕ) (others : List ℕ) (piece : Option TokenKind) → x ≡ 64 → IsPiece (x ∷ others) piece
    → IsWordLike others
behind_at_sign x others piece first spelled =
    let h = is_host_variable (x ∷ others) piece
    (piece_of_first x 5 others piece (ap class_of first ∙ class_of_at_sign) spelled) in
    subst IsWordLike (sym (ap (drop 1) h.1)) h.2

pub host_variable_longest : (bytes : List ℕ) → IsLongest (64 ∷ take_while is_word_byte bytes) (after is_word_byte bytes)
host_variable_longest bytes [] behind more piece same spelled = omega arith
host_variable_longest bytes (x ∷ front) behind more piece same spelled =
    let first : x ≡ 64 = ap (λ (l : List ℕ). slice_index l 0) same in
    let others : front ++ behind ≡ bytes = ap (drop 1) same ∙ sym (parts is_word_byte bytes) in
    let passes : list_all is_word_byte front ≡ true =
    passing_front is_word_byte front more (behind_at_sign x (front ++ more) piece first spelled).1 in
    let le : length front ≤ prefix_len is_word_byte (front ++ behind) =
    front_is_taken is_word_byte front behind passes in
    let is : prefix_len is_word_byte (front ++ behind) ≡ prefix_len is_word_byte bytes =
    ap (prefix_len is_word_byte) others in
    omega (arith, length-prefix_len is_word_byte bytes)

-- ---- white space and comments

blank_is_short : (bytes : List ℕ) (piece : Option TokenKind) → PieceOf 0 bytes piece → length bytes ≤ 1
blank_is_short bytes None (inl h) = omega (arith, ap length h.1.1)
blank_is_short bytes None (inr h) = absurd (omega (arith, h.0))
blank_is_short bytes (Some (Word keyword)) h = absurd (omega (arith, h.0))
blank_is_short bytes (Some (Name word)) h = absurd (omega (arith, h.0))
blank_is_short bytes (Some (HostVariable word)) h = absurd (omega (arith, h.0))
blank_is_short bytes (Some (Number n)) h = absurd (omega (arith, h.0))
blank_is_short bytes (Some (Literal text)) h = absurd (omega (arith, h.0))
blank_is_short bytes (Some (Sign symbol)) h = absurd (omega (arith, h.0))
blank_is_short bytes (Some (Fault fault)) h = absurd h.1

pub blank_longest : (b : ℕ) (rest : List ℕ) → class_of b ≡ 0 → IsLongest (b ∷ []) rest
blank_longest b rest k [] behind more piece same spelled = omega arith
blank_longest b rest k (x ∷ front) behind more piece same spelled =
    let first : x ≡ b = ap (λ (l : List ℕ). slice_index l 0) same in
    let le = blank_is_short (x ∷ (front ++ more)) piece
    (piece_of_first x 0 (front ++ more) piece (ap class_of first ∙ k) spelled) in
    omega (arith, length-append front more)

pub symbol_in_line : (symbol : Symbol) → list_all is_in_line (symbol_text symbol) ≡ true
symbol_in_line Open = refl
symbol_in_line Close = refl
symbol_in_line Comma = refl
symbol_in_line Semicolon = refl
symbol_in_line Dot = refl
symbol_in_line Star = refl
symbol_in_line Plus = refl
symbol_in_line Minus = refl
symbol_in_line Equal = refl
symbol_in_line NotEqual = refl
symbol_in_line Less = refl
symbol_in_line LessOrEqual = refl
symbol_in_line Greater = refl
symbol_in_line GreaterOrEqual = refl

symbol_is_in_line : (bytes : List ℕ) (symbol : Symbol) → SpellsSymbol bytes symbol → list_all is_in_line bytes ≡ true
symbol_is_in_line bytes symbol (inl e) = ap (list_all is_in_line) e ∙ symbol_in_line symbol
symbol_is_in_line bytes symbol (inr e) = ap (list_all is_in_line) e.0

pub comment_is_in_line : (bytes : List ℕ) → IsComment bytes → list_all is_in_line bytes ≡ true
comment_is_in_line bytes h = ap (list_all is_in_line) h.1 ∙ h.2

-- what begins as a symbol or a comment does ends before the next LF
other_is_in_line : (bytes : List ℕ) (piece : Option TokenKind) → PieceOf 4 bytes piece
    → list_all is_in_line bytes ≡ true
other_is_in_line bytes None (inl h) = absurd (omega (arith, h.0))
other_is_in_line bytes None (inr h) = comment_is_in_line bytes h.1
other_is_in_line bytes (Some (Word keyword)) h = absurd (omega (arith, h.0))
other_is_in_line bytes (Some (Name word)) h = absurd (omega (arith, h.0))
other_is_in_line bytes (Some (HostVariable word)) h = absurd (omega (arith, h.0))
other_is_in_line bytes (Some (Number n)) h = absurd (omega (arith, h.0))
other_is_in_line bytes (Some (Literal text)) h = absurd (omega (arith, h.0))
other_is_in_line bytes (Some (Sign symbol)) h = symbol_is_in_line bytes symbol h.1
other_is_in_line bytes (Some (Fault fault)) h = absurd h.1

pub comment_longest : (b : ℕ) (bytes : List ℕ) → class_of b ≡ 4
    → IsLongest (take_while is_in_line (b ∷ bytes)) (after is_in_line (b ∷ bytes))
comment_longest b bytes k = run_longest is_in_line b bytes
    (λ others piece spelled. other_is_in_line (b ∷ others) piece (piece_of_first b 4 others piece k spelled))

-- two minus signs and the rest of their line are a comment
line_is_comment : (bytes : List ℕ) → IsComment (take_while is_in_line (45 ∷ 45 ∷ bytes))
line_is_comment bytes = (
  take_while is_in_line bytes,
  take_while-cons is_in_line 45 (45 ∷ bytes)
      ∙ ap (λ (l : List ℕ). 45 ∷ l) (take_while-cons is_in_line 45 bytes),
  front_passes is_in_line bytes,
)

pub begins_two : (b : ℕ) (bytes : List ℕ) → begins_comment (b ∷ bytes) ≡ true → b ∷ bytes ≡ 45 ∷ 45 ∷ drop 1 bytes
begins_two b [] e = let h : false ≡ true = (and_parts (eqb b 45) false e).1 in absurd cc
begins_two b (c ∷ bytes) e =
    let h = and_parts (eqb b 45) (eqb c 45) e in
    let first : b ≡ 45 = eqb-true b 45 h.0 in
    let second : c ≡ 45 = eqb-true c 45 h.1 in
    cc

pub comment_front : (b : ℕ) (bytes : List ℕ) → begins_comment (b ∷ bytes) ≡ true
    → IsComment (take_while is_in_line (b ∷ bytes))
comment_front b bytes e = subst (λ (l : List ℕ). IsComment (take_while is_in_line l)) (sym (begins_two b bytes e))
    (line_is_comment (drop 1 bytes))

pub comment_begins : (bytes behind : List ℕ) → IsComment bytes → begins_comment (bytes ++ behind) ≡ true
comment_begins bytes behind h = ap (λ (l : List ℕ). begins_comment (l ++ behind)) h.1
