-- Names are read as they are written.
use Rattle.std.proofs.Common.{◌≡◌, ℕ, zero, suc, ◌<◌, ◌≤◌, Bool, true, false, cond, eqb, leb, ltb, List, [], ◌∷◌, ◌++◌}
use Rattle.std.proofs.Common.{length, refl, ap, sym, ◌∙◌, subst, arith, Option, Some, None, Ok, Err, Result, inl, inr}
use Rattle.std.specs.Prelude.{◌&&◌, ◌||◌, slice_index}
use Rattle.std.specs.Char.{is_ascii_alphabetic, is_ascii_alphanumeric}
use Rattle.std.specs.Int.{is_in_range}
use Rattle.std.specs.List.{list_all, take_while}
use Rattle.std.specs.Option.{is_none, is_some, option_map_or}
use Rattle.std.specs.Str.{IsUtf8}
use Rattle.std.proofs.lemmas.Bool.{and_parts, leb-true, le-leb, le-ltb, or_cases, eqb-true}
use Rattle.std.proofs.lemmas.List.{append-nil}
use Rattle.std.proofs.lemmas.List.Sums.{AllPass-from_list_all}
use Rattle.std.proofs.lemmas.Str.{IsUtf8-from_ascii}
use Rattle.std.proofs.lemmas.Str.Ascii.{IsAscii-from_all}
use Rattle.ent_lists.specs.Elements.{both_and}
use Rattle.ent_value.specs.Name.{is_word, is_word_byte}
use Rattle.ent_value.specs.declared.name.TheConstants.{LONGEST_NAME}
use Rattle.ent_text.specs.declared.keyword.Keyword.{Keyword}
use Rattle.ent_text.specs.Left.{kind_of_first, led_by, tokens_left, tokens_up_to}
use Rattle.ent_text.specs.declared.fault.TextFault.{TextFault}
use Rattle.ent_text.specs.declared.fault.TextFault.TheVariants.{TextTooLong}
use Rattle.ent_text.specs.declared.token.Token.{Token}
use Rattle.ent_text.specs.declared.token.TokenKind.{TokenKind}
use Rattle.ent_text.specs.declared.token.TokenKind.TheVariants as kinds
use Rattle.ent_text.specs.Lexing.{Piece, Stops, after, keyword_of, word_at, word_kind}
use Rattle.ent_text.specs.Spelling.{IsInAnyCase}
use Rattle.ent_text.proofs.Firsts.{class_of_letter, word_is_read}
use Rattle.ent_text.proofs.Fronts.{after_is, parts, taken_is}
use Rattle.ent_text.proofs.Words.{found_is_keyword, keyword_is_found}
use Rattle.ent_semantics.specs.Database.{Name}
use Rattle.ent_history.specs.Parts.{IsName}
use Rattle.ent_text.specs.Pieces.{wanted}
use Rattle.ent_text.proofs.Numbers.{chosen, is_first, is_rest}
use Rattle.ent_history.specs.Names.{is_keyword, is_name, name_at}

-- ---- which words are names

word_parts : (word : List ℕ) → is_word word ≡ true
    → (length word ≤ 63) × (is_ascii_alphabetic (slice_index word 0) ≡ true) × (list_all is_word_byte word ≡ true)
word_parts word e =
    let size = and_parts (leb (length word) LONGEST_NAME)
    (is_ascii_alphabetic (slice_index word 0) && list_all is_word_byte word) e in
    let bytes = and_parts (is_ascii_alphabetic (slice_index word 0)) (list_all is_word_byte word) size.1 in
    (leb-true (length word) LONGEST_NAME size.0, bytes.0, bytes.1)

can_be_name : (word : List ℕ) → is_name word ≡ true → IsName word
can_be_name word e =
    let parts = and_parts (is_word word) (is_none (keyword_of word)) e in
    let word_is = word_parts word parts.0 in (
      (
        word,
        (
          (word_is.1, word_is.2),
          refl,
          λ (keyword : Keyword) (reserved : IsInAnyCase keyword word).
              let found = ap is_none (keyword_is_found word keyword reserved) in absurd (differ (sym found ∙ parts.1)),
        ),
      ),
      word_is.0,
    )
  where
    differ : false ≡ true → ⊥
    differ h = cc

free : (word : List ℕ) (found : Option Keyword) → keyword_of word ≡ found
    → ((keyword : Keyword) → IsInAnyCase keyword word → ⊥) → is_none (keyword_of word) ≡ true
free word None e none = ap is_none e
free word (Some keyword) e none = absurd (none keyword (found_is_keyword word keyword e))

pub is_name_of : (word : List ℕ) → IsName word → is_name word ≡ true
is_name_of word is =
    let same : is.0.0 ≡ word = is.0.1.1 in
    let like = subst (λ bytes. (is_ascii_alphabetic (slice_index bytes 0) ≡ true)
    × (list_all is_word_byte bytes ≡ true)) same
    (is.0.1.0.0, is.0.1.0.1) in
    both_and (is_word word) (is_none (keyword_of word))
    (both_and (leb (length word) LONGEST_NAME) (is_ascii_alphabetic (slice_index word 0) && list_all is_word_byte word)
    (le-leb (length word) LONGEST_NAME is.1)
    (both_and (is_ascii_alphabetic (slice_index word 0)) (list_all is_word_byte word) like.0 like.1))
    (free word (keyword_of word) refl
    (subst (λ bytes. (keyword : Keyword) → IsInAnyCase keyword bytes → ⊥) same is.0.1.2))

word_bytes : (word : List ℕ) → is_name word ≡ true → list_all is_word_byte word ≡ true
word_bytes word e =
    (word_parts word (and_parts (is_word word) (is_none (keyword_of word)) e).0).2

-- ---- reading

pub name_found : (bytes rest : List ℕ) (name : Name) → name_at bytes ≡ Ok (name, rest)
    → (bytes ≡ name ++ rest) × IsName name
unfolding name_at
name_found bytes rest name h =
    let word = take_while is_word_byte bytes in
    let test = chosen (is_name word) _ _ _ h in
    let first : word ≡ name = is_first word name (after is_word_byte bytes) rest test.1 in
    let behind : after is_word_byte bytes ≡ rest = is_rest word name (after is_word_byte bytes) rest test.1 in
    (parts is_word_byte bytes ∙ (λ i. first i ++ behind i), subst IsName first (can_be_name word test.0))

named : (bytes word rest : List ℕ) → take_while is_word_byte bytes ≡ word → after is_word_byte bytes ≡ rest
    → is_name word ≡ true → name_at bytes ≡ Ok (word, rest)
unfolding name_at
named bytes word rest taken left is =
    ap (λ (w : List ℕ). wanted (is_name w) (w, after is_word_byte bytes)) taken
    ∙ ap (λ (r : List ℕ). wanted (is_name word) (word, r)) left
    ∙ ap (λ (b : Bool). wanted b (word, rest)) is

pub name_again : (name : Name) (rest : List ℕ) → IsName name → Stops is_word_byte rest
    → name_at (name ++ rest) ≡ Ok (name, rest)
name_again name rest is stop =
    let e = is_name_of name is in
    let all = word_bytes name e in
    named (name ++ rest) name rest (taken_is is_word_byte name rest all stop) (after_is is_word_byte name rest all stop)
    e

-- ---- the test by the tokens of the word

word_byte_is_small : (b : ℕ) → is_word_byte b ≡ true → b < 128
word_byte_is_small b e =
    elim (or_cases (is_ascii_alphanumeric b) (eqb b 95) e) [
      | inl h ↦ elim (or_cases (is_in_range 48 57 b || is_in_range 65 90 b) (is_in_range 97 122 b) h) [
        | inl l ↦ elim (or_cases (is_in_range 48 57 b) (is_in_range 65 90 b) l) [
          | inl d ↦ let k : b ≤ 57 = leb-true b 57 (and_parts (leb 48 b) (leb b 57) d).1 in omega arith
          | inr u ↦ let k : b ≤ 90 = leb-true b 90 (and_parts (leb 65 b) (leb b 90) u).1 in omega arith
        ]
        | inr u ↦ let k : b ≤ 122 = leb-true b 122 (and_parts (leb 97 b) (leb b 122) u).1 in omega arith
      ]
      | inr h ↦ let k : b ≡ 95 = eqb-true b 95 h in omega arith
    ]

pub word_is_text : (word : List ℕ) → is_word word ≡ true → IsUtf8 word
word_is_text word e =
    let all = AllPass-from_list_all is_word_byte word (word_parts word e).2 in
    IsUtf8-from_ascii word (IsAscii-from_all word (λ k d below. word_byte_is_small _ (all k d below)))

-- ---- the tokens of a word

read_as : List ℕ → Result Piece TextFault
read_as word = Ok (Some (word_kind word), after is_word_byte word)

taken_whole : (word : List ℕ) → list_all is_word_byte word ≡ true → take_while is_word_byte word ≡ word
taken_whole word all =
    ap (take_while is_word_byte) (sym (append-nil word)) ∙ taken_is is_word_byte word [] all tt

word_is_read_as : (word : List ℕ) → list_all is_word_byte word ≡ true → length word ≤ 63
    → word_at 0 word ≡ read_as word
unfolding word_at read_as
word_is_read_as word all small =
    ap (λ (w : List ℕ). cond (ltb LONGEST_NAME (length w)) (Err (TextTooLong 0))
    (Ok (Some (word_kind w), after is_word_byte word))) (taken_whole word all)
    ∙ ap (λ (t : Bool). cond t (Err (TextTooLong 0)) (read_as word)) (le-ltb LONGEST_NAME (length word) small)

led_kind : (word : List ℕ) (size : ℕ) (more : ℕ → List ℕ → List Token)
    → kind_of_first (led_by (read_as word) 0 size more) ≡ Some (word_kind word)
unfolding read_as
led_kind word size more = refl

first_kind_by : (n b : ℕ) (bytes : List ℕ) → 0 < n → is_word (b ∷ bytes) ≡ true
    → kind_of_first (tokens_up_to n 0 (b ∷ bytes)) ≡ Some (word_kind (b ∷ bytes))
unfolding tokens_up_to
first_kind_by zero b bytes some e = absurd (omega arith)
first_kind_by (suc n) b bytes some e =
    let parts = word_parts (b ∷ bytes) e in
    let more = λ (next : ℕ) (rest : List ℕ). tokens_up_to n next rest in
    ap (λ r. kind_of_first (led_by r 0 (length (b ∷ bytes)) more))
    (word_is_read 0 b bytes (class_of_letter b parts.1) ∙ word_is_read_as (b ∷ bytes) parts.2 parts.0)
    ∙ led_kind (b ∷ bytes) (length (b ∷ bytes)) more

pub first_kind : (word : List ℕ) → is_word word ≡ true → kind_of_first (tokens_left 0 word) ≡ Some (word_kind word)
first_kind [] e = cc
first_kind (b ∷ bytes) e = first_kind_by (length (b ∷ bytes)) b bytes (omega arith) e

-- the first token is a reserved word
abbrev pub first_is_keyword : Option TokenKind → Bool
first_is_keyword None = false
first_is_keyword (Some kind) = is_keyword kind

kind_tells : (word : List ℕ) (found : Option Keyword)
    → is_keyword (option_map_or (λ keyword. kinds.Word keyword) found (kinds.Name word)) ≡ is_some found
kind_tells word None = refl
kind_tells word (Some keyword) = refl

pub seen : (word text : List ℕ) (tokens : List Token) (front : Option TokenKind) → is_word word ≡ true → text ≡ word
    → tokens ≡ tokens_left 0 text → front ≡ kind_of_first tokens → first_is_keyword front ≡ is_some (keyword_of word)
seen word text tokens front is same all first =
    ap first_is_keyword
    (first ∙ ap kind_of_first all ∙ ap (λ (bytes : List ℕ). kind_of_first (tokens_left 0 bytes)) same
    ∙ first_kind word is)
    ∙ kind_tells word (keyword_of word)
