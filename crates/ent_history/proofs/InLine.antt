-- No line ends inside a lexeme but a `;`.
use Rattle.std.proofs.Common.{◌≡◌, ℕ, ◌<◌, ◌≤◌, Bool, true, false, not, ◌&&◌, ◌||◌, ◌==◌, List, [], ◌∷◌, ◌++◌, refl, ap}
use Rattle.std.proofs.Common.{sym, subst, ◌∙◌, arith, if◌then◌else◌}
use Rattle.std.specs.List.{list_all, list_any}
use Rattle.std.specs.Char.{is_ascii_control, digit_value}
use Rattle.std.specs.Fmt.{decimal}
use Rattle.std.specs.Str.Parse.{AllDigits}
use Rattle.std.proofs.lemmas.Bool.{eqb-true, and_parts, or_parts}
use Rattle.std.proofs.lemmas.Fmt.{decimal_is_IsNumeral}
use Rattle.std.proofs.lemmas.List.Folds.{list_all-append}
use Rattle.ent_lists.specs.Elements.{both_and}
use Rattle.ent_value.specs.Name.{is_word_byte}
use Rattle.ent_value.specs.Print.{doubled}
use Rattle.ent_text.specs.declared.keyword.Keyword.{Keyword}
use Rattle.ent_text.specs.declared.keyword.Keyword.TheVariants as keywords
use Rattle.ent_text.specs.declared.token.TokenKind.{TokenKind}
use Rattle.ent_text.specs.declared.token.TokenKind.TheVariants as kinds
use Rattle.ent_text.specs.Keyword.{keyword_text}
use Rattle.ent_text.specs.Spelling.{is_in_line}
use Rattle.ent_text.proofs.Runs.{symbol_in_line}
use Rattle.ent_print.specs.Lexeme.{Lexeme, Token, Negative, kind_text, lexeme_text, line_end, space, wants_before}
use Rattle.ent_print.specs.Lexeme.{wants_behind, text_behind}
use Rattle.ent_print.specs.Reading.{CanStand, CanBeRead}
use Rattle.ent_sql_laws.specs.Fits.{Each}

-- the text is part of one line
abbrev pub IsInLine : List ℕ → Type 0
IsInLine text = list_all is_in_line text ≡ true

-- ---- tests

right_of : (p q : Bool) → (p && q) ≡ true → q ≡ true
right_of true q h = h
right_of false q h = absurd cc

no_right : (p q : Bool) → (p || q) ≡ false → q ≡ false
no_right true q h = absurd cc
no_right false q h = h

-- what LF isn't is in a line
other_than_end : (so : ℕ → Type 0) → (so 10 → ⊥) → (c : ℕ) → so c → is_in_line c ≡ true
other_than_end so never c h = from (c == 10) refl
  where
    from : (test : Bool) → (c == 10) ≡ test → is_in_line c ≡ true
    from true e = absurd (never (subst so (eqb-true c 10 e) h))
    from false e = ap not e

pub in_line_append : (xs ys : List ℕ) → IsInLine xs → IsInLine ys → IsInLine (xs ++ ys)
in_line_append xs ys h k =
    list_all-append is_in_line xs ys ∙ both_and (list_all is_in_line xs) (list_all is_in_line ys) h k

-- ---- the text of a token

pub word_in_line : (word : List ℕ) → list_all is_word_byte word ≡ true → IsInLine word
word_in_line [] h = refl
word_in_line (c ∷ cs) h =
    both_and (is_in_line c) (list_all is_in_line cs)
    (other_than_end (λ d. is_word_byte d ≡ true) (λ e. absurd cc) c
    (and_parts (is_word_byte c) (list_all is_word_byte cs) h).0)
    (word_in_line cs (right_of (is_word_byte c) (list_all is_word_byte cs) h))

pub digits_in_line : (digits : List ℕ) → AllDigits 10 digits → IsInLine digits
digits_in_line [] h = refl
digits_in_line (c ∷ cs) h =
    both_and (is_in_line c) (list_all is_in_line cs)
    (other_than_end (λ d. digit_value d < 10) (λ e. absurd (omega arith)) c h.0)
    (digits_in_line cs h.1)

pub decimal_in_line : (n : ℕ) → n ≤ 9223372036854775807 → IsInLine (decimal n)
decimal_in_line n h = digits_in_line (decimal n) (decimal_is_IsNumeral n (omega arith)).0.1

pub doubled_in_line : (text : List ℕ) → list_any is_ascii_control text ≡ false → IsInLine (doubled text)
doubled_in_line [] h = refl
doubled_in_line (c ∷ cs) h =
    twice (c == 39)
    (other_than_end (λ d. is_ascii_control d ≡ false) (λ e. absurd cc) c
    (or_parts (is_ascii_control c) (list_any is_ascii_control cs) h).0)
    (doubled_in_line cs (no_right (is_ascii_control c) (list_any is_ascii_control cs) h))
  where
    twice : (test : Bool) → is_in_line c ≡ true → IsInLine (doubled cs)
        → IsInLine (if test then 39 ∷ 39 ∷ doubled cs else (c ∷ doubled cs))
    twice true one more = more
    twice false one more = both_and (is_in_line c) (list_all is_in_line (doubled cs)) one more

keyword_in_line : (keyword : Keyword) → IsInLine (keyword_text keyword)
keyword_in_line keywords.And = refl
keyword_in_line keywords.Answer = refl
keyword_in_line keywords.As = refl
keyword_in_line keywords.Begin = refl
keyword_in_line keywords.Choose = refl
keyword_in_line keywords.Commit = refl
keyword_in_line keywords.Create = refl
keyword_in_line keywords.Delete = refl
keyword_in_line keywords.From = refl
keyword_in_line keywords.In = refl
keyword_in_line keywords.Insert = refl
keyword_in_line keywords.Int = refl
keyword_in_line keywords.Into = refl
keyword_in_line keywords.Rollback = refl
keyword_in_line keywords.Runs = refl
keyword_in_line keywords.Select = refl
keyword_in_line keywords.Set = refl
keyword_in_line keywords.Table = refl
keyword_in_line keywords.Text = refl
keyword_in_line keywords.Transaction = refl
keyword_in_line keywords.Update = refl
keyword_in_line keywords.Values = refl
keyword_in_line keywords.Where = refl
keyword_in_line keywords.Within = refl

pub kind_in_line : (kind : TokenKind) → CanStand kind → IsInLine (kind_text kind)
kind_in_line (kinds.Word keyword) h = keyword_in_line keyword
kind_in_line (kinds.Name word) h =
    word_in_line word (subst (λ (l : List ℕ). list_all is_word_byte l ≡ true) h.0.1.1 h.0.1.0.1)
kind_in_line (kinds.HostVariable word) h = word_in_line word h.0.1.1.1
kind_in_line (kinds.Number n) h = decimal_in_line n h.1
kind_in_line (kinds.Literal text) h = in_line_append (doubled text) (39 ∷ []) (doubled_in_line text h.0.1.1) refl
kind_in_line (kinds.Sign symbol) h = symbol_in_line symbol
kind_in_line (kinds.Fault fault) h = refl

lexeme_in_line : (lexeme : Lexeme) → CanBeRead lexeme → IsInLine (lexeme_text lexeme)
lexeme_in_line (Token kind) h = kind_in_line kind h
lexeme_in_line (Negative n) h = decimal_in_line n h.1

-- ---- the text of lexemes

-- no line ends behind the lexeme
abbrev pub StaysInLine : Lexeme → Type 0
StaysInLine lexeme = line_end lexeme ≡ []

space_in_line : (wanted : Bool) (lexeme : Lexeme) → IsInLine (space wanted lexeme)
space_in_line wanted lexeme = from (wanted && wants_before lexeme)
  where
    from : (test : Bool) → IsInLine (if test then 32 ∷ [] else [])
    from true = refl
    from false = refl

pub text_in_line : (wanted : Bool) (xs : List Lexeme) → Each CanBeRead xs → Each StaysInLine xs
    → IsInLine (text_behind wanted xs)
text_in_line wanted [] h k = refl
text_in_line wanted (x ∷ xs) h k =
    let rest = text_behind (wants_behind x) xs in
    let behind = text_in_line (wants_behind x) xs h.1 k.1 in
    let ended : IsInLine (line_end x ++ rest) = subst (λ (l : List ℕ). IsInLine (l ++ rest)) (sym k.0) behind in
    in_line_append (space wanted x) (lexeme_text x ++ (line_end x ++ rest)) (space_in_line wanted x)
    (in_line_append (lexeme_text x) (line_end x ++ rest) (lexeme_in_line x h.0) ended)
