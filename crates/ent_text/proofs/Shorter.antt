-- A piece takes one byte at least.
use Rattle.std.proofs.Common.{◌≡◌, ℕ, zero, suc, ◌+◌, ◌<◌, ◌≤◌, Bool, true, false, cond, ltb, eqb, List, [], ◌∷◌}
use Rattle.std.proofs.Common.{length, drop, Result, Ok, Err, refl, ap, subst, arith, Option, Some, None, ◌⊎◌, inl, inr}
use Rattle.std.proofs.lemmas.List.{length-drop}
use Rattle.std.specs.Prelude.{◌||◌, slice_index}
use Rattle.std.proofs.lemmas.Bool.{and_parts, eqb-true}
use Rattle.std.specs.List.{prefix_len, take_while}
use Rattle.std.specs.Option.{option_map_or}
use Rattle.std.specs.Char.{is_ascii_alphabetic, is_ascii_digit, is_ascii_control}
use Rattle.std.specs.Int.{is_in_range}
use Rattle.ent_text.specs.declared.fault.TextFault.{TextFault}
use Rattle.ent_text.specs.declared.fault.TextFault.TheVariants.{BadChar, TextTooLong}
use Rattle.ent_text.specs.declared.token.TokenKind.TheVariants.{Literal, Sign}
use Rattle.ent_text.specs.declared.symbol.Symbol.{Symbol}
use Rattle.ent_value.specs.Refusal.{◌>>=◌}
use Rattle.ent_value.specs.Name.{is_word_byte}
use Rattle.ent_text.specs.Spelling.{is_blank, is_in_line}
use Rattle.ent_text.specs.Lexing.{Piece, symbol_of, after, word_at, value_from, number_at, with_byte, quoted_at}
use Rattle.ent_text.specs.Lexing.{text_at, host_variable_at, begins_comment, symbol_at, piece_at}

pub chosen : {A : Type 0} (b : Bool) (x y z : A) → cond b x y ≡ z → ((b ≡ true) × (x ≡ z)) ⊎ ((b ≡ false) × (y ≡ z))
chosen true x y z e = inl (refl, e)
chosen false x y z e = inr (refl, e)

-- a read that did not fail leaves less
abbrev pub Leaves : ℕ → Result Piece TextFault → Type 0
Leaves n (Ok x) = length x.1 < n
Leaves n (Err f) = Unit {0}

leaves_cond : (n : ℕ) (b : Bool) (x y : Result Piece TextFault) → (b ≡ true → Leaves n x) → (b ≡ false → Leaves n y)
    → Leaves n (cond b x y)
leaves_cond n true x y p q = p refl
leaves_cond n false x y p q = q refl

after_shorter : (test : ℕ → Bool) (b : ℕ) (bytes : List ℕ) → test b ≡ true
    → length (after test (b ∷ bytes)) < length (b ∷ bytes)
after_shorter test b bytes e =
    let is : prefix_len test (b ∷ bytes) ≡ suc (prefix_len test bytes) = rw e (omega arith) in
    let short : length (after test (b ∷ bytes)) ≡ length (drop (prefix_len test bytes) bytes) =
    ap (λ (n : ℕ). length (drop n (b ∷ bytes))) is in
    omega (arith, short, length-drop (prefix_len test bytes) bytes)

pub alphabetic_is_word : (b : ℕ) → is_ascii_alphabetic b ≡ true → is_word_byte b ≡ true
alphabetic_is_word b e = joined (is_ascii_digit b) (is_in_range 65 90 b) (is_in_range 97 122 b) (eqb b 95) e
  where
    joined : (d u l s : Bool) → u || l ≡ true → ((d || u) || l) || s ≡ true
    joined true u l s h = refl
    joined false true l s h = refl
    joined false false true s h = refl
    joined false false false s h = absurd cc

abbrev LeavesText : ℕ → Result (List ℕ × List ℕ) TextFault → Type 0
LeavesText n (Ok x) = length x.1 < n
LeavesText n (Err f) = Unit {0}

text_cond : (n : ℕ) (b : Bool) (x y : Result (List ℕ × List ℕ) TextFault) → LeavesText n x → LeavesText n y
    → LeavesText n (cond b x y)
text_cond n true x y p q = p
text_cond n false x y p q = q

text_more : (m n b : ℕ) (read : Result (List ℕ × List ℕ) TextFault) → m ≤ n → LeavesText m read
    → LeavesText n (with_byte b read)
text_more m n b (Ok x) le h = omega arith
text_more m n b (Err f) le h = tt

quoted_leaves : (quote place n : ℕ) (bytes : List ℕ) → length bytes ≤ n
    → LeavesText (length bytes) (quoted_at quote place bytes)
unfolding quoted_at
quoted_leaves quote place n [] le = tt
quoted_leaves quote place n (b ∷ []) le =
    text_cond 1 (eqb b 39) _ _ (omega arith) (text_cond 1 (is_ascii_control b) _ _ tt tt)
quoted_leaves quote place zero (b ∷ c ∷ bytes) le = absurd (omega arith)
quoted_leaves quote place (suc zero) (b ∷ c ∷ bytes) le = absurd (omega arith)
quoted_leaves quote place (suc (suc n)) (b ∷ c ∷ bytes) le =
    let m = length (b ∷ c ∷ bytes) in
    text_cond m (eqb b 39) _ _
    (text_cond m (eqb c 39) _ _
    (text_more (length bytes) m 39 _ (omega arith) (quoted_leaves quote (place + 2) n bytes (omega arith)))
    (omega arith))
    (text_cond m (is_ascii_control b) _ _ tt
    (text_more (length (c ∷ bytes)) m b _ (omega arith)
    (quoted_leaves quote (place + 1) (suc n) (c ∷ bytes) (omega arith))))

text_ok : (n : ℕ) (read : Result (List ℕ × List ℕ) TextFault) (x : List ℕ × List ℕ) → LeavesText n read → read ≡ Ok x
    → length x.1 < n
text_ok n (Ok y) x h e = let k : y ≡ x = cc in subst (λ (z : List ℕ × List ℕ). length z.1 < n) k h
text_ok n (Err f) x h e = absurd cc

quoted_left : (quote place n : ℕ) (bytes : List ℕ) → length bytes ≤ n → (x : List ℕ × List ℕ)
    → quoted_at quote place bytes ≡ Ok x → length x.1 < length bytes
quoted_left quote place n bytes le x e =
    text_ok _ (quoted_at quote place bytes) x (quoted_leaves quote place n bytes le) e

word_leaves : (place b : ℕ) (bytes : List ℕ) → is_ascii_alphabetic b ≡ true
    → Leaves (length (b ∷ bytes)) (word_at place (b ∷ bytes))
unfolding word_at
word_leaves place b bytes e = leaves_cond _ (ltb 63 (length (take_while is_word_byte (b ∷ bytes)))) _ _ (λ _. tt)
    (λ _. after_shorter is_word_byte b bytes (alphabetic_is_word b e))

number_leaves : (place b : ℕ) (bytes : List ℕ) → is_ascii_digit b ≡ true
    → Leaves (length (b ∷ bytes)) (number_at place (b ∷ bytes))
unfolding number_at
number_leaves place b bytes e =
    leaves_cond _ (ltb 9223372036854775807 (value_from 0 (take_while is_ascii_digit (b ∷ bytes)))) _ _ (λ _. tt)
    (λ _. after_shorter is_ascii_digit b bytes e)

text_leaves : (place b : ℕ) (bytes : List ℕ) → Leaves (length (b ∷ bytes)) (text_at place (b ∷ bytes))
unfolding text_at
text_leaves place b bytes =
    on (quoted_at place (place + 1) bytes) (λ x e. quoted_left place (place + 1) (length bytes) bytes (omega arith) x e)
  where
    on : (read : Result (List ℕ × List ℕ) TextFault) → ((x : List ℕ × List ℕ) → read ≡ Ok x → length x.1 < length bytes)
        → Leaves (length (b ∷ bytes))
        (read >>= λ text. cond (ltb 255 (length text.0)) (Err (TextTooLong place))
        (Ok (Some (Literal text.0), text.1)))
    on (Ok x) h = leaves_cond _ (ltb 255 (length x.0)) _ _ (λ _. tt) (λ _. let k = h x refl in omega arith)
    on (Err f) h = tt

host_variable_leaves : (place b : ℕ) (bytes : List ℕ) → Leaves (length (b ∷ bytes)) (host_variable_at place (b ∷ bytes))
unfolding host_variable_at
host_variable_leaves place b bytes =
    leaves_cond _ (is_ascii_alphabetic (slice_index bytes 0)) _ _
    (λ _. leaves_cond _ (ltb 63 (length (take_while is_word_byte bytes))) _ _ (λ _. tt)
    (λ _. omega (arith, length-drop (prefix_len is_word_byte bytes) bytes))) (λ _. tt)

pub comment_is_in_line : (b : ℕ) (bytes : List ℕ) → begins_comment (b ∷ bytes) ≡ true → is_in_line b ≡ true
comment_is_in_line b bytes e = ap is_in_line (eqb-true b 45 (and_parts (eqb b 45) (eqb (slice_index bytes 0) 45) e).0)

-- a symbol has a byte
abbrev pub Long : Option (Symbol × ℕ) → Type 0
Long None = Unit {0}
Long (Some x) = 0 < x.1

long_cond : (b : Bool) (x y : Option (Symbol × ℕ)) → Long x → Long y → Long (cond b x y)
long_cond true x y p q = p
long_cond false x y p q = q

pub symbol_is_long : (b c : ℕ) → Long (symbol_of b c)
unfolding symbol_of
symbol_is_long b c =
    long_cond (eqb b 40) _ _ (omega arith)
    (long_cond (eqb b 41) _ _ (omega arith)
    (long_cond (eqb b 44) _ _ (omega arith) (long_cond (eqb b 59) _ _ (omega arith)
    (long_cond (eqb b 46) _ _ (omega arith)
    (long_cond (eqb b 42) _ _ (omega arith)
    (long_cond (eqb b 43) _ _ (omega arith) (long_cond (eqb b 45) _ _ (omega arith)
    (long_cond (eqb b 61) _ _ (omega arith)
    (long_cond (eqb b 60) _ _
    (long_cond (eqb c 62) _ _ (omega arith) (long_cond (eqb c 61) _ _ (omega arith) (omega arith)))
    (long_cond (eqb b 62) _ _ (long_cond (eqb c 61) _ _ (omega arith) (omega arith))
    (long_cond (eqb b 33) _ _ (long_cond (eqb c 61) _ _ (omega arith) tt) tt)))))))))))

symbol_leaves : (place b : ℕ) (bytes : List ℕ) → Leaves (length (b ∷ bytes)) (symbol_at place (b ∷ bytes))
unfolding symbol_at
symbol_leaves place b bytes =
    on (symbol_of b (slice_index (b ∷ bytes) 1)) (symbol_is_long b (slice_index (b ∷ bytes) 1))
  where
    on : (o : Option (Symbol × ℕ)) → Long o
        → Leaves (length (b ∷ bytes))
        (option_map_or (λ s. Ok (Some (Sign s.0), drop s.1 (b ∷ bytes))) o (Err (BadChar place)))
    on None h = tt
    on (Some x) h = omega (arith, length-drop x.1 (b ∷ bytes))

piece_leaves : (place b : ℕ) (bytes : List ℕ) → Leaves (length (b ∷ bytes)) (piece_at place (b ∷ bytes))
unfolding piece_at
piece_leaves place b bytes =
    leaves_cond _ (is_blank b) _ _ (λ _. omega arith) (λ _.
    leaves_cond _ (is_ascii_alphabetic b) _ _ (word_leaves place b bytes) (λ _.
    leaves_cond _ (is_ascii_digit b) _ _ (number_leaves place b bytes) (λ _.
    leaves_cond _ (eqb b 39) _ _ (λ _. text_leaves place b bytes) (λ _.
    leaves_cond _ (eqb b 64) _ _ (λ _. host_variable_leaves place b bytes) (λ _.
    leaves_cond _ (begins_comment (b ∷ bytes)) _ _
    (λ e. after_shorter is_in_line b bytes (comment_is_in_line b bytes e)) (λ _.
    symbol_leaves place b bytes))))))

leaves_ok : (n : ℕ) (read : Result Piece TextFault) (x : Piece) → Leaves n read → read ≡ Ok x → length x.1 < n
leaves_ok n (Ok y) x h e = let k : y ≡ x = cc in subst (λ (z : Piece). length z.1 < n) k h
leaves_ok n (Err f) x h e = absurd cc

pub piece_shorter : (place : ℕ) (bytes : List ℕ) (x : Piece) → 0 < length bytes → piece_at place bytes ≡ Ok x
    → length x.1 < length bytes
piece_shorter place [] x lt e = absurd (omega arith)
piece_shorter place (b ∷ bytes) x lt e = leaves_ok _ (piece_at place (b ∷ bytes)) x (piece_leaves place b bytes) e

-- where a blank stands first, the piece is this gap
pub piece_of_blank : (place : ℕ) (bytes behind : List ℕ) → is_blank (slice_index bytes 0) ≡ true → behind ≡ drop 1 bytes
    → piece_at place bytes ≡ Ok (None, behind)
unfolding piece_at
piece_of_blank place bytes behind blank is = rw (blank, is) refl

-- where a letter stands first, the piece is the word
pub piece_of_word : (place : ℕ) (bytes : List ℕ) → is_blank (slice_index bytes 0) ≡ false
    → is_ascii_alphabetic (slice_index bytes 0) ≡ true → piece_at place bytes ≡ word_at place bytes
unfolding piece_at
piece_of_word place bytes visible letter = rw (visible, letter) refl
