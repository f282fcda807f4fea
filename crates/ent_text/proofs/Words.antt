-- Words: which are reserved, and what spells them.
use Rattle.std.proofs.Common.{◌≡◌, ℕ, ◌≤◌, Bool, true, false, cond, eqb, List, [], ◌∷◌, ◌++◌, map, length, refl, ap}
use Rattle.std.proofs.Common.{sym, ◌∙◌, arith, subst, Option, Some, None}
use Rattle.std.specs.Prelude.{◌&&◌, slice_index, IsTrue}
use Rattle.std.proofs.lemmas.Bool.{le-leb, and_parts, eqb-true}
use Rattle.std.proofs.lemmas.List.{length-map}
use Rattle.std.specs.List.{find, take_while}
use Rattle.std.specs.Option.{option_map_or}
use Rattle.std.specs.Char.{is_ascii_alphabetic, to_ascii_uppercase}
use Rattle.std.proofs.lemmas.List.Sums.{take_while-cons}
use Rattle.ent_value.specs.Name.{is_word_byte, IsWord}
use Rattle.ent_text.specs.declared.keyword.Keyword.{Keyword}
use Rattle.ent_text.specs.declared.keyword.Keyword.TheVariants.{And, Answer, As, Begin, Choose, Commit, Create, Delete}
use Rattle.ent_text.specs.declared.keyword.Keyword.TheVariants.{From, In, Insert, Int, Into, Rollback, Runs, Select}
use Rattle.ent_text.specs.declared.keyword.Keyword.TheVariants.{Set, Table, Text, Transaction, Update, Values, Where}
use Rattle.ent_text.specs.declared.keyword.Keyword.TheVariants.{Within}
use Rattle.ent_text.specs.declared.token.TokenKind.TheVariants.{Word, Name}
use Rattle.ent_text.specs.Keyword.{keyword_text}
use Rattle.ent_text.specs.Spelling.{IsWordLike, IsInAnyCase, Spells}
use Rattle.ent_text.specs.Lexing.{keywords, keyword_of, is_written, word_kind}
use Rattle.ent_text.proofs.Shorter.{alphabetic_is_word}
use Rattle.ent_text.proofs.Fronts.{front_passes}

all_three : (a b c : Bool) → a ≡ true → b ≡ true → c ≡ true → IsTrue (a && (b && c))
all_three a b c p q r = rw (p, q, r) refl

first_stays : (bytes : List ℕ) → is_ascii_alphabetic (slice_index bytes 0) ≡ true
    → is_ascii_alphabetic (slice_index (take_while is_word_byte bytes) 0) ≡ true
first_stays [] e = e
first_stays (b ∷ bytes) e = rw take_while-cons (rw (alphabetic_is_word b e) e)

pub letter_first : (front behind : List ℕ) → is_ascii_alphabetic (slice_index front 0) ≡ true
    → is_ascii_alphabetic (slice_index (front ++ behind) 0) ≡ true
letter_first [] behind e = absurd cc
letter_first (b ∷ front) behind e = e

-- the longest front of word bytes, behind a letter, is a word
pub front_is_wordlike : (bytes : List ℕ) → is_ascii_alphabetic (slice_index bytes 0) ≡ true
    → IsWordLike (take_while is_word_byte bytes)
front_is_wordlike bytes e = (first_stays bytes e, front_passes is_word_byte bytes)

pub front_is_word : (bytes word : List ℕ) → is_ascii_alphabetic (slice_index bytes 0) ≡ true
    → word ≡ take_while is_word_byte bytes → length word ≤ 63 → IsWord word
front_is_word bytes word e is le =
    subst IsWord (sym is) (all_three _ _ _
    (le-leb (length (take_while is_word_byte bytes)) 63 (omega (arith, ap length is))) (first_stays bytes e)
    (front_passes is_word_byte bytes))

-- ---- reserved words

is_same : List ℕ → List ℕ → Bool
is_same [] [] = true
is_same [] (c ∷ cs) = false
is_same (b ∷ bs) [] = false
is_same (b ∷ bs) (c ∷ cs) = eqb b c && is_same bs cs

same_lists : (xs ys : List ℕ) → is_same xs ys ≡ true → xs ≡ ys
unfolding is_same
same_lists [] [] e = refl
same_lists [] (c ∷ cs) e = absurd cc
same_lists (b ∷ bs) [] e = absurd cc
same_lists (b ∷ bs) (c ∷ cs) e =
    let h = and_parts (eqb b c) (is_same bs cs) e in
    let first : b ≡ c = eqb-true b c h.0 in
    let others : bs ≡ cs = same_lists bs cs h.1 in
    cc

written_is_same : (word capitals : List ℕ) → is_written word capitals ≡ is_same (map to_ascii_uppercase word) capitals
unfolding is_same
written_is_same [] [] = refl
written_is_same [] (c ∷ cs) = refl
written_is_same (b ∷ bs) [] = refl
written_is_same (b ∷ bs) (c ∷ cs) = ap (λ (t : Bool). eqb (to_ascii_uppercase b) c && t) (written_is_same bs cs)

keyword_with : List ℕ → Option Keyword
keyword_with capitals = find (λ keyword. is_same capitals (keyword_text keyword)) keywords

find_alike : (p q : Keyword → Bool) → ((k : Keyword) → p k ≡ q k) → (ks : List Keyword) → find p ks ≡ find q ks
find_alike p q alike [] = refl
find_alike p q alike (k ∷ ks) = ap (λ (t : Bool). cond t (Some k) (find p ks)) (alike k)
    ∙ ap (λ (o : Option Keyword). cond (q k) (Some k) o) (find_alike p q alike ks)

keyword_is : (word : List ℕ) → keyword_of word ≡ keyword_with (map to_ascii_uppercase word)
unfolding keyword_of keyword_with
keyword_is word = find_alike (λ keyword. is_written word (keyword_text keyword))
    (λ keyword. is_same (map to_ascii_uppercase word) (keyword_text keyword))
    (λ keyword. written_is_same word (keyword_text keyword)) keywords

found_passes : (p : Keyword → Bool) (ks : List Keyword) (k : Keyword) → find p ks ≡ Some k → p k ≡ true
found_passes p [] k e = absurd cc
found_passes p (x ∷ ks) k e = on (found_passes p ks k) (p x) refl e
  where
    on : (find p ks ≡ Some k → p k ≡ true) → (t : Bool) → p x ≡ t → cond t (Some x) (find p ks) ≡ Some k → p k ≡ true
    on others true h f = let same : x ≡ k = cc in ap p (sym same) ∙ h
    on others false h f = others f

with_its_text : (keyword : Keyword) → keyword_with (keyword_text keyword) ≡ Some keyword
unfolding keyword_with is_same
with_its_text And = refl
with_its_text Answer = refl
with_its_text As = refl
with_its_text Begin = refl
with_its_text Choose = refl
with_its_text Commit = refl
with_its_text Create = refl
with_its_text Delete = refl
with_its_text From = refl
with_its_text In = refl
with_its_text Insert = refl
with_its_text Int = refl
with_its_text Into = refl
with_its_text Rollback = refl
with_its_text Runs = refl
with_its_text Select = refl
with_its_text Set = refl
with_its_text Table = refl
with_its_text Text = refl
with_its_text Transaction = refl
with_its_text Update = refl
with_its_text Values = refl
with_its_text Where = refl
with_its_text Within = refl

-- a reserved word in any case is found
pub keyword_is_found : (word : List ℕ) (keyword : Keyword) → IsInAnyCase keyword word → keyword_of word ≡ Some keyword
keyword_is_found word keyword e = keyword_is word ∙ ap keyword_with e ∙ with_its_text keyword

pub found_is_keyword : (word : List ℕ) (keyword : Keyword) → keyword_of word ≡ Some keyword → IsInAnyCase keyword word
unfolding keyword_with
found_is_keyword word keyword e =
    same_lists _ _ (found_passes (λ k. is_same (map to_ascii_uppercase word) (keyword_text k)) keywords keyword
    (sym (keyword_is word) ∙ e))

text_is_short : (keyword : Keyword) → length (keyword_text keyword) ≤ 63
text_is_short And = omega arith
text_is_short Answer = omega arith
text_is_short As = omega arith
text_is_short Begin = omega arith
text_is_short Choose = omega arith
text_is_short Commit = omega arith
text_is_short Create = omega arith
text_is_short Delete = omega arith
text_is_short From = omega arith
text_is_short In = omega arith
text_is_short Insert = omega arith
text_is_short Int = omega arith
text_is_short Into = omega arith
text_is_short Rollback = omega arith
text_is_short Runs = omega arith
text_is_short Select = omega arith
text_is_short Set = omega arith
text_is_short Table = omega arith
text_is_short Text = omega arith
text_is_short Transaction = omega arith
text_is_short Update = omega arith
text_is_short Values = omega arith
text_is_short Where = omega arith
text_is_short Within = omega arith

pub keyword_is_short : (word : List ℕ) (keyword : Keyword) → IsInAnyCase keyword word → length word ≤ 63
keyword_is_short word keyword e = omega (arith, length-map word to_ascii_uppercase, ap length e, text_is_short keyword)

-- what looks like a word spells what is read of it, and nothing else
pub word_spells : (word : List ℕ) → IsWordLike word → Spells word (word_kind word)
word_spells word like = on (keyword_of word) refl
  where
    on : (o : Option Keyword) → keyword_of word ≡ o
        → Spells word (option_map_or (λ keyword. Word keyword) o (Name word))
    on None e = (like, refl, λ keyword h. let k = keyword_is_found word keyword h in absurd cc)
    on (Some keyword) e = (like, found_is_keyword word keyword e)

pub keyword_kind : (word : List ℕ) (keyword : Keyword) → IsInAnyCase keyword word → word_kind word ≡ Word keyword
keyword_kind word keyword e = rw (keyword_is_found word keyword e) refl

pub name_kind : (word : List ℕ) → ((keyword : Keyword) → IsInAnyCase keyword word → ⊥) → word_kind word ≡ Name word
name_kind word none = on (keyword_of word) refl
  where
    on : (o : Option Keyword) → keyword_of word ≡ o → option_map_or (λ keyword. Word keyword) o (Name word) ≡ Name word
    on None e = refl
    on (Some keyword) e = absurd (none keyword (found_is_keyword word keyword e))
