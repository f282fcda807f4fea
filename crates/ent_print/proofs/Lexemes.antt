-- Lexemes one behind the other, and lists of things that are printed one by one.
use Rattle.std.proofs.Common.{◌≡◌, ℕ, ◌<◌, ◌≤◌, suc, List, [], ◌∷◌, ◌++◌, length, drop, get_or, refl, ap, sym, ◌∙◌}
use Rattle.std.proofs.Common.{drop-cons, arith, add-one, append_assoc, take, ◌+◌, ◌-◌, Bool, false}
use Rattle.std.specs.List.{flat_map}
use Rattle.std.proofs.lemmas.List.{take_all, append-nil}
use Rattle.ent_text.specs.declared.keyword.Keyword.TheVariants.{Where, And}
use Rattle.ent_print.specs.Lexeme.{Lexeme, space, lexeme_text, line_end, wants_behind, text_behind, text_of}
use Rattle.ent_print.specs.Spelling.{word, each_behind, separated, where_clause}
use Rattle.ent_print.specs.Printing.{Printed, with_lexeme, with_lexemes}

-- lexemes of two lists are put there one list behind the other
pub lexemes_append : (printed : Printed) (front back : List Lexeme)
    → with_lexemes printed (front ++ back) ≡ with_lexemes (with_lexemes printed front) back
lexemes_append printed [] back = refl
lexemes_append printed (lexeme ∷ front) back = lexemes_append (with_lexeme printed lexeme) front back

-- a separator and one thing more, of a list that is printed from its place i on
pub one_more : {A : Type 0} (separator : Lexeme) (spelling : A → List Lexeme)
    (before between behind whole : Printed) (i : ℕ) (things : List A) (thing : A)
    → i < length things → thing ≡ get_or things i thing → between ≡ with_lexeme before separator
    → behind ≡ with_lexemes between (spelling thing)
    → with_lexemes before (each_behind separator spelling (drop i things)) ≡ whole
    → with_lexemes behind (each_behind separator spelling (drop (i + 1) things)) ≡ whole
one_more separator spelling before between behind whole i things thing lt is e f kept =
    let rest = each_behind separator spelling (drop (suc i) things) in
    rw (add-one i) (ap (λ (p : Printed). with_lexemes p rest) (f
    ∙ ap (λ (p : Printed). with_lexemes p (spelling thing)) e)
    ∙ sym (lexemes_append (with_lexeme before separator) (spelling thing) rest)
    ∙ ap (λ x. with_lexemes (with_lexeme before separator) (spelling x ++ rest)) is
    ∙ ap (λ xs. with_lexemes before (each_behind separator spelling xs)) (sym (drop-cons things i thing lt)) ∙ kept)

-- the first thing, then the others
pub first_and_more : {A : Type 0} (separator : Lexeme) (spelling : A → List Lexeme)
    (before between behind : Printed) (things more : List A) (first : A)
    → 1 ≤ length things → first ≡ get_or things 0 first → more ≡ take (length things - 1) (drop 1 things)
    → between ≡ with_lexemes before (spelling first)
    → behind ≡ with_lexemes between (each_behind separator spelling more)
    → behind ≡ with_lexemes before (separated separator spelling things)
first_and_more separator spelling before between behind [] more first lt is left e f = absurd (omega arith)
first_and_more separator spelling before between behind (thing ∷ things) more first lt is left e f =
    f ∙ ap (λ xs. with_lexemes between (each_behind separator spelling xs)) (left
    ∙ take_all (length (thing ∷ things) - 1) things (omega arith))
    ∙ ap (λ (p : Printed). with_lexemes p (each_behind separator spelling things)) e
    ∙ ap (λ x. with_lexemes (with_lexemes before (spelling x)) (each_behind separator spelling things)) is
    ∙ sym (lexemes_append before (spelling thing) (each_behind separator spelling things))

-- WHERE, the first condition, then the others
pub where_and_more : {A : Type 0} (spelling : A → List Lexeme)
    (before headed between behind : Printed) (conditions more : List A) (first : A)
    → 1 ≤ length conditions → first ≡ get_or conditions 0 first
    → more ≡ take (length conditions - 1) (drop 1 conditions) → headed ≡ with_lexeme before (word Where)
    → between ≡ with_lexemes headed (spelling first)
    → behind ≡ with_lexemes between (each_behind (word And) spelling more)
    → behind ≡ with_lexemes before (where_clause spelling conditions)
where_and_more spelling before headed between behind [] more first lt is left d e f = absurd (omega arith)
where_and_more spelling before headed between behind (thing ∷ things) more first lt is left d e f =
    first_and_more (word And) spelling headed between behind (thing ∷ things) more first lt is left e f
    ∙ ap (λ (p : Printed). with_lexemes p (separated (word And) spelling (thing ∷ things))) d

-- one line more
pub one_line_more : {A : Type 0} (spelling : A → List Lexeme) (before between behind whole : Printed) (ending : Lexeme)
    (i : ℕ) (things : List A) (thing : A)
    → i < length things → thing ≡ get_or things i thing → between ≡ with_lexemes before (spelling thing)
    → behind ≡ with_lexeme between ending
    → with_lexemes before (flat_map (λ x. spelling x ++ ending ∷ []) (drop i things)) ≡ whole
    → with_lexemes behind (flat_map (λ x. spelling x ++ ending ∷ []) (drop (i + 1) things)) ≡ whole
one_line_more {A = A} spelling before between behind whole ending i things thing lt is e f kept =
    let line : A → List Lexeme = λ x. spelling x ++ ending ∷ [] in
    let rest = flat_map line (drop (suc i) things) in
    rw (add-one i) (ap (λ (p : Printed). with_lexemes p rest) (f ∙ ap (λ (p : Printed). with_lexeme p ending) e
    ∙ sym (lexemes_append before (spelling thing) (ending ∷ [])))
    ∙ sym (lexemes_append before (line thing) rest)
    ∙ ap (λ x. with_lexemes before (line x ++ rest)) is
    ∙ ap (λ xs. with_lexemes before (flat_map line xs)) (sym (drop-cons things i thing lt)) ∙ kept)

-- what is put there is the text of the lexemes
pub text_is : (printed : Printed) (lexemes : List Lexeme)
    → (with_lexemes printed lexemes).text ≡ printed.text ++ text_behind printed.wanted lexemes
unfolding with_lexeme
text_is printed [] = sym (append-nil printed.text)
text_is printed (lexeme ∷ more) =
    let left = space printed.wanted lexeme in
    let rest = text_behind (wants_behind lexeme) more in
    text_is (with_lexeme printed lexeme) more
    ∙ append_assoc printed.text (left ++ (lexeme_text lexeme ++ line_end lexeme)) rest
    ∙ ap (λ (l : List ℕ). printed.text ++ l) (append_assoc left (lexeme_text lexeme ++ line_end lexeme) rest
    ∙ ap (λ (l : List ℕ). left ++ l) (append_assoc (lexeme_text lexeme) (line_end lexeme) rest))

-- from the beginning of a line
pub whole_text : (empty printed : Printed) (lexemes : List Lexeme) → empty.text ≡ [] → empty.wanted ≡ false
    → printed ≡ with_lexemes empty lexemes → printed.text ≡ text_of lexemes
whole_text empty printed lexemes e f is =
    ap (λ (p : Printed). p.text) is ∙ text_is empty lexemes
    ∙ ap (λ (l : List ℕ). l ++ text_behind empty.wanted lexemes) e ∙ ap (λ (b : Bool). text_behind b lexemes) f
