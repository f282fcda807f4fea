-- Lists, tests and expressions are read again.
use Rattle.std.proofs.Common.{◌≡◌, ℕ, ◌≤◌, ◌-◌, true, List, [], ◌∷◌, ◌++◌, map, length, refl, ap, sym, ◌∙◌}
use Rattle.std.proofs.Common.{Some, arith}
use Rattle.std.specs.List.{flat_map}
use Rattle.std.proofs.lemmas.Grind.{flat_map-append}
use Rattle.std.proofs.lemmas.List.{append-nil, length-map}
use Rattle.ent_text.specs.declared.token.Token.{Token as PlacedToken}
use Rattle.ent_text.specs.declared.token.TokenKind.{TokenKind}
use Rattle.ent_text.specs.declared.token.TokenKind.TheVariants.{Word, Sign}
use Rattle.ent_text.specs.declared.symbol.Symbol.TheVariants as symbols
use Rattle.ent_text.specs.declared.keyword.Keyword.TheVariants as keywords
use Rattle.ent_tree.specs.declared.operand.Expression.{Expression}
use Rattle.ent_tree.specs.declared.operand.Expression.TheVariants.{Single, Sum, Difference}
use Rattle.ent_tree.specs.declared.operand.Test.{Test}
use Rattle.ent_tree.specs.Places.{unplaced_expression, unplaced_test}
use Rattle.ent_text.specs.declared.divider.Divider.{Divider}
use Rattle.ent_text.specs.declared.divider.Divider.TheVariants.{Comma, And}
use Rattle.ent_text.specs.Class.{sign, class_of, Given, given}
use Rattle.ent_text.specs.Phrase.{all}
use Rattle.ent_text.specs.Grammar.{Grammar, token, chain, more, many, listed}
use Rattle.ent_text.specs.GrammarSpelling.{spells}
use Rattle.ent_sql.specs.Operands as grammar
use Rattle.ent_print.specs.Lexeme.{Lexeme, Token}
use Rattle.ent_print.specs.Reading.{lexeme_kinds, kinds_of}
use Rattle.ent_print.specs.Spelling.{each_behind, separated, test_spelling, expression_spelling, comparison_symbol}
use Rattle.ent_print.specs.Spelling.{sign as symbol_lexeme}
use Rattle.ent_sql_laws.specs.Again.{Rereads}
use Rattle.ent_sql_laws.specs.Fits.{Each, HasParts}
use Rattle.ent_sql_laws.proofs.Combining.{kind, split, again_then, again_mark, again_give, again_left}
use Rattle.ent_sql_laws.proofs.Combining.{again_right}
use Rattle.ent_sql_laws.proofs.Operands.{again_comparison}

-- the tokens that spell a thing are read as the thing, places aside
abbrev pub Again : {A : Type 0} → Grammar A → (A → List Lexeme) → (A → A) → A → Type 0
Again thing spelling unplaced x = Rereads thing (λ y. unplaced y ≡ unplaced x) (kinds_of (spelling x))

pub kinds_append : (xs ys : List Lexeme) → kinds_of (xs ++ ys) ≡ kinds_of xs ++ kinds_of ys
kinds_append xs ys = flat_map-append lexeme_kinds xs ys

pub again_test : {A : Type 0} (thing : Grammar A) (spelling : A → List Lexeme) (unplaced : A → A) (t : Test A)
    → Again thing spelling unplaced t.left → Again thing spelling unplaced t.right
    → Again (grammar.compared thing) (test_spelling spelling) (unplaced_test unplaced) t
unfolding grammar.compared
again_test thing spelling unplaced t left right =
    again_then {ys = Sign (comparison_symbol t.comparison) ∷ kinds_of (spelling t.right)}
    (kinds_append (spelling t.left) (symbol_lexeme (comparison_symbol t.comparison) ∷ spelling t.right)) left
    (λ x e. again_then {ys = kinds_of (spelling t.right)} refl (again_comparison t.comparison)
    (λ c f. again_then {ys = []} (sym (append-nil (kinds_of (spelling t.right)))) right
    (λ y g. again_give (λ i. record { left = e i; comparison = f i; right = g i }))))

pub again_expression : {A : Type 0} (thing : Grammar A) (spelling : A → List Lexeme) (unplaced : A → A)
    → ((x : A) → Again thing spelling unplaced x) → (e : Expression A)
    → Again (grammar.expression thing) (expression_spelling spelling) (unplaced_expression unplaced) e
unfolding grammar.expression grammar.expression_behind
again_expression thing spelling unplaced read (Single x) =
    again_then {ys = []} (sym (append-nil (kinds_of (spelling x)))) (read x)
    (λ y e. again_right (again_right (again_give (λ i. Single (e i)))))
again_expression thing spelling unplaced read (Sum x y) =
    again_then {ys = Sign symbols.Plus ∷ kinds_of (spelling y)}
    (kinds_append (spelling x) (symbol_lexeme symbols.Plus ∷ spelling y)) (read x)
    (λ v e. again_left (again_mark (sign symbols.Plus) (λ place. (place, refl))
    (λ place. again_then {ys = []} (sym (append-nil (kinds_of (spelling y)))) (read y)
    (λ w f. again_give (λ i. Sum (e i) (f i))))))
again_expression thing spelling unplaced read (Difference x y) =
    again_then {ys = Sign symbols.Minus ∷ kinds_of (spelling y)}
    (kinds_append (spelling x) (symbol_lexeme symbols.Minus ∷ spelling y)) (read x)
    (λ v e. again_right (again_left (again_mark (sign symbols.Minus) (λ place. (place, refl))
    (λ place. again_then {ys = []} (sym (append-nil (kinds_of (spelling y)))) (read y)
    (λ w f. again_give (λ i. Difference (e i) (f i)))))))

-- ---- lists

all_read : {A : Type 0} (thing : Grammar A) (unplaced : A → A) (kinds : A → List TokenKind) (holds : A → Type 0)
    → ((x : A) → holds x → Rereads thing (λ y. unplaced y ≡ unplaced x) (kinds x)) → (xs : List A) → Each holds xs
    → (tokens : List PlacedToken) → map kind tokens ≡ flat_map kinds xs
    → (ys : List A) × all (spells thing true) ys tokens × (map unplaced ys ≡ map unplaced xs)
all_read thing unplaced kinds holds read [] each [] e = ([], refl, refl)
all_read thing unplaced kinds holds read [] each (t ∷ tokens) e = absurd cc
all_read thing unplaced kinds holds read (x ∷ xs) each tokens e =
    let s = split tokens (kinds x) (flat_map kinds xs) e in
    let p = (read x each.0).read s.0 s.3 in
    let q = all_read thing unplaced kinds holds read xs each.1 s.1 s.4 in (
      p.0 ∷ q.0,
      record { front = s.0; back = s.1; whole = s.2; first = p.1; second = q.1 },
      λ i. p.2 i ∷ q.2 i,
    )

same_length : {A : Type 0} (unplaced : A → A) (xs ys : List A) → map unplaced ys ≡ map unplaced xs
    → length ys ≡ length xs
same_length unplaced xs ys e = sym (length-map ys unplaced) ∙ ap length e ∙ length-map xs unplaced

pub each_kinds : {A : Type 0} (separator : TokenKind) (spelling : A → List Lexeme) (xs : List A)
    → kinds_of (each_behind (Token separator) spelling xs) ≡ flat_map (λ x. separator ∷ kinds_of (spelling x)) xs
each_kinds separator spelling [] = refl
each_kinds separator spelling (x ∷ xs) =
    ap (λ (l : List TokenKind). separator ∷ l) (kinds_append (spelling x) (each_behind (Token separator) spelling xs)
    ∙ ap (λ (l : List TokenKind). kinds_of (spelling x) ++ l) (each_kinds separator spelling xs))

-- the token between two things
abbrev pub divider_kind : Divider → TokenKind
divider_kind Comma = Sign symbols.Comma
divider_kind And = Word keywords.And

divides : (divider : Divider) (place : ℕ)
    → (y : Given (class_of divider)) × (given (class_of divider) (divider_kind divider) place ≡ Some y)
divides Comma place = (place, refl)
divides And place = (place, refl)

behind_divider : {A : Type 0} (divider : Divider) (thing : Grammar A) (unplaced : A
    → A) (kinds : List TokenKind) (x : A)
    → Rereads thing (λ y. unplaced y ≡ unplaced x) kinds
    → Rereads (chain (token (class_of divider)) (λ place. thing)) (λ y. unplaced y ≡ unplaced x)
    (divider_kind divider ∷ kinds)
behind_divider divider thing unplaced kinds x read = again_mark (class_of divider) (divides divider) (λ place. read)

pub again_more : {A : Type 0} (limit : ℕ) (divider : Divider) (thing : Grammar A) (spelling : A → List Lexeme)
    (unplaced : A → A) (holds : A → Type 0) → ((x : A) → holds x → Again thing spelling unplaced x) → (xs : List A)
    → Each holds xs → length xs ≤ limit
    → Again (more limit divider thing) (each_behind (Token (divider_kind divider)) spelling) (map unplaced) xs
again_more limit divider thing spelling unplaced holds read xs each small = record {
  read = λ tokens e.
      let p = all_read (chain (token (class_of divider)) (λ place. thing)) unplaced
      (λ x. divider_kind divider ∷ kinds_of (spelling x)) holds
      (λ x h. behind_divider divider thing unplaced (kinds_of (spelling x)) x (read x h)) xs each tokens
      (e ∙ each_kinds (divider_kind divider) spelling xs) in
      let long = same_length unplaced xs p.0 p.2 in
      (p.0, (p.1, λ kept. omega (arith, long)), p.2);
}

pub again_listed : {A : Type 0} (limit : ℕ) (divider : Divider) (thing : Grammar A) (spelling : A → List Lexeme)
    (unplaced : A → A) (holds : A → Type 0) → ((x : A) → holds x → Again thing spelling unplaced x) → (xs : List A)
    → Each holds xs → HasParts xs limit
    → Again (listed limit divider thing) (separated (Token (divider_kind divider)) spelling) (map unplaced) xs
again_listed limit divider thing spelling unplaced holds read [] each has = absurd (omega (arith, has.0))
again_listed limit divider thing spelling unplaced holds read (x ∷ xs) each has =
    let rest = each_behind (Token (divider_kind divider)) spelling xs in
    again_then {ys = kinds_of rest} (kinds_append (spelling x) rest) (read x each.0)
    (λ y e. again_then {ys = []} (sym (append-nil (kinds_of rest)))
    (again_more (limit - 1) divider thing spelling unplaced holds read xs each.1 (omega (arith, has.1)))
    (λ ys f. again_give (λ i. e i ∷ f i)))

lines_kinds : {A : Type 0} (spelling : A → List Lexeme) (xs : List A)
    → kinds_of (flat_map spelling xs) ≡ flat_map (λ x. kinds_of (spelling x)) xs
lines_kinds spelling [] = refl
lines_kinds spelling (x ∷ xs) =
    kinds_append (spelling x) (flat_map spelling xs)
    ∙ ap (λ (l : List TokenKind). kinds_of (spelling x) ++ l) (lines_kinds spelling xs)

pub again_many : {A : Type 0} (limit : ℕ) (thing : Grammar A) (spelling : A → List Lexeme) (unplaced : A → A)
    (holds : A → Type 0) → ((x : A) → holds x → Again thing spelling unplaced x) → (xs : List A) → Each holds xs
    → length xs ≤ limit → Again (many limit thing) (flat_map spelling) (map unplaced) xs
again_many limit thing spelling unplaced holds read xs each small = record {
  read = λ tokens e.
      let p = all_read thing unplaced (λ x. kinds_of (spelling x)) holds read xs each tokens
      (e ∙ lines_kinds spelling xs) in
      let long = same_length unplaced xs p.0 p.2 in
      (p.0, (p.1, λ kept. omega (arith, long)), p.2);
}

-- where nothing is asked of the things
pub each_so : {A : Type 0} (xs : List A) → Each (λ x. Unit {0}) xs
each_so [] = tt
each_so (x ∷ xs) = (tt, each_so xs)
