-- The items of an entangled SELECT: the operands up to the first that binds a host variable, and the items behind it.
use Rattle.std.proofs.Common.{◌≡◌, ◌+◌, Bool, true, List, [], ◌∷◌, ◌++◌, map, length, refl, ap, sym}
use Rattle.std.proofs.Common.{◌∙◌, arith, append_assoc, Option, None, Some}
use Rattle.std.specs.Prelude.{◌&&◌}
use Rattle.std.specs.Option.{option_map}
use Rattle.ent_text.specs.declared.symbol.Symbol.TheVariants as symbols
use Rattle.ent_tree.specs.declared.operand.Identifier.{Identifier}
use Rattle.ent_tree.specs.declared.operand.Operand.{Operand}
use Rattle.ent_tree.specs.declared.operand.Operand.TheVariants as operands
use Rattle.ent_tree.specs.declared.entangled.Term.{Term}
use Rattle.ent_tree.specs.declared.entangled.Term.TheVariants as terms
use Rattle.ent_tree.specs.declared.entangled.EntangledItem.{EntangledItem}
use Rattle.ent_tree.specs.Places.{unplaced_identifier, unplaced_operand, unplaced_term, unplaced_item}
use Rattle.ent_sql.specs.Entangling.{is_plain, is_term, are_terms, term_of, items_of}
use Rattle.ent_print.specs.Lexeme.{Lexeme}
use Rattle.ent_print.specs.Spelling.{sign, each_behind, separated, operand_spelling, term_spelling, binding_spelling}
use Rattle.ent_print.specs.Spelling.{entangled_item_spelling}

abbrev pub operand_of : Term → Operand
operand_of (terms.Value v) = operands.Value v
operand_of (terms.Variable i) = operands.Column (record { qualifier = None; column = i })

-- the operands up to the first item that binds a host variable, which they bind, and the items behind it
abbrev pub on_binding : {A : Type 0} → Option Identifier → A → A → A
on_binding None more bound = more
on_binding (Some v) more bound = bound

abbrev pub heads : List EntangledItem → List Operand
heads [] = []
heads (x ∷ xs) = operand_of x.term ∷ on_binding x.binds (heads xs) []

abbrev pub first_bound : List EntangledItem → Option Identifier
first_bound [] = None
first_bound (x ∷ xs) = on_binding x.binds (first_bound xs) x.binds

abbrev pub others : List EntangledItem → List EntangledItem
others [] = []
others (x ∷ xs) = on_binding x.binds (others xs) xs

pub spelled_alike : (t : Term) → operand_spelling (operand_of t) ≡ term_spelling t
spelled_alike (terms.Value v) = refl
spelled_alike (terms.Variable i) = refl

-- ---- places aside

plain_alike : (q : Option Identifier) → is_plain (option_map unplaced_identifier q) ≡ is_plain q
plain_alike None = refl
plain_alike (Some q) = refl

term_alike : (o : Operand) → is_term (unplaced_operand o) ≡ is_term o
term_alike (operands.Value v) = refl
term_alike (operands.Column c) = plain_alike c.qualifier

terms_alike : (os : List Operand) → are_terms (map unplaced_operand os) ≡ are_terms os
terms_alike [] = refl
terms_alike (o ∷ os) =
    ap (λ (b : Bool). b && are_terms (map unplaced_operand os)) (term_alike o)
    ∙ ap (λ (b : Bool). is_term o && b) (terms_alike os)

is_head : (t : Term) → is_term (operand_of t) ≡ true
is_head (terms.Value v) = refl
is_head (terms.Variable i) = refl

on_more : (b : Option Identifier) (os : List Operand) → are_terms os ≡ true → are_terms (on_binding b os []) ≡ true
on_more None os e = e
on_more (Some v) os e = refl

heads_are_terms : (xs : List EntangledItem) → are_terms (heads xs) ≡ true
heads_are_terms [] = refl
heads_are_terms (x ∷ xs) =
    ap (λ (b : Bool). b && are_terms (on_binding x.binds (heads xs) [])) (is_head x.term)
    ∙ on_more x.binds (heads xs) (heads_are_terms xs)

pub such_are_terms : (xs : List EntangledItem) (os : List Operand)
    → map unplaced_operand os ≡ map unplaced_operand (heads xs) → are_terms os ≡ true
such_are_terms xs os e =
    sym (terms_alike os) ∙ ap are_terms e ∙ terms_alike (heads xs) ∙ heads_are_terms xs

unplaced_term_of : (o : Operand) → unplaced_term (term_of o) ≡ term_of (unplaced_operand o)
unplaced_term_of (operands.Value v) = refl
unplaced_term_of (operands.Column c) = refl

of_head : (t : Term) → term_of (operand_of t) ≡ t
of_head (terms.Value v) = refl
of_head (terms.Variable i) = refl

same_term : (o : Operand) (t : Term) → unplaced_operand o ≡ unplaced_operand (operand_of t)
    → unplaced_term (term_of o) ≡ unplaced_term t
same_term o t e =
    unplaced_term_of o ∙ ap term_of e ∙ sym (unplaced_term_of (operand_of t)) ∙ ap unplaced_term (of_head t)

abbrev Such : List EntangledItem → List Operand → Option Identifier → List EntangledItem → Type 0
Such xs os b ys =
    (map unplaced_operand os ≡ map unplaced_operand (heads xs))
    → (option_map unplaced_identifier b ≡ option_map unplaced_identifier (first_bound xs))
    → (map unplaced_item ys ≡ map unplaced_item (others xs))
    → map unplaced_item (items_of os b ++ ys) ≡ map unplaced_item xs

item_is : (o : Operand) (t : Term) (b q : Option Identifier) (ys xs : List EntangledItem)
    → unplaced_operand o ≡ unplaced_operand (operand_of t)
    → option_map unplaced_identifier b ≡ option_map unplaced_identifier q → map unplaced_item ys ≡ map unplaced_item xs
    → map unplaced_item (record { term = term_of o; binds = b } ∷ ys)
    ≡ map unplaced_item (record { term = t; binds = q } ∷ xs)
item_is o t b q ys xs e f g = λ i. record { term = same_term o t e i; binds = f i } ∷ g i

one_more : (t : Term) (q : Option Identifier) (xs : List EntangledItem) (o : Operand) (os : List Operand)
    (b : Option Identifier) (ys : List EntangledItem) → Such xs os b ys
    → Such (record { term = t; binds = q } ∷ xs) (o ∷ os) b ys
one_more t (Some v) xs o [] b ys more e f g =
    let first : unplaced_operand o ≡ unplaced_operand (operand_of t) = cc in item_is o t b (Some v) ys xs first f g
one_more t (Some v) xs o (p ∷ os) b ys more e f g = absurd cc
one_more t None [] o [] b ys more e f g =
    let first : unplaced_operand o ≡ unplaced_operand (operand_of t) = cc in item_is o t b None ys [] first f g
one_more t None (x ∷ xs) o [] b ys more e f g = absurd cc
one_more t None xs o (p ∷ os) b ys more e f g =
    let whole : unplaced_operand o ∷ map unplaced_operand (p ∷ os)
    ≡ unplaced_operand (operand_of t) ∷ map unplaced_operand (heads xs) = e in
    let first : unplaced_operand o ≡ unplaced_operand (operand_of t) = cc in
    let rest : map unplaced_operand (p ∷ os) ≡ map unplaced_operand (heads xs) = cc in
    item_is o t None None (items_of (p ∷ os) b ++ ys) xs first refl (more rest f g)

-- what is read of the heads, with what they bind and the items behind, is the items
pub same_items : (xs : List EntangledItem) (os : List Operand) (b : Option Identifier) (ys : List EntangledItem)
    → Such xs os b ys
same_items [] [] b ys e f g = g
same_items [] (o ∷ os) b ys e f g = absurd cc
same_items (x ∷ xs) [] b ys e f g = absurd cc
same_items (x ∷ xs) (o ∷ os) b ys e f g = one_more x.term x.binds xs o os b ys (same_items xs os b ys) e f g

-- ---- lengths

length_on : (q : Option Identifier) (xs : List EntangledItem) → length (heads xs) + length (others xs) ≡ length xs
    → length (on_binding q (heads xs) []) + length (on_binding q (others xs) xs) ≡ length xs
length_on None xs e = e
length_on (Some v) xs e = omega arith

pub lengths : (xs : List EntangledItem) → length (heads xs) + length (others xs) ≡ length xs
lengths [] = refl
lengths (x ∷ xs) = omega (arith, length_on x.binds xs (lengths xs))

pub items_length : (os : List Operand) (b : Option Identifier) → length (items_of os b) ≡ length os
items_length [] b = refl
items_length (o ∷ []) b = refl
items_length (o ∷ p ∷ os) b = omega (arith, items_length (p ∷ os) b)

none_on : (q : Option Identifier) (xs : List EntangledItem) → (first_bound xs ≡ None → others xs ≡ [])
    → on_binding q (first_bound xs) q ≡ None → on_binding q (others xs) xs ≡ []
none_on None xs more e = more e
none_on (Some v) xs more e = absurd cc

pub none_behind : (xs : List EntangledItem) → first_bound xs ≡ None → others xs ≡ []
none_behind [] e = refl
none_behind (x ∷ xs) e = none_on x.binds xs (none_behind xs) e

-- ---- spelling

behind : List EntangledItem → List Lexeme
behind = each_behind (sign symbols.Comma) entangled_item_spelling

heads_behind : List Operand → List Lexeme
heads_behind = each_behind (sign symbols.Comma) operand_spelling

abbrev RestAlike : Option Identifier → List EntangledItem → Type 0
RestAlike q xs =
    binding_spelling q ++ behind xs
    ≡ heads_behind (on_binding q (heads xs) [])
    ++ (binding_spelling (on_binding q (first_bound xs) q) ++ behind (on_binding q (others xs) xs))

item_alike : (t : Term) (q : Option Identifier) (xs : List EntangledItem) → RestAlike q xs
    → (term_spelling t ++ binding_spelling q) ++ behind xs
    ≡ (operand_spelling (operand_of t) ++ heads_behind (on_binding q (heads xs) []))
    ++ (binding_spelling (on_binding q (first_bound xs) q) ++ behind (on_binding q (others xs) xs))
item_alike t q xs rest =
    append_assoc (term_spelling t) (binding_spelling q) (behind xs)
    ∙ ap (λ (l : List Lexeme). term_spelling t ++ l) rest
    ∙ sym (append_assoc (term_spelling t) (heads_behind (on_binding q (heads xs) [])) _)
    ∙ ap (λ (l : List Lexeme). (l ++ heads_behind (on_binding q (heads xs) []))
    ++ (binding_spelling (on_binding q (first_bound xs) q) ++ behind (on_binding q (others xs) xs))) (sym
    (spelled_alike t))

rest_alike : (q : Option Identifier) (xs : List EntangledItem) → RestAlike q xs
unfolding behind heads_behind
rest_alike (Some v) xs = refl
rest_alike None [] = refl
rest_alike None (x ∷ xs) =
    ap (λ (l : List Lexeme). sign symbols.Comma ∷ l) (item_alike x.term x.binds xs (rest_alike x.binds xs))

-- the items are spelled as their heads, what these bind, and the items behind
pub items_alike : (xs : List EntangledItem)
    → separated (sign symbols.Comma) entangled_item_spelling xs
    ≡ separated (sign symbols.Comma) operand_spelling (heads xs)
    ++ (binding_spelling (first_bound xs) ++ each_behind (sign symbols.Comma) entangled_item_spelling (others xs))
unfolding behind heads_behind
items_alike [] = refl
items_alike (x ∷ xs) = item_alike x.term x.binds xs (rest_alike x.binds xs)
