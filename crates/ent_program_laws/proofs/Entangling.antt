-- Entangled SELECT that is read from tokens of whole characters.
use Rattle.std.proofs.Common.{◌-◌, List, [], ◌∷◌, ◌++◌, length, Option, Some, None}
use Rattle.std.specs.List.{AllByRecursion}
use Rattle.ent_text.specs.declared.keyword.Keyword.TheVariants as keywords
use Rattle.ent_text.specs.declared.token.TokenKind.TheVariants as kinds
use Rattle.ent_tree.specs.Places.{term_place}
use Rattle.ent_tree.specs.declared.limits.TheConstants.{MOST_PARTS}
use Rattle.ent_tree.specs.declared.operand.Identifier.{Identifier}
use Rattle.ent_tree.specs.declared.operand.Operand.{Operand}
use Rattle.ent_tree.specs.declared.operand.Operand.TheVariants as operand_forms
use Rattle.ent_tree.specs.declared.entangled.Term.{Term}
use Rattle.ent_tree.specs.declared.entangled.EntangledItem.{EntangledItem}
use Rattle.ent_tree.specs.declared.entangled.Tuple.{Tuple}
use Rattle.ent_tree.specs.declared.entangled.Entangled.{Entangled}
use Rattle.ent_text.specs.declared.divider.Divider.TheVariants.{Comma, And}
use Rattle.ent_sql.specs.Entangling as grammar
use Rattle.ent_sql.specs.Entangling.{term_of, items_of}
use Rattle.ent_print.specs.Lexeme.{Lexeme, Token}
use Rattle.ent_print.specs.Spelling.{binding_spelling, comma_list, comparison_symbol, condition_spelling}
use Rattle.ent_print.specs.Spelling.{entangled_item_spelling, entangled_spelling, in_parentheses, operand_spelling}
use Rattle.ent_print.specs.Spelling.{relation_spelling, select_spelling, term_spelling, tuple_spelling, where_clause}
use Rattle.ent_print.specs.Spelling.{word}
use Rattle.ent_lists.specs.Elements.{all_joined}
use Rattle.ent_program_laws.proofs.Carrying.{Carries, carry_behind, carry_either, carry_give, carry_listed}
use Rattle.ent_program_laws.proofs.Carrying.{carry_more, carry_so, carry_then}
use Rattle.ent_program_laws.proofs.Literals.{AreWhole, IsWhole, both_whole, brackets_whole, carry_term, clause_whole}
use Rattle.ent_program_laws.proofs.Literals.{commas_whole, sides_whole}
use Rattle.ent_program_laws.proofs.CharacterSelects.{carry_select}

-- ---- items

binding_whole : (binds : Option Identifier) → AreWhole (binding_spelling binds)
binding_whole None = tt
binding_whole (Some variable) = (tt, (tt, tt))

item_whole : (term : Term) (binds : Option Identifier) → IsWhole term_spelling term
    → IsWhole entangled_item_spelling (record { term = term; binds = binds })
item_whole term binds h = both_whole (term_spelling term) (binding_spelling binds) h (binding_whole binds)

carry_entangled_item : Carries grammar.entangled_item (IsWhole entangled_item_spelling)
unfolding grammar.entangled_item
carry_entangled_item = carry_then carry_term (λ t h. carry_behind (λ binds. carry_give (item_whole t binds h)))

as_term : (x : Operand) → IsWhole operand_spelling x → IsWhole term_spelling (term_of x)
as_term (operand_forms.Value v) h = h
as_term (operand_forms.Column c) h = (tt, tt)

abbrev pub AreItemsWhole : List EntangledItem → Type 0
AreItemsWhole items = AllByRecursion (IsWhole entangled_item_spelling) items

items_whole : (xs : List Operand) (binds : Option Identifier) → AllByRecursion (IsWhole operand_spelling) xs
    → AreItemsWhole (items_of xs binds)
items_whole [] binds hs = tt
items_whole (x ∷ []) binds hs = (item_whole (term_of x) binds (as_term x hs.0), tt)
items_whole (x ∷ y ∷ xs) binds hs =
    (item_whole (term_of x) None (as_term x hs.0), items_whole (y ∷ xs) binds hs.1)

pub carry_entangled_items : (xs : List Operand) → AllByRecursion (IsWhole operand_spelling) xs
    → Carries (grammar.entangled_items xs) AreItemsWhole
unfolding grammar.entangled_items
carry_entangled_items xs hs =
    carry_either
    (carry_behind (λ place. carry_behind
    (λ v. carry_then (carry_more (MOST_PARTS - length (items_of xs (Some v))) Comma carry_entangled_item)
    (λ others k. carry_give
    (all_joined (IsWhole entangled_item_spelling) (items_of xs (Some v)) others (items_whole xs (Some v) hs) k)))))
    (carry_give (items_whole xs None hs))

-- ---- conditions

abbrev AreTermsWhole : Tuple → Type 0
AreTermsWhole tuple = AllByRecursion (IsWhole term_spelling) tuple.terms

tuple_whole : (tuple : Tuple) (rest : List Lexeme) → AreTermsWhole tuple → AreWhole rest
    → AreWhole (tuple_spelling tuple ++ word keywords.In ∷ rest)
tuple_whole tuple rest hs ks =
    both_whole (tuple_spelling tuple) (word keywords.In ∷ rest)
    (brackets_whole (comma_list term_spelling tuple.terms) (commas_whole term_spelling tuple.terms hs)) (tt, ks)

carry_membership : (tuple : Tuple) → AreTermsWhole tuple
    → Carries (grammar.membership tuple) (IsWhole condition_spelling)
unfolding grammar.membership
carry_membership tuple h =
    carry_behind (λ place. carry_either
    (carry_behind (λ place. carry_then carry_select
    (λ s k. carry_behind (λ place. carry_give
    (tuple_whole tuple (in_parentheses (select_spelling s)) h (brackets_whole (select_spelling s) k))))))
    (carry_behind (λ r. carry_give (tuple_whole tuple (relation_spelling r) h (tt, (tt, tt))))))

carry_bracketed : Carries grammar.bracketed (IsWhole condition_spelling)
unfolding grammar.bracketed
carry_bracketed =
    carry_behind (λ place. carry_then (carry_listed MOST_PARTS Comma carry_term)
    (λ members h. carry_behind (λ at. carry_membership (record { place = place; terms = members }) h)))

carry_condition_behind : (first : Term) → IsWhole term_spelling first
    → Carries (grammar.condition_behind first) (IsWhole condition_spelling)
unfolding grammar.condition_behind grammar.comparison_behind grammar.tuple_behind
carry_condition_behind first h =
    carry_either
    (carry_behind (λ compares. carry_then carry_term
    (λ right k. carry_give
    (sides_whole (term_spelling first) (term_spelling right) (comparison_symbol compares) h k))))
    (carry_then (carry_more (MOST_PARTS - 1) Comma carry_term)
    (λ others k. carry_membership (record { place = term_place first; terms = first ∷ others }) (h, k)))

carry_condition : Carries grammar.condition (IsWhole condition_spelling)
unfolding grammar.condition
carry_condition = carry_either carry_bracketed (carry_then carry_term carry_condition_behind)

carry_conditions : Carries grammar.entangled_conditions (λ found. AreWhole (where_clause condition_spelling found))
unfolding grammar.entangled_conditions
carry_conditions =
    carry_either
    (carry_behind (λ place. carry_so (λ found h. clause_whole condition_spelling found h)
    (carry_listed MOST_PARTS And carry_condition)))
    (carry_give tt)

-- ---- the whole

relations_whole : (relations : List Identifier) → AllByRecursion (IsWhole relation_spelling) relations
relations_whole [] = tt
relations_whole (relation ∷ relations) = ((tt, (tt, tt)), relations_whole relations)

entangled_whole : (e : Entangled) → AreItemsWhole e.items → AreWhole (where_clause condition_spelling e.conditions)
    → IsWhole entangled_spelling e
entangled_whole e items conditions =
    let choose = word keywords.Choose ∷ Token (kinds.Number 1) ∷ [] in
    let found = where_clause condition_spelling e.conditions ++ choose in
    let into = comma_list relation_spelling e.relations ++ found in (
      tt,
      both_whole (comma_list entangled_item_spelling e.items) (word keywords.Into ∷ into)
          (commas_whole entangled_item_spelling e.items items) (
            tt,
            both_whole (comma_list relation_spelling e.relations) found
                (commas_whole relation_spelling e.relations (relations_whole e.relations))
                (both_whole (where_clause condition_spelling e.conditions) choose conditions (tt, (tt, tt))),
          ),
    )

pub carry_entangled_behind : (items : List EntangledItem) → AreItemsWhole items
    → Carries (grammar.entangled_behind items) (IsWhole entangled_spelling)
unfolding grammar.entangled_behind
carry_entangled_behind items h =
    carry_behind (λ place. carry_behind
    (λ relations. carry_then carry_conditions
    (λ conditions l. carry_behind (λ at. carry_behind (λ chosen. carry_give
    (entangled_whole
    (record { items = items; place = place; relations = relations; conditions = conditions }) h l))))))
