-- Entangled SELECT that is read keeps the limits and can be printed.
use Rattle.std.proofs.Common.{◌≡◌, ◌≤◌, ◌-◌, List, [], ◌∷◌, ◌++◌, length, arith, Option, Some, None}
use Rattle.std.proofs.lemmas.List.{length-append}
use Rattle.ent_text.specs.declared.keyword.Keyword.TheVariants as keywords
use Rattle.ent_text.specs.declared.token.TokenKind.TheVariants as kinds
use Rattle.ent_tree.specs.Places.{term_place}
use Rattle.ent_tree.specs.declared.limits.TheConstants.{MOST_PARTS}
use Rattle.ent_tree.specs.declared.operand.Identifier.{Identifier}
use Rattle.ent_tree.specs.declared.operand.Operand.{Operand}
use Rattle.ent_tree.specs.declared.operand.Operand.TheVariants as operand_forms
use Rattle.ent_tree.specs.declared.entangled.Term.{Term}
use Rattle.ent_tree.specs.declared.entangled.EntangledItem.{EntangledItem}
use Rattle.ent_tree.specs.declared.entangled.Tuple.{Tuple}
use Rattle.ent_tree.specs.declared.entangled.Condition.{Condition}
use Rattle.ent_tree.specs.declared.entangled.Entangled.{Entangled}
use Rattle.ent_text.specs.declared.divider.Divider.TheVariants.{Comma, And}
use Rattle.ent_sql.specs.Entangling as grammar
use Rattle.ent_sql.specs.Entangling.{term_of, unbound, items_of}
use Rattle.ent_print.specs.Lexeme.{Lexeme, Token}
use Rattle.ent_print.specs.Reading.{CanBeRead}
use Rattle.ent_print.specs.Spelling.{comma_list, where_clause, word, name, in_parentheses, qualifier_spelling}
use Rattle.ent_print.specs.Spelling.{operand_spelling, term_spelling, binding_spelling, entangled_item_spelling}
use Rattle.ent_print.specs.Spelling.{tuple_spelling, relation_spelling, condition_spelling, entangled_spelling}
use Rattle.ent_print.specs.Spelling.{select_spelling, comparison_symbol}
use Rattle.ent_sql_laws.specs.Fits.{Each, HasParts, ConditionFits, EntangledFits}
use Rattle.ent_sql_laws.proofs.Items.{items_length}
use Rattle.ent_sql_laws.proofs.Keeping.{Keeps, keep_give, keep_then, keep_behind, keep_either, keep_so, keep_listed}
use Rattle.ent_sql_laws.proofs.Keeping.{keep_more, each_append, each_back, each_implies}
use Rattle.ent_sql_laws.proofs.KeptOperands.{Printable, word_stands, number_stands, keep_identifier}
use Rattle.ent_sql_laws.proofs.KeptOperands.{keep_host_variable, keep_term, both_print}
use Rattle.ent_sql_laws.proofs.KeptSelects.{commas_print, where_prints, brackets_print, keep_select}

-- ---- items

keep_binding : Keeps grammar.binding (Printable binding_spelling)
unfolding grammar.binding
keep_binding =
    keep_either (keep_behind (λ place. keep_then keep_host_variable
    (λ v h. keep_give (word_stands keywords.As, (h, tt))))) (keep_give tt)

item_prints : (t : Term) (b : Option Identifier) → Printable term_spelling t → Printable binding_spelling b
    → Printable entangled_item_spelling (record { term = t; binds = b })
item_prints t b h k = each_append CanBeRead (term_spelling t) (binding_spelling b) h k

keep_entangled_item : Keeps grammar.entangled_item (Printable entangled_item_spelling)
unfolding grammar.entangled_item
keep_entangled_item =
    keep_then keep_term (λ t h. keep_then keep_binding (λ b k. keep_give (item_prints t b h k)))

as_term : (x : Operand) → Printable operand_spelling x → Printable term_spelling (term_of x)
as_term (operand_forms.Value v) h = h
as_term (operand_forms.Column c) h = each_back CanBeRead (qualifier_spelling c.qualifier) (name c.column ∷ []) h

items_print : (xs : List Operand) (b : Option Identifier) → Each (Printable operand_spelling) xs
    → Printable binding_spelling b → Each (Printable entangled_item_spelling) (items_of xs b)
items_print [] b hs k = tt
items_print (x ∷ []) b hs k = (item_prints (term_of x) b (as_term x hs.0) k, tt)
items_print (x ∷ y ∷ xs) b hs k =
    (item_prints (term_of x) None (as_term x hs.0) tt, items_print (y ∷ xs) b hs.1 k)

-- items of an entangled SELECT
abbrev pub ItemsKept : List EntangledItem → Type 0
ItemsKept items = Each (Printable entangled_item_spelling) items × HasParts items MOST_PARTS

pub keep_entangled_items : (xs : List Operand) → Each (Printable operand_spelling) xs → HasParts xs MOST_PARTS
    → Keeps (grammar.entangled_items xs) ItemsKept
unfolding grammar.entangled_items
keep_entangled_items xs hs has =
    keep_either
    (keep_behind (λ place. keep_then keep_host_variable
    (λ v h. let first = items_of xs (Some v) in
    let same : length first ≡ length xs = items_length xs (Some v) in
    keep_then (keep_more (MOST_PARTS - length first) Comma keep_entangled_item)
    (λ others k. keep_give (
      each_append (Printable entangled_item_spelling) first others
          (items_print xs (Some v) hs (word_stands keywords.As, (h, tt))) k.0,
      (omega (arith, length-append first others), omega (arith, length-append first others, k.1)),
    )))))
    (let same : length (items_of xs None) ≡ length xs = items_length xs None in
    keep_give (items_print xs None hs tt, (omega arith, omega arith)))

keep_relation : Keeps grammar.relation (Printable relation_spelling)
unfolding grammar.relation
keep_relation = keep_behind (λ place. keep_so (λ r h. (word_stands keywords.Answer, (h, tt))) keep_identifier)

-- ---- conditions

abbrev pub TupleKept : Tuple → Type 0
TupleKept tuple = HasParts tuple.terms MOST_PARTS × Each (Printable term_spelling) tuple.terms

abbrev pub ConditionKept : Condition → Type 0
ConditionKept condition = ConditionFits condition × Printable condition_spelling condition

tuple_prints : (tuple : Tuple) (rest : List Lexeme) → Each (Printable term_spelling) tuple.terms
    → Each CanBeRead rest → Each CanBeRead (tuple_spelling tuple ++ word keywords.In ∷ rest)
tuple_prints tuple rest hs ks =
    each_append CanBeRead (tuple_spelling tuple) (word keywords.In ∷ rest)
    (brackets_print (comma_list term_spelling tuple.terms) (commas_print term_spelling tuple.terms hs))
    (word_stands keywords.In, ks)

keep_membership : (tuple : Tuple) → TupleKept tuple → Keeps (grammar.membership tuple) ConditionKept
unfolding grammar.membership
keep_membership tuple h =
    keep_behind (λ place. keep_either
    (keep_behind (λ place. keep_then keep_select
    (λ s k. keep_behind (λ place. keep_give (
      (h.0, k.0),
      tuple_prints tuple (in_parentheses (select_spelling s)) h.1 (brackets_print (select_spelling s) k.1),
    )))))
    (keep_then keep_relation
    (λ r k. keep_give (h.0, tuple_prints tuple (relation_spelling r) h.1 k))))

keep_bracketed : Keeps grammar.bracketed ConditionKept
unfolding grammar.bracketed
keep_bracketed =
    keep_behind (λ place. keep_then (keep_listed MOST_PARTS Comma (omega arith) keep_term)
    (λ members h. keep_behind (λ at. keep_membership (record { place = place; terms = members }) (h.1, h.0))))

keep_condition_behind : (first : Term) → Printable term_spelling first
    → Keeps (grammar.condition_behind first) ConditionKept
unfolding grammar.condition_behind grammar.comparison_behind grammar.tuple_behind
keep_condition_behind first h =
    keep_either
    (keep_behind (λ compares. keep_then keep_term
    (λ right k. keep_give (
      tt,
      both_print (term_spelling first) (term_spelling right) (comparison_symbol compares) h
          k,
    ))))
    (keep_then (keep_more (MOST_PARTS - 1) Comma keep_term)
    (λ others k. keep_membership (record { place = term_place first; terms = first ∷ others })
    ((omega arith, omega (arith, k.1)), (h, k.0))))

keep_condition : Keeps grammar.condition ConditionKept
unfolding grammar.condition
keep_condition = keep_either keep_bracketed (keep_then keep_term keep_condition_behind)

-- a few conditions that fit, whose clause can be printed
abbrev pub ConditionsKept : List Condition → Type 0
ConditionsKept cs =
    (length cs ≤ MOST_PARTS) × (Each ConditionFits cs × Each CanBeRead (where_clause condition_spelling cs))

keep_conditions : Keeps grammar.entangled_conditions ConditionsKept
unfolding grammar.entangled_conditions
keep_conditions =
    keep_either
    (keep_behind (λ place. keep_so
    (λ cs h. (
      h.1.1,
      (
        each_implies ConditionKept ConditionFits (λ c k. k.0) cs h.0,
        where_prints condition_spelling cs
            (each_implies ConditionKept (Printable condition_spelling) (λ c k. k.1) cs h.0),
      ),
    ))
    (keep_listed MOST_PARTS And (omega arith) keep_condition)))
    (keep_give (omega arith, (tt, tt)))

-- ---- the whole

abbrev pub EntangledKept : Entangled → Type 0
EntangledKept entangled = EntangledFits entangled × Printable entangled_spelling entangled

entangled_prints : (e : Entangled) → Each (Printable entangled_item_spelling) e.items
    → Each (Printable relation_spelling) e.relations → Each CanBeRead (where_clause condition_spelling e.conditions)
    → Printable entangled_spelling e
entangled_prints e items relations conditions =
    let choose = word keywords.Choose ∷ Token (kinds.Number 1) ∷ [] in
    let found = where_clause condition_spelling e.conditions ++ choose in
    let into = comma_list relation_spelling e.relations ++ found in (
      word_stands keywords.Select,
      each_append CanBeRead (comma_list entangled_item_spelling e.items) (word keywords.Into ∷ into)
          (commas_print entangled_item_spelling e.items items) (
            word_stands keywords.Into,
            each_append CanBeRead (comma_list relation_spelling e.relations) found
                (commas_print relation_spelling e.relations relations)
                (each_append CanBeRead (where_clause condition_spelling e.conditions) choose conditions
                (word_stands keywords.Choose, (number_stands 1 (omega arith), tt))),
          ),
    )

pub keep_entangled_behind : (items : List EntangledItem) → ItemsKept items
    → Keeps (grammar.entangled_behind items) EntangledKept
unfolding grammar.entangled_behind
keep_entangled_behind items h =
    keep_behind (λ place. keep_then (keep_listed MOST_PARTS Comma (omega arith) keep_relation)
    (λ relations k. keep_then keep_conditions
    (λ conditions l. keep_behind (λ at. keep_behind (λ chosen. keep_give (
      (h.1, k.1, l.0, l.1.0),
      entangled_prints
          (record { items = items; place = place; relations = relations; conditions = conditions }) h.0 k.0 l.1.1,
    ))))))
