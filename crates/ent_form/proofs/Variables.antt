-- The written variables of a statement, each where it comes first.
use Rattle.std.proofs.Common.{◌≡◌, Bool, true, false, not, ◌&&◌, ◌||◌, cond, List, [], ◌∷◌, ◌++◌, map, refl, sym, ap}
use Rattle.std.proofs.Common.{◌∙◌}
use Rattle.std.specs.Prelude.{if◌then◌else◌}
use Rattle.std.specs.List.{filter, flat_map}
use Rattle.std.proofs.lemmas.List.{append-nil, append_assoc}
use Rattle.std.proofs.lemmas.Grind.{flat_map-append}
use Rattle.ent_tree.specs.declared.entangled.Condition.{Condition}
use Rattle.ent_tree.specs.declared.entangled.Condition.TheVariants as conditions
use Rattle.ent_tree.specs.declared.entangled.Entangled.{Entangled}
use Rattle.ent_tree.specs.declared.entangled.EntangledItem.{EntangledItem}
use Rattle.ent_tree.specs.declared.entangled.Term.{Term}
use Rattle.ent_tree.specs.declared.entangled.Term.TheVariants as terms
use Rattle.ent_semantics.specs.Database.{Name, same_name, is_among}
use Rattle.ent_semantics.specs.Entangled.{first_of_each, term_variables, condition_terms, head_terms, written_variables}
use Rattle.ent_semantics.specs.Names.{equal_names}
use Rattle.ent_form.specs.Entangled.{noted, noted_terms, noted_items, noted_condition, noted_conditions, variables_of}

-- names one after the other, each where it isn't there
abbrev added : List Name → List Name → List Name
added names [] = names
added names (name ∷ more) = added (if is_among names name then names else (names ++ name ∷ [])) more

added_behind : (names first second : List Name) → added names (first ++ second) ≡ added (added names first) second
added_behind names [] second = refl
added_behind names (name ∷ first) second =
    added_behind (if is_among names name then names else (names ++ name ∷ [])) first second

-- ---- what was noted

one_noted : (names : List Name) (term : Term) → noted names term ≡ added names (term_variables term)
one_noted names (terms.Value value) = refl
one_noted names (terms.Variable variable) = refl

terms_noted : (names : List Name) (all : List Term) → noted_terms names all ≡ added names (flat_map term_variables all)
terms_noted names [] = refl
terms_noted names (term ∷ more) =
    terms_noted (noted names term) more
    ∙ ap (λ before. added before (flat_map term_variables more)) (one_noted names term)
    ∙ sym (added_behind names (term_variables term) (flat_map term_variables more))

abbrev terms_of : List EntangledItem → List Term
terms_of items = map (λ item. item.term) items

items_noted : (names : List Name) (items : List EntangledItem)
    → noted_items names items ≡ added names (flat_map term_variables (terms_of items))
items_noted names [] = refl
items_noted names (item ∷ more) =
    items_noted (noted names item.term) more
    ∙ ap (λ before. added before (flat_map term_variables (terms_of more))) (one_noted names item.term)
    ∙ sym (added_behind names (term_variables item.term) (flat_map term_variables (terms_of more)))

condition_noted : (names : List Name) (condition : Condition)
    → noted_condition names condition ≡ added names (flat_map term_variables (condition_terms condition))
condition_noted names (conditions.InSelect tuple select) = terms_noted names tuple.terms
condition_noted names (conditions.InAnswer tuple relation) = terms_noted names tuple.terms
condition_noted names (conditions.Test test) = terms_noted names (test.left ∷ test.right ∷ [])

conditions_noted : (names : List Name) (all : List Condition)
    → noted_conditions names all ≡ added names (flat_map term_variables (flat_map condition_terms all))
conditions_noted names [] = refl
conditions_noted names (condition ∷ more) =
    let here = condition_terms condition in
    let rest = flat_map condition_terms more in
    conditions_noted (noted_condition names condition) more
    ∙ ap (λ before. added before (flat_map term_variables rest)) (condition_noted names condition)
    ∙ sym (added_behind names (flat_map term_variables here) (flat_map term_variables rest))
    ∙ ap (added names) (sym (flat_map-append term_variables here rest))

-- ---- each where it comes first

filter_twice : (first second both : Name → Bool) (names : List Name)
    → ((name : Name) → both name ≡ (second name && first name))
    → filter first (filter second names) ≡ filter both names
filter_twice first second both [] each = refl
filter_twice first second both (name ∷ names) each =
    let rest = filter_twice first second both names each in
    elim (second name) as (λ b. filter first (cond b (name ∷ filter second names) (filter second names))
    ≡ cond (b && first name) (name ∷ filter both names) (filter both names)) [
      | true ↦ ap (λ xs. cond (first name) (name ∷ xs) xs) rest
      | false ↦ rest
    ]
    ∙ ap (λ b. cond b (name ∷ filter both names) (filter both names)) (sym (each name))

pub among_behind : (names : List Name) (last name : Name)
    → is_among (names ++ last ∷ []) name ≡ (is_among names name || same_name last name)
among_behind [] last name = or_false (same_name last name)
  where
    or_false : (b : Bool) → (b || false) ≡ b
    or_false true = refl
    or_false false = refl
among_behind (first ∷ names) last name =
    ap (λ b. same_name first name || b) (among_behind names last name)
    ∙ or_or (same_name first name) (is_among names name) (same_name last name)
  where
    or_or : (a b c : Bool) → (a || (b || c)) ≡ ((a || b) || c)
    or_or true b c = refl
    or_or false b c = refl

-- a name that is among the names stays out, with all that are the same
known_out : (names : List Name) (known name : Name) → is_among names known ≡ true
    → not (is_among names name) ≡ (not (same_name known name) && not (is_among names name))
known_out names known name h = by (same_name known name) refl
  where
    by : (b : Bool) → same_name known name ≡ b → not (is_among names name) ≡ (not b && not (is_among names name))
    by true e = ap (λ x. not (is_among names x)) (sym (equal_names known name e)) ∙ ap not h
    by false e = refl

new_out : (a b : Bool) → not (a || b) ≡ (not b && not a)
new_out true true = refl
new_out true false = refl
new_out false true = refl
new_out false false = refl

added_firsts : (names more : List Name)
    → added names more ≡ names ++ filter (λ name. not (is_among names name)) (first_of_each more)
added_firsts names [] = sym (append-nil names)
added_firsts names (name ∷ more) =
    by (is_among names name) refl (added_firsts names more) (added_firsts (names ++ name ∷ []) more)
  where
    out : Name → Bool
    out other = not (is_among names other)

    others : List Name
    others = filter (λ other. not (same_name name other)) (first_of_each more)

    by : (b : Bool) → is_among names name ≡ b
        → added names more ≡ names ++ filter out (first_of_each more)
        → added (names ++ name ∷ []) more
        ≡ (names ++ name ∷ []) ++ filter (λ other. not (is_among (names ++ name ∷ []) other)) (first_of_each more)
        → added (if b then names else (names ++ name ∷ [])) more
        ≡ names ++ cond (not b) (name ∷ filter out others) (filter out others)
    by true e known fresh =
        known
        ∙ ap (λ xs. names ++ xs)
        (sym (filter_twice out (λ other. not (same_name name other)) out (first_of_each more)
        (λ other. known_out names name other e)))
    by false e known fresh =
        fresh
        ∙ append_assoc names (name ∷ []) _
        ∙ ap (λ xs. names ++ name ∷ xs)
        (sym (filter_twice out (λ other. not (same_name name other))
        (λ other. not (is_among (names ++ name ∷ []) other)) (first_of_each more)
        (λ other. ap not (among_behind names name other) ∙ new_out (is_among names other) (same_name name other))))

all_kept : (names : List Name) → filter (λ name. not (is_among [] name)) names ≡ names
all_kept [] = refl
all_kept (name ∷ names) = ap (λ xs. name ∷ xs) (all_kept names)

pub variables_written : (entangled : Entangled) → variables_of entangled ≡ written_variables entangled
variables_written entangled =
    let here = head_terms entangled in
    let rest = flat_map condition_terms entangled.conditions in
    conditions_noted (noted_items [] entangled.items) entangled.conditions
    ∙ ap (λ before. added before (flat_map term_variables rest)) (items_noted [] entangled.items)
    ∙ sym (added_behind [] (flat_map term_variables here) (flat_map term_variables rest))
    ∙ ap (added []) (sym (flat_map-append term_variables here rest))
    ∙ added_firsts [] (flat_map term_variables (here ++ rest))
    ∙ all_kept (first_of_each (flat_map term_variables (here ++ rest)))
