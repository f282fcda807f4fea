-- What a tree is printed as hangs on no place.
use Rattle.std.proofs.Common.{◌≡◌, List, [], ◌∷◌, ◌++◌, map, refl, ap, ◌∙◌, None, Some}
use Rattle.std.specs.Option.{option_map}
use Rattle.std.specs.List.{flat_map}
use Rattle.ent_text.specs.declared.keyword.Keyword.TheVariants as keywords
use Rattle.ent_text.specs.declared.symbol.Symbol.TheVariants as symbols
use Rattle.ent_tree.specs.declared.operand.ValueSpecification.TheVariants as specifications
use Rattle.ent_tree.specs.declared.operand.Operand.TheVariants as operands
use Rattle.ent_tree.specs.declared.operand.Expression.TheVariants.{Single, Sum, Difference}
use Rattle.ent_tree.specs.declared.select.Items.TheVariants as items
use Rattle.ent_tree.specs.declared.entangled.Term.TheVariants as terms
use Rattle.ent_tree.specs.declared.entangled.Condition.TheVariants as conditions
use Rattle.ent_tree.specs.declared.script.Statement.TheVariants as statements
use Rattle.ent_tree.specs.Places.{unplaced_identifier, unplaced_specification, unplaced_operand}
use Rattle.ent_tree.specs.Places.{unplaced_expression, unplaced_test, unplaced_source, unplaced_items, unplaced_tests}
use Rattle.ent_tree.specs.Places.{unplaced_select, unplaced_term, unplaced_item, unplaced_tuple, unplaced_condition}
use Rattle.ent_tree.specs.Places.{unplaced_entangled, unplaced_assignment}
use Rattle.ent_tree.specs.Places.{unplaced_statement, unplaced_script}
use Rattle.ent_print.specs.Lexeme.{Lexeme}
use Rattle.ent_print.specs.Spelling.{in_parentheses}
use Rattle.ent_print.specs.Spelling.{word, sign, each_behind, separated, where_clause, specification_spelling}
use Rattle.ent_print.specs.Spelling.{qualifier_spelling, operand_spelling, expression_spelling}
use Rattle.ent_print.specs.Spelling.{test_spelling, alias_spelling, source_spelling, items_spelling, tests_clause}
use Rattle.ent_print.specs.Spelling.{select_spelling, term_spelling, binding_spelling, entangled_item_spelling}
use Rattle.ent_print.specs.Spelling.{tuple_spelling, relation_spelling, condition_spelling, entangled_spelling}
use Rattle.ent_print.specs.Spelling.{assignment_spelling}
use Rattle.ent_print.specs.Spelling.{statement_spelling, line_spelling, script_spelling}

-- the spelling of a thing is that of the thing without its places
abbrev HidesPlaces : {A : Type 0} → (A → List Lexeme) → (A → A) → Type 0
HidesPlaces {A = A} spelling unplaced = (x : A) → spelling (unplaced x) ≡ spelling x

-- ---- lists

each_behind_hides : {A : Type 0} (separator : Lexeme) (spelling : A → List Lexeme) (unplaced : A → A)
    → HidesPlaces spelling unplaced → HidesPlaces (each_behind separator spelling) (map unplaced)
each_behind_hides separator spelling unplaced hides [] = refl
each_behind_hides separator spelling unplaced hides (x ∷ xs) =
    ap (λ (l : List Lexeme). separator ∷ (l ++ each_behind separator spelling (map unplaced xs))) (hides x)
    ∙ ap (λ (l : List Lexeme). separator ∷ (spelling x ++ l)) (each_behind_hides separator spelling unplaced hides xs)

separated_hides : {A : Type 0} (separator : Lexeme) (spelling : A → List Lexeme) (unplaced : A → A)
    → HidesPlaces spelling unplaced → HidesPlaces (separated separator spelling) (map unplaced)
separated_hides separator spelling unplaced hides [] = refl
separated_hides separator spelling unplaced hides (x ∷ xs) =
    ap (λ (l : List Lexeme). l ++ each_behind separator spelling (map unplaced xs)) (hides x)
    ∙ ap (λ (l : List Lexeme). spelling x ++ l) (each_behind_hides separator spelling unplaced hides xs)

where_hides : {A : Type 0} (spelling : A → List Lexeme) (unplaced : A → A) → HidesPlaces spelling unplaced
    → HidesPlaces (where_clause spelling) (map unplaced)
where_hides spelling unplaced hides [] = refl
where_hides spelling unplaced hides (x ∷ xs) =
    ap (λ (l : List Lexeme). word keywords.Where ∷ l)
    (separated_hides (word keywords.And) spelling unplaced hides (x ∷ xs))

lines_hide : {A : Type 0} (spelling : A → List Lexeme) (unplaced : A → A) → HidesPlaces spelling unplaced
    → HidesPlaces (flat_map spelling) (map unplaced)
lines_hide spelling unplaced hides [] = refl
lines_hide spelling unplaced hides (x ∷ xs) =
    ap (λ (l : List Lexeme). l ++ flat_map spelling (map unplaced xs)) (hides x)
    ∙ ap (λ (l : List Lexeme). spelling x ++ l) (lines_hide spelling unplaced hides xs)

-- ---- operands

specification_hides : HidesPlaces specification_spelling unplaced_specification
specification_hides (specifications.Literal literal) = refl
specification_hides (specifications.HostVariable variable) = refl

qualifier_hides : HidesPlaces qualifier_spelling (option_map unplaced_identifier)
qualifier_hides None = refl
qualifier_hides (Some qualifier) = refl

operand_hides : HidesPlaces operand_spelling unplaced_operand
operand_hides (operands.Value value) = specification_hides value
operand_hides (operands.Column reference) = rw (qualifier_hides reference.qualifier) refl

expression_hides : {A : Type 0} (spelling : A → List Lexeme) (unplaced : A → A) → HidesPlaces spelling unplaced
    → HidesPlaces (expression_spelling spelling) (unplaced_expression unplaced)
expression_hides spelling unplaced hides (Single term) = hides term
expression_hides spelling unplaced hides (Sum left right) = rw (hides left, hides right) refl
expression_hides spelling unplaced hides (Difference left right) = rw (hides left, hides right) refl

test_hides : {A : Type 0} (spelling : A → List Lexeme) (unplaced : A → A) → HidesPlaces spelling unplaced
    → HidesPlaces (test_spelling spelling) (unplaced_test unplaced)
test_hides spelling unplaced hides test = rw (hides test.left, hides test.right) refl

-- ---- SELECT

alias_hides : HidesPlaces alias_spelling (option_map unplaced_identifier)
alias_hides None = refl
alias_hides (Some alias) = refl

source_hides : HidesPlaces source_spelling unplaced_source
source_hides source = rw (alias_hides source.alias) refl

items_hide : HidesPlaces items_spelling unplaced_items
items_hide items.All = refl
items_hide (items.Listed listed) =
    separated_hides (sign symbols.Comma) operand_spelling unplaced_operand operand_hides listed

tests_hide : HidesPlaces tests_clause unplaced_tests
tests_hide = where_hides (test_spelling operand_spelling) (unplaced_test unplaced_operand)
    (test_hides operand_spelling unplaced_operand operand_hides)

select_hides : HidesPlaces select_spelling unplaced_select
select_hides select =
    let listed = items_hide select.items in
    let sources = separated_hides (sign symbols.Comma) source_spelling unplaced_source source_hides select.sources in
    let tests = tests_hide select.tests in
    rw (listed, sources, tests) refl

-- ---- entangled SELECT

term_hides : HidesPlaces term_spelling unplaced_term
term_hides (terms.Value value) = specification_hides value
term_hides (terms.Variable variable) = refl

binding_hides : HidesPlaces binding_spelling (option_map unplaced_identifier)
binding_hides None = refl
binding_hides (Some variable) = refl

item_hides : HidesPlaces entangled_item_spelling unplaced_item
item_hides item = rw (term_hides item.term, binding_hides item.binds) refl

tuple_hides : HidesPlaces tuple_spelling unplaced_tuple
tuple_hides tuple =
    let terms = separated_hides (sign symbols.Comma) term_spelling unplaced_term term_hides tuple.terms in rw terms refl

relation_hides : HidesPlaces relation_spelling unplaced_identifier
relation_hides relation = refl

condition_hides : HidesPlaces condition_spelling unplaced_condition
condition_hides (conditions.InSelect tuple select) =
    ap (λ (l : List Lexeme). l ++ word keywords.In ∷ in_parentheses (select_spelling (unplaced_select select)))
    (tuple_hides tuple)
    ∙ ap (λ (l : List Lexeme). tuple_spelling tuple ++ word keywords.In ∷ in_parentheses l) (select_hides select)
condition_hides (conditions.InAnswer tuple relation) =
    ap (λ (l : List Lexeme). l ++ word keywords.In ∷ relation_spelling relation) (tuple_hides tuple)
condition_hides (conditions.Test test) = test_hides term_spelling unplaced_term term_hides test

entangled_hides : HidesPlaces entangled_spelling unplaced_entangled
entangled_hides entangled =
    let listed = separated_hides (sign symbols.Comma) entangled_item_spelling unplaced_item item_hides
    entangled.items in
    let relations =
    separated_hides (sign symbols.Comma) relation_spelling unplaced_identifier relation_hides entangled.relations in
    let conditions = where_hides condition_spelling unplaced_condition condition_hides entangled.conditions in
    rw (listed, relations, conditions) refl

-- ---- the other statements

assignment_hides : HidesPlaces assignment_spelling unplaced_assignment
assignment_hides assignment =
    rw (expression_hides operand_spelling unplaced_operand operand_hides assignment.expression) refl

statement_hides : HidesPlaces statement_spelling unplaced_statement
statement_hides (statements.Select select) = select_hides select
statement_hides (statements.Entangled entangled) = entangled_hides entangled
statement_hides (statements.Insert insert) =
    rw (separated_hides (sign symbols.Comma) specification_spelling unplaced_specification specification_hides
    insert.values) refl
statement_hides (statements.Delete delete) = rw (tests_hide delete.tests) refl
statement_hides (statements.Update update) =
    rw (
      separated_hides (sign symbols.Comma) assignment_spelling unplaced_assignment assignment_hides
          update.assignments,
      tests_hide update.tests,
    ) refl
statement_hides (statements.Set set) =
    rw (expression_hides specification_spelling unplaced_specification specification_hides set.expression) refl

-- ---- scripts

line_hides : HidesPlaces line_spelling unplaced_statement
line_hides statement = rw (statement_hides statement) refl

pub script_hides : HidesPlaces script_spelling unplaced_script
script_hides script = rw (lines_hide line_spelling unplaced_statement line_hides script.statements) refl
