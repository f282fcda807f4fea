-- Inside a statement no line ends.
use Rattle.std.proofs.Common.{List, [], ◌∷◌, ◌++◌, Option, None, Some, refl}
use Rattle.std.specs.Prelude.{pos, negsuc}
use Rattle.ent_text.specs.declared.keyword.Keyword.TheVariants as keywords
use Rattle.ent_text.specs.declared.symbol.Symbol.TheVariants as symbols
use Rattle.ent_value.specs.declared.value.Value.{Value}
use Rattle.ent_value.specs.declared.value.Value.TheVariants as values
use Rattle.ent_tree.specs.declared.operand.Comparison.{Comparison}
use Rattle.ent_tree.specs.declared.operand.Comparison.TheVariants as comparisons
use Rattle.ent_tree.specs.declared.operand.Identifier.{Identifier}
use Rattle.ent_tree.specs.declared.operand.ValueSpecification.TheVariants as specifications
use Rattle.ent_tree.specs.declared.operand.Operand.TheVariants as operands
use Rattle.ent_tree.specs.declared.operand.Expression.TheVariants.{Single, Sum, Difference}
use Rattle.ent_tree.specs.declared.select.Items.TheVariants as items
use Rattle.ent_tree.specs.declared.entangled.Term.TheVariants as terms
use Rattle.ent_tree.specs.declared.entangled.Condition.TheVariants as conditions
use Rattle.ent_tree.specs.declared.script.Statement.{Statement}
use Rattle.ent_tree.specs.declared.script.Statement.TheVariants as statements
use Rattle.ent_print.specs.Lexeme.{Lexeme}
use Rattle.ent_print.specs.Spelling.{word, sign, each_behind, separated, comma_list, where_clause, value_spelling}
use Rattle.ent_print.specs.Spelling.{specification_spelling, qualifier_spelling, operand_spelling}
use Rattle.ent_print.specs.Spelling.{expression_spelling, comparison_symbol, test_spelling, alias_spelling}
use Rattle.ent_print.specs.Spelling.{source_spelling, items_spelling, tests_clause, select_spelling, term_spelling}
use Rattle.ent_print.specs.Spelling.{binding_spelling, entangled_item_spelling, tuple_spelling, relation_spelling}
use Rattle.ent_print.specs.Spelling.{condition_spelling, entangled_spelling, assignment_spelling, statement_spelling}
use Rattle.ent_print.specs.Spelling.{in_parentheses}
use Rattle.ent_sql_laws.specs.Fits.{Each}
use Rattle.ent_sql_laws.proofs.Keeping.{each_append}
use Rattle.ent_history.proofs.InLine.{StaysInLine}

-- no line ends in what spells a thing
abbrev Stays : {A : Type 0} → (A → List Lexeme) → Type 0
Stays {A = A} spelling = (x : A) → Each StaysInLine (spelling x)

join : (xs ys : List Lexeme) → Each StaysInLine xs → Each StaysInLine ys → Each StaysInLine (xs ++ ys)
join = each_append StaysInLine

-- ---- lists

behind_stays : {A : Type 0} (separator : Lexeme) (spelling : A → List Lexeme) → StaysInLine separator → Stays spelling
    → Stays (each_behind separator spelling)
behind_stays separator spelling divides stays [] = tt
behind_stays separator spelling divides stays (x ∷ xs) = (
  divides,
  join (spelling x) (each_behind separator spelling xs) (stays x)
      (behind_stays separator spelling divides stays xs),
)

separated_stays : {A : Type 0} (separator : Lexeme) (spelling : A → List Lexeme) → StaysInLine separator
    → Stays spelling
    → Stays (separated separator spelling)
separated_stays separator spelling divides stays [] = tt
separated_stays separator spelling divides stays (x ∷ xs) =
    join (spelling x) (each_behind separator spelling xs) (stays x) (behind_stays separator spelling divides stays xs)

commas_stay : {A : Type 0} (spelling : A → List Lexeme) → Stays spelling → Stays (comma_list spelling)
commas_stay spelling stays = separated_stays (sign symbols.Comma) spelling refl stays

where_stays : {A : Type 0} (spelling : A → List Lexeme) → Stays spelling → Stays (where_clause spelling)
where_stays spelling stays [] = tt
where_stays spelling stays (x ∷ xs) = (refl, separated_stays (word keywords.And) spelling refl stays (x ∷ xs))

parentheses_stay : (xs : List Lexeme) → Each StaysInLine xs → Each StaysInLine (in_parentheses xs)
parentheses_stay xs h = (refl, join xs (sign symbols.Close ∷ []) h (refl, tt))

-- ---- operands

value_stays : (value : Value) → StaysInLine (value_spelling value)
value_stays (values.Int (pos n)) = refl
value_stays (values.Int (negsuc n)) = refl
value_stays (values.Text text) = refl

specification_stays : Stays specification_spelling
specification_stays (specifications.Literal literal) = (value_stays literal.value, tt)
specification_stays (specifications.HostVariable variable) = (refl, tt)

qualifier_stays : (qualifier : Option Identifier) → Each StaysInLine (qualifier_spelling qualifier)
qualifier_stays None = tt
qualifier_stays (Some qualifier) = (refl, (refl, tt))

operand_stays : Stays operand_spelling
operand_stays (operands.Value value) = specification_stays value
operand_stays (operands.Column reference) =
    join (qualifier_spelling reference.qualifier) _ (qualifier_stays reference.qualifier) (refl, tt)

expression_stays : {A : Type 0} (spelling : A → List Lexeme) → Stays spelling → Stays (expression_spelling spelling)
expression_stays spelling stays (Single term) = stays term
expression_stays spelling stays (Sum left right) = join (spelling left) _ (stays left) (refl, stays right)
expression_stays spelling stays (Difference left right) = join (spelling left) _ (stays left) (refl, stays right)

comparison_stays : (comparison : Comparison) → StaysInLine (sign (comparison_symbol comparison))
comparison_stays comparisons.Equal = refl
comparison_stays comparisons.NotEqual = refl
comparison_stays comparisons.Less = refl
comparison_stays comparisons.LessOrEqual = refl
comparison_stays comparisons.Greater = refl
comparison_stays comparisons.GreaterOrEqual = refl

test_stays : {A : Type 0} (spelling : A → List Lexeme) → Stays spelling → Stays (test_spelling spelling)
test_stays spelling stays test =
    join (spelling test.left) _ (stays test.left) (comparison_stays test.comparison, stays test.right)

tests_stay : Stays tests_clause
tests_stay = where_stays (test_spelling operand_spelling) (test_stays operand_spelling operand_stays)

-- ---- SELECT

alias_stays : (alias : Option Identifier) → Each StaysInLine (alias_spelling alias)
alias_stays None = tt
alias_stays (Some alias) = (refl, (refl, tt))

source_stays : Stays source_spelling
source_stays source = (refl, alias_stays source.alias)

items_stay : Stays items_spelling
items_stay items.All = (refl, tt)
items_stay (items.Listed listed) = commas_stay operand_spelling operand_stays listed

select_stays : Stays select_spelling
select_stays select = (
  refl,
  join (items_spelling select.items) _ (items_stay select.items) (
    refl,
    join (comma_list source_spelling select.sources) _ (commas_stay source_spelling source_stays select.sources)
        (tests_stay select.tests),
  ),
)

-- ---- entangled SELECT

term_stays : Stays term_spelling
term_stays (terms.Value value) = specification_stays value
term_stays (terms.Variable variable) = (refl, tt)

binding_stays : (binds : Option Identifier) → Each StaysInLine (binding_spelling binds)
binding_stays None = tt
binding_stays (Some variable) = (refl, (refl, tt))

item_stays : Stays entangled_item_spelling
item_stays item = join (term_spelling item.term) _ (term_stays item.term) (binding_stays item.binds)

tuple_stays : Stays tuple_spelling
tuple_stays tuple =
    parentheses_stay (comma_list term_spelling tuple.terms) (commas_stay term_spelling term_stays tuple.terms)

relation_stays : Stays relation_spelling
relation_stays relation = (refl, (refl, tt))

condition_stays : Stays condition_spelling
condition_stays (conditions.InSelect tuple select) =
    join (tuple_spelling tuple) _ (tuple_stays tuple)
    (refl, parentheses_stay (select_spelling select) (select_stays select))
condition_stays (conditions.InAnswer tuple relation) =
    join (tuple_spelling tuple) _ (tuple_stays tuple) (refl, relation_stays relation)
condition_stays (conditions.Test test) = test_stays term_spelling term_stays test

entangled_stays : Stays entangled_spelling
entangled_stays entangled = (
  refl,
  join (comma_list entangled_item_spelling entangled.items) _
      (commas_stay entangled_item_spelling item_stays entangled.items) (
        refl,
        join (comma_list relation_spelling entangled.relations) _
            (commas_stay relation_spelling relation_stays entangled.relations)
            (join (where_clause condition_spelling entangled.conditions) _
            (where_stays condition_spelling condition_stays entangled.conditions) (refl, (refl, tt))),
      ),
)

-- ---- the other statements

assignment_stays : Stays assignment_spelling
assignment_stays assignment =
    (refl, (refl, expression_stays operand_spelling operand_stays assignment.expression))

pub statement_stays : (statement : Statement) → Each StaysInLine (statement_spelling statement)
statement_stays (statements.Select select) = select_stays select
statement_stays (statements.Entangled entangled) = entangled_stays entangled
statement_stays (statements.Insert insert) = (
  refl,
  (
    refl,
    (
      refl,
      (
        refl,
        parentheses_stay (comma_list specification_spelling insert.values)
            (commas_stay specification_spelling specification_stays insert.values),
      ),
    ),
  ),
)
statement_stays (statements.Delete delete) = (refl, (refl, (refl, tests_stay delete.tests)))
statement_stays (statements.Update update) = (
  refl,
  (
    refl,
    (
      refl,
      join (comma_list assignment_spelling update.assignments) _
          (commas_stay assignment_spelling assignment_stays update.assignments) (tests_stay update.tests),
    ),
  ),
)
statement_stays (statements.Set set) =
    (refl, (refl, (refl, expression_stays specification_spelling specification_stays set.expression)))
