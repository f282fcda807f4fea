-- The lexemes that spell each part of a script, from left to right. Places are no part of them.
use Rattle.std.specs.Prelude.{pos, negsuc, suc, List, [], ◌∷◌, ◌++◌, Option, Some, None}
use Rattle.std.specs.List.{flat_map}
use Rattle.ent_value.specs.declared.value.Value.{Value}
use Rattle.ent_value.specs.declared.value.Value.TheVariants as values
use Rattle.ent_text.specs.declared.keyword.Keyword.{Keyword}
use Rattle.ent_text.specs.declared.keyword.Keyword.TheVariants as keywords
use Rattle.ent_text.specs.declared.symbol.Symbol.{Symbol}
use Rattle.ent_text.specs.declared.symbol.Symbol.TheVariants as symbols
use Rattle.ent_text.specs.declared.token.TokenKind.TheVariants.{Word, Name, HostVariable, Number, Literal, Sign}
use Rattle.ent_tree.specs.declared.operand.Comparison.{Comparison}
use Rattle.ent_tree.specs.declared.operand.Comparison.TheVariants as comparisons
use Rattle.ent_tree.specs.declared.operand.Identifier.{Identifier}
use Rattle.ent_tree.specs.declared.operand.ValueSpecification.{ValueSpecification}
use Rattle.ent_tree.specs.declared.operand.ValueSpecification.TheVariants as specifications
use Rattle.ent_tree.specs.declared.operand.ColumnReference.{ColumnReference}
use Rattle.ent_tree.specs.declared.operand.Operand.{Operand}
use Rattle.ent_tree.specs.declared.operand.Operand.TheVariants as operands
use Rattle.ent_tree.specs.declared.operand.Expression.{Expression}
use Rattle.ent_tree.specs.declared.operand.Expression.TheVariants.{Single, Sum, Difference}
use Rattle.ent_tree.specs.declared.operand.Test.{Test}
use Rattle.ent_tree.specs.declared.select.Source.{Source}
use Rattle.ent_tree.specs.declared.select.Items.{Items}
use Rattle.ent_tree.specs.declared.select.Items.TheVariants as items
use Rattle.ent_tree.specs.declared.select.Select.{Select}
use Rattle.ent_tree.specs.declared.entangled.Term.{Term}
use Rattle.ent_tree.specs.declared.entangled.Term.TheVariants as terms
use Rattle.ent_tree.specs.declared.entangled.EntangledItem.{EntangledItem}
use Rattle.ent_tree.specs.declared.entangled.Tuple.{Tuple}
use Rattle.ent_tree.specs.declared.entangled.Condition.{Condition}
use Rattle.ent_tree.specs.declared.entangled.Condition.TheVariants as conditions
use Rattle.ent_tree.specs.declared.entangled.Entangled.{Entangled}
use Rattle.ent_tree.specs.declared.statement.Insert.{Insert}
use Rattle.ent_tree.specs.declared.statement.Delete.{Delete}
use Rattle.ent_tree.specs.declared.statement.Assignment.{Assignment}
use Rattle.ent_tree.specs.declared.statement.Update.{Update}
use Rattle.ent_tree.specs.declared.statement.Set.{Set}
use Rattle.ent_tree.specs.declared.script.Statement.{Statement}
use Rattle.ent_tree.specs.declared.script.Statement.TheVariants as statements
use Rattle.ent_tree.specs.declared.script.End.{End}
use Rattle.ent_tree.specs.declared.script.End.TheVariants as ends
use Rattle.ent_tree.specs.declared.script.Script.{Script}
use Rattle.ent_print.specs.Lexeme.{Lexeme, Token, Negative}

abbrev pub word : Keyword → Lexeme
word keyword = Token (Word keyword)

abbrev pub sign : Symbol → Lexeme
sign symbol = Token (Sign symbol)

abbrev pub name : Identifier → Lexeme
name identifier = Token (Name identifier.name)

abbrev pub host_variable : Identifier → Lexeme
host_variable identifier = Token (HostVariable identifier.name)

-- ---- lists

-- things, each behind a lexeme
abbrev pub each_behind : {A : Type 0} → Lexeme → (A → List Lexeme) → List A → List Lexeme
each_behind separator spelling [] = []
each_behind separator spelling (thing ∷ more) = separator ∷ (spelling thing ++ each_behind separator spelling more)

-- things with a lexeme between two of them
abbrev pub separated : {A : Type 0} → Lexeme → (A → List Lexeme) → List A → List Lexeme
separated separator spelling [] = []
separated separator spelling (first ∷ more) = spelling first ++ each_behind separator spelling more

abbrev pub comma_list : {A : Type 0} → (A → List Lexeme) → List A → List Lexeme
comma_list = separated (sign symbols.Comma)

abbrev pub in_parentheses : List Lexeme → List Lexeme
in_parentheses lexemes = sign symbols.Open ∷ (lexemes ++ sign symbols.Close ∷ [])

-- nothing where there is no condition
abbrev pub where_clause : {A : Type 0} → (A → List Lexeme) → List A → List Lexeme
where_clause spelling [] = []
where_clause spelling (first ∷ more) = word keywords.Where ∷ separated (word keywords.And) spelling (first ∷ more)

-- ---- operands

abbrev pub value_spelling : Value → Lexeme
value_spelling (values.Int (pos n)) = Token (Number n)
value_spelling (values.Int (negsuc n)) = Negative (suc n)
value_spelling (values.Text text) = Token (Literal text)

abbrev pub specification_spelling : ValueSpecification → List Lexeme
specification_spelling (specifications.Literal literal) = value_spelling literal.value ∷ []
specification_spelling (specifications.HostVariable variable) = host_variable variable ∷ []

abbrev pub qualifier_spelling : Option Identifier → List Lexeme
qualifier_spelling None = []
qualifier_spelling (Some qualifier) = name qualifier ∷ sign symbols.Dot ∷ []

abbrev pub column_spelling : ColumnReference → List Lexeme
column_spelling reference = qualifier_spelling reference.qualifier ++ name reference.column ∷ []

abbrev pub operand_spelling : Operand → List Lexeme
operand_spelling (operands.Value value) = specification_spelling value
operand_spelling (operands.Column reference) = column_spelling reference

abbrev pub expression_spelling : {A : Type 0} → (A → List Lexeme) → Expression A → List Lexeme
expression_spelling spelling (Single term) = spelling term
expression_spelling spelling (Sum left right) = spelling left ++ sign symbols.Plus ∷ spelling right
expression_spelling spelling (Difference left right) = spelling left ++ sign symbols.Minus ∷ spelling right

abbrev pub comparison_symbol : Comparison → Symbol
comparison_symbol comparisons.Equal = symbols.Equal
comparison_symbol comparisons.NotEqual = symbols.NotEqual
comparison_symbol comparisons.Less = symbols.Less
comparison_symbol comparisons.LessOrEqual = symbols.LessOrEqual
comparison_symbol comparisons.Greater = symbols.Greater
comparison_symbol comparisons.GreaterOrEqual = symbols.GreaterOrEqual

abbrev pub test_spelling : {A : Type 0} → (A → List Lexeme) → Test A → List Lexeme
test_spelling spelling test =
    spelling test.left ++ sign (comparison_symbol test.comparison) ∷ spelling test.right

-- ---- SELECT

-- `name AS alias`, where there is an alias
abbrev pub alias_spelling : Option Identifier → List Lexeme
alias_spelling None = []
alias_spelling (Some alias) = word keywords.As ∷ name alias ∷ []

abbrev pub source_spelling : Source → List Lexeme
source_spelling source = name source.table ∷ alias_spelling source.alias

abbrev pub items_spelling : Items → List Lexeme
items_spelling items.All = sign symbols.Star ∷ []
items_spelling (items.Listed listed) = comma_list operand_spelling listed

abbrev pub tests_clause : List (Test Operand) → List Lexeme
tests_clause = where_clause (test_spelling operand_spelling)

abbrev pub select_spelling : Select → List Lexeme
select_spelling select =
    word keywords.Select ∷ (items_spelling select.items
    ++ word keywords.From ∷ (comma_list source_spelling select.sources
    ++ tests_clause select.tests))

-- ---- entangled SELECT

abbrev pub term_spelling : Term → List Lexeme
term_spelling (terms.Value value) = specification_spelling value
term_spelling (terms.Variable variable) = name variable ∷ []

abbrev pub binding_spelling : Option Identifier → List Lexeme
binding_spelling None = []
binding_spelling (Some variable) = word keywords.As ∷ host_variable variable ∷ []

abbrev pub entangled_item_spelling : EntangledItem → List Lexeme
entangled_item_spelling item = term_spelling item.term ++ binding_spelling item.binds

-- always in parentheses
abbrev pub tuple_spelling : Tuple → List Lexeme
tuple_spelling tuple = in_parentheses (comma_list term_spelling tuple.terms)

abbrev pub relation_spelling : Identifier → List Lexeme
relation_spelling relation = word keywords.Answer ∷ name relation ∷ []

abbrev pub condition_spelling : Condition → List Lexeme
condition_spelling (conditions.InSelect tuple select) =
    tuple_spelling tuple ++ word keywords.In ∷ in_parentheses (select_spelling select)
condition_spelling (conditions.InAnswer tuple relation) =
    tuple_spelling tuple ++ word keywords.In ∷ relation_spelling relation
condition_spelling (conditions.Test test) = test_spelling term_spelling test

abbrev pub entangled_spelling : Entangled → List Lexeme
entangled_spelling entangled =
    word keywords.Select ∷ (comma_list entangled_item_spelling entangled.items
    ++ word keywords.Into ∷ (comma_list relation_spelling entangled.relations
    ++ (where_clause condition_spelling entangled.conditions
    ++ word keywords.Choose ∷ Token (Number 1) ∷ [])))

-- ---- the other statements

abbrev pub insert_spelling : Insert → List Lexeme
insert_spelling insert =
    word keywords.Insert ∷ word keywords.Into ∷ name insert.table ∷ word keywords.Values
    ∷ in_parentheses (comma_list specification_spelling insert.values)

abbrev pub delete_spelling : Delete → List Lexeme
delete_spelling delete = word keywords.Delete ∷ word keywords.From ∷ name delete.table ∷ tests_clause delete.tests

abbrev pub assignment_spelling : Assignment → List Lexeme
assignment_spelling assignment =
    name assignment.column ∷ sign symbols.Equal ∷ expression_spelling operand_spelling assignment.expression

abbrev pub update_spelling : Update → List Lexeme
update_spelling update =
    word keywords.Update ∷ name update.table ∷ word keywords.Set ∷ (comma_list assignment_spelling update.assignments
    ++ tests_clause update.tests)

abbrev pub set_spelling : Set → List Lexeme
set_spelling set =
    word keywords.Set ∷ host_variable set.variable ∷ sign symbols.Equal
    ∷ expression_spelling specification_spelling set.expression

-- ---- scripts

abbrev pub statement_spelling : Statement → List Lexeme
statement_spelling (statements.Select select) = select_spelling select
statement_spelling (statements.Entangled entangled) = entangled_spelling entangled
statement_spelling (statements.Insert insert) = insert_spelling insert
statement_spelling (statements.Delete delete) = delete_spelling delete
statement_spelling (statements.Update update) = update_spelling update
statement_spelling (statements.Set set) = set_spelling set

-- each statement ends with a `;`
abbrev pub line_spelling : Statement → List Lexeme
line_spelling statement = statement_spelling statement ++ sign symbols.Semicolon ∷ []

abbrev pub end_word : End → Keyword
end_word ends.Commit = keywords.Commit
end_word ends.Rollback = keywords.Rollback

-- the number of runs always stands there
abbrev pub script_spelling : Script → List Lexeme
script_spelling script =
    word keywords.Begin ∷ word keywords.Transaction ∷ word keywords.Within ∷ Token (Number script.within) ∷ word
    keywords.Runs
    ∷ sign symbols.Semicolon ∷ (flat_map line_spelling script.statements
    ++ word (end_word script.end) ∷ sign symbols.Semicolon ∷ [])
