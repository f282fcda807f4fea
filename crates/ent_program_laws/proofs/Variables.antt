-- The written variables of a script that can be printed are names.
use Rattle.std.proofs.Common.{ℕ, zero, suc, List, [], ◌∷◌, ◌++◌, not, map, Option, Some, None}
use Rattle.std.proofs.Common.{slice_get, subst, sym}
use Rattle.std.specs.List.{All, AllByRecursion, flat_map}
use Rattle.ent_tree.specs.declared.entangled.Condition.{Condition}
use Rattle.ent_tree.specs.declared.entangled.Condition.TheVariants as conditions
use Rattle.ent_tree.specs.declared.entangled.Entangled.{Entangled}
use Rattle.ent_tree.specs.declared.entangled.EntangledItem.{EntangledItem}
use Rattle.ent_tree.specs.declared.entangled.Term.{Term}
use Rattle.ent_tree.specs.declared.entangled.Term.TheVariants as terms
use Rattle.ent_tree.specs.declared.script.Script.{Script}
use Rattle.ent_tree.specs.declared.script.Statement.{Statement}
use Rattle.ent_tree.specs.declared.script.Statement.TheVariants as statements
use Rattle.ent_text.specs.declared.keyword.Keyword.TheVariants as keywords
use Rattle.ent_text.specs.declared.symbol.Symbol.TheVariants as symbols
use Rattle.ent_print.specs.Lexeme.{Lexeme}
use Rattle.ent_print.specs.Reading.{CanBeRead}
use Rattle.ent_print.specs.Spelling.{binding_spelling, comma_list, condition_spelling, end_word}
use Rattle.ent_print.specs.Spelling.{entangled_item_spelling, line_spelling, relation_spelling, script_spelling}
use Rattle.ent_print.specs.Spelling.{sign, statement_spelling, term_spelling, where_clause, word}
use Rattle.ent_semantics.specs.declared.operand.Known.{Known}
use Rattle.ent_semantics.specs.declared.statement.Statement.{Statement as Resolved}
use Rattle.ent_semantics.specs.declared.statement.Statement.TheVariants as resolved
use Rattle.ent_form.specs.declared.catalogue.TableSchema.{TableSchema}
use Rattle.ent_form.specs.Catalogue.{schemas_of}
use Rattle.ent_form.specs.Form.{script_in}
use Rattle.ent_semantics.specs.Database.{Name, same_name}
use Rattle.ent_semantics.specs.Entangled.{condition_terms, first_of_each, head_terms, term_variables, written_variables}
use Rattle.ent_semantics.specs.Serial.{numbered}
use Rattle.ent_history.specs.declared.history.History.{History}
use Rattle.ent_history.specs.declared.history.ToldMember.{ToldMember}
use Rattle.ent_history.specs.Joints.{Binds, BindsRight, binds_of, member_binds, resolved_at, script_binds}
use Rattle.ent_history.specs.Parts.{IsName}
use Rattle.ent_history.specs.Scripts.{IsScript}
use Rattle.ent_report_laws.specs.Tellable.{IsMemberTold}
use Rattle.ent_lists.specs.Elements.{all_filtered, all_first, all_index, all_joined, all_second}
use Rattle.ent_program_laws.proofs.Read.{AreRead, separated_are_read}

-- ---- what stands at a place

abbrev Holds : {A : Type 0} → (A → Type 0) → Option A → Type 0
Holds so None = Unit {0}
Holds so (Some x) = so x

got : {A : Type 0} (so : A → Type 0) (xs : List A) (place : ℕ) → AllByRecursion so xs → Holds so (slice_get xs place)
got so [] place each = tt
got so (x ∷ xs) zero each = each.0
got so (x ∷ xs) (suc place) each = got so xs place each.1

at_number : {A : Type 0} (so : A → Type 0) (xs : List A) (number : ℕ) → AllByRecursion so xs
    → Holds so (numbered xs number)
at_number so xs zero each = tt
at_number so xs (suc n) each = got so xs n each

-- ---- what lists of lexemes are made of

front_read : (front behind : List Lexeme) → AreRead (front ++ behind) → AreRead front
front_read = all_first CanBeRead

back_read : (front behind : List Lexeme) → AreRead (front ++ behind) → AreRead behind
back_read = all_second CanBeRead

clause_is_read : {A : Type 0} (spelling : A → List Lexeme) (xs : List A) → AreRead (where_clause spelling xs)
    → AllByRecursion (λ x. AreRead (spelling x)) xs
clause_is_read spelling [] read = tt
clause_is_read spelling (x ∷ xs) read = separated_are_read (word keywords.And) spelling (x ∷ xs) read.1

-- ---- the variables of an entangled statement

abbrev IsTermRead : Term → Type 0
IsTermRead term = AreRead (term_spelling term)

variables_named : (terms : List Term) → AllByRecursion IsTermRead terms
    → AllByRecursion IsName (flat_map term_variables terms)
variables_named [] read = tt
variables_named (terms.Value value ∷ more) read = variables_named more read.1
variables_named (terms.Variable variable ∷ more) read = (read.0.0, variables_named more read.1)

firsts_named : (names : List Name) → AllByRecursion IsName names → AllByRecursion IsName (first_of_each names)
firsts_named [] each = tt
firsts_named (name ∷ names) each =
    let others = λ (other : Name). not (same_name name other) in
    (each.0, all_filtered IsName others (first_of_each names) (firsts_named names each.1))

items_read : (items : List EntangledItem) → AllByRecursion (λ item. AreRead (entangled_item_spelling item)) items
    → AllByRecursion IsTermRead (map (λ item. item.term) items)
items_read [] read = tt
items_read (item ∷ items) read =
    (front_read (term_spelling item.term) (binding_spelling item.binds) read.0, items_read items read.1)

condition_read : (condition : Condition) → AreRead (condition_spelling condition)
    → AllByRecursion IsTermRead (condition_terms condition)
condition_read (conditions.InSelect tuple select) read =
    separated_are_read (sign symbols.Comma) term_spelling tuple.terms
    (front_read (comma_list term_spelling tuple.terms) (sign symbols.Close ∷ [])
    (front_read (comma_list term_spelling tuple.terms ++ sign symbols.Close ∷ []) _ read.1))
condition_read (conditions.InAnswer tuple relation) read =
    separated_are_read (sign symbols.Comma) term_spelling tuple.terms
    (front_read (comma_list term_spelling tuple.terms) (sign symbols.Close ∷ [])
    (front_read (comma_list term_spelling tuple.terms ++ sign symbols.Close ∷ []) _ read.1))
condition_read (conditions.Test test) read =
    (front_read (term_spelling test.left) _ read, ((back_read (term_spelling test.left) _ read).1, tt))

conditions_read : (found : List Condition) → AllByRecursion (λ condition. AreRead (condition_spelling condition)) found
    → AllByRecursion IsTermRead (flat_map condition_terms found)
conditions_read [] read = tt
conditions_read (condition ∷ found) read =
    all_joined IsTermRead (condition_terms condition) (flat_map condition_terms found)
    (condition_read condition read.0) (conditions_read found read.1)

written_named : (entangled : Entangled) → AreRead (statement_spelling (statements.Entangled entangled))
    → AllByRecursion IsName (written_variables entangled)
written_named entangled read =
    let items = comma_list entangled_item_spelling entangled.items in
    let relations = comma_list relation_spelling entangled.relations in
    let found = where_clause condition_spelling entangled.conditions in
    let from_relations = (back_read items _ read.1).1 in
    let from_found = back_read relations _ from_relations in
    let named = all_joined IsTermRead (head_terms entangled) (flat_map condition_terms entangled.conditions)
    (items_read entangled.items
    (separated_are_read (sign symbols.Comma) entangled_item_spelling entangled.items (front_read items _ read.1)))
    (conditions_read entangled.conditions
    (clause_is_read condition_spelling entangled.conditions (front_read found _ from_found))) in
    firsts_named
    (flat_map term_variables (head_terms entangled ++ flat_map condition_terms entangled.conditions))
    (variables_named (head_terms entangled ++ flat_map condition_terms entangled.conditions) named)

-- ---- the variables of a script's statement

abbrev IsStatementRead : Statement → Type 0
IsStatementRead statement = AreRead (statement_spelling statement)

lines_read : (lines : List Statement) → AreRead (flat_map line_spelling lines) → AllByRecursion IsStatementRead lines
lines_read [] read = tt
lines_read (statement ∷ lines) read = (
  front_read (statement_spelling statement) (sign symbols.Semicolon ∷ [])
      (front_read (line_spelling statement) (flat_map line_spelling lines) read),
  lines_read lines (back_read (line_spelling statement) (flat_map line_spelling lines) read),
)

abbrev AreStatementsRead : Script → Type 0
AreStatementsRead script = AllByRecursion IsStatementRead script.statements

statements_read : (script : Script) → All CanBeRead (script_spelling script) → AreStatementsRead script
statements_read script read =
    let each = all_index CanBeRead (script_spelling script) read in
    lines_read script.statements
    (front_read (flat_map line_spelling script.statements) (word (end_word script.end) ∷ sign symbols.Semicolon ∷ [])
    each.1.1.1.1.1.1)

scripts_read : (history : History) (scripts : List Script) → AllByRecursion (IsScript history) scripts
    → AllByRecursion AreStatementsRead scripts
scripts_read history [] each = tt
scripts_read history (script ∷ scripts) each =
    (statements_read script each.0.readable, scripts_read history scripts each.1)

abbrev BindsNames : Option Binds → Type 0
BindsNames None = Unit {0}
BindsNames (Some binds) = AllByRecursion IsName binds.0

statement_names : (statement : Option Statement) (form : Option (Resolved Known)) → Holds IsStatementRead statement
    → BindsNames (binds_of statement form)
statement_names (Some (statements.Entangled entangled)) (Some (resolved.Entangled form)) read =
    written_named entangled read
statement_names _ _ read = tt

script_names : (tables : List TableSchema) (script : Option Script) (place : ℕ) → Holds AreStatementsRead script
    → BindsNames (script_binds tables script place)
script_names tables None place read = tt
script_names tables (Some script) place read =
    statement_names (numbered script.statements place) (resolved_at (script_in tables script) place)
    (at_number IsStatementRead script.statements place read)

right_named : (binds : Option Binds) (told : ToldMember) → BindsNames binds
    → BindsRight binds told.variables told.member.grounding → AllByRecursion IsName told.variables
right_named None told named right = right
right_named (Some binds) told named right = subst (AllByRecursion IsName) (sym right.0) named

pub variables_are_names : (history : History) (told : ToldMember) → AllByRecursion (IsScript history) history.scripts
    → IsMemberTold history told → AllByRecursion IsName told.variables
variables_are_names history told scripts is =
    let tx = told.member.tx in
    let place = told.member.place in
    right_named (member_binds history tx place) told
    (script_names (schemas_of history.opening.tables) (numbered history.scripts tx) place
    (at_number AreStatementsRead history.scripts tx (scripts_read history history.scripts scripts)))
    is.binds
