-- A bound script means what the script means where its variables have these values.
use Rattle.std.proofs.Common.{◌≡◌, Bool, true, false, ◌||◌, ◌&&◌, cond, List, [], ◌∷◌, ◌++◌, map, Option, Some, None}
use Rattle.std.proofs.Common.{Result, Ok, Err, ℕ, length, refl, ap, sym, ◌∙◌, IfSome}
use Rattle.std.proofs.lemmas.List.Folds.{list_any-append}
use Rattle.std.proofs.lemmas.List.{map-append}
use Rattle.std.proofs.lemmas.Bool.{or_right}
use Rattle.std.specs.Prelude.{unwrap_or, ◌==◌, nat_le, ◌+ℤ◌, ◌-ℤ◌}
use Rattle.std.specs.List.{find, flat_map, list_all}
use Rattle.std.specs.Option.{option_and_then, option_map, option_or}
use Rattle.ent_lists.specs.Sets as set
use Rattle.ent_value.specs.Value.{value_cmp}
use Rattle.ent_value.specs.declared.limits.TheConstants.{MOST_ROWS}
use Rattle.ent_value.specs.declared.value.Value.{Value}
use Rattle.ent_tree.specs.declared.declaration.Create.{Create}
use Rattle.ent_tree.specs.declared.operand.Identifier.{Identifier}
use Rattle.ent_tree.specs.declared.operand.ValueSpecification.{ValueSpecification}
use Rattle.ent_tree.specs.declared.operand.ValueSpecification.TheVariants as specifications
use Rattle.ent_tree.specs.declared.operand.Operand.{Operand}
use Rattle.ent_tree.specs.declared.operand.Operand.TheVariants as operands
use Rattle.ent_tree.specs.declared.operand.Expression.{Expression}
use Rattle.ent_tree.specs.declared.operand.Expression.TheVariants.{Single, Sum, Difference}
use Rattle.ent_tree.specs.declared.operand.Test.{Test}
use Rattle.ent_tree.specs.declared.select.Items.{Items}
use Rattle.ent_tree.specs.declared.select.Items.TheVariants as items
use Rattle.ent_tree.specs.declared.select.Select.{Select}
use Rattle.ent_tree.specs.declared.entangled.Term.{Term}
use Rattle.ent_tree.specs.declared.entangled.Term.TheVariants as terms
use Rattle.ent_tree.specs.declared.entangled.EntangledItem.{EntangledItem}
use Rattle.ent_tree.specs.declared.entangled.Condition.{Condition}
use Rattle.ent_tree.specs.declared.entangled.Condition.TheVariants as conditions
use Rattle.ent_tree.specs.declared.entangled.Entangled.{Entangled}
use Rattle.ent_tree.specs.declared.statement.Assignment.{Assignment}
use Rattle.ent_tree.specs.declared.script.End.{End}
use Rattle.ent_tree.specs.declared.script.End.TheVariants.{Commit, Rollback}
use Rattle.ent_tree.specs.declared.script.Statement.{Statement}
use Rattle.ent_tree.specs.declared.script.Statement.TheVariants as statements
use Rattle.ent_tree.specs.declared.script.Script.{Script}
use Rattle.ent_semantics.specs.declared.answer.Answer.{Answer}
use Rattle.ent_semantics.specs.declared.answer.Answer.TheVariants as answers
use Rattle.ent_semantics.specs.declared.answer.Failure.{Failure}
use Rattle.ent_semantics.specs.declared.answer.Failure.TheVariants.{TableFull}
use Rattle.ent_semantics.specs.Change.{all_there, assigned_value, assigned_values, image, matched, updated}
use Rattle.ent_semantics.specs.Database.{Name, Rows, Database, Environment, same_name, is_among, nothing_bound}
use Rattle.ent_semantics.specs.Database.{with_value, with_values, table_named, Table}
use Rattle.ent_semantics.specs.Effect.{Effect, changed, or_overflow, replacement, setting, shown, insertion, deletion}
use Rattle.ent_semantics.specs.Entangled.{Valuation, first_of_each, term_variables, condition_terms, head_terms}
use Rattle.ent_semantics.specs.Entangled.{written_variables, variable_value, term_value, term_worth, facts, heads}
use Rattle.ent_semantics.specs.Entangled.{condition_posts, posts, condition_holds, is_grounding, item_binds}
use Rattle.ent_semantics.specs.Entangled.{bound_values}
use Rattle.ent_semantics.specs.Names.{equal_names, name_itself}
use Rattle.ent_semantics.specs.Selection.{compares, holds, meets, selection, item_row, source_rows, select_rows}
use Rattle.ent_semantics.specs.Serial.{Operation, Run, after, answered_first, ended, is_entangled, operation_first}
use Rattle.ent_semantics.specs.Serial.{operations_of, run, script_run, with_answer}
use Rattle.ent_semantics.specs.Statement.{statement_meaning}
use Rattle.ent_semantics.specs.Term.{SourceColumn, known_value, no_value, operand_value, expression_value}
use Rattle.ent_semantics.specs.Term.{in_64_bits, number_of, source_columns, table_columns}
use Rattle.ent_semantics.proofs.Environments.{values_joined}
use Rattle.ent_bound.specs.Bound.{bound_script, bound_value, literal_or, value_bound}
use Rattle.ent_sql_laws.specs.Meaning.{with_bound, script_run_from, run_with_bound}
use Rattle.ent_bound.specs.Over.{Making, operand_over, expression_over, test_over, items_over, tests_over, select_over}
use Rattle.ent_bound.specs.Over.{term_over, item_over, condition_over, entangled_over, assignment_over}
use Rattle.ent_bound.specs.Over.{statement_over}
use Rattle.ent_bound.specs.Refused.{is_bound, or_else, variable_fault, fault_behind, first_fault}
use Rattle.ent_bound.specs.Values.{item_sets, statement_sets, is_set, is_used}
use Rattle.ent_bound.specs.declared.fault.BindingFault.{BindingFault}
use Rattle.ent_bound.specs.declared.fault.BindingFault.TheVariants.{Twice, SetByScript, Unused}
use Rattle.ent_bound.specs.declared.variable.BoundVariable.{BoundVariable}

-- ---- lists

mapped : {A B C : Type 0} (over : A → B) (f : B → C) (g : A → C) → ((x : A) → f (over x) ≡ g x)
    → (xs : List A) → map f (map over xs) ≡ map g xs
mapped over f g part [] = refl
mapped over f g part (x ∷ xs) = λ i. part x i ∷ mapped over f g part xs i

all_mapped : {A B : Type 0} (over : A → B) (p : B → Bool) (q : A → Bool) → ((x : A) → p (over x) ≡ q x)
    → (xs : List A) → list_all p (map over xs) ≡ list_all q xs
all_mapped over p q part [] = refl
all_mapped over p q part (x ∷ xs) = λ i. part x i && all_mapped over p q part xs i

flat_mapped : {A B C : Type 0} (over : A → B) (f : B → List C) (g : A → List C) → ((x : A) → f (over x) ≡ g x)
    → (xs : List A) → flat_map f (map over xs) ≡ flat_map g xs
flat_mapped over f g part [] = refl
flat_mapped over f g part (x ∷ xs) = λ i. part x i ++ flat_mapped over f g part xs i

-- ---- what values are worth

module _ (variables : List BoundVariable) (environment : Environment) where
  literal_known : (identifier : Identifier) (found : Option Value) → value_bound variables identifier.name ≡ found
      → known_value environment (literal_or identifier found)
      ≡ known_value (with_bound variables environment) (specifications.HostVariable identifier)
  literal_known identifier (Some value) is =
      ap (λ (bound : Option Value). unwrap_or (option_or bound (environment identifier.name)) no_value) (sym is)
  literal_known identifier None is =
      ap (λ (bound : Option Value). unwrap_or (option_or bound (environment identifier.name)) no_value) (sym is)

  known : (x : ValueSpecification)
      → known_value environment (bound_value variables x) ≡ known_value (with_bound variables environment) x
  known (specifications.Literal literal) = refl
  known (specifications.HostVariable identifier) =
      literal_known identifier (value_bound variables identifier.name) refl

  operand : (columns : List SourceColumn) (row : List Value) (x : Operand)
      → operand_value environment columns row (operand_over (bound_value variables) x)
      ≡ operand_value (with_bound variables environment) columns row x
  operand columns row (operands.Value value) = known value
  operand columns row (operands.Column reference) = refl

  -- ---- SELECT

  met : (columns : List SourceColumn) (xs : List (Test Operand)) (row : List Value)
      → meets (operand_value environment columns) (tests_over (bound_value variables) xs) row
      ≡ meets (operand_value (with_bound variables environment) columns) xs row
  met columns xs row =
      all_mapped (test_over (operand_over (bound_value variables))) (holds (operand_value environment columns row))
      (holds (operand_value (with_bound variables environment) columns row))
      (λ x i. compares x.comparison (value_cmp (operand columns row x.left i) (operand columns row x.right i))) xs

  listed : (columns : List SourceColumn) (x : Items) (row : List Value)
      → item_row (operand_value environment columns) (items_over (bound_value variables) x) row
      ≡ item_row (operand_value (with_bound variables environment) columns) x row
  listed columns items.All row = refl
  listed columns (items.Listed xs) row =
      mapped (operand_over (bound_value variables)) (operand_value environment columns row)
      (operand_value (with_bound variables environment) columns row) (operand columns row) xs

  select : (declared : List Create) (database : Database) (x : Select)
      → select_rows declared database environment (select_over (bound_value variables) x)
      ≡ select_rows declared database (with_bound variables environment) x
  select declared database x =
      let columns = source_columns declared x.sources in
      λ i. selection (λ row. met columns x.tests row i) (λ row. listed columns x.items row i)
      (source_rows database x)

  -- ---- UPDATE

  expression : {A : Type 0} (over : A → A) (value worth : A → Value) → ((x : A) → value (over x) ≡ worth x)
      → (x : Expression A) → expression_value value (expression_over over x) ≡ expression_value worth x
  expression over value worth part (Single x) = λ i. Some (part x i)
  expression over value worth part (Sum left right) =
      λ i. in_64_bits (number_of (part left i) +ℤ number_of (part right i))
  expression over value worth part (Difference left right) =
      λ i. in_64_bits (number_of (part left i) -ℤ number_of (part right i))

  assigned : (columns : List SourceColumn) (row : List Value) (xs : List Assignment) (column : SourceColumn)
      (value : Value)
      → assigned_value (operand_value environment columns row) (map (assignment_over (bound_value variables)) xs) column
      value
      ≡ assigned_value (operand_value (with_bound variables environment) columns row) xs column value
  assigned columns row [] column value = refl
  assigned columns row (x ∷ xs) column value =
      λ i. cond (same_name x.column.name column.column)
      (expression (operand_over (bound_value variables)) (operand_value environment columns row)
      (operand_value (with_bound variables environment) columns row) (operand columns row) x.expression i)
      (assigned columns row xs column value i)

  all_assigned : (columns : List SourceColumn) (row : List Value) (xs : List Assignment) (some : List SourceColumn)
      (values : List Value)
      → assigned_values (operand_value environment columns row) (map (assignment_over (bound_value variables)) xs) some
      values
      ≡ assigned_values (operand_value (with_bound variables environment) columns row) xs some values
  all_assigned columns row xs [] values = refl
  all_assigned columns row xs (column ∷ some) [] = refl
  all_assigned columns row xs (column ∷ some) (value ∷ values) =
      λ i. assigned columns row xs column value i ∷ all_assigned columns row xs some values i

  imaged : (columns : List SourceColumn) (xs : List Assignment) (row : List Value)
      → image (operand_value environment columns) (map (assignment_over (bound_value variables)) xs) columns row
      ≡ image (operand_value (with_bound variables environment) columns) xs columns row
  imaged columns xs row = ap all_there (all_assigned columns row xs columns row)

  -- ---- entangled SELECT

  term : (values : Name → Value) (x : Term)
      → term_value environment values (term_over (bound_value variables) x)
      ≡ term_value (with_bound variables environment) values x
  term values (terms.Value value) = known value
  term values (terms.Variable variable) = refl

  same_variables : (x : Term) → term_variables (term_over (bound_value variables) x) ≡ term_variables x
  same_variables (terms.Value value) = refl
  same_variables (terms.Variable variable) = refl

  head_over : (xs : List EntangledItem)
      → map (λ item. item.term) (map (item_over (bound_value variables)) xs)
      ≡ map (term_over (bound_value variables)) (map (λ item. item.term) xs)
  head_over [] = refl
  head_over (x ∷ xs) = λ i. term_over (bound_value variables) x.term ∷ head_over xs i

  terms_over : (x : Condition)
      → condition_terms (condition_over (bound_value variables) x)
      ≡ map (term_over (bound_value variables)) (condition_terms x)
  terms_over (conditions.InSelect x inner) = refl
  terms_over (conditions.InAnswer x relation) = refl
  terms_over (conditions.Test x) = refl

  all_terms_over : (xs : List Condition)
      → flat_map condition_terms (map (condition_over (bound_value variables)) xs)
      ≡ map (term_over (bound_value variables)) (flat_map condition_terms xs)
  all_terms_over [] = refl
  all_terms_over (x ∷ xs) =
      (λ i. terms_over x i ++ all_terms_over xs i)
      ∙ sym (map-append (term_over (bound_value variables)) (condition_terms x) (flat_map condition_terms xs))

  written : (x : Entangled) → written_variables (entangled_over (bound_value variables) x) ≡ written_variables x
  written x =
      let over = term_over (bound_value variables) in
      let inner = flat_map condition_terms x.conditions in
      ap (λ (all : List Term). first_of_each (flat_map term_variables all))
      ((λ i. head_over x.items i ++ all_terms_over x.conditions i) ∙ sym (map-append over (head_terms x) inner))
      ∙ ap first_of_each (flat_mapped over term_variables term_variables same_variables (head_terms x ++ inner))

  worth : (x : Entangled) (valuation : Valuation) (t : Term)
      → term_worth environment (entangled_over (bound_value variables) x) valuation
      (term_over (bound_value variables) t)
      ≡ term_worth (with_bound variables environment) x valuation t
  worth x valuation t =
      ap (λ (names : List Name). term_value environment (variable_value names valuation)
      (term_over (bound_value variables) t)) (written x)
      ∙ term (variable_value (written_variables x) valuation) t

  heads_over : (x : Entangled) (valuation : Valuation)
      → heads environment (entangled_over (bound_value variables) x) valuation
      ≡ heads (with_bound variables environment) x valuation
  heads_over x valuation =
      let before = term_worth environment (entangled_over (bound_value variables) x) valuation in
      let after = term_worth (with_bound variables environment) x valuation in
      let relations = map (λ relation. relation.name) x.relations in
      ap (λ (all : List Term). facts relations (map before all)) (head_over x.items)
      ∙ ap (facts relations)
      (mapped (term_over (bound_value variables)) before after (worth x valuation) (head_terms x))

  post_over : (x : Entangled) (valuation : Valuation) (c : Condition)
      → condition_posts (term_worth environment (entangled_over (bound_value variables) x) valuation)
      (condition_over (bound_value variables) c)
      ≡ condition_posts (term_worth (with_bound variables environment) x valuation) c
  post_over x valuation (conditions.InSelect tuple inner) = refl
  post_over x valuation (conditions.InAnswer tuple relation) =
      λ i. record {
        relation = relation.name;
        values = mapped (term_over (bound_value variables))
            (term_worth environment (entangled_over (bound_value variables) x) valuation)
            (term_worth (with_bound variables environment) x valuation) (worth x valuation) tuple.terms i;
      }
      ∷ []
  post_over x valuation (conditions.Test test) = refl

  pub posts_over : (x : Entangled) (valuation : Valuation)
      → posts environment (entangled_over (bound_value variables) x) valuation
      ≡ posts (with_bound variables environment) x valuation
  posts_over x valuation =
      flat_mapped (condition_over (bound_value variables))
      (condition_posts (term_worth environment (entangled_over (bound_value variables) x) valuation))
      (condition_posts (term_worth (with_bound variables environment) x valuation)) (post_over x valuation)
      x.conditions

  holds_over : (declared : List Create) (database : Database) (x : Entangled) (valuation : Valuation) (c : Condition)
      → condition_holds declared database environment
      (term_worth environment (entangled_over (bound_value variables) x) valuation)
      (condition_over (bound_value variables) c)
      ≡ condition_holds declared database (with_bound variables environment)
      (term_worth (with_bound variables environment) x valuation) c
  holds_over declared database x valuation (conditions.InSelect tuple inner) =
      λ i. set.contains (select declared database inner i)
      (mapped (term_over (bound_value variables))
      (term_worth environment (entangled_over (bound_value variables) x) valuation)
      (term_worth (with_bound variables environment) x valuation) (worth x valuation) tuple.terms i)
  holds_over declared database x valuation (conditions.InAnswer tuple relation) = refl
  holds_over declared database x valuation (conditions.Test test) =
      λ i. compares test.comparison
      (value_cmp (worth x valuation test.left i) (worth x valuation test.right i))

  pub grounding_over : (declared : List Create) (database : Database) (x : Entangled) (valuation : Valuation)
      → is_grounding declared database environment (entangled_over (bound_value variables) x) valuation
      ≡ is_grounding declared database (with_bound variables environment) x valuation
  grounding_over declared database x valuation =
      λ i. (length valuation == length (written x i))
      && all_mapped (condition_over (bound_value variables))
      (condition_holds declared database environment
      (term_worth environment (entangled_over (bound_value variables) x) valuation))
      (condition_holds declared database (with_bound variables environment)
      (term_worth (with_bound variables environment) x valuation))
      (holds_over declared database x valuation) x.conditions i

  binds_over : (x : Entangled) (valuation : Valuation)
      → bound_values environment (entangled_over (bound_value variables) x) valuation
      ≡ bound_values (with_bound variables environment) x valuation
  binds_over x valuation =
      flat_mapped (item_over (bound_value variables))
      (item_binds (term_worth environment (entangled_over (bound_value variables) x) valuation))
      (item_binds (term_worth (with_bound variables environment) x valuation))
      (λ item i. item_binds (λ _. worth x valuation item.term i) item) x.items

-- ---- what is set goes beside what is bound

-- nothing is bound to what is set
AreFree : List BoundVariable → List Name → Type 0
AreFree variables names = (name : Name) → is_among names name ≡ true → value_bound variables name ≡ None

unfolded : (variables : List BoundVariable) (names : List Name) → AreFree variables names
    → (name : Name) → is_among names name ≡ true → value_bound variables name ≡ None
unfolding AreFree
unfolded variables names free = free

free_left : (variables : List BoundVariable) (names more : List Name) → AreFree variables (names ++ more)
    → AreFree variables names
unfolding AreFree
free_left variables names more free name e =
    free name (list_any-append (λ other. same_name other name) names more
    ∙ ap (λ b. b || is_among more name) e)

free_right : (variables : List BoundVariable) (names more : List Name) → AreFree variables (names ++ more)
    → AreFree variables more
unfolding AreFree
free_right variables names more free name e =
    free name (list_any-append (λ other. same_name other name) names more
    ∙ or_right (is_among names name) (is_among more name) e)

first_free : (variables : List BoundVariable) (name : Name) (more : List Name) → AreFree variables (name ∷ more)
    → value_bound variables name ≡ None
unfolding AreFree
first_free variables name more free = free name (ap (λ b. b || is_among more name) (name_itself name))

beside : (variables : List BoundVariable) (environment : Environment) (name : Name) (value : Value)
    → value_bound variables name ≡ None
    → with_value (with_bound variables environment) name value
    ≡ with_bound variables (with_value environment name value)
beside variables environment name value none = λ i other. at other (same_name name other) refl i
  where
    at : (other : Name) (t : Bool) → same_name name other ≡ t
        → cond (same_name name other) (Some value) (option_or (value_bound variables other) (environment other))
        ≡ option_or (value_bound variables other) (cond (same_name name other) (Some value) (environment other))
    at other false e =
        ap (λ b. cond b (Some value) (option_or (value_bound variables other) (environment other))) e
        ∙ sym (ap (λ b. option_or (value_bound variables other) (cond b (Some value) (environment other))) e)
    at other true e =
        ap (λ b. cond b (Some value) (option_or (value_bound variables other) (environment other))) e
        ∙ sym (ap (λ b. option_or (value_bound variables other) (cond b (Some value) (environment other))) e
        ∙ ap (λ (found : Option Value). option_or found (Some value))
        (ap (value_bound variables) (sym (equal_names name other e)) ∙ none))

item_beside : (variables : List BoundVariable) (worth : Term → Value) (t : Term) (binds : Option Identifier)
    → let item : EntangledItem = record { term = t; binds = binds } in
    AreFree variables (item_sets item)
    → (environment : Environment)
    → with_values (with_bound variables environment) (item_binds worth item)
    ≡ with_bound variables (with_values environment (item_binds worth item))
item_beside variables worth t None free environment = refl
item_beside variables worth t (Some identifier) free environment =
    beside variables environment identifier.name (worth t) (first_free variables identifier.name [] free)

items_beside : (variables : List BoundVariable) (worth : Term → Value) (xs : List EntangledItem)
    → AreFree variables (flat_map item_sets xs) → (environment : Environment)
    → with_values (with_bound variables environment) (flat_map (item_binds worth) xs)
    ≡ with_bound variables (with_values environment (flat_map (item_binds worth) xs))
items_beside variables worth [] free environment = refl
items_beside variables worth (x ∷ xs) free environment =
    let own = item_binds worth x in
    let more = flat_map (item_binds worth) xs in
    values_joined (with_bound variables environment) own more
    ∙ ap (λ (e : Environment). with_values e more)
    (item_beside variables worth x.term x.binds (free_left variables (item_sets x) (flat_map item_sets xs) free)
    environment)
    ∙ items_beside variables worth xs (free_right variables (item_sets x) (flat_map item_sets xs) free)
    (with_values environment own)
    ∙ sym (ap (with_bound variables) (values_joined environment own more))

-- ---- statements

-- an effect with the bound values in its environment
abbrev pub effect_with_bound : List BoundVariable → Result (Effect Database) Failure → Result (Effect Database) Failure
effect_with_bound variables (Ok effect) =
    Ok (record effect { environment = with_bound variables effect.environment })
effect_with_bound variables (Err failure) = Err failure

chosen : (variables : List BoundVariable) (b : Bool) (effect : Effect Database) (failure : Failure)
    → cond b (Ok (record effect { environment = with_bound variables effect.environment })) (Err failure)
    ≡ effect_with_bound variables (cond b (Ok effect) (Err failure))
chosen variables true effect failure = refl
chosen variables false effect failure = refl

changed_over : (variables : List BoundVariable) (table : Table Database) (count : ℕ) (rows : Rows) (database : Database)
    (environment : Environment)
    → changed table count rows database (with_bound variables environment)
    ≡ effect_with_bound variables (changed table count rows database environment)
changed_over variables table count rows database environment =
    chosen variables (nat_le (set.len rows) MOST_ROWS)
    (record { database = table.replaced database rows; environment = environment; answer = answers.Count count })
    TableFull

overflow_over : (variables : List BoundVariable) (table : Table Database) (count : ℕ) (found : Option Rows)
    (database : Database) (environment : Environment)
    → or_overflow found (changed table count) database (with_bound variables environment)
    ≡ effect_with_bound variables (or_overflow found (changed table count) database environment)
overflow_over variables table count (Some rows) database environment =
    changed_over variables table count rows database environment
overflow_over variables table count None database environment = refl

setting_over : (variables : List BoundVariable) (name : Name) (found : Option Value) → value_bound variables name ≡ None
    → (database : Database) (environment : Environment)
    → setting name found database (with_bound variables environment)
    ≡ effect_with_bound variables (setting name found database environment)
setting_over variables name (Some value) none database environment =
    λ i. Ok (record {
      database = database;
      environment = beside variables environment name value none i;
      answer = answers.Value value;
    })
setting_over variables name None none database environment = refl

statement : (variables : List BoundVariable) (declared : List Create) (x : Statement)
    → AreFree variables (statement_sets x) → (valuation : Valuation) (database : Database) (environment : Environment)
    → statement_meaning declared x valuation database (with_bound variables environment)
    ≡ effect_with_bound variables
    (statement_meaning declared (statement_over (bound_value variables) x) valuation database environment)
statement variables declared (statements.Select x) free valuation database environment =
    ap (λ rows. shown rows database (with_bound variables environment))
    (sym (select variables environment declared database x))
statement variables declared (statements.Entangled x) free valuation database environment =
    let binds = bound_values environment (entangled_over (bound_value variables) x) valuation in
    let e : with_values (with_bound variables environment) (bound_values (with_bound variables environment) x valuation)
    ≡ with_bound variables (with_values environment binds) =
    items_beside variables (term_worth (with_bound variables environment) x valuation) x.items free environment
    ∙ ap (λ (bound : List (Name × Value)). with_bound variables (with_values environment bound))
    (sym (binds_over variables environment x valuation))
    in
    λ i. Ok (record {
      database = database;
      environment = e i;
      answer = answers.Heads (sym (heads_over variables environment x valuation) i);
    })
statement variables declared (statements.Insert x) free valuation database environment =
    let table = table_named x.table.name in
    let row = map (known_value environment) (map (bound_value variables) x.values) in
    ap (λ (values : List Value). insertion table values database (with_bound variables environment))
    (sym (mapped (bound_value variables) (known_value environment) (known_value (with_bound variables environment))
    (known variables environment) x.values))
    ∙ changed_over variables table (cond (set.contains (table.rows database) row) 0 1)
    (set.insert (table.rows database) row) database environment
statement variables declared (statements.Delete x) free valuation database environment =
    let columns = table_columns declared x.table.name x.table.name in
    ap (λ (matches : List Value → Bool). deletion (table_named x.table.name) matches database
    (with_bound variables environment))
    (λ i row. sym (met variables environment columns x.tests row) i)
statement variables declared (statements.Update x) free valuation database environment =
    let table = table_named x.table.name in
    let columns = table_columns declared x.table.name x.table.name in
    let matches = meets (operand_value environment columns) (tests_over (bound_value variables) x.tests) in
    let images = image (operand_value environment columns) (map (assignment_over (bound_value variables)) x.assignments)
    columns
    in
    (λ i. replacement table (λ row. sym (met variables environment columns x.tests row) i)
    (λ row. sym (imaged variables environment columns x.assignments row) i) database
    (with_bound variables environment))
    ∙ overflow_over variables table (set.len (matched matches (table.rows database)))
    (updated matches images (table.rows database)) database environment
statement variables declared (statements.Set x) free valuation database environment =
    ap (λ (found : Option Value). setting x.variable.name found database (with_bound variables environment))
    (sym (expression variables environment (bound_value variables) (known_value environment)
    (known_value (with_bound variables environment)) (known variables environment) x.expression))
    ∙ setting_over variables x.variable.name
    (expression_value (known_value environment) (expression_over (bound_value variables) x.expression))
    (first_free variables x.variable.name [] free) database environment

-- ---- runs

operation_over : List BoundVariable → Operation → Operation
operation_over variables operation =
    record operation { statement = statement_over (bound_value variables) operation.statement }

-- no operation sets what is bound
abbrev OperationsFree : List BoundVariable → List Operation → Type 0
OperationsFree variables [] = Unit {0}
OperationsFree variables (x ∷ xs) = AreFree variables (statement_sets x.statement) × OperationsFree variables xs

answered_beside : (variables : List BoundVariable) (answer : Answer) (run : Option Run)
    → option_map (answered_first answer) (option_map (run_with_bound variables) run)
    ≡ option_map (run_with_bound variables) (option_map (answered_first answer) run)
answered_beside variables answer (Some run) = refl
answered_beside variables answer None = refl

after_over : (variables : List BoundVariable) (effect : Result (Effect Database) Failure)
    (more others : Database → Environment → Option Run)
    → ((database : Database) (environment : Environment)
    → more database (with_bound variables environment)
    ≡ option_map (run_with_bound variables) (others database environment))
    → after (effect_with_bound variables effect) more ≡ option_map (run_with_bound variables) (after effect others)
after_over variables (Ok effect) more others same =
    ap (option_map (answered_first effect.answer)) (same effect.database effect.environment)
    ∙ answered_beside variables effect.answer (others effect.database effect.environment)
after_over variables (Err failure) more others same = refl

runs : (variables : List BoundVariable) (declared : List Create) (xs : List Operation) → OperationsFree variables xs
    → (database : Database) (environment : Environment)
    → run declared xs database (with_bound variables environment)
    ≡ option_map (run_with_bound variables) (run declared (map (operation_over variables) xs) database environment)
unfolding operation_over
runs variables declared [] free database environment = refl
runs variables declared (x ∷ xs) free database environment =
    ap (λ (effect : Result (Effect Database) Failure). after effect (run declared xs))
    (statement variables declared x.statement free.0 x.valuation database environment)
    ∙ after_over variables
    (statement_meaning declared (statement_over (bound_value variables) x.statement) x.valuation database environment)
    (run declared xs) (run declared (map (operation_over variables) xs)) (runs variables declared xs free.1)

-- ---- scripts

abbrev StatementsFree : List BoundVariable → List Statement → Type 0
StatementsFree variables [] = Unit {0}
StatementsFree variables (x ∷ xs) = AreFree variables (statement_sets x) × StatementsFree variables xs

each_free : (variables : List BoundVariable) (xs : List Statement) → AreFree variables (flat_map statement_sets xs)
    → StatementsFree variables xs
each_free variables [] free = tt
each_free variables (x ∷ xs) free = (
  free_left variables (statement_sets x) (flat_map statement_sets xs) free,
  each_free variables xs (free_right variables (statement_sets x) (flat_map statement_sets xs) free),
)

first_operation_free : (variables : List BoundVariable) (x : Statement) (valuation : Valuation)
    (more : Option (List Operation)) → AreFree variables (statement_sets x) → IfSome more (OperationsFree variables)
    → IfSome (operation_first x valuation more) (OperationsFree variables)
first_operation_free variables x valuation (Some xs) free others = (free, others)
first_operation_free variables x valuation None free others = tt

answer_free : (variables : List BoundVariable) (x : Statement) (b : Bool) (oracle : List Valuation)
    (more : List Valuation → Option (List Operation)) → AreFree variables (statement_sets x)
    → ((others : List Valuation) → IfSome (more others) (OperationsFree variables))
    → IfSome (with_answer x b oracle more) (OperationsFree variables)
answer_free variables x false oracle more free others =
    first_operation_free variables x [] (more oracle) free (others oracle)
answer_free variables x true [] more free others = tt
answer_free variables x true (valuation ∷ oracle) more free others =
    first_operation_free variables x valuation (more oracle) free (others oracle)

operations_free : (variables : List BoundVariable) (xs : List Statement) → StatementsFree variables xs
    → (oracle : List Valuation) → IfSome (operations_of xs oracle) (OperationsFree variables)
operations_free variables [] free [] = tt
operations_free variables [] free (valuation ∷ oracle) = tt
operations_free variables (x ∷ xs) free oracle =
    answer_free variables x (is_entangled x) oracle (operations_of xs) free.0
    (λ others. operations_free variables xs free.1 others)

first_operation_over : (variables : List BoundVariable) (x : Statement) (valuation : Valuation)
    (more : Option (List Operation))
    → operation_first (statement_over (bound_value variables) x) valuation
    (option_map (map (operation_over variables)) more)
    ≡ option_map (map (operation_over variables)) (operation_first x valuation more)
unfolding operation_over
first_operation_over variables x valuation (Some xs) = refl
first_operation_over variables x valuation None = refl

answer_over : (variables : List BoundVariable) (x : Statement) (b : Bool) (oracle : List Valuation)
    (more others : List Valuation → Option (List Operation))
    → ((rest : List Valuation) → others rest ≡ option_map (map (operation_over variables)) (more rest))
    → with_answer (statement_over (bound_value variables) x) b oracle others
    ≡ option_map (map (operation_over variables)) (with_answer x b oracle more)
answer_over variables x false oracle more others same =
    ap (operation_first (statement_over (bound_value variables) x) []) (same oracle)
    ∙ first_operation_over variables x [] (more oracle)
answer_over variables x true [] more others same = refl
answer_over variables x true (valuation ∷ oracle) more others same =
    ap (operation_first (statement_over (bound_value variables) x) valuation) (same oracle)
    ∙ first_operation_over variables x valuation (more oracle)

as_entangled : (f : Making) (x : Statement) → is_entangled (statement_over f x) ≡ is_entangled x
as_entangled f (statements.Select x) = refl
as_entangled f (statements.Entangled x) = refl
as_entangled f (statements.Insert x) = refl
as_entangled f (statements.Delete x) = refl
as_entangled f (statements.Update x) = refl
as_entangled f (statements.Set x) = refl

operations_over : (variables : List BoundVariable) (xs : List Statement) (oracle : List Valuation)
    → operations_of (map (statement_over (bound_value variables)) xs) oracle
    ≡ option_map (map (operation_over variables)) (operations_of xs oracle)
operations_over variables [] [] = refl
operations_over variables [] (valuation ∷ oracle) = refl
operations_over variables (x ∷ xs) oracle =
    let f = bound_value variables in
    ap (λ (b : Bool). with_answer (statement_over f x) b oracle (operations_of (map (statement_over f) xs)))
    (as_entangled f x)
    ∙ answer_over variables x (is_entangled x) oracle (operations_of xs) (operations_of (map (statement_over f) xs))
    (λ rest. operations_over variables xs rest)

all_run : (variables : List BoundVariable) (declared : List Create) (xs : Option (List Operation))
    → IfSome xs (OperationsFree variables) → (database : Database) (environment : Environment)
    → option_and_then (λ operations. run declared operations database (with_bound variables environment)) xs
    ≡ option_map (run_with_bound variables)
    (option_and_then (λ operations. run declared operations database environment)
    (option_map (map (operation_over variables)) xs))
all_run variables declared (Some xs) free database environment = runs variables declared xs free database environment
all_run variables declared None free database environment = refl

ended_over : (variables : List BoundVariable) (end : End) (run : Option Run)
    → ended end (option_map (run_with_bound variables) run) ≡ option_map (run_with_bound variables) (ended end run)
ended_over variables Commit run = refl
ended_over variables Rollback run = refl

script_over_runs : (variables : List BoundVariable) (declared : List Create) (x : Script)
    → AreFree variables (flat_map statement_sets x.statements) → (oracle : List Valuation) (database : Database)
    (environment : Environment)
    → script_run_from declared x oracle database (with_bound variables environment)
    ≡ option_map (run_with_bound variables)
    (script_run_from declared (bound_script variables x) oracle database environment)
script_over_runs variables declared x free oracle database environment =
    let f = bound_value variables in
    let running = option_and_then (λ (operations : List Operation). run declared operations database environment) in
    ap (ended x.end)
    (all_run variables declared (operations_of x.statements oracle)
    (operations_free variables x.statements (each_free variables x.statements free) oracle) database environment
    ∙ ap (λ (operations : Option (List Operation)). option_map (run_with_bound variables) (running operations))
    (sym (operations_over variables x.statements oracle)))
    ∙ ended_over variables x.end (running (operations_of (map (statement_over f) x.statements) oracle))

-- ---- what has no fault sets nothing that is bound

no_first : (first rest : Option BindingFault) → or_else first rest ≡ None → (first ≡ None) × (rest ≡ None)
no_first (Some fault) rest e = cc
no_first None rest e = (refl, e)

unset : (x : Script) (earlier : List BoundVariable) (name : Name) → variable_fault x earlier name ≡ None
    → is_set x name ≡ true → ⊥
unset x earlier name none sets = by (is_bound earlier name) (is_set x name) none sets
  where
    by : (b s : Bool)
        → cond b (Some (Twice (length earlier))) (cond s (Some (SetByScript (length earlier)))
        (cond (is_used x name) None (Some (Unused (length earlier))))) ≡ None
        → s ≡ true → ⊥
    by true s e sets = cc
    by false true e sets = cc
    by false false e sets = cc

free_behind : (x : Script) (earlier variables : List BoundVariable) → fault_behind x earlier variables ≡ None
    → (name : Name) → is_set x name ≡ true → find (λ variable. same_name variable.name name) variables ≡ None
free_behind x earlier [] none name sets = refl
free_behind x earlier (variable ∷ more) none name sets =
    let parts = no_first (variable_fault x earlier variable.name)
    (fault_behind x (earlier ++ variable ∷ []) more) none in
    by (same_name variable.name name) refl parts.0 (free_behind x (earlier ++ variable ∷ []) more parts.1 name sets)
  where
    by : (t : Bool) → same_name variable.name name ≡ t → variable_fault x earlier variable.name ≡ None
        → find (λ other. same_name other.name name) more ≡ None
        → cond (same_name variable.name name) (Some variable) (find (λ other. same_name other.name name) more) ≡ None
    by true e own rest =
        absurd (unset x earlier variable.name own (ap (is_set x) (equal_names variable.name name e) ∙ sets))
    by false e own rest =
        ap (λ b. cond b (Some variable) (find (λ other. same_name other.name name) more)) e ∙ rest

all_free : (variables : List BoundVariable) (x : Script) → first_fault variables x ≡ None
    → AreFree variables (flat_map statement_sets x.statements)
unfolding AreFree
all_free variables x none name sets =
    ap (option_map (λ variable. variable.value)) (free_behind x [] variables none name sets)

-- a bound script runs as the script does where its variables have these values from the start
pub bound_scripts_run : (variables : List BoundVariable) (declared : List Create) (x : Script)
    → first_fault variables x ≡ None → (oracle : List Valuation) (database : Database)
    → script_run_from declared x oracle database (with_bound variables nothing_bound)
    ≡ option_map (run_with_bound variables) (script_run declared (bound_script variables x) oracle database)
bound_scripts_run variables declared x none oracle database =
    script_over_runs variables declared x (all_free variables x none) oracle database nothing_bound
