-- A statement reads its used tables alone, and changes its exclusive ones alone.
use Rattle.std.proofs.Common.{◌≡◌, ℕ, Bool, true, false, cond, ◌||◌, List, [], ◌∷◌, ◌++◌, map, refl, sym, ap, subst}
use Rattle.std.proofs.Common.{◌∙◌}
use Rattle.std.proofs.Common.{Option, Some, None, Result, Ok, Err}
use Rattle.std.specs.Prelude.{nat_le, if◌then◌else◌, ◌&&◌, ◌==◌, length}
use Rattle.std.specs.List.{list_all, flat_map}
use Rattle.std.specs.Option.{option_map}
use Rattle.std.proofs.Math.Bool.{or-true}
use Rattle.ent_lists.specs.Sets as set
use Rattle.ent_lists.specs.Elements.{or_first}
use Rattle.ent_value.specs.declared.limits.TheConstants.{MOST_ROWS}
use Rattle.ent_value.specs.declared.value.Value.{Value}
use Rattle.ent_tree.specs.declared.declaration.Create.{Create}
use Rattle.ent_tree.specs.declared.entangled.Condition.{Condition}
use Rattle.ent_tree.specs.declared.entangled.Condition.TheVariants as conditions
use Rattle.ent_tree.specs.declared.entangled.Entangled.{Entangled}
use Rattle.ent_tree.specs.declared.entangled.Term.{Term}
use Rattle.ent_tree.specs.declared.script.Statement.{Statement}
use Rattle.ent_tree.specs.declared.script.Statement.TheVariants as statements
use Rattle.ent_tree.specs.declared.select.Select.{Select}
use Rattle.ent_tree.specs.declared.select.Source.{Source}
use Rattle.ent_semantics.specs.declared.answer.Answer.{Answer}
use Rattle.ent_semantics.specs.declared.answer.Answer.TheVariants as answers
use Rattle.ent_semantics.specs.declared.answer.Failure.{Failure}
use Rattle.ent_semantics.specs.declared.answer.Failure.TheVariants.{TableFull}
use Rattle.ent_semantics.specs.Change.{matched, unmatched, updated, image}
use Rattle.ent_semantics.specs.Database.{Name, Rows, Database, Environment, Table, same_name, with_rows, is_among}
use Rattle.ent_semantics.specs.Database.{table_named}
use Rattle.ent_semantics.specs.Effect.{Effect, changed, or_overflow, insertion, deletion, replacement, setting}
use Rattle.ent_semantics.specs.Entangled.{Valuation, condition_holds, is_grounding, term_worth, written_variables}
use Rattle.ent_semantics.specs.Names.{name_itself, names_turned}
use Rattle.ent_semantics.specs.Selection.{meets, selection, item_row, select_worth, select_rows}
use Rattle.ent_semantics.specs.Serial.{Operation, Run, answered_first, after, run}
use Rattle.ent_semantics.specs.Statement.{table_worth, statement_meaning}
use Rattle.ent_semantics.specs.Term.{known_value, expression_value, table_columns}
use Rattle.ent_semantics.specs.Uses.{uses, changes, select_tables, condition_tables, shared_tables}
use Rattle.ent_semantics.specs.Uses.{exclusive_tables, Agree, Covers, EffectsAlike, KeepsOthers, RunsAlike, CoversAll}

-- ---- one table, whatever holds it

module _ {D : Type 0} (Alike : D → D → Type 0) (table : Table D) (first second : D)
    (same : table.rows first ≡ table.rows second)
    (put : (rows : Rows) → Alike (table.replaced first rows) (table.replaced second rows)) where
  pub changed_alike : (count : ℕ) (rows : Rows) (environment : Environment)
      → EffectsAlike Alike (changed table count rows first environment) (changed table count rows second environment)
  changed_alike count rows environment =
      elim (nat_le (set.len rows) MOST_ROWS) as (λ b. EffectsAlike Alike (cond b (Ok (record {
        database = table.replaced first rows;
        environment = environment;
        answer = answers.Count count;
      })) (Err TableFull)) (cond b (Ok (record {
        database = table.replaced second rows;
        environment = environment;
        answer = answers.Count count;
      })) (Err TableFull))) [
        | true ↦ (refl, refl, put rows)
        | false ↦ refl
      ]

  pub insertion_alike : (row : List Value) (environment : Environment)
      → EffectsAlike Alike (insertion table row first environment) (insertion table row second environment)
  insertion_alike row environment =
      subst (λ (rows : Rows). EffectsAlike Alike
      (changed table (if set.contains rows row then 0 else 1) (set.insert rows row) first environment)
      (insertion table row second environment)) (sym same) (changed_alike _ _ environment)

  pub deletion_alike : (matches : List Value → Bool) (environment : Environment)
      → EffectsAlike Alike (deletion table matches first environment) (deletion table matches second environment)
  deletion_alike matches environment = (
    ap (λ (rows : Rows). answers.Count (set.len (matched matches rows))) same,
    refl,
    subst (λ (rows : Rows). Alike (table.replaced first (unmatched matches rows))
        (table.replaced second (unmatched matches (table.rows second)))) (sym same) (put _),
  )

  or_changed_alike : (x : Option Rows) (count : ℕ) (environment : Environment) → EffectsAlike Alike
      (or_overflow x (changed table count) first environment) (or_overflow x (changed table count) second environment)
  or_changed_alike (Some rows) count environment = changed_alike count rows environment
  or_changed_alike None count environment = refl

  pub replacement_alike : (matches : List Value → Bool) (image_of : List Value → Option (List Value))
      (environment : Environment) → EffectsAlike Alike
      (replacement table matches image_of first environment) (replacement table matches image_of second environment)
  replacement_alike matches image_of environment =
      subst (λ (rows : Rows). EffectsAlike Alike
      (or_overflow (updated matches image_of rows) (changed table (set.len (matched matches rows))) first environment)
      (replacement table matches image_of second environment)) (sym same) (or_changed_alike _ _ environment)

pub setting_alike : {D : Type 0} (Alike : D → D → Type 0) (first second : D) → Alike first second
    → (variable : Name) (value : Option Value) (environment : Environment)
    → EffectsAlike Alike (setting variable value first environment) (setting variable value second environment)
setting_alike Alike first second alike variable (Some value) environment = (refl, refl, alike)
setting_alike Alike first second alike variable None environment = refl

-- ---- tables by name

pub same_database : (first second : Database) → ((name : Name) → first name ≡ second name) → first ≡ second
same_database first second h = λ i name. h name i

with_same : (some : Name → Bool) (first second : Database) (table : Name) (rows : Rows) → Agree some first second
    → Agree some (with_rows first table rows) (with_rows second table rows)
with_same some first second table rows agree name used =
    elim (same_name name table) as (λ b. cond b rows (first name) ≡ cond b rows (second name)) [
      | true ↦ refl
      | false ↦ agree name used
    ]

one_of : (name : Name) → is_among (name ∷ []) name ≡ true
one_of name = ap (λ b. b || false) (name_itself name)

-- ---- what a SELECT reads

sources_same : (some : Name → Bool) (first second : Database) (sources : List Source)
    → ((name : Name) → is_among (map (λ (source : Source). source.table.name) sources) name ≡ true → some name ≡ true)
    → Agree some first second
    → map (λ (source : Source). first source.table.name) sources
    ≡ map (λ (source : Source). second source.table.name) sources
sources_same some first second [] covers agree = refl
sources_same some first second (source ∷ more) covers agree =
    let table : Name = source.table.name in
    let here : first table ≡ second table = agree table (covers table (or_first _ _ (name_itself table))) in
    let rest = sources_same some first second more
    (λ name there. covers name (ap (λ b. same_name table name || b) there ∙ or-true _)) agree in
    λ i. here i ∷ rest i

select_same : (some : Name → Bool) (declared : List Create) (environment : Environment) (select : Select)
    (first second : Database) → ((name : Name) → is_among (select_tables select) name ≡ true → some name ≡ true)
    → Agree some first second
    → select_rows declared first environment select ≡ select_rows declared second environment select
select_same some declared environment select first second covers agree =
    ap (λ (sources : List Rows). selection (meets (select_worth declared environment select) select.tests)
    (item_row (select_worth declared environment select) select.items) sources)
    (sources_same some first second select.sources covers agree)

-- ---- what an entangled statement reads

among_left : (xs ys : List Name) (name : Name) → is_among xs name ≡ true → is_among (xs ++ ys) name ≡ true
among_left [] ys name h = cc
among_left (x ∷ xs) ys name h =
    elim (same_name x name) as (λ b. (b || is_among xs name) ≡ true → (b || is_among (xs ++ ys) name) ≡ true) [
      | true ↦ λ _. refl
      | false ↦ λ rest. among_left xs ys name rest
    ] h

among_right : (xs ys : List Name) (name : Name) → is_among ys name ≡ true → is_among (xs ++ ys) name ≡ true
among_right [] ys name h = h
among_right (x ∷ xs) ys name h = ap (λ b. same_name x name || b) (among_right xs ys name h) ∙ or-true _

condition_same : (some : Name → Bool) (declared : List Create) (environment : Environment) (worth : Term → Value)
    (first second : Database) (condition : Condition)
    → ((name : Name) → is_among (condition_tables condition) name ≡ true → some name ≡ true)
    → Agree some first second
    → condition_holds declared first environment worth condition
    ≡ condition_holds declared second environment worth condition
condition_same some declared environment worth first second (conditions.InSelect tuple select) covers agree =
    ap (λ (rows : Rows). set.contains rows (map worth tuple.terms))
    (select_same some declared environment select first second covers agree)
condition_same some declared environment worth first second (conditions.InAnswer tuple relation) covers agree = refl
condition_same some declared environment worth first second (conditions.Test test) covers agree = refl

conditions_same : (some : Name → Bool) (declared : List Create) (environment : Environment) (worth : Term → Value)
    (first second : Database) (conditions : List Condition)
    → ((name : Name) → is_among (flat_map condition_tables conditions) name ≡ true → some name ≡ true)
    → Agree some first second
    → list_all (condition_holds declared first environment worth) conditions
    ≡ list_all (condition_holds declared second environment worth) conditions
conditions_same some declared environment worth first second [] covers agree = refl
conditions_same some declared environment worth first second (condition ∷ more) covers agree =
    let here = condition_same some declared environment worth first second condition
    (λ name there. covers name (among_left (condition_tables condition) (flat_map condition_tables more) name there))
    agree
    in
    let rest = conditions_same some declared environment worth first second more
    (λ name there. covers name (among_right (condition_tables condition) (flat_map condition_tables more) name there))
    agree in
    λ i. here i && rest i

-- ---- statements

used_shared : (statement : Statement) (name : Name)
    → is_among (shared_tables statement) name ≡ true → uses statement name ≡ true
used_shared statement name h = among_left (shared_tables statement) (exclusive_tables statement) name h

pub grounding_same : (some : Name → Bool) (declared : List Create) (environment : Environment) (entangled : Entangled)
    (valuation : Valuation) (first second : Database) → Covers some (statements.Entangled entangled)
    → Agree some first second
    → is_grounding declared first environment entangled valuation
    ≡ is_grounding declared second environment entangled valuation
grounding_same some declared environment entangled valuation first second covers agree =
    ap (λ b. (length valuation == length (written_variables entangled)) && b)
    (conditions_same some declared environment (term_worth environment entangled valuation) first second
    entangled.conditions (λ name there. covers name (used_shared (statements.Entangled entangled) name there)) agree)

pub statement_same : (some : Name → Bool) (declared : List Create) (statement : Statement) (valuation : Valuation)
    (environment : Environment) (first second : Database) → Covers some statement → Agree some first second
    → EffectsAlike (Agree some) (statement_meaning declared statement valuation first environment)
    (statement_meaning declared statement valuation second environment)
statement_same some declared (statements.Select select) valuation environment first second covers agree = (
  ap (λ (rows : Rows). answers.Rows (set.ascending rows)) (select_same some declared environment select first second
      (λ name there. covers name (used_shared (statements.Select select) name there)) agree),
  refl,
  agree,
)
statement_same some declared (statements.Entangled entangled) valuation environment first second covers agree =
    (refl, refl, agree)
statement_same some declared (statements.Insert insert) valuation environment first second covers agree =
    let table : Name = insert.table.name in
    insertion_alike (Agree some) (table_named table) first second (agree table (covers table (one_of table)))
    (λ rows. with_same some first second table rows agree) (map (known_value environment) insert.values) environment
statement_same some declared (statements.Delete delete) valuation environment first second covers agree =
    let table : Name = delete.table.name in
    deletion_alike (Agree some) (table_named table) first second (agree table (covers table (one_of table)))
    (λ rows. with_same some first second table rows agree)
    (meets (table_worth declared environment table) delete.tests) environment
statement_same some declared (statements.Update update) valuation environment first second covers agree =
    let table : Name = update.table.name in
    replacement_alike (Agree some) (table_named table) first second (agree table (covers table (one_of table)))
    (λ rows. with_same some first second table rows agree)
    (meets (table_worth declared environment table) update.tests)
    (image (table_worth declared environment table) update.assignments (table_columns declared table table)) environment
statement_same some declared (statements.Set set) valuation environment first second covers agree =
    setting_alike (Agree some) first second agree set.variable.name
    (expression_value (known_value environment) set.expression) environment

-- ---- what isn't changed

with_other : (database : Database) (table : Name) (rows : Rows) (name : Name)
    → is_among (table ∷ []) name ≡ false → with_rows database table rows name ≡ database name
with_other database table rows name out =
    ap (λ b. cond b rows (database name)) (names_turned name table ∙ without (same_name table name) out)
  where
    without : (b : Bool) → (b || false) ≡ false → b ≡ false
    without true h = h
    without false h = refl

changed_keeps : (statement : Statement) (database : Database) (environment : Environment) (table : Name) (count : ℕ)
    (rows : Rows) → ((name : Name) → changes statement name ≡ is_among (table ∷ []) name)
    → KeepsOthers statement database (changed (table_named table) count rows database environment)
changed_keeps statement database environment table count rows is =
    elim (nat_le (set.len rows) MOST_ROWS) as (λ b. KeepsOthers statement database (cond b (Ok (record {
      database = with_rows database table rows;
      environment = environment;
      answer = answers.Count count;
    })) (Err TableFull))) [
      | true ↦ λ name out. with_other database table rows name (sym (is name) ∙ out)
      | false ↦ tt
    ]

or_changed_keeps : (statement : Statement) (database : Database) (environment : Environment) (table : Name) (count : ℕ)
    (x : Option Rows) → ((name : Name) → changes statement name ≡ is_among (table ∷ []) name)
    → KeepsOthers statement database (or_overflow x (changed (table_named table) count) database environment)
or_changed_keeps statement database environment table count (Some rows) is =
    changed_keeps statement database environment table count rows is
or_changed_keeps statement database environment table count None is = tt

setting_keeps : (statement : Statement) (database : Database) (environment : Environment) (variable : Name)
    (value : Option Value) → KeepsOthers statement database (setting variable value database environment)
setting_keeps statement database environment variable (Some value) = λ name out. refl
setting_keeps statement database environment variable None = tt

pub statement_other : (declared : List Create) (statement : Statement) (valuation : Valuation)
    (environment : Environment) (database : Database)
    → KeepsOthers statement database (statement_meaning declared statement valuation database environment)
statement_other declared (statements.Select select) valuation environment database = λ name out. refl
statement_other declared (statements.Entangled entangled) valuation environment database = λ name out. refl
statement_other declared (statements.Insert insert) valuation environment database =
    changed_keeps (statements.Insert insert) database environment insert.table.name _ _ (λ name. refl)
statement_other declared (statements.Delete delete) valuation environment database =
    λ name out. with_other database delete.table.name _ name out
statement_other declared (statements.Update update) valuation environment database =
    or_changed_keeps (statements.Update update) database environment update.table.name _ _ (λ name. refl)
statement_other declared (statements.Set set) valuation environment database =
    setting_keeps (statements.Set set) database environment set.variable.name
    (expression_value (known_value environment) set.expression)

-- ---- runs

first_alike : (Alike : Database → Database → Type 0) (answer other : Answer) (x y : Option Run) → answer ≡ other
    → RunsAlike Alike x y
    → RunsAlike Alike (option_map (answered_first answer) x) (option_map (answered_first other) y)
first_alike Alike answer other (Some x) (Some y) e h = (λ i. e i ∷ h.0 i, h.1, h.2)
first_alike Alike answer other None None e h = tt
first_alike Alike answer other (Some x) None e h = absurd h
first_alike Alike answer other None (Some y) e h = absurd h

after_alike : (Alike : Database → Database → Type 0) (x y : Result (Effect Database) Failure)
    (f g : Database → Environment → Option Run) → EffectsAlike Alike x y
    → ((first second : Database) (environment : Environment) → Alike first second
    → RunsAlike Alike (f first environment) (g second environment))
    → RunsAlike Alike (after x f) (after y g)
after_alike Alike (Ok x) (Ok y) f g h more =
    first_alike Alike x.answer y.answer _ _ h.0
    (subst (λ (e : Environment). RunsAlike Alike (f x.database x.environment) (g y.database e)) h.1
    (more x.database y.database x.environment h.2))
after_alike Alike (Err x) (Err y) f g h more = tt
after_alike Alike (Ok x) (Err y) f g h more = absurd h
after_alike Alike (Err x) (Ok y) f g h more = absurd h

pub run_same : (some : Name → Bool) (declared : List Create) (operations : List Operation) (environment : Environment)
    (first second : Database) → CoversAll some operations → Agree some first second
    → RunsAlike (Agree some) (run declared operations first environment) (run declared operations second environment)
run_same some declared [] environment first second covers agree = (refl, refl, agree)
run_same some declared (operation ∷ more) environment first second covers agree =
    after_alike (Agree some) _ _ _ _
    (statement_same some declared operation.statement operation.valuation environment first second covers.0 agree)
    (λ x y after_it alike. run_same some declared more after_it x y covers.1 alike)
