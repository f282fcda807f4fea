-- What a statement leaves and answers can be told, kinds aside.
use Rattle.std.proofs.Common.{◌≡◌, ◌≤◌, ℕ, Bool, true, false, not, List, [], ◌∷◌, map, length, refl, sym}
use Rattle.std.proofs.Common.{subst, ◌∙◌, arith, Option, Some, None, Result, Ok, Err}
use Rattle.std.specs.Prelude.{nat_le, if◌then◌else◌}
use Rattle.std.proofs.lemmas.Bool.Decides.{nat_tests}
use Rattle.std.proofs.lemmas.List.{length-map}
use Rattle.ent_lists.specs.Sets as set
use Rattle.ent_value.specs.declared.limits.TheConstants.{MOST_ROWS}
use Rattle.ent_value.specs.declared.value.Value.{Value}
use Rattle.ent_tree.specs.declared.declaration.Create.{Create}
use Rattle.ent_tree.specs.declared.operand.ValueSpecification.{ValueSpecification}
use Rattle.ent_tree.specs.declared.script.Statement.{Statement}
use Rattle.ent_tree.specs.declared.script.Statement.TheVariants as statements
use Rattle.ent_print.specs.Reading.{CanBeRead}
use Rattle.ent_print.specs.Spelling.{assignment_spelling, comma_list, sign, specification_spelling}
use Rattle.ent_print.specs.Spelling.{statement_spelling, tests_clause}
use Rattle.ent_text.specs.declared.symbol.Symbol.TheVariants as symbols
use Rattle.ent_semantics.specs.declared.answer.Answer.TheVariants as answers
use Rattle.ent_semantics.specs.declared.answer.Failure.{Failure}
use Rattle.ent_semantics.specs.declared.answer.Failure.TheVariants.{TableFull}
use Rattle.ent_semantics.specs.Change.{image, matched, unmatched, updated}
use Rattle.ent_semantics.specs.Database.{Database, Environment, Name, Rows, columns_of, same_name, table_named}
use Rattle.ent_semantics.specs.Database.{with_rows, with_value}
use Rattle.ent_semantics.specs.Effect.{Effect, Meaning, changed, or_overflow, setting}
use Rattle.ent_semantics.specs.Entangled.{Valuation, bound_values}
use Rattle.ent_semantics.specs.Selection.{meets, select_rows}
use Rattle.ent_semantics.specs.Statement.{statement_meaning, table_worth}
use Rattle.ent_semantics.specs.Term.{expression_value, known_value, table_columns}
use Rattle.ent_sql_laws.specs.Fits.{StatementFits}
use Rattle.ent_history.specs.Answers.{IsOfSort}
use Rattle.ent_history.specs.Parts.{IsRow}
use Rattle.ent_form.proofs.ResolvedSteps.{one_answer}
use Rattle.ent_lists.specs.Elements.{all_first}
use Rattle.ent_semantics.proofs.EachRow.{EachRow, each_inserted, each_retained, to_ascending}
use Rattle.ent_report_laws.specs.Tellable.{IsAnswerTold}
use Rattle.ent_program_laws.specs.Answered.{CanBeCounted}
use Rattle.ent_program_laws.proofs.Changes.{IsRowUnder, updated_are_rows}
use Rattle.ent_program_laws.proofs.Offered.{bound_are_told, heads_are_told}
use Rattle.ent_program_laws.proofs.Read.{AreRead, separated_are_read}
use Rattle.ent_program_laws.proofs.Results.{HoldsRows, select_is_told, some_mapped}
use Rattle.ent_program_laws.proofs.Rows.{retained_few, rows_rise}
use Rattle.ent_program_laws.proofs.Values.{AreValues, HoldsValues, all_bound_are_held, bound_is_held}
use Rattle.ent_program_laws.proofs.Values.{expression_is_value, known_is_value, mapped_are_values, operand_is_value}

abbrev pub HoldsFew : Database → Type 0
HoldsFew database = (name : Name) → set.len (database name) ≤ 65536

pub record LeavesTold (statement : Statement) (effect : Effect Database) : Type 0 where
  pub rows : HoldsRows effect.database
  pub few : HoldsFew effect.database
  pub values : HoldsValues effect.environment
  pub sort : IsOfSort statement effect.answer
  pub told : CanBeCounted effect.answer → IsAnswerTold effect.answer

-- ---- other rows in one table

pub rows_put : (P : List Value → Type 0) (database : Database) (table : Name) (rows : Rows)
    → ((name : Name) → EachRow P (database name)) → EachRow P rows
    → (name : Name) → EachRow P (with_rows database table rows name)
rows_put P database table rows held each name = by (same_name name table)
  where
    by : (b : Bool) → EachRow P (if b then rows else database name)
    by true = each
    by false = held name

few_put : (database : Database) (table : Name) (rows : Rows) → HoldsFew database → set.len rows ≤ 65536
    → HoldsFew (with_rows database table rows)
few_put database table rows held few name = by (same_name name table)
  where
    by : (b : Bool) → set.len (if b then rows else database name) ≤ 65536
    by true = few
    by false = held name

few_enough : (n : ℕ) → nat_le n 65536 ≡ true → n ≤ 65536
few_enough n e = grind (arith, nat_tests)

new_or_not : (there : Bool) → (if there then 0 else 1) ≤ 65536
new_or_not true = omega arith
new_or_not false = omega arith

abbrev of_effect : (Effect Database) → Result (Effect Database) Failure
of_effect effect = Ok effect

module _ (database : Database) (environment : Environment) where
  abbrev pub changed_to : Name → ℕ → Rows → Effect Database
  changed_to table count new = record {
    database = with_rows database table new;
    environment = environment;
    answer = answers.Count count;
  }

  -- a table that isn't too full gets its rows
  pub changed_is : (table : Name) (count : ℕ) (new : Rows) (effect : Effect Database)
      → changed (table_named table) count new database environment ≡ Ok effect
      → (nat_le (set.len new) MOST_ROWS ≡ true) × (changed_to table count new ≡ effect)
  changed_is table count new effect e = by (nat_le (set.len new) MOST_ROWS) refl e
    where
      by : (b : Bool) → nat_le (set.len new) MOST_ROWS ≡ b
          → (if b then of_effect (changed_to table count new) else Err TableFull) ≡ Ok effect
          → (nat_le (set.len new) MOST_ROWS ≡ true) × (changed_to table count new ≡ effect)
      by true small is = (small, one_answer {E = Failure} (changed_to table count new) effect is)
      by false full is = cc (is)

  -- goes on with what is there
  pub over_there : {A : Type 0} (there : Option A) (more : A → Meaning Database) (effect : Effect Database)
      → or_overflow there more database environment ≡ Ok effect
      → (x : A) × (there ≡ Some x) × (more x database environment ≡ Ok effect)
  over_there (Some x) more effect e = (x, refl, e)
  over_there None more effect e = cc (e)

  abbrev pub set_to : Name → Value → Effect Database
  set_to variable value = record {
    database = database;
    environment = with_value environment variable value;
    answer = answers.Value value;
  }

  -- a host variable is bound to what is there
  pub setting_is : (variable : Name) (there : Option Value) (effect : Effect Database)
      → setting variable there database environment ≡ Ok effect
      → (value : Value) × (there ≡ Some value) × (set_to variable value ≡ effect)
  setting_is variable (Some value) effect e =
      (value, refl, one_answer {E = Failure} (set_to variable value) effect e)
  setting_is variable None effect e = cc (e)

-- a statement that answers how many rows it concerned
abbrev IsCounting : Statement → Type 0
IsCounting statement = (count : ℕ) → IsOfSort statement (answers.Count count)

module _ (declared : List Create) (database : Database) (environment : Environment) (rows : HoldsRows database)
    (few : HoldsFew database) (held : HoldsValues environment) where
  counted_told : (statement : Statement) → IsCounting statement → (table : Name) (count : ℕ) (new : Rows)
      → count ≤ 65536 → EachRow IsRow new → set.len new ≤ 65536
      → LeavesTold statement (changed_to database environment table count new)
  counted_told statement counting table count new low each small = record {
    rows = rows_put IsRow database table new rows each;
    few = few_put database table new few small;
    values = held;
    sort = counting count;
    told = λ counted. omega (arith, low);
  }

  changed_told : (statement : Statement) → IsCounting statement → (table : Name) (count : ℕ) (new : Rows)
      → count ≤ 65536 → EachRow IsRow new → (effect : Effect Database)
      → changed (table_named table) count new database environment ≡ Ok effect → LeavesTold statement effect
  changed_told statement counting table count new low each effect e =
      let is = changed_is database environment table count new effect e in
      subst (LeavesTold statement) is.1
      (counted_told statement counting table count new low each (few_enough (set.len new) is.0))

  module _ (wide : (name : Name) (row : List Value) → set.contains (database name) row ≡ true
      → length row ≡ length (columns_of declared name)) where
    under : (table : Name) → EachRow (IsRowUnder (table_columns declared table table)) (database table)
    under table row there = (
      rows table row there,
      wide table row there
          ∙ sym (length-map (columns_of declared table)
          (λ (column : Name). record { source = table; column = column })),
    )

    pub leaves_told : (statement : Statement) → AreRead (statement_spelling statement) → StatementFits statement
        → (valuation : Valuation) → AreValues valuation → (effect : Effect Database)
        → statement_meaning declared statement valuation database environment ≡ Ok effect
        → LeavesTold statement effect
    leaves_told (statements.Select select) can fits valuation all effect e =
        let result = select_rows declared database environment select in
        let told = select_is_told declared database environment rows held select can fits in
        subst (LeavesTold (statements.Select select)) (one_answer {E = Failure} _ effect e)
        (record {
          rows = rows;
          few = few;
          values = held;
          sort = tt;
          told = λ counted. (counted, to_ascending IsRow result told, rows_rise result);
        })
    leaves_told (statements.Entangled entangled) can fits valuation all effect e =
        subst (LeavesTold (statements.Entangled entangled)) (one_answer {E = Failure} _ effect e)
        (record {
          rows = rows;
          few = few;
          values = all_bound_are_held environment (bound_values environment entangled valuation) held
              (bound_are_told environment held entangled can fits valuation all);
          sort = tt;
          told = λ counted. heads_are_told environment held entangled can fits valuation all;
        })
    leaves_told (statements.Insert insert) can fits valuation all effect e =
        let table = insert.table.name in
        let row = map (known_value environment) insert.values in
        let read = separated_are_read (sign symbols.Comma) specification_spelling insert.values
        (all_first CanBeRead (comma_list specification_spelling insert.values) (sign symbols.Close ∷ [])
        can.1.1.1.1.1) in
        let is : IsRow row = (
          some_mapped (known_value environment) insert.values fits.0,
          mapped_are_values (λ (value : ValueSpecification). AreRead (specification_spelling value))
              (known_value environment) insert.values (known_is_value environment held) read,
        ) in
        changed_told (statements.Insert insert) (λ count. tt) table
        (if set.contains (database table) row then 0 else 1) (set.insert (database table) row)
        (new_or_not (set.contains (database table) row))
        (each_inserted IsRow (database table) row (rows table) is) effect e
    leaves_told (statements.Delete delete) can fits valuation all effect e =
        let table = delete.table.name in
        let matches = meets (table_worth declared environment table) delete.tests in
        let low = retained_few (database table) matches in
        let left = retained_few (database table) (λ row. not (matches row)) in
        let here = few table in
        subst (LeavesTold (statements.Delete delete)) (one_answer {E = Failure} _ effect e)
        (counted_told (statements.Delete delete) (λ count. tt) table (set.len (matched matches (database table)))
        (unmatched matches (database table)) (omega (arith, low, here))
        (each_retained IsRow (database table) (λ row. not (matches row)) (rows table)) (omega (arith, left, here)))
    leaves_told (statements.Update update) can fits valuation all effect e =
        let table = update.table.name in
        let worth = table_worth declared environment table in
        let columns = table_columns declared table table in
        let matches = meets worth update.tests in
        let low = retained_few (database table) matches in
        let here = few table in
        let read = separated_are_read (sign symbols.Comma) assignment_spelling update.assignments
        (all_first CanBeRead (comma_list assignment_spelling update.assignments) (tests_clause update.tests)
        can.1.1.1) in
        let there = over_there database environment
        (updated matches (image worth update.assignments columns) (database table))
        (changed (table_named table) (set.len (matched matches (database table)))) effect e in
        changed_told (statements.Update update) (λ count. tt) table (set.len (matched matches (database table)))
        there.0 (omega (arith, low, here))
        (updated_are_rows worth update.assignments columns
        (λ row values operand. operand_is_value environment held columns row values operand) read matches
        (database table) there.0 (under table) there.1) effect there.2
    leaves_told (statements.Set set) can fits valuation all effect e =
        let there = setting_is database environment set.variable.name
        (expression_value (known_value environment) set.expression) effect e in
        let is = expression_is_value (known_value environment) specification_spelling
        (known_is_value environment held) set.expression can.1.1.1 there.0 there.1 in
        subst (LeavesTold (statements.Set set)) there.2
        (record {
          rows = rows;
          few = few;
          values = bound_is_held environment held set.variable.name there.0 is;
          sort = tt;
          told = λ counted. is;
        })
