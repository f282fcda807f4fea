-- What a statement leaves and answers has the property.
use Rattle.std.proofs.Common.{◌≡◌, ℕ, ℤ, not, List, [], ◌∷◌, map, subst}
use Rattle.std.proofs.Common.{Ok}
use Rattle.std.specs.Prelude.{if◌then◌else◌}
use Rattle.std.specs.List.{AllByRecursion}
use Rattle.ent_lists.specs.Sets as set
use Rattle.ent_value.specs.declared.value.Value.{Value}
use Rattle.ent_value.specs.declared.value.Value.TheVariants.{Int}
use Rattle.ent_tree.specs.declared.operand.ValueSpecification.{ValueSpecification}
use Rattle.ent_tree.specs.declared.script.Statement.TheVariants as statements
use Rattle.ent_print.specs.Spelling.{assignment_spelling, comma_list, sign, specification_spelling, tests_clause}
use Rattle.ent_text.specs.declared.symbol.Symbol.TheVariants as symbols
use Rattle.ent_semantics.specs.declared.answer.Failure.{Failure}
use Rattle.ent_semantics.specs.Change.{image, matched, unmatched, updated}
use Rattle.ent_semantics.specs.Database.{Database, Environment, Name, Rows, table_named}
use Rattle.ent_semantics.specs.Effect.{Effect, changed}
use Rattle.ent_semantics.specs.Entangled.{bound_values}
use Rattle.ent_semantics.specs.Selection.{meets, select_rows}
use Rattle.ent_semantics.specs.Statement.{table_worth}
use Rattle.ent_semantics.specs.Term.{expression_value, known_value, table_columns}
use Rattle.ent_form.proofs.ResolvedSteps.{one_answer}
use Rattle.ent_lists.specs.Elements.{all_first}
use Rattle.ent_semantics.proofs.EachRow.{EachRow, each_inserted, each_retained, to_ascending}
use Rattle.ent_program_laws.proofs.Leaving.{changed_is, changed_to, over_there, rows_put, setting_is}
use Rattle.ent_program_laws.specs.Kept.{StatementsKeep}
use Rattle.ent_program_laws.specs.Values.{BindsValues, HoldsValues, IsWritten, LeavesValues}
use Rattle.ent_program_laws.proofs.Changed.{updated_have}
use Rattle.ent_program_laws.proofs.CharacterOffered.{bound_have, heads_have}
use Rattle.ent_program_laws.proofs.Selected.{select_has}
use Rattle.ent_program_laws.proofs.Worth.{all_bound_have, bound_has, expression_has, known_has, mapped_have}
use Rattle.ent_program_laws.proofs.Worth.{operand_has}
use Rattle.ent_program_laws.proofs.Written.{separated_are_written}

module _ (P : Value → Type 0) (numbers : (number : ℤ) → P (Int number)) where
  -- a row has such values
  abbrev Has : List Value → Type 0
  Has row = AllByRecursion P row

  module _ (database : Database) (environment : Environment) (holds : HoldsValues P database)
      (binds : BindsValues P environment) where
    counted : (table : Name) (count : ℕ) (new : Rows) → EachRow Has new
        → LeavesValues P (changed_to database environment table count new)
    counted table count new each =
        record { tables = rows_put Has database table new holds each; variables = binds; answered = tt }

    changed_have : (table : Name) (count : ℕ) (new : Rows) → EachRow Has new → (effect : Effect Database)
        → changed (table_named table) count new database environment ≡ Ok effect → LeavesValues P effect
    changed_have table count new each effect e =
        subst (LeavesValues P) (changed_is database environment table count new effect e).1
        (counted table count new each)

  pub statement_leaves : StatementsKeep P
  statement_leaves declared (statements.Select select) valuation database environment effect writes all holds binds e =
      let result = select_rows declared database environment select in
      let has = select_has P numbers declared database environment holds binds select writes in
      subst (LeavesValues P) (one_answer {E = Failure} _ effect e)
      (record { tables = holds; variables = binds; answered = to_ascending Has result has })
  statement_leaves declared (statements.Entangled entangled) valuation database environment effect writes all holds
      binds e =
      subst (LeavesValues P) (one_answer {E = Failure} _ effect e)
      (record {
        tables = holds;
        variables = all_bound_have P numbers environment (bound_values environment entangled valuation) binds
            (bound_have P numbers environment binds entangled writes valuation all);
        answered = heads_have P numbers environment binds entangled writes valuation all;
      })
  statement_leaves declared (statements.Insert insert) valuation database environment effect writes all holds binds e =
      let table = insert.table.name in
      let row = map (known_value environment) insert.values in
      let written = separated_are_written (IsWritten P) (sign symbols.Comma) specification_spelling insert.values
      (all_first (IsWritten P) (comma_list specification_spelling insert.values) (sign symbols.Close ∷ [])
      writes.1.1.1.1.1) in
      let has = mapped_have P numbers
      (λ (value : ValueSpecification). AllByRecursion (IsWritten P) (specification_spelling value))
      (known_value environment) insert.values (known_has P numbers environment binds) written in
      changed_have database environment holds binds table (if set.contains (database table) row then 0 else 1)
      (set.insert (database table) row) (each_inserted Has (database table) row (holds table) has) effect e
  statement_leaves declared (statements.Delete delete) valuation database environment effect writes all holds binds e =
      let table = delete.table.name in
      let matches = meets (table_worth declared environment table) delete.tests in
      subst (LeavesValues P) (one_answer {E = Failure} _ effect e)
      (counted database environment holds binds table (set.len (matched matches (database table)))
      (unmatched matches (database table))
      (each_retained Has (database table) (λ row. not (matches row)) (holds table)))
  statement_leaves declared (statements.Update update) valuation database environment effect writes all holds binds e =
      let table = update.table.name in
      let worth = table_worth declared environment table in
      let columns = table_columns declared table table in
      let matches = meets worth update.tests in
      let written = separated_are_written (IsWritten P) (sign symbols.Comma) assignment_spelling update.assignments
      (all_first (IsWritten P) (comma_list assignment_spelling update.assignments) (tests_clause update.tests)
      writes.1.1.1) in
      let there = over_there database environment
      (updated matches (image worth update.assignments columns) (database table))
      (changed (table_named table) (set.len (matched matches (database table)))) effect e in
      changed_have database environment holds binds table (set.len (matched matches (database table))) there.0
      (updated_have P numbers update.assignments written worth columns
      (operand_has P numbers environment binds columns) matches (database table) there.0 (holds table) there.1)
      effect there.2
  statement_leaves declared (statements.Set set) valuation database environment effect writes all holds binds e =
      let there = setting_is database environment set.variable.name
      (expression_value (known_value environment) set.expression) effect e in
      let has = expression_has P numbers (known_value environment) specification_spelling
      (known_has P numbers environment binds) set.expression writes.1.1.1 there.0 there.1 in
      subst (LeavesValues P) there.2
      (record {
        tables = holds;
        variables = bound_has P numbers environment binds set.variable.name there.0 has;
        answered = has;
      })
