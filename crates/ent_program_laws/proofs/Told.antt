-- Members and tables that a report shows.
use Rattle.std.proofs.Common.{◌≡◌, ◌≤◌, List, [], ◌∷◌, map, length, refl, sym, ap, subst, ◌∙◌, arith, inl, inr}
use Rattle.std.proofs.Common.{Contains, Option, Some, Ok, Result}
use Rattle.ent_lists.specs.Sets as set
use Rattle.ent_value.specs.Value.{kinds_of}
use Rattle.ent_value.specs.declared.value.Value.{Value}
use Rattle.ent_tree.specs.declared.declaration.Column.{Column}
use Rattle.ent_tree.specs.declared.declaration.Create.{Create}
use Rattle.ent_tree.specs.declared.script.Script.{Script}
use Rattle.ent_tree.specs.declared.script.Statement.{Statement as TreeStatement}
use Rattle.ent_tree.specs.declared.script.Statement.TheVariants as trees
use Rattle.ent_semantics.specs.Database.{Database, Name}
use Rattle.ent_semantics.specs.Entangled.{written_variables}
use Rattle.ent_semantics.specs.Joint.{member_of}
use Rattle.ent_semantics.specs.Serial.{ReadView, Turn, numbered}
use Rattle.ent_semantics.specs.declared.operand.Known.{Known}
use Rattle.ent_semantics.specs.declared.statement.Statement.{Statement}
use Rattle.ent_form.specs.Catalogue.{schemas_of}
use Rattle.ent_form.specs.Form.{script_in}
use Rattle.ent_form.specs.declared.fault.FormFault.{FormFault}
use Rattle.ent_form.specs.declared.script.Plain.{Plain}
use Rattle.ent_book.specs.Report2.{member_variables, script_statement, statement_variables}
use Rattle.ent_book.proofs.Ascending.{count_of_ascending}
use Rattle.ent_history.specs.Told.{shown_table, told_member}
use Rattle.ent_history.specs.declared.history.History.{History}
use Rattle.ent_history.specs.Joints.{Binds, BindsRight, binds_of, member_binds, resolved_at, script_binds}
use Rattle.ent_history.specs.Parts.{IsRow}
use Rattle.ent_lists.specs.Elements.{In}
use Rattle.ent_semantics.proofs.EachRow.{to_ascending}
use Rattle.ent_report_laws.specs.Tellable.{AreRowsOf, AreTablesOf, IsMemberTold}
use Rattle.ent_program_laws.specs.Held.{HoldsRowsOf}
use Rattle.ent_program_laws.proofs.Rows.{rows_rise}
use Rattle.ent_program_laws.proofs.Walking.{IsReadViewTold}

-- ---- members

pub member_told : (history : History) (turn : Turn) (plain : Plain) (read_view : ReadView)
    → numbered history.scripts turn.tx ≡ Some turn.script
    → script_in (schemas_of history.opening.tables) turn.script ≡ Ok plain
    → IsReadViewTold turn.tx turn.script plain read_view
    → IsMemberTold history (told_member history.scripts (member_of read_view))
member_told history turn plain read_view own made told =
    let tables = schemas_of history.opening.tables in
    let place = read_view.place in
    let at : numbered history.scripts read_view.tx ≡ Some turn.script =
    ap (numbered history.scripts) told.of_script ∙ own in
    let variables : member_variables history.scripts (member_of read_view) ≡ written_variables read_view.entangled =
    ap (λ (o : Option Script). statement_variables (script_statement place o)) at
    ∙ ap (λ (o : Option TreeStatement). statement_variables o) told.statement in
    let binds : member_binds history read_view.tx place
    ≡ Some (written_variables read_view.entangled, told.form.variables) =
    ap (λ (o : Option Script). script_binds tables o place) at
    ∙ ap (λ (o : Option TreeStatement). binds_of o (resolved_at (script_in tables turn.script) place)) told.statement
    ∙ ap (λ (r : Result Plain FormFault). binds_of (Some (trees.Entangled read_view.entangled)) (resolved_at r place))
    made
    ∙ ap (λ (o : Option (Statement Known)). binds_of (Some (trees.Entangled read_view.entangled)) o) told.resolved in
    record {
      paired = ap (λ (names : List Name). length names) variables ∙ sym told.answered.many;
      are_values = told.answered.values;
      binds = subst (λ (b : Option Binds).
          BindsRight b (member_variables history.scripts (member_of read_view)) read_view.valuation) (sym binds)
          (variables, told.answered.kinds);
    }

-- ---- tables

module _ (declared : List Create) (database : Database) (holds : HoldsRowsOf declared database) where
  module _ (create : Create) (there : Contains declared create) where
    pub few_are_told : length (set.ascending (database create.name.name)) ≤ 65536
    few_are_told =
        let few = holds.few create there in
        omega (arith, few, count_of_ascending (database create.name.name))

    pub rows_are_told : AreRowsOf create.columns (set.ascending (database create.name.name))
    rows_are_told = (
      to_ascending (λ (row : List Value).
          IsRow row × (kinds_of row ≡ map (λ (column : Column). column.kind) create.columns))
          (database create.name.name) (holds.rows create there),
      rows_rise (database create.name.name),
    )

  pub tables_are_told : (creates : List Create) → ((create : Create) → In create creates → Contains declared create)
      → AreTablesOf creates (map (λ (create : Create). shown_table database create.name.name) creates)
  tables_are_told [] among = tt
  tables_are_told (create ∷ more) among = (
    refl,
    few_are_told create (among create (inl refl)),
    rows_are_told create (among create (inl refl)),
    tables_are_told more (λ other at. among other (inr at)),
  )
