-- Laws of statements and of their forms, put together.
use Rattle.std.specs.Prelude.{◌≡◌, Contains, List, [], None, Ok}
use Rattle.ent_value.specs.declared.value.Kind.{Kind}
use Rattle.ent_tree.specs.declared.declaration.Create.{Create}
use Rattle.ent_tree.specs.declared.script.Script.{Script}
use Rattle.ent_tree.specs.declared.select.Select.{Select as TreeSelect}
use Rattle.ent_semantics.specs.Database.{Environment}
use Rattle.ent_semantics.specs.Selection.{select_rows}
use Rattle.ent_semantics.specs.Closing.{closed_entangled}
use Rattle.ent_semantics.specs.Form.{Tables, form_rows, known_worth}
use Rattle.ent_semantics.specs.declared.entangled.Entangled.{Entangled}
use Rattle.ent_semantics.specs.declared.operand.Known.{Known}
use Rattle.ent_semantics.specs.declared.statement.Select.{Select}
use Rattle.ent_semantics.specs.declared.statement.Statement.TheVariants as statements
use Rattle.ent_form.specs.AllFaults.{fault_of, head_of}
use Rattle.ent_form.specs.Catalogue.{schemas_of}
use Rattle.ent_form.specs.Form.{script_in}
use Rattle.ent_form.specs.Kinds.{Bound}
use Rattle.ent_form.specs.OpeningFault.{declarations_fault}
use Rattle.ent_form.specs.Ordinary.{select_in}
use Rattle.ent_form.specs.ScriptFaults.{script_faults}
use Rattle.ent_form.specs.declared.catalogue.TableSchema.{TableSchema}
use Rattle.ent_form.specs.declared.script.Plain.{Plain}
use Rattle.ent_form.specs.Tables.{AreWide, HaveDistinctColumns, database_of}
use Rattle.ent_plan.specs.Ranged.{IsRanged}
use Rattle.ent_check.specs.Laws.{Laws as FormLaws}

pub record Laws : Type 0 where
  -- what a statement means, its form does; and that keeps kinds
  pub forms : FormLaws
  -- a script without a fault resolves
  pub first : (tables : List TableSchema) (script : Script)
      → fault_of (script_in tables script) ≡ head_of (script_faults tables script)
  pub distinct : (creates : List Create) → declarations_fault [] creates ≡ None → HaveDistinctColumns creates
  -- a SELECT has the rows of its form
  pub selects : (creates : List Create) (tables : Tables) (environment : Environment) (bound : Bound)
      (select : TreeSelect) (form : Select Known) (kinds : List Kind)
      → AreWide creates tables
      → select_in (schemas_of creates) bound select ≡ Ok (form, kinds)
      → select_rows creates (database_of creates tables) environment select
      ≡ form_rows (known_worth environment) tables form
  -- each written variable stands in a tuple of a sub-select
  pub ranged : (tables : List TableSchema) (script : Script) (plain : Plain) (entangled : Entangled Known)
      → script_in tables script ≡ Ok plain
      → Contains plain.statements (statements.Entangled entangled)
      → (environment : Environment)
      → IsRanged (closed_entangled environment entangled)
