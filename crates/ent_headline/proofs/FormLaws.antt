-- What lower crates say of the meaning of resolved statements.
use Rattle.std.proofs.Common.{◌≡◌, List, length, Ok}
use Rattle.ent_tree.specs.declared.declaration.Create.{Create}
use Rattle.ent_tree.specs.declared.entangled.Entangled.{Entangled as TreeEntangled}
use Rattle.ent_tree.specs.declared.script.Statement.{Statement as TreeStatement}
use Rattle.ent_semantics.specs.Database.{Environment}
use Rattle.ent_semantics.specs.Entangled.{Valuation, written_variables, is_grounding}
use Rattle.ent_semantics.specs.Statement.{statement_meaning}
use Rattle.ent_semantics.specs.Form.{Tables, form_meaning, is_form_grounding, known_worth}
use Rattle.ent_semantics.specs.declared.entangled.Entangled.{Entangled}
use Rattle.ent_semantics.specs.declared.operand.Known.{Known}
use Rattle.ent_semantics.specs.declared.statement.Statement.{Statement}
use Rattle.ent_form.specs.Catalogue.{schemas_of}
use Rattle.ent_form.specs.Entangled.{entangled_in}
use Rattle.ent_form.specs.Form.{statement_in}
use Rattle.ent_form.specs.Kinds.{Bound}
use Rattle.ent_form.specs.declared.catalogue.TableSchema.{TableSchema}
use Rattle.ent_form.specs.TableKinds.{AreKinded}
use Rattle.ent_form.specs.Tables.{database_of, effect_of, Answers, AreWide, HaveDistinctColumns}

pub record FormLaws : Type 0 where
  pub means : (creates : List Create) (tables : Tables) (environment : Environment) (valuation : Valuation)
      → (bound after : Bound) (statement : TreeStatement) (form : Statement Known)
      → AreWide creates tables → HaveDistinctColumns creates
      → statement_in (schemas_of creates) bound statement ≡ Ok (form, after) → Answers statement valuation
      → statement_meaning creates statement valuation (database_of creates tables) environment
      ≡ effect_of creates (form_meaning known_worth form valuation tables environment)
  pub variables : (tables : List TableSchema) (bound after : Bound) (entangled : TreeEntangled)
      → (form : Entangled Known) → entangled_in tables bound entangled ≡ Ok (form, after)
      → length form.variables ≡ length (written_variables entangled)
  pub grounds : (creates : List Create) (tables : Tables) (environment : Environment) (bound after : Bound)
      → (entangled : TreeEntangled) (form : Entangled Known) (valuation : Valuation)
      → AreWide creates tables → entangled_in (schemas_of creates) bound entangled ≡ Ok (form, after)
      → is_grounding creates (database_of creates tables) environment entangled valuation
      ≡ is_form_grounding (known_worth environment) tables form valuation
  pub wide : (creates : List Create) (tables : Tables) → AreKinded (schemas_of creates) tables
      → AreWide creates tables
