-- Laws of resolved statements, put together.
use Rattle.std.specs.Prelude.{◌≡◌, true, false, List, length, map, Ok}
use Rattle.ent_value.specs.Value.{kinds_of}
use Rattle.ent_tree.specs.declared.declaration.Create.{Create}
use Rattle.ent_tree.specs.declared.entangled.Entangled.{Entangled as TreeEntangled}
use Rattle.ent_tree.specs.declared.script.Statement.{Statement as TreeStatement}
use Rattle.ent_semantics.specs.Database.{Environment}
use Rattle.ent_semantics.specs.Effect.{Effect}
use Rattle.ent_semantics.specs.Entangled.{Valuation, written_variables, heads, posts, is_grounding}
use Rattle.ent_semantics.specs.Serial.{is_entangled}
use Rattle.ent_semantics.specs.Statement.{statement_meaning}
use Rattle.ent_semantics.specs.Closing.{closed, closed_entangled}
use Rattle.ent_semantics.specs.Form.{Tables, closed_worth, form_heads, form_meaning, form_posts, is_form_grounding}
use Rattle.ent_semantics.specs.Form.{known_worth}
use Rattle.ent_semantics.specs.FormKinds.{Fits, tables_named}
use Rattle.ent_semantics.specs.declared.entangled.Entangled.{Entangled}
use Rattle.ent_semantics.specs.declared.operand.Known.{Known}
use Rattle.ent_semantics.specs.declared.statement.Statement.{Statement}
use Rattle.ent_form.specs.Catalogue.{schemas_of}
use Rattle.ent_form.specs.Entangled.{entangled_in}
use Rattle.ent_form.specs.Form.{statement_in}
use Rattle.ent_form.specs.Kinds.{Bound}
use Rattle.ent_form.specs.declared.catalogue.TableSchema.{TableSchema}
use Rattle.ent_form.specs.TableKinds.{kinds_numbered, AreDeclared, AreKinded, AnswersInKind, HasKinds}
use Rattle.ent_form.specs.Tables.{database_of, effect_of, Answers, AreWide, HaveDistinctColumns}

pub record Laws : Type 0 where
  -- a statement means what its form means, and that what it means closed
  pub means : (creates : List Create) (tables : Tables) (environment : Environment) (valuation : Valuation)
      (bound after : Bound) (statement : TreeStatement) (form : Statement Known)
      → AreWide creates tables
      → HaveDistinctColumns creates
      → statement_in (schemas_of creates) bound statement ≡ Ok (form, after)
      → Answers statement valuation
      → statement_meaning creates statement valuation (database_of creates tables) environment
      ≡ effect_of creates (form_meaning known_worth form valuation tables environment)
  pub closes : (statement : Statement Known) (valuation : Valuation) (tables : Tables) (environment : Environment)
      → form_meaning closed_worth (closed environment statement) valuation tables environment
      ≡ form_meaning known_worth statement valuation tables environment
  -- an entangled one has the groundings, heads and posts of its form, closed
  pub grounds : (creates : List Create) (tables : Tables) (environment : Environment) (bound after : Bound)
      (entangled : TreeEntangled) (form : Entangled Known) (valuation : Valuation)
      → AreWide creates tables
      → entangled_in (schemas_of creates) bound entangled ≡ Ok (form, after)
      → is_grounding creates (database_of creates tables) environment entangled valuation
      ≡ is_form_grounding (known_worth environment) tables form valuation
  pub closes_grounds : (environment : Environment) (tables : Tables) (entangled : Entangled Known)
      (valuation : Valuation)
      → is_form_grounding (λ value. value) tables (closed_entangled environment entangled) valuation
      ≡ is_form_grounding (known_worth environment) tables entangled valuation
  pub offers : (tables : List TableSchema) (bound after : Bound) (entangled : TreeEntangled)
      (form : Entangled Known) (environment : Environment) (valuation : Valuation)
      → entangled_in tables bound entangled ≡ Ok (form, after)
      → length valuation ≡ length (written_variables entangled)
      → heads environment entangled valuation ≡ form_heads (known_worth environment) form valuation
  pub closes_offers : (environment : Environment) (entangled : Entangled Known) (valuation : Valuation)
      → form_heads (λ value. value) (closed_entangled environment entangled) valuation
      ≡ form_heads (known_worth environment) entangled valuation
  pub demands : (tables : List TableSchema) (bound after : Bound) (entangled : TreeEntangled)
      (form : Entangled Known) (environment : Environment) (valuation : Valuation)
      → entangled_in tables bound entangled ≡ Ok (form, after)
      → length valuation ≡ length (written_variables entangled)
      → posts environment entangled valuation ≡ form_posts (known_worth environment) form valuation
  pub closes_demands : (environment : Environment) (entangled : Entangled Known) (valuation : Valuation)
      → form_posts (λ value. value) (closed_entangled environment entangled) valuation
      ≡ form_posts (known_worth environment) entangled valuation
  pub variables : (tables : List TableSchema) (bound after : Bound) (entangled : TreeEntangled)
      (form : Entangled Known)
      → entangled_in tables bound entangled ≡ Ok (form, after)
      → length form.variables ≡ length (written_variables entangled)
  -- it names declared tables, and fits them
  pub declared : (schemas : List TableSchema) (bound after : Bound) (statement : TreeStatement)
      (form : Statement Known)
      → statement_in schemas bound statement ≡ Ok (form, after)
      → AreDeclared schemas (tables_named form)
  pub closes_tables : (form : Statement Known) (environment : Environment)
      → tables_named (closed environment form) ≡ tables_named form
  pub fits : (schemas : List TableSchema) (bound after : Bound) (statement : TreeStatement)
      (form : Statement Known) (environment : Environment)
      → statement_in schemas bound statement ≡ Ok (form, after)
      → is_entangled statement ≡ false
      → HasKinds bound environment
      → Fits (map (kinds_numbered schemas) (tables_named (closed environment form))) (closed environment form)
  -- kinds are kept
  pub keeps : (schemas : List TableSchema) (bound after : Bound) (statement : TreeStatement)
      (form : Statement Known) (valuation : Valuation) (tables : Tables) (environment : Environment)
      (effect : Effect Tables)
      → statement_in schemas bound statement ≡ Ok (form, after)
      → AreKinded schemas tables
      → HasKinds bound environment
      → form_meaning known_worth form valuation tables environment ≡ Ok effect
      → AreKinded schemas effect.database
  pub binds : (schemas : List TableSchema) (bound after : Bound) (statement : TreeStatement)
      (form : Statement Known) (valuation : Valuation) (tables : Tables) (environment : Environment)
      (effect : Effect Tables)
      → statement_in schemas bound statement ≡ Ok (form, after)
      → HasKinds bound environment
      → AnswersInKind form valuation
      → form_meaning known_worth form valuation tables environment ≡ Ok effect
      → HasKinds after effect.environment
  pub grounded : (schemas : List TableSchema) (bound after : Bound) (entangled : TreeEntangled)
      (form : Entangled Known) (environment : Environment) (tables : Tables) (valuation : Valuation)
      → entangled_in schemas bound entangled ≡ Ok (form, after)
      → AreKinded schemas tables
      → HasKinds bound environment
      → is_form_grounding (λ value. value) tables (closed_entangled environment form) valuation ≡ true
      → kinds_of valuation ≡ form.variables
  pub wide : (creates : List Create) (tables : Tables)
      → AreKinded (schemas_of creates) tables
      → AreWide creates tables
