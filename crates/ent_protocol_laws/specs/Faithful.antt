-- What is asked of the forms of scripts: they mean what their statements mean, and use the tables that those use.
use Rattle.std.specs.Prelude.{◌≡◌, ◌<◌, ℕ, suc, true, Bool, ◌&&◌, ◌==◌, List, [], ◌∷◌, length, map, Ok, if◌then◌else◌}
use Rattle.std.specs.List.{list_any}
use Rattle.ent_lock.specs.Mode.{mode_rank}
use Rattle.ent_tree.specs.declared.declaration.Create.{Create}
use Rattle.ent_tree.specs.declared.declaration.Opening.{Opening}
use Rattle.ent_tree.specs.declared.entangled.Entangled.{Entangled as TreeEntangled}
use Rattle.ent_tree.specs.declared.script.Script.{Script}
use Rattle.ent_tree.specs.declared.script.Statement.{Statement as TreeStatement}
use Rattle.ent_tree.specs.declared.script.Statement.TheVariants as tree
use Rattle.ent_semantics.specs.Database.{Name, Environment, same_name, opening_database}
use Rattle.ent_semantics.specs.Effect.{Effect}
use Rattle.ent_semantics.specs.Entangled.{Valuation, written_variables, is_grounding, heads, posts}
use Rattle.ent_semantics.specs.Statement.{statement_meaning}
use Rattle.ent_semantics.specs.Uses.{uses, changes}
use Rattle.ent_semantics.specs.Closing.{closed}
use Rattle.ent_semantics.specs.Form.{Tables, known_worth, form_meaning, form_heads, form_posts, is_form_grounding}
use Rattle.ent_semantics.specs.declared.entangled.Entangled.{Entangled}
use Rattle.ent_semantics.specs.declared.operand.Known.{Known}
use Rattle.ent_semantics.specs.declared.statement.Statement.{Statement}
use Rattle.ent_semantics.specs.declared.statement.Statement.TheVariants as forms
use Rattle.ent_form.specs.Tables.{database_of, AreWide, effect_of, Answers}
use Rattle.ent_protocol.specs.Reached.{table_names}
use Rattle.ent_protocol.specs.Run.{Forms}
use Rattle.ent_protocol.specs.State.{Use}
use Rattle.ent_protocol.specs.Uses.{statement_uses}

-- the number of the table of a name; where none is declared, one that no table has
abbrev pub table_number : List Create → Name → ℕ
table_number [] name = 0
table_number (create ∷ more) name = if same_name create.name.name name then 0 else suc (table_number more name)

-- a table is used, and is used exclusively
abbrev pub is_used : List Use → ℕ → Bool
is_used uses table = list_any (λ own. own.table == table) uses

abbrev pub is_owned : List Use → ℕ → Bool
is_owned uses table = list_any (λ own. (own.table == table) && (mode_rank own.mode == 1)) uses

-- an entangled statement and its form have the same groundings, heads and posts
pub record IsFaithfulEntangled (creates : List Create) (entangled : TreeEntangled) (form : Entangled Known)
    : Type 0 where
  pub variables : length form.variables ≡ length (written_variables entangled)
  pub grounds : (tables : Tables) (environment : Environment) (valuation : Valuation) → AreWide creates tables
      → is_grounding creates (database_of creates tables) environment entangled valuation
      ≡ is_form_grounding (known_worth environment) tables form valuation
  pub offers : (environment : Environment) (valuation : Valuation)
      → length valuation ≡ length (written_variables entangled)
      → heads environment entangled valuation ≡ form_heads (known_worth environment) form valuation
  pub demands : (environment : Environment) (valuation : Valuation)
      → length valuation ≡ length (written_variables entangled)
      → posts environment entangled valuation ≡ form_posts (known_worth environment) form valuation

-- a form is entangled where its statement is
abbrev pub AreAlike : List Create → TreeStatement → Statement Known → Type 0
AreAlike creates (tree.Entangled entangled) (forms.Entangled form) = IsFaithfulEntangled creates entangled form
AreAlike creates (tree.Entangled entangled) other = ⊥
AreAlike creates statement (forms.Entangled form) = ⊥
AreAlike creates statement form = Unit {0}

pub record IsFaithful (creates : List Create) (statement : TreeStatement) (form : Statement Known) : Type 0 where
  -- over tables of the declared width a form means what its statement means
  pub means : (tables : Tables) (environment : Environment) (valuation : Valuation) → AreWide creates tables
      → Answers statement valuation
      → statement_meaning creates statement valuation (database_of creates tables) environment
      ≡ effect_of creates (form_meaning known_worth form valuation tables environment)
  -- and it leaves tables of that width
  pub keeps_width : (tables : Tables) (environment : Environment) (valuation : Valuation) (effect : Effect Tables)
      → AreWide creates tables → form_meaning known_worth form valuation tables environment ≡ Ok effect
      → AreWide creates effect.database
  -- it uses the tables that its statement uses, and exclusively those that it may change
  pub reads : (environment : Environment) (name : Name) → uses statement name ≡ true
      → is_used (statement_uses (closed environment form)) (table_number creates name) ≡ true
  pub writes : (environment : Environment) (name : Name) → changes statement name ≡ true
      → is_owned (statement_uses (closed environment form)) (table_number creates name) ≡ true
  -- those tables are declared
  pub declared : (environment : Environment) (table : ℕ)
      → is_used (statement_uses (closed environment form)) table ≡ true → table < length creates
  pub alike : AreAlike creates statement form

-- each one of a list stands in the relation to the one of the other list at its place
abbrev pub InTurn : {A B : Type 0} → (A → B → Type 0) → List A → List B → Type 0
InTurn R [] [] = Unit {0}
InTurn R [] (y ∷ ys) = ⊥
InTurn R (x ∷ xs) [] = ⊥
InTurn R (x ∷ xs) (y ∷ ys) = R x y × InTurn R xs ys

pub record AreFaithful {F : Type 0} (forms : Forms F) (opening : Opening) : Type 0 where
  -- each opening row has a value for each column of its table
  pub wide : AreWide opening.tables (map (opening_database opening) (table_names opening))
  -- and stands in a declared table
  pub opens : database_of opening.tables (map (opening_database opening) (table_names opening))
      ≡ opening_database opening
  -- each form is faithful to its statement
  pub each : (script : Script) (form : List (Statement Known)) → forms.resolve opening script ≡ Ok form
      → InTurn (IsFaithful opening.tables) script.statements form
