-- Tables in the order of their declaration, and the database that they are under their names.
use Rattle.std.specs.Prelude.{◌≡◌, List, [], ◌∷◌, map, length, Result, Ok, Err, if◌then◌else◌}
use Rattle.std.specs.List.{AllByRecursion, IsDistinct}
use Rattle.ent_lists.specs.Sets as set
use Rattle.ent_tree.specs.declared.declaration.Create.{Create}
use Rattle.ent_tree.specs.declared.script.Statement.{Statement}
use Rattle.ent_tree.specs.declared.script.Statement.TheVariants as statements
use Rattle.ent_semantics.specs.Database.{Database, same_name}
use Rattle.ent_semantics.specs.declared.answer.Failure.{Failure}
use Rattle.ent_semantics.specs.Effect.{Effect}
use Rattle.ent_semantics.specs.Entangled.{Valuation, written_variables}
use Rattle.ent_semantics.specs.Form.{Tables}

abbrev pub database_of : List Create → Tables → Database
database_of [] tables name = set.empty
database_of (create ∷ more) [] name = set.empty
database_of (create ∷ more) (rows ∷ tables) name =
    if same_name create.name.name name then rows else database_of more tables name

-- each table is there, and each row of it has a value for each of its columns
abbrev pub AreWide : List Create → Tables → Type 0
AreWide [] [] = Unit {0}
AreWide [] (rows ∷ tables) = ⊥
AreWide (create ∷ more) [] = ⊥
AreWide (create ∷ more) (rows ∷ tables) =
    AllByRecursion (λ row. length row ≡ length create.columns) (set.ascending rows) × AreWide more tables

-- no table has two columns of one name
abbrev pub HaveDistinctColumns : List Create → Type 0
HaveDistinctColumns creates =
    AllByRecursion (λ create. IsDistinct same_name (map (λ column. column.name.name) create.columns)) creates

-- the effect of a statement over tables, seen by their names
abbrev pub effect_of : List Create → Result (Effect Tables) Failure → Result (Effect Database) Failure
effect_of creates (Ok effect) =
    Ok (record {
      database = database_of creates effect.database;
      environment = effect.environment;
      answer = effect.answer;
    })
effect_of creates (Err failure) = Err failure

-- a valuation has a value for each written variable of a statement
abbrev pub Answers : Statement → Valuation → Type 0
Answers (statements.Entangled entangled) valuation = length valuation ≡ length (written_variables entangled)
Answers (statements.Select select) valuation = Unit {0}
Answers (statements.Insert insert) valuation = Unit {0}
Answers (statements.Delete delete) valuation = Unit {0}
Answers (statements.Update update) valuation = Unit {0}
Answers (statements.Set setting) valuation = Unit {0}
