-- Which tables a statement uses, and that it keeps to them.
use Rattle.std.specs.Prelude.{◌≡◌, Bool, true, false, List, [], ◌∷◌, ◌++◌, map, Option, Some, None, Result, Ok, Err}
use Rattle.std.specs.List.{flat_map, AllByRecursion}
use Rattle.ent_tree.specs.declared.entangled.Condition.{Condition}
use Rattle.ent_tree.specs.declared.entangled.Condition.TheVariants as conditions
use Rattle.ent_tree.specs.declared.script.Statement.{Statement}
use Rattle.ent_tree.specs.declared.script.Statement.TheVariants as statements
use Rattle.ent_tree.specs.declared.select.Select.{Select}
use Rattle.ent_semantics.specs.declared.answer.Failure.{Failure}
use Rattle.ent_semantics.specs.Database.{Name, Database, is_among}
use Rattle.ent_semantics.specs.Effect.{Effect}
use Rattle.ent_semantics.specs.Serial.{Run, Operation}

-- the tables that a SELECT reads
abbrev pub select_tables : Select → List Name
select_tables select = map (λ source. source.table.name) select.sources

abbrev pub condition_tables : Condition → List Name
condition_tables (conditions.InSelect tuple select) = select_tables select
condition_tables (conditions.InAnswer tuple relation) = []
condition_tables (conditions.Test test) = []

-- the tables that a statement uses shared: the sources of a SELECT, and of an entangled statement's sub-selects
abbrev pub shared_tables : Statement → List Name
shared_tables (statements.Select select) = select_tables select
shared_tables (statements.Entangled entangled) = flat_map condition_tables entangled.conditions
shared_tables other = []

-- the tables that a statement uses exclusively: the one that it changes
abbrev pub exclusive_tables : Statement → List Name
exclusive_tables (statements.Insert insert) = insert.table.name ∷ []
exclusive_tables (statements.Delete delete) = delete.table.name ∷ []
exclusive_tables (statements.Update update) = update.table.name ∷ []
exclusive_tables other = []

-- whether a statement uses a table, and whether it may change it
abbrev pub uses : Statement → Name → Bool
uses statement name = is_among (shared_tables statement ++ exclusive_tables statement) name

abbrev pub changes : Statement → Name → Bool
changes statement name = is_among (exclusive_tables statement) name

-- databases that are alike in some tables
abbrev pub Agree : (Name → Bool) → Database → Database → Type 0
Agree some first second = (name : Name) → some name ≡ true → first name ≡ second name

-- a statement uses no other tables
abbrev pub Covers : (Name → Bool) → Statement → Type 0
Covers some statement = (name : Name) → uses statement name ≡ true → some name ≡ true

-- one failure, or effects of one answer and one environment over databases that are alike
abbrev pub EffectsAlike : {D : Type 0} → (D → D → Type 0) → Result (Effect D) Failure → Result (Effect D) Failure
    → Type 0
EffectsAlike Alike (Ok first) (Ok second) =
    (first.answer ≡ second.answer) × (first.environment ≡ second.environment)
    × Alike first.database second.database
EffectsAlike Alike (Err first) (Err second) = first ≡ second
EffectsAlike Alike (Ok first) (Err second) = ⊥
EffectsAlike Alike (Err first) (Ok second) = ⊥

-- the tables that a statement may not change stay
abbrev pub KeepsOthers : Statement → Database → Result (Effect Database) Failure → Type 0
KeepsOthers statement database (Ok effect) =
    (name : Name) → changes statement name ≡ false → effect.database name ≡ database name
KeepsOthers statement database (Err failure) = Unit {0}

-- no run, or runs of one environment and the same answers over databases that are alike
abbrev pub RunsAlike : (Database → Database → Type 0) → Option Run → Option Run → Type 0
RunsAlike Alike (Some first) (Some second) =
    (first.answers ≡ second.answers) × (first.environment ≡ second.environment)
    × Alike first.database second.database
RunsAlike Alike None None = Unit {0}
RunsAlike Alike (Some first) None = ⊥
RunsAlike Alike None (Some second) = ⊥

-- no statement of some operations uses other tables
abbrev pub CoversAll : (Name → Bool) → List Operation → Type 0
CoversAll some operations = AllByRecursion (λ operation. Covers some operation.statement) operations
