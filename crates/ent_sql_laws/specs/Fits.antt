-- Trees that keep the limits of the grammar.
use Rattle.std.specs.Prelude.{ℕ, ◌≤◌, List, [], ◌∷◌, length}
use Rattle.ent_tree.specs.declared.limits.TheConstants.{MOST_PARTS, MOST_SOURCES, MOST_STATEMENTS, MOST_RUNS}
use Rattle.ent_tree.specs.declared.select.Items.{Items}
use Rattle.ent_tree.specs.declared.select.Items.TheVariants as items
use Rattle.ent_tree.specs.declared.select.Select.{Select}
use Rattle.ent_tree.specs.declared.entangled.Condition.{Condition}
use Rattle.ent_tree.specs.declared.entangled.Condition.TheVariants as conditions
use Rattle.ent_tree.specs.declared.entangled.Entangled.{Entangled}
use Rattle.ent_tree.specs.declared.script.Statement.{Statement}
use Rattle.ent_tree.specs.declared.script.Statement.TheVariants as statements
use Rattle.ent_tree.specs.declared.script.Script.{Script}

-- one part at least, a limit at most
abbrev pub HasParts : {A : Type 0} → List A → ℕ → Type 0
HasParts xs limit = (1 ≤ length xs) × (length xs ≤ limit)

abbrev pub Each : {A : Type 0} → (A → Type 0) → List A → Type 0
Each holds [] = Unit {0}
Each holds (x ∷ xs) = holds x × Each holds xs

abbrev pub ItemsFit : Items → Type 0
ItemsFit items.All = Unit {0}
ItemsFit (items.Listed listed) = HasParts listed MOST_PARTS

abbrev pub SelectFits : Select → Type 0
SelectFits select = ItemsFit select.items × HasParts select.sources MOST_SOURCES × (length select.tests ≤ MOST_PARTS)

abbrev pub ConditionFits : Condition → Type 0
ConditionFits (conditions.InSelect tuple select) = HasParts tuple.terms MOST_PARTS × SelectFits select
ConditionFits (conditions.InAnswer tuple relation) = HasParts tuple.terms MOST_PARTS
ConditionFits (conditions.Test test) = Unit {0}

abbrev pub EntangledFits : Entangled → Type 0
EntangledFits entangled =
    HasParts entangled.items MOST_PARTS × HasParts entangled.relations MOST_PARTS
    × (length entangled.conditions ≤ MOST_PARTS) × Each ConditionFits entangled.conditions

abbrev pub StatementFits : Statement → Type 0
StatementFits (statements.Select select) = SelectFits select
StatementFits (statements.Entangled entangled) = EntangledFits entangled
StatementFits (statements.Insert insert) = HasParts insert.values MOST_PARTS
StatementFits (statements.Delete delete) = length delete.tests ≤ MOST_PARTS
StatementFits (statements.Update update) =
    HasParts update.assignments MOST_PARTS × (length update.tests ≤ MOST_PARTS)
StatementFits (statements.Set set) = Unit {0}

abbrev pub ScriptFits : Script → Type 0
ScriptFits script =
    (1 ≤ script.within) × (script.within ≤ MOST_RUNS) × (length script.statements ≤ MOST_STATEMENTS)
    × Each StatementFits script.statements
