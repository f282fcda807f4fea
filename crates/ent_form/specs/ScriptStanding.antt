-- Which faults stand in a script, and where.
use Rattle.std.specs.Prelude.{◌≡◌, List, ◌∷◌, ◌++◌, Option, Some, None}
use Rattle.std.specs.List.{Any}
use Rattle.ent_tree.specs.declared.operand.Identifier.{Identifier}
use Rattle.ent_tree.specs.declared.script.Script.{Script}
use Rattle.ent_tree.specs.declared.script.Statement.{Statement}
use Rattle.ent_tree.specs.declared.script.Statement.TheVariants as statements
use Rattle.ent_semantics.specs.Database.{Name}
use Rattle.ent_form.specs.declared.catalogue.TableSchema.{TableSchema}
use Rattle.ent_form.specs.declared.fault.FormFault.{FormFault}
use Rattle.ent_form.specs.Kinds.{Bound, none_bound}
use Rattle.ent_form.specs.EntangledStanding.{IsEntangledFault}
use Rattle.ent_form.specs.ScriptFaults.{bound_by}
use Rattle.ent_form.specs.Standing.{IsSelectFault, IsInsertFault, IsDeleteFault, IsUpdateFault, IsSetFault}

abbrev pub IsStatementFault : List TableSchema → Bound → Statement → FormFault → Type 0
IsStatementFault tables bound (statements.Select select) fault = IsSelectFault tables bound select fault
IsStatementFault tables bound (statements.Entangled entangled) fault = IsEntangledFault tables bound entangled fault
IsStatementFault tables bound (statements.Insert insert) fault = IsInsertFault tables bound insert fault
IsStatementFault tables bound (statements.Delete delete) fault = IsDeleteFault tables bound delete fault
IsStatementFault tables bound (statements.Update update) fault = IsUpdateFault tables bound update fault
IsStatementFault tables bound (statements.Set set) fault = IsSetFault bound set fault

-- one of the statements has a fault, with what those before it bind
abbrev pub IsScriptFault : List TableSchema → Script → FormFault → Type 0
IsScriptFault tables script fault =
    (before : List Statement) × (statement : Statement) × (after : List Statement)
    × (script.statements ≡ before ++ statement ∷ after)
    × IsStatementFault tables (bound_by tables none_bound before) statement fault

-- an item binds this host variable
abbrev pub IsBoundBy : Name → Option Identifier → Type 0
IsBoundBy name None = ⊥
IsBoundBy name (Some variable) = variable.name ≡ name

-- a SET of this host variable, or an entangled statement that binds it
abbrev pub Binds : Name → Statement → Type 0
Binds name (statements.Select select) = ⊥
Binds name (statements.Entangled entangled) = Any (λ item. IsBoundBy name item.binds) entangled.items
Binds name (statements.Insert insert) = ⊥
Binds name (statements.Delete delete) = ⊥
Binds name (statements.Update update) = ⊥
Binds name (statements.Set set) = set.variable.name ≡ name
