-- All faults of a script, statement by statement.
use Rattle.std.specs.Prelude.{List, [], ◌∷◌, ◌++◌, Option, Some, None, unwrap_or}
use Rattle.ent_value.specs.declared.value.Kind.{Kind}
use Rattle.ent_value.specs.declared.value.Kind.TheVariants.{Int}
use Rattle.ent_tree.specs.declared.entangled.Entangled.{Entangled}
use Rattle.ent_tree.specs.declared.entangled.EntangledItem.{EntangledItem}
use Rattle.ent_tree.specs.declared.entangled.Term.{Term}
use Rattle.ent_tree.specs.declared.operand.Identifier.{Identifier}
use Rattle.ent_tree.specs.declared.script.Script.{Script}
use Rattle.ent_tree.specs.declared.script.Statement.{Statement}
use Rattle.ent_tree.specs.declared.script.Statement.TheVariants as statements
use Rattle.ent_tree.specs.declared.statement.Set.{Set}
use Rattle.ent_form.specs.declared.catalogue.TableSchema.{TableSchema}
use Rattle.ent_form.specs.declared.fault.FormFault.{FormFault}
use Rattle.ent_form.specs.Kinds.{Bound, none_bound, with_kind}
use Rattle.ent_form.specs.AllFaults.{select_faults, insert_faults, delete_faults, update_faults, set_faults, values}
use Rattle.ent_form.specs.AllFaults.{expression_kind}
use Rattle.ent_form.specs.EntangledFaults.{demanded_from, term_kind, entangled_faults}

-- A SET binds its host variable; where its value has no kind there is a fault, and any kind will do.
abbrev pub set_binds : Bound → Set → Bound
set_binds bound set =
    with_kind bound set.variable.name (unwrap_or (expression_kind (values bound) set.expression) Int)

-- an item binds its host variable to its term, whose kind is that inside the statement
abbrev pub item_binds : (Term → Option Kind) → Bound → Option Identifier → Term → Bound
item_binds kind bound None term = bound
item_binds kind bound (Some variable) term = with_kind bound variable.name (unwrap_or (kind term) Int)

abbrev pub items_bind : (Term → Option Kind) → Bound → List EntangledItem → Bound
items_bind kind bound [] = bound
items_bind kind bound (item ∷ more) = items_bind kind (item_binds kind bound item.binds item.term) more

abbrev pub entangled_binds : List TableSchema → Bound → Entangled → Bound
entangled_binds tables bound entangled =
    items_bind (term_kind (demanded_from tables bound none_bound entangled.conditions) bound) bound entangled.items

-- the kinds that host variables are bound in after a statement
abbrev pub bound_after : List TableSchema → Bound → Statement → Bound
bound_after tables bound (statements.Select select) = bound
bound_after tables bound (statements.Entangled entangled) = entangled_binds tables bound entangled
bound_after tables bound (statements.Insert insert) = bound
bound_after tables bound (statements.Delete delete) = bound
bound_after tables bound (statements.Update update) = bound
bound_after tables bound (statements.Set set) = set_binds bound set

-- after some, one after the other
abbrev pub bound_by : List TableSchema → Bound → List Statement → Bound
bound_by tables bound [] = bound
bound_by tables bound (statement ∷ more) = bound_by tables (bound_after tables bound statement) more

abbrev pub statement_faults : List TableSchema → Bound → Statement → List FormFault
statement_faults tables bound (statements.Select select) = select_faults tables bound select
statement_faults tables bound (statements.Entangled entangled) = entangled_faults tables bound entangled
statement_faults tables bound (statements.Insert insert) = insert_faults tables bound insert
statement_faults tables bound (statements.Delete delete) = delete_faults tables bound delete
statement_faults tables bound (statements.Update update) = update_faults tables bound update
statement_faults tables bound (statements.Set set) = set_faults bound set

-- each statement with what those before it bind
abbrev pub statements_faults : List TableSchema → Bound → List Statement → List FormFault
statements_faults tables bound [] = []
statements_faults tables bound (statement ∷ more) =
    statement_faults tables bound statement ++ statements_faults tables (bound_after tables bound statement) more

abbrev pub script_faults : List TableSchema → Script → List FormFault
script_faults tables script = statements_faults tables none_bound script.statements
