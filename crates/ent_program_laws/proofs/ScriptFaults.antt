-- The faults of scripts are the same, places aside.
use Rattle.std.proofs.Common.{◌≡◌, List, [], ◌∷◌, map, refl, ap, ◌∙◌, Option, Some, None, unwrap_or}
use Rattle.std.specs.Option.{option_map}
use Rattle.ent_value.specs.declared.value.Kind.{Kind}
use Rattle.ent_value.specs.declared.value.Kind.TheVariants.{Int}
use Rattle.ent_tree.specs.Places.{unplaced_identifier, unplaced_specification, unplaced_term, unplaced_item}
use Rattle.ent_tree.specs.Places.{unplaced_condition, unplaced_entangled, unplaced_set, unplaced_statement}
use Rattle.ent_tree.specs.Places.{unplaced_script}
use Rattle.ent_tree.specs.declared.declaration.Create.{Create}
use Rattle.ent_tree.specs.declared.entangled.Entangled.{Entangled}
use Rattle.ent_tree.specs.declared.entangled.EntangledItem.{EntangledItem}
use Rattle.ent_tree.specs.declared.entangled.Term.{Term}
use Rattle.ent_tree.specs.declared.operand.Identifier.{Identifier}
use Rattle.ent_tree.specs.declared.script.Script.{Script}
use Rattle.ent_tree.specs.declared.script.Statement.{Statement}
use Rattle.ent_tree.specs.declared.script.Statement.TheVariants as statements
use Rattle.ent_tree.specs.declared.statement.Set.{Set}
use Rattle.ent_form.specs.AllFaults.{values}
use Rattle.ent_form.specs.Catalogue.{schemas_of}
use Rattle.ent_form.specs.EntangledFaults.{demanded_from, term_kind}
use Rattle.ent_form.specs.Kinds.{Bound, none_bound, with_kind}
use Rattle.ent_form.specs.ScriptFaults.{set_binds, item_binds, items_bind, entangled_binds, bound_after}
use Rattle.ent_form.specs.ScriptFaults.{statement_faults, statements_faults, script_faults}
use Rattle.ent_form.specs.declared.catalogue.TableSchema.{TableSchema}
use Rattle.ent_form.specs.declared.fault.FormFault.{FormFault}
use Rattle.ent_program_laws.specs.Faults.{unplaced_fault}
use Rattle.ent_program_laws.specs.Unplaced.{unplaced_create}
use Rattle.ent_program_laws.proofs.EntangledFaults.{demanded_from_same, term_kind_same, entangled_bare}
use Rattle.ent_program_laws.proofs.FaultLists.{AreBare, both_bare, schemas_same}
use Rattle.ent_program_laws.proofs.Faults.{select_bare, insert_bare, delete_bare, update_bare, set_bare}
use Rattle.ent_program_laws.proofs.TermFaults.{values_bare, expression_kind_same}

-- ---- what is bound

set_binds_same : (bound : Bound) (set : Set) → set_binds bound (unplaced_set set) ≡ set_binds bound set
set_binds_same bound set =
    ap (λ (kind : Option Kind). with_kind bound set.variable.name (unwrap_or kind Int))
    (expression_kind_same unplaced_specification (values bound) (values_bare bound) set.expression)

module _ (f g : Term → Option Kind) (same : (term : Term) → f (unplaced_term term) ≡ g term) where
  item_binds_same : (bound : Bound) (binds : Option Identifier) (term : Term)
      → item_binds f bound (option_map unplaced_identifier binds) (unplaced_term term) ≡ item_binds g bound binds term
  item_binds_same bound None term = refl
  item_binds_same bound (Some variable) term =
      ap (λ (kind : Option Kind). with_kind bound variable.name (unwrap_or kind Int)) (same term)

  items_bind_same : (bound : Bound) (items : List EntangledItem)
      → items_bind f bound (map unplaced_item items) ≡ items_bind g bound items
  items_bind_same bound [] = refl
  items_bind_same bound (item ∷ more) =
      ap (λ (bound : Bound). items_bind f bound (map unplaced_item more)) (item_binds_same bound item.binds item.term)
      ∙ items_bind_same (item_binds g bound item.binds item.term) more

entangled_binds_same : (tables : List TableSchema) (bound : Bound) (entangled : Entangled)
    → entangled_binds tables bound (unplaced_entangled entangled) ≡ entangled_binds tables bound entangled
entangled_binds_same tables bound entangled =
    items_bind_same
    (term_kind (demanded_from tables bound none_bound (map unplaced_condition entangled.conditions)) bound)
    (term_kind (demanded_from tables bound none_bound entangled.conditions) bound)
    (λ term. ap (λ (demanded : Bound). term_kind demanded bound (unplaced_term term))
    (demanded_from_same tables bound none_bound entangled.conditions)
    ∙ term_kind_same (demanded_from tables bound none_bound entangled.conditions) bound term)
    bound entangled.items

bound_same : (tables : List TableSchema) (bound : Bound) (statement : Statement)
    → bound_after tables bound (unplaced_statement statement) ≡ bound_after tables bound statement
bound_same tables bound (statements.Select select) = refl
bound_same tables bound (statements.Entangled entangled) = entangled_binds_same tables bound entangled
bound_same tables bound (statements.Insert insert) = refl
bound_same tables bound (statements.Delete delete) = refl
bound_same tables bound (statements.Update update) = refl
bound_same tables bound (statements.Set set) = set_binds_same bound set

-- ---- faults

statement_bare : (tables : List TableSchema) (bound : Bound) (statement : Statement)
    → AreBare (statement_faults tables bound (unplaced_statement statement)) (statement_faults tables bound statement)
statement_bare tables bound (statements.Select select) = select_bare tables bound select
statement_bare tables bound (statements.Entangled entangled) = entangled_bare tables bound entangled
statement_bare tables bound (statements.Insert insert) = insert_bare tables bound insert
statement_bare tables bound (statements.Delete delete) = delete_bare tables bound delete
statement_bare tables bound (statements.Update update) = update_bare tables bound update
statement_bare tables bound (statements.Set set) = set_bare bound set

statements_bare : (tables : List TableSchema) (bound : Bound) (all : List Statement)
    → AreBare (statements_faults tables bound (map unplaced_statement all)) (statements_faults tables bound all)
statements_bare tables bound [] = refl
statements_bare tables bound (statement ∷ more) =
    both_bare (statement_faults tables bound statement)
    (statements_faults tables (bound_after tables bound statement) more)
    (statement_faults tables bound (unplaced_statement statement))
    (statements_faults tables (bound_after tables bound (unplaced_statement statement)) (map unplaced_statement more))
    (statement_bare tables bound statement)
    (ap (λ (bound : Bound). statements_faults tables bound (map unplaced_statement more))
    (bound_same tables bound statement)
    ∙ statements_bare tables (bound_after tables bound statement) more)

pub script_bare : (creates : List Create) (script : Script)
    → script_faults (schemas_of (map unplaced_create creates)) (unplaced_script script)
    ≡ map unplaced_fault (script_faults (schemas_of creates) script)
script_bare creates script =
    ap (λ (tables : List TableSchema). statements_faults tables none_bound (map unplaced_statement script.statements))
    (schemas_same creates)
    ∙ statements_bare (schemas_of creates) none_bound script.statements

pub faultless_script : (creates : List Create) (script : Script) → script_faults (schemas_of creates) script ≡ []
    → script_faults (schemas_of (map unplaced_create creates)) (unplaced_script script) ≡ []
faultless_script creates script none =
    script_bare creates script ∙ ap (λ (faults : List FormFault). map unplaced_fault faults) none
