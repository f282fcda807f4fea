-- A script that keeps the limits keeps them without its places.
use Rattle.std.proofs.Common.{ℕ, ◌≤◌, List, [], ◌∷◌, length, map, sym, subst}
use Rattle.std.proofs.lemmas.List.{length-map}
use Rattle.ent_tree.specs.declared.limits.TheConstants.{MOST_PARTS, MOST_SOURCES, MOST_STATEMENTS}
use Rattle.ent_tree.specs.declared.select.Items.{Items}
use Rattle.ent_tree.specs.declared.select.Items.TheVariants as items
use Rattle.ent_tree.specs.declared.select.Select.{Select}
use Rattle.ent_tree.specs.declared.entangled.Condition.{Condition}
use Rattle.ent_tree.specs.declared.entangled.Condition.TheVariants as conditions
use Rattle.ent_tree.specs.declared.entangled.Entangled.{Entangled}
use Rattle.ent_tree.specs.declared.script.Script.{Script}
use Rattle.ent_tree.specs.declared.script.Statement.{Statement}
use Rattle.ent_tree.specs.declared.script.Statement.TheVariants as statements
use Rattle.ent_tree.specs.Places.{unplaced_identifier, unplaced_specification, unplaced_operand, unplaced_test}
use Rattle.ent_tree.specs.Places.{unplaced_source, unplaced_items, unplaced_select, unplaced_term, unplaced_item}
use Rattle.ent_tree.specs.Places.{unplaced_condition, unplaced_entangled, unplaced_assignment, unplaced_statement}
use Rattle.ent_tree.specs.Places.{unplaced_script}
use Rattle.ent_sql_laws.specs.Fits.{HasParts, Each, ItemsFit, SelectFits, ConditionFits, EntangledFits}
use Rattle.ent_sql_laws.specs.Fits.{StatementFits, ScriptFits}

-- as many things
parts_kept : {A : Type 0} (f : A → A) (xs : List A) (limit : ℕ) → HasParts xs limit → HasParts (map f xs) limit
parts_kept f xs limit h = subst (λ (n : ℕ). (1 ≤ n) × (n ≤ limit)) (sym (length-map xs f)) h

few_kept : {A : Type 0} (f : A → A) (xs : List A) (limit : ℕ) → length xs ≤ limit → length (map f xs) ≤ limit
few_kept f xs limit h = subst (λ (n : ℕ). n ≤ limit) (sym (length-map xs f)) h

each_kept : {A : Type 0} (holds : A → Type 0) (f : A → A) → ((x : A) → holds x → holds (f x)) → (xs : List A)
    → Each holds xs
    → Each holds (map f xs)
each_kept holds f kept [] h = tt
each_kept holds f kept (x ∷ xs) h = (kept x h.0, each_kept holds f kept xs h.1)

items_kept : (i : Items) → ItemsFit i → ItemsFit (unplaced_items i)
items_kept items.All h = tt
items_kept (items.Listed listed) h = parts_kept unplaced_operand listed MOST_PARTS h

select_kept : (select : Select) → SelectFits select → SelectFits (unplaced_select select)
select_kept select h = (
  items_kept select.items h.0,
  parts_kept unplaced_source select.sources MOST_SOURCES h.1,
  few_kept (unplaced_test unplaced_operand) select.tests MOST_PARTS h.2,
)

condition_kept : (condition : Condition) → ConditionFits condition → ConditionFits (unplaced_condition condition)
condition_kept (conditions.InSelect tuple select) h =
    (parts_kept unplaced_term tuple.terms MOST_PARTS h.0, select_kept select h.1)
condition_kept (conditions.InAnswer tuple relation) h = parts_kept unplaced_term tuple.terms MOST_PARTS h
condition_kept (conditions.Test test) h = tt

entangled_kept : (entangled : Entangled) → EntangledFits entangled → EntangledFits (unplaced_entangled entangled)
entangled_kept entangled h = (
  parts_kept unplaced_item entangled.items MOST_PARTS h.0,
  parts_kept unplaced_identifier entangled.relations MOST_PARTS h.1,
  few_kept unplaced_condition entangled.conditions MOST_PARTS h.2,
  each_kept ConditionFits unplaced_condition condition_kept entangled.conditions h.3,
)

statement_kept : (statement : Statement) → StatementFits statement → StatementFits (unplaced_statement statement)
statement_kept (statements.Select select) h = select_kept select h
statement_kept (statements.Entangled entangled) h = entangled_kept entangled h
statement_kept (statements.Insert insert) h = parts_kept unplaced_specification insert.values MOST_PARTS h
statement_kept (statements.Delete delete) h = few_kept (unplaced_test unplaced_operand) delete.tests MOST_PARTS h
statement_kept (statements.Update update) h = (
  parts_kept unplaced_assignment update.assignments MOST_PARTS h.0,
  few_kept (unplaced_test unplaced_operand) update.tests MOST_PARTS h.1,
)
statement_kept (statements.Set set) h = tt

pub script_kept : (script : Script) → ScriptFits script → ScriptFits (unplaced_script script)
script_kept script h = (
  h.0,
  h.1,
  few_kept unplaced_statement script.statements MOST_STATEMENTS h.2,
  each_kept StatementFits unplaced_statement statement_kept script.statements h.3,
)
