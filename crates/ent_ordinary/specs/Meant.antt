-- What a statement's outcome says of every database in which its tables stand.
use Rattle.std.specs.Prelude.{◌≡◌, ℕ, List, [], ◌∷◌, map, Ok, Err, slice_index_or, slice_set}
use Rattle.ent_lists.specs.Sets as set
use Rattle.ent_value.specs.declared.value.Value.{Value}
use Rattle.ent_rel.specs.Change.{changed_rows}
use Rattle.ent_rel.specs.Relation.{Relation}
use Rattle.ent_semantics.specs.Database.{Name, Rows, Environment, with_value}
use Rattle.ent_semantics.specs.Effect.{Meaning}
use Rattle.ent_semantics.specs.Entangled.{Valuation}
use Rattle.ent_semantics.specs.declared.answer.Answer.TheVariants as answers
use Rattle.ent_semantics.specs.Form.{Tables, closed_worth, form_meaning}
use Rattle.ent_semantics.specs.FormKinds.{changed_tables, tables_named}
use Rattle.ent_semantics.specs.declared.statement.Statement.{Statement}
use Rattle.ent_semantics.specs.declared.statement.Statement.TheVariants as statements
use Rattle.ent_ordinary.specs.Change.{IsApplicable}
use Rattle.ent_ordinary.specs.declared.outcome.Outcome.{Outcome}
use Rattle.ent_ordinary.specs.declared.outcome.Outcome.TheVariants as outcomes

-- the rows under some numbers
abbrev pub rows_under : Tables → List ℕ → List Rows
rows_under tables numbers = map (λ number. slice_index_or tables number set.empty) numbers

-- the number of the table that a statement changes; one that changes none has no use for it
abbrev pub changed_number : Statement Value → ℕ
changed_number statement = slice_index_or (changed_tables statement) 0 0

-- the host variable that a SET binds; others have no use for it
abbrev pub set_variable : Statement Value → Name
set_variable (statements.Select select) = []
set_variable (statements.Entangled entangled) = []
set_variable (statements.Insert table values) = []
set_variable (statements.Delete table tests) = []
set_variable (statements.Update table image tests) = []
set_variable (statements.Set variable expression) = variable

-- what a statement of this outcome leaves and answers
abbrev pub effect_of : Statement Value → Outcome → Meaning Tables
effect_of statement (outcomes.Rows rows) tables environment =
    Ok (record { database = tables; environment = environment; answer = answers.Rows rows })
effect_of statement (outcomes.Changed count delta) tables environment =
    let number = changed_number statement in
    let after = changed_rows (slice_index_or tables number set.empty) delta.removed delta.added in
    Ok (record { database = slice_set tables number after; environment = environment; answer = answers.Count count })
effect_of statement (outcomes.Value value) tables environment =
    Ok (record {
      database = tables;
      environment = with_value environment (set_variable statement) value;
      answer = answers.Value value;
    })
effect_of statement (outcomes.Fault failure) tables environment = Err failure

-- In every database in which these rows stand under the numbers that a statement names, in every environment, the
-- statement means what its outcome says.
abbrev pub IsMeant : Statement Value → List Rows → Outcome → Type 0
IsMeant statement rows outcome =
    (tables : Tables) (environment : Environment) (valuation : Valuation)
    → rows_under tables (tables_named statement) ≡ rows
    → form_meaning closed_worth statement valuation tables environment ≡ effect_of statement outcome tables environment

-- a change that an outcome tells can be applied to the one table
abbrev pub CanBeApplied : List Relation → Outcome → Type 0
CanBeApplied tables (outcomes.Rows rows) = Unit {0}
CanBeApplied tables (outcomes.Changed count delta) =
    (table : Relation) × (tables ≡ table ∷ []) × IsApplicable table delta
CanBeApplied tables (outcomes.Value value) = Unit {0}
CanBeApplied tables (outcomes.Fault failure) = Unit {0}
