use Rattle.std.proofs.Common.{◌≡◌, ◌<◌, ℕ, [], ◌∷◌, length, map, refl, sym, ap, subst, ◌∙◌}
use Rattle.std.specs.Arc.{arc_value}
use Rattle.std.specs.Prelude.{slice_index_or, slice_set}
use Rattle.ent_lists.specs.Sets as set
use Rattle.ent_semantics.specs.Form.{closed_worth, form_meaning}
use Rattle.ent_semantics.specs.FormKinds.{tables_named}
use Rattle.ent_closing.specs.Environment.{environment_of}
use Rattle.ent_ordinary.specs.Change.{IsApplicable}
use Rattle.ent_ordinary.specs.Meant.{changed_number, effect_of, set_variable}
use Rattle.ent_ordinary.specs.declared.outcome.Outcome.{Outcome}
use Rattle.ent_ordinary.specs.declared.outcome.Outcome.TheVariants as outcomes
use Rattle.ent_rel.specs.Change.{changed_rows}
use Rattle.ent_rel.specs.Numbered.{relation_of}
use Rattle.ent_rel.specs.Relation.{Relation}
use Rattle.ent_ordinary.specs.Tables.{no_table, rows_in}
use Rattle.ent_semantics.specs.Database.{with_value}
use Rattle.ent_semantics.specs.declared.answer.Answer.TheVariants as answers
use Rattle.ent_check.proofs.Ordinary.{applied_so, change_applies, change_there, is_set, meant_so, one_table}
use Rattle.ent_check.proofs.Ordinary.{same_effect, tables_at}
use Rattle.ent_check.proofs.statement.carry_out_ordinary.Goals as goal
use Rattle.ent_check.proofs.statement.carry_out_ordinary.Goals.{After-delta-1, In_ok-rows}

-- the tables over which the outcome was computed are those that the statement names
are_named : (c : In_ok-rows) → map relation_of c.deref-2.result.now
    ≡ tables_at (map arc_value c.args.tables.now.items) (tables_named c.args.statement.now)
are_named c =
    ap (map relation_of) c.deref-2.ensures.value
    ∙ c.in_ok-named.ensures.tables
    ∙ (λ i. tables_at (map arc_value (c.as_slice.ensures.value i))
    ((c.deref.ensures.value ∙ c.in_ok-numbers.ensures) i))

-- the statement means what the outcome says
means : (c : In_ok-rows) (outcome : Outcome) → c.in_ok-rows.field-0 ≡ outcome
    → form_meaning closed_worth c.args.statement.now [] (rows_in (map arc_value c.args.tables.now.items))
    (environment_of c.args.environment.now)
    ≡ effect_of c.args.statement.now outcome (rows_in (map arc_value c.args.tables.now.items))
    (environment_of c.args.environment.now)
means c outcome is =
    meant_so c.args.statement.now (map arc_value c.args.tables.now.items) (map relation_of c.deref-2.result.now)
    (environment_of c.args.environment.now) c.in_ok-rows.field-0 outcome (are_named c) is c.in_ok-rows.ensures.meaning

pub returns-in-Rows-clause-meaning : goal.returns-in-Rows-clause-meaning
returns-in-Rows-clause-meaning c =
    means (goal.at.returns-in-Rows-clause-meaning c).In_ok-rows (outcomes.Rows c.in-Rows.rows) c.in-Rows.is

-- a change is of the one table that the statement names, and can be made there
changes : (c : After-delta-1)
    → (tables_named c.args.statement.now ≡ changed_number c.args.statement.now ∷ []) × ((table : Relation) ×
    (tables_at (map arc_value c.args.tables.now.items) (tables_named c.args.statement.now) ≡ table ∷ []) ×
    IsApplicable table c.in-Changed.delta)
changes c =
    let known = (goal.at.change-requires-clause-within c).In_ok-rows in
    let can = applied_so (map relation_of c.deref-2.result.now) c.in_ok-rows.field-0 c.in-Changed.count
    c.in-Changed.delta
    c.in-Changed.is c.in_ok-rows.ensures.change in
    let one = sym (are_named known) ∙ can.1 in (
      one_table c.args.statement.now (map arc_value c.args.tables.now.items) (environment_of c.args.environment.now)
          c.in-Changed.count c.in-Changed.delta _ c.requires.fits
          (means known (outcomes.Changed c.in-Changed.count c.in-Changed.delta) c.in-Changed.is) can.0 one,
      (can.0, one, can.2),
    )

pub change-requires-clause-within : goal.change-requires-clause-within
change-requires-clause-within c =
    subst (λ (n : ℕ). n < length c.args.tables.now.items) (sym c.changed_number.ensures)
    (change_there (length c.args.tables.now.items) c.args.statement.now (changes c).0 c.requires.within)

pub change-requires-clause-applicable : goal.change-requires-clause-applicable
change-requires-clause-applicable c =
    let tables = map arc_value c.args.tables.now.items in
    let can = (changes c).1 in
    subst (λ (n : ℕ). IsApplicable (slice_index_or tables n no_table) c.in-Changed.delta) (sym c.changed_number.ensures)
    (change_applies c.args.statement.now tables c.in-Changed.delta (changes c).0 can.0 can.1 can.2)

pub returns-in-Changed-clause-meaning : goal.returns-in-Changed-clause-meaning
returns-in-Changed-clause-meaning c =
    let statement = c.args.statement.now in
    let removed = c.in-Changed.delta.removed in
    let added = c.in-Changed.delta.added in
    let before = rows_in (map arc_value c.args.tables.now.items) in
    let rows = c.in_ok-change-in-Changed.ensures.rows
    ∙ ap (λ (n : ℕ). slice_set before n (changed_rows (slice_index_or before n set.empty) removed added))
    c.changed_number.ensures in
    means (goal.at.returns-in-Changed-clause-meaning c).In_ok-rows
    (outcomes.Changed c.in-Changed.count c.in-Changed.delta) c.in-Changed.is
    ∙ same_effect (slice_set before (changed_number statement)
    (changed_rows (slice_index_or before (changed_number statement) set.empty) removed added))
    (rows_in (map arc_value c.change.new.tables.items)) (environment_of c.args.environment.now)
    (environment_of c.args.environment.now) (answers.Count c.in-Changed.count) (sym rows) refl

pub bind_set-requires : goal.bind_set-requires
bind_set-requires c =
    is_set c.args.statement.now (rows_in (map arc_value c.args.tables.now.items))
    (environment_of c.args.environment.now) c.in-Value.value _ c.requires.fits
    (means (goal.at.bind_set-requires c).In_ok-rows (outcomes.Value c.in-Value.value) c.in-Value.is)

pub returns-in-Value-clause-meaning : goal.returns-in-Value-clause-meaning
returns-in-Value-clause-meaning c =
    let tables = rows_in (map arc_value c.args.tables.now.items) in
    means (goal.at.returns-in-Value-clause-meaning c).In_ok-rows (outcomes.Value c.in-Value.value) c.in-Value.is
    ∙ same_effect tables tables
    (with_value (environment_of c.args.environment.now) (set_variable c.args.statement.now) c.in-Value.value)
    (environment_of c.bind_set.new.environment) (answers.Value c.in-Value.value) refl
    (sym c.in_ok-bind_set-in-Value.ensures)

pub returns-clause-meaning : goal.returns-clause-meaning
returns-clause-meaning c =
    means (goal.at.returns-clause-meaning c).In_ok-rows (outcomes.Fault c.in-Fault.failure) c.in-Fault.is
