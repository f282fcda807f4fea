-- What a statement comes to alone, as the result of a job.
use Rattle.std.proofs.Common.{◌≡◌, ◌<◌, ℕ, zero, suc, List, [], ◌∷◌, ◌++◌, map, length, refl, sym, ap, Result, Ok, Err}
use Rattle.std.proofs.Common.{◌∙◌, subst, arith}
use Rattle.std.specs.Prelude.{slice_index_or, slice_set}
use Rattle.std.specs.List.{flat_map}
use Rattle.std.proofs.lemmas.List.{map-append, get_or-set_same}
use Rattle.std.proofs.lemmas.Simd.{map-map}
use Rattle.ent_lists.specs.Sets as set
use Rattle.ent_value.specs.declared.value.Value.{Value}
use Rattle.ent_rel.specs.Change.{changed_rows}
use Rattle.ent_rel.specs.Numbered.{relation_of}
use Rattle.ent_rel.specs.Relation.{Relation}
use Rattle.ent_rel.specs.declared.change.Delta.{Delta}
use Rattle.ent_semantics.specs.Database.{Rows, nothing_bound}
use Rattle.ent_semantics.specs.Effect.{Effect}
use Rattle.ent_semantics.specs.declared.answer.Answer.{Answer}
use Rattle.ent_semantics.specs.declared.answer.Answer.TheVariants as answers
use Rattle.ent_semantics.specs.declared.answer.Failure.{Failure}
use Rattle.ent_semantics.specs.Form.{Tables, closed_worth, form_meaning}
use Rattle.ent_semantics.specs.declared.entangled.Membership.{Membership}
use Rattle.ent_semantics.specs.declared.statement.Statement.{Statement}
use Rattle.ent_semantics.specs.declared.statement.Statement.TheVariants as statements
use Rattle.ent_protocol.specs.Job.{Single, Numbered, laid, tables_of, rows_to_change, IsEffect}
use Rattle.ent_protocol.specs.Job as jobs
use Rattle.ent_protocol.specs.State.{Use}
use Rattle.ent_protocol.specs.Uses.{shared, statement_uses}
use Rattle.ent_ordinary.specs.Tables.{kinds_in, rows_in}
use Rattle.ent_ordinary.specs.Change.{IsApplicable}
use Rattle.ent_semantics.specs.FormKinds.{Fits, tables_named}
use Rattle.ent_semantics.proofs.Replied.{rows_are_no_count}
use Rattle.ent_ordinary.specs.Meant.{rows_under, effect_of, IsMeant, CanBeApplied}
use Rattle.ent_ordinary.specs.Meant as meant
use Rattle.ent_job.specs.Work.{AreUsed, IsOne}
use Rattle.ent_eval.specs.Result.{IsRight, CanBeMade, alone_seen}
use Rattle.ent_ordinary.specs.declared.outcome.Outcome.{Outcome}
use Rattle.ent_ordinary.specs.declared.outcome.Outcome.TheVariants as outcomes
use Rattle.ent_eval.proofs.Used.{tables_shared}

-- ---- the tables that a statement names are those that it uses

named_are_used : (statement : Statement Value)
    → map (λ (own : Use). own.table) (statement_uses statement) ≡ tables_named statement
named_are_used (statements.Select select) = tables_shared select.sources
named_are_used (statements.Entangled entangled) = each entangled.atoms
  where
    each : (atoms : List (Membership Value))
        → map (λ (own : Use). own.table) (flat_map (λ atom. map shared atom.select.sources) atoms)
        ≡ flat_map (λ atom. atom.select.sources) atoms
    each [] = refl
    each (atom ∷ more) =
        map-append (λ (own : Use). own.table) (map shared atom.select.sources)
        (flat_map (λ atom. map shared atom.select.sources) more)
        ∙ (λ i. tables_shared atom.select.sources i ++ each more i)
named_are_used (statements.Insert table values) = refl
named_are_used (statements.Delete table tests) = refl
named_are_used (statements.Update table image tests) = refl
named_are_used (statements.Set variable expression) = refl

-- the tables of a job stand under the numbers that its statement names
stand_named : (single : Single) (tables : List Numbered) → IsOne single tables
    → rows_under (tables_of tables) (tables_named single.statement) ≡ rows_in (map relation_of tables)
stand_named single tables is =
    let at : ℕ → Rows = λ number. slice_index_or (tables_of tables) number set.empty in
    ap (map at) (sym (named_are_used single.statement) ∙ sym is.used)
    ∙ map-map at (λ (seen : Numbered). seen.table) tables
    ∙ is.stand
    ∙ sym (map-map (λ (table : Relation). table.rows) relation_of tables)

-- ---- its effect

laid_length : (number : ℕ) (rows : Rows) → number < length (laid number rows [])
laid_length zero rows = omega arith
laid_length (suc number) rows = let h = laid_length number rows in omega arith

-- a change of the one table, which a job sees
changed_there : (tables : List Numbered) (number : ℕ) (table : Relation) (after : Rows)
    → map relation_of tables ≡ table ∷ [] → map (λ (seen : Numbered). seen.table) tables ≡ number ∷ []
    → slice_index_or (slice_set (tables_of tables) number after) number set.empty ≡ after
changed_there [] number table after one named = absurd cc
changed_there (seen ∷ []) number table after one named =
    let is : seen.table ≡ number = cc in
    subst (λ n. slice_index_or (slice_set (laid seen.table seen.rows []) n after) n set.empty ≡ after) is
    (get_or-set_same (laid seen.table seen.rows []) seen.table after set.empty (laid_length seen.table seen.rows))
changed_there (seen ∷ other ∷ more) number table after one named = absurd cc

-- what a change makes of the table that the statement changes
abbrev IsChange : Statement Value → Tables → Delta → Type 0
IsChange statement tables delta =
    rows_to_change statement (slice_set tables (meant.changed_number statement)
    (changed_rows (slice_index_or tables (meant.changed_number statement) set.empty) delta.removed delta.added))
    ≡ changed_rows (rows_to_change statement tables) delta.removed delta.added

-- a statement of this outcome has this effect
effect_is : (statement : Statement Value) (tables : Tables) (outcome : Outcome)
    → form_meaning closed_worth statement [] tables nothing_bound ≡ effect_of statement outcome tables nothing_bound
    → ((count : ℕ) (delta : Delta) → outcome ≡ outcomes.Changed count delta → IsChange statement tables delta)
    → IsEffect statement tables (form_meaning closed_worth statement [] tables nothing_bound) (alone_seen outcome)
effect_is statement tables outcome is change =
    subst (λ effect. IsEffect statement tables effect (alone_seen outcome)) (sym is) (by outcome change)
  where
    by : (outcome : Outcome)
        → ((count : ℕ) (delta : Delta) → outcome ≡ outcomes.Changed count delta → IsChange statement tables delta)
        → IsEffect statement tables (effect_of statement outcome tables nothing_bound) (alone_seen outcome)
    by (outcomes.Rows rows) change = refl
    by (outcomes.Changed count delta) change = (refl, change count delta refl)
    by (outcomes.Value value) change = refl
    by (outcomes.Fault failure) change = refl

-- rows are no count
abbrev answer_in : Result (Effect Tables) Failure → Answer
answer_in (Ok effect) = effect.answer
answer_in (Err failure) = answers.Count 0

-- A change that a statement tells is of its table: a SELECT's rows are no change, and a SET has no table.
change_is : (statement : Statement Value) (tables : List Numbered) (table : Relation) (count : ℕ) (delta : Delta)
    → AreUsed (statement_uses statement) tables → Fits (map (λ (seen : Numbered). seen.kinds) tables) statement
    → map relation_of tables ≡ table ∷ []
    → form_meaning closed_worth statement [] (tables_of tables) nothing_bound
    ≡ effect_of statement (outcomes.Changed count delta) (tables_of tables) nothing_bound
    → IsChange statement (tables_of tables) delta
change_is (statements.Select select) tables table count delta used fits one is =
    absurd (rows_are_no_count _ count (ap answer_in is))
change_is (statements.Entangled entangled) tables table count delta used fits one is = absurd fits
change_is (statements.Insert number values) tables table count delta used fits one is =
    changed_there tables number table _ one used
change_is (statements.Delete number tests) tables table count delta used fits one is =
    changed_there tables number table _ one used
change_is (statements.Update number image tests) tables table count delta used fits one is =
    changed_there tables number table _ one used
change_is (statements.Set variable expression) [] table count delta used fits one is = absurd cc
change_is (statements.Set variable expression) (seen ∷ more) table count delta used fits one is = absurd cc

-- ---- a change can be made

made_so : (tables : List Numbered) (outcome : Outcome) → CanBeApplied (map relation_of tables) outcome
    → CanBeMade tables (alone_seen outcome)
made_so tables (outcomes.Rows rows) can = tt
made_so [] (outcomes.Changed count delta) can = let e = can.1 in absurd cc
made_so (seen ∷ []) (outcomes.Changed count delta) can =
    let same : relation_of seen ≡ can.0 = let e = can.1 in cc in
    (seen, refl, subst (λ relation. IsApplicable relation delta) (sym same) can.2)
made_so (seen ∷ other ∷ more) (outcomes.Changed count delta) can = let e = can.1 in absurd cc
made_so tables (outcomes.Value value) can = tt
made_so tables (outcomes.Fault failure) can = tt

-- a statement fits the tables of its job
pub one_fits : (single : Single) (tables : List Numbered) (statement : Statement Value) → IsOne single tables
    → statement ≡ single.statement → Fits (kinds_in (map relation_of tables)) statement
one_fits single tables statement is named =
    let kinds : kinds_in (map relation_of tables) ≡ map (λ (seen : Numbered). seen.kinds) tables =
    map-map (λ (table : Relation). table.kinds) relation_of tables in
    subst (λ s. Fits (kinds_in (map relation_of tables)) s) (sym named)
    (subst (λ k. Fits k single.statement) (sym kinds) is.fits)

-- what a statement comes to over the tables of its job is the meaning of the job
one_right : (single : Single) (tables : List Numbered) (outcome : Outcome) → IsOne single tables
    → IsMeant single.statement (rows_in (map relation_of tables)) outcome
    → CanBeApplied (map relation_of tables) outcome
    → IsRight (record { job = record { work = jobs.One single; tables = tables }; outcome = alone_seen outcome })
one_right single tables outcome is means can =
    let effect = means (tables_of tables) nothing_bound [] (stand_named single tables is) in
    record {
      meaning = effect_is single.statement (tables_of tables) outcome effect (by outcome effect can);
      change = made_so tables outcome can;
    }
  where
    by : (outcome : Outcome)
        → form_meaning closed_worth single.statement [] (tables_of tables) nothing_bound
        ≡ effect_of single.statement outcome (tables_of tables) nothing_bound
        → CanBeApplied (map relation_of tables) outcome
        → (count : ℕ) (delta : Delta) → outcome ≡ outcomes.Changed count delta
        → IsChange single.statement (tables_of tables) delta
    by outcome effect can count delta changes =
        let applied = subst (CanBeApplied (map relation_of tables)) changes can in
        change_is single.statement tables applied.0 count delta is.used is.fits applied.1
        (effect ∙ ap (λ o. effect_of single.statement o (tables_of tables) nothing_bound) changes)

pub one_done : (single : Single) (tables : List Numbered) (statement : Statement Value) (outcome : Outcome)
    → IsOne single tables → statement ≡ single.statement
    → IsMeant statement (rows_in (map relation_of tables)) outcome → CanBeApplied (map relation_of tables) outcome
    → IsRight (record { job = record { work = jobs.One single; tables = tables }; outcome = alone_seen outcome })
one_done single tables statement outcome is named means can =
    one_right single tables outcome is
    (subst (λ s. IsMeant s (rows_in (map relation_of tables)) outcome) named means) can
