-- What changes of one table come to.
use Rattle.std.specs.Prelude.{◌≡◌, ℕ, Bool, List, Option, Result, Ok, Err, All, IsOk}
use Rattle.ent_value.specs.Refusal.{◌>>=◌}
use Rattle.ent_value.specs.Value.{kinds_of}
use Rattle.ent_value.specs.declared.refusal.Refusal.{Refusal}
use Rattle.ent_value.specs.declared.refusal.Refusal.TheVariants as refusals
use Rattle.ent_value.specs.declared.value.Value.{Value}
use Rattle.ent_rel.specs.Relation.{Relation, RowSet, bounded}
use Rattle.ent_rel.specs.Change.{changed_rows, insertion, replacement, application}
use Rattle.ent_rel.specs.declared.change.Delta.{Delta}
use Rattle.ent_rel.specs.declared.fault.TableFull.{TableFull}
use Rattle.ent_semantics.specs.declared.answer.Failure.{Failure}
use Rattle.ent_semantics.specs.declared.answer.Failure.TheVariants as failures
use Rattle.ent_ordinary.specs.declared.outcome.Outcome.{Outcome}
use Rattle.ent_ordinary.specs.declared.outcome.Outcome.TheVariants as outcomes
use Rattle.ent_ordinary.specs.ExpressionWorth.{there_or_overflow}

-- a table that has no room fails
abbrev pub or_full : {X : Type 0} → Result X TableFull → Result X Failure
or_full (Ok x) = Ok x
or_full (Err full) = Err failures.TableFull

abbrev pub insertion_of : RowSet → List Value → Result (ℕ × RowSet) Failure
insertion_of rows row = or_full (insertion rows row)

-- a row without an image fails
abbrev pub image_or_overflow : (List Value → Option (List Value)) → List Value → Result (List Value) Failure
image_or_overflow image row = there_or_overflow (image row)

-- an overflow comes before a full table
abbrev pub replacement_of : RowSet → (List Value → Bool) → (List Value → Option (List Value))
    → Result (ℕ × RowSet) Failure
replacement_of rows test image =
    replacement rows test (image_or_overflow image) >>= λ change. or_full (bounded change.1 change)

-- A change can be applied to a table: what it puts in has the table's kinds, and no more rows stand then than a table
-- holds.
pub record IsApplicable (table : Relation) (delta : Delta) : Type 0 where
  pub kinds : All (λ row. kinds_of row ≡ table.kinds) delta.added
  pub fits : IsOk (application table.rows delta.removed delta.added)

-- an outcome is a change of a table, with how many rows it concerns, or why there is none
abbrev pub Changes : Relation → Result (ℕ × RowSet) Failure → Outcome → Type 0
Changes table meant (outcomes.Changed count delta) =
    (meant ≡ Ok (count, changed_rows table.rows delta.removed delta.added)) × IsApplicable table delta
Changes table meant (outcomes.Fault failure) = meant ≡ Err failure
Changes table meant (outcomes.Rows rows) = ⊥
Changes table meant (outcomes.Value value) = ⊥

-- an outcome is the fault of a refusal
abbrev pub IsFault : Refusal Failure → Outcome → Type 0
IsFault refusal (outcomes.Fault failure) = refusal ≡ refusals.Fault failure
IsFault refusal (outcomes.Changed count delta) = ⊥
IsFault refusal (outcomes.Rows rows) = ⊥
IsFault refusal (outcomes.Value value) = ⊥
