-- What the results of jobs promise.
use Rattle.std.specs.Prelude.{◌≡◌, List, [], ◌∷◌, Option, Some, None}
use Rattle.ent_rel.specs.Numbered.{relation_of}
use Rattle.ent_semantics.specs.declared.answer.Answer.{Answer}
use Rattle.ent_semantics.specs.declared.answer.Answer.TheVariants as answers
use Rattle.ent_protocol.specs.Job.{Numbered, Done, IsEvaluated}
use Rattle.ent_protocol.specs.Job as jobs
use Rattle.ent_ordinary.specs.Change.{IsApplicable}
use Rattle.ent_eval.specs.declared.outcome.JobOutcome.{JobOutcome}
use Rattle.ent_eval.specs.declared.outcome.JobOutcome.TheVariants as outcomes
use Rattle.ent_ordinary.specs.declared.outcome.Outcome.{Outcome}
use Rattle.ent_ordinary.specs.declared.outcome.Outcome.TheVariants as alone

abbrev pub alone_seen : Outcome → jobs.Outcome
alone_seen (alone.Rows rows) = jobs.Shown rows
alone_seen (alone.Changed count delta) = jobs.Changed count delta.removed delta.added
alone_seen (alone.Value value) = jobs.Bound value
alone_seen (alone.Fault failure) = jobs.Fault failure

abbrev pub outcome_seen : JobOutcome → jobs.Outcome
outcome_seen (outcomes.One outcome) = alone_seen outcome
outcome_seen (outcomes.Choice groundings) = jobs.Choice groundings

-- what a statement answers; a choice answers several statements, and a failure none
abbrev pub answer_of : jobs.Outcome → Option Answer
answer_of (jobs.Shown rows) = Some (answers.Rows rows)
answer_of (jobs.Changed count removed added) = Some (answers.Count count)
answer_of (jobs.Bound value) = Some (answers.Value value)
answer_of (jobs.Choice groundings) = None
answer_of (jobs.Fault failure) = None

-- a change that an outcome tells can be made in the one table
abbrev pub CanBeMade : List Numbered → jobs.Outcome → Type 0
CanBeMade tables (jobs.Shown rows) = Unit {0}
CanBeMade tables (jobs.Changed count removed added) =
    (seen : Numbered) × (tables ≡ seen ∷ [])
    × IsApplicable (relation_of seen) (record { removed = removed; added = added })
CanBeMade tables (jobs.Bound value) = Unit {0}
CanBeMade tables (jobs.Choice groundings) = Unit {0}
CanBeMade tables (jobs.Fault failure) = Unit {0}

-- An outcome is the meaning of its own work over its own tables, and a change that it tells can be made.
pub record IsRight (done : Done) : Type 0 where
  pub meaning : IsEvaluated done
  pub change : CanBeMade done.job.tables done.outcome
