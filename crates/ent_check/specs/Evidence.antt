-- What is noted behind a finding.
use Rattle.std.specs.Prelude.{Option, Some, Result, Ok, Err}
use Rattle.ent_semantics.specs.declared.answer.Failure.{Failure}
use Rattle.ent_semantics.specs.Effect.{Effect}
use Rattle.ent_check.specs.declared.evidence.Evidence.{Evidence}
use Rattle.ent_check.specs.declared.evidence.Evidence.TheVariants.{Answer, Fails}

-- what a statement comes to: its answer, or its failure
abbrev pub outcome_of : {D : Type 0} → Result (Effect D) Failure → Option Evidence
outcome_of (Ok effect) = Some (Answer effect.answer)
outcome_of (Err failure) = Some (Fails failure)
