-- Results that are accepted are outstanding.
use Rattle.std.proofs.Common.{◌⊎◌, [], inl, inr}
use Rattle.ent_job.proofs.Taken.{taken_from}
use Rattle.ent_protocol.specs.Finish.{Finishes}
use Rattle.ent_protocol.specs.Event.{Reply}
use Rattle.ent_protocol.specs.Job.{Done}
use Rattle.ent_protocol.specs.PoolEvents.{JoinsOrIsStale}
use Rattle.ent_protocol.specs.State.{State}
use Rattle.ent_protocol_laws.specs.Present.{LentIsPresent}
use Rattle.ent_protocol_laws.specs.Lent.{LentStandOnce}
use Rattle.ent_headline.specs.Outstanding.{IsOutstanding, IsOutstandingTogether, IsHandedBack}

module _ {F : Type 0} (s : State) (once : LentStandOnce s) (present : LentIsPresent s) (done : Done)
    (reply : Reply F) (new : State) where
  pub accepted_one : Finishes s done reply new → IsOutstanding s done ⊎ IsHandedBack s done reply new
  accepted_one (inl step) =
      let lent = taken_from done.job s.lent step.2.left step.2.taken in
      inl (record {
        single = step.0;
        is_single = step.1;
        lent = lent;
        before = once.before done.job step.0 lent step.1;
        present = present.single done.job step.0 lent step.1;
      })
  accepted_one (inr step) = inr (step.1.0, step.1.1)

  pub accepted_together : JoinsOrIsStale s done reply new
      → IsOutstandingTogether s done ⊎ IsHandedBack s done reply new
  accepted_together (inl step) =
      let out = step.outstanding in
      let lent = taken_from done.job s.lent out.left out.taken in
      inl (record {
        asked = out.asked;
        is_joint = out.is_joint;
        lent = lent;
        component = out.component;
        present = present.joint done.job out.asked lent out.is_joint out.component;
      })
  accepted_together (inr step) = inr (step.1.0, step.1.1)
