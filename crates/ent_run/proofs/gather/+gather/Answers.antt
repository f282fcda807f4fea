use Rattle.std.proofs.Common.{length, arith, ap, ◌∙◌}
use Rattle.ent_members.specs.RunAttempts.{number_of}
use Rattle.ent_members.proofs.ByNumber.{length-inserted}
use Rattle.ent_run.proofs.gather.+gather.Goals as goal

pub returns-then-is_within-clause-room : goal.returns-then-is_within-clause-room
returns-then-is_within-clause-room t c =
    omega (
      arith,
      ap length c.insert.ensures ∙ length-inserted number_of c.run_attempt_of.result c.gather.new.run_attempts,
      c.gather.ensures.room,
      ap length c.in-Some.ensures.some,
    )
