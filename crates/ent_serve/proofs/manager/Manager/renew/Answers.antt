use Rattle.std.proofs.Common.{sym, subst}
use Rattle.ent_desk.specs.Renewed.{HasTooManyRows}
use Rattle.ent_protocol.specs.Reached.{book_of}
use Rattle.ent_protocol.specs.State.{State}
use Rattle.ent_serve.specs.Look.{IsBehindLock, IsFullBehindLock}
use Rattle.ent_serve.proofs.manager.Manager.renew.Goals as goal

-- the core that was behind the lock has the rows for which the desk refuses
pub returns-in-Err-clause-too_many : goal.returns-in-Err-clause-too_many
returns-in-Err-clause-too_many g c is =
    record {
      core = c.core-core.result.now;
      behind = record { reached = c.core-core.ensures.reached; legal = c.core-core.ensures.legal };
      full = subst (λ (core : State). HasTooManyRows (book_of core)) (sym c.core-core.ensures.value)
          (c.in-Err.ensures.too_many is);
    }
