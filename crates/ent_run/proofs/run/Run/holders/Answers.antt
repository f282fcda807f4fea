use Rattle.std.proofs.Common.{subst, ◌++◌}
use Rattle.std.specs.Prelude.{◌↔◌, Contains}
use Rattle.ent_run.specs.Locks.{IsHeld, use_of}
use Rattle.ent_run.specs.Run.{Run}
use Rattle.ent_run.proofs.run.Run.holders.Goals as goal

pub returns : goal.returns
returns c = λ tx mode.
    let table = c.args.table in
    let shown = c.holders.ensures tx mode in
    let held = c.self.invariant.0.0.locked tx table mode in
    subst (λ (run : Run). Contains c.holders.result.now (record { holder = tx; mode = mode })
    ↔ IsHeld (run.prepared ++ run.active) tx (use_of table mode)) c.self.view_is
    (λ there. held.0 (shown.0 there), λ holds. shown.1 (held.1 holds))
