use Rattle.std.proofs.Common.{ℕ, ◌<◌, List, get_or, length, sym, ap, subst, ◌∙◌}
use Rattle.std.specs.Prelude.{OnOk}
use Rattle.ent_protocol.specs.Begin.{holding}
use Rattle.ent_protocol.specs.State.{Member}
use Rattle.ent_run.specs.InRuns.{in_runs}
use Rattle.ent_run.specs.Locks.{Locks}
use Rattle.ent_run.specs.Places.{Changes, IsAt}
use Rattle.ent_run.specs.Run.{Run}
use Rattle.ent_run.proofs.Lookups.{within_own}
use Rattle.ent_run.proofs.Granted.{Trying, tried_changes, tried_prepared, tried_run}
use Rattle.ent_run.proofs.run.Run.hold_at.Goals as goal
use Rattle.ent_run.proofs.run.Run.hold_at.Goals.{After-lock}

abbrev trying : After-lock → Trying
trying c = record {
  locks = c.self.inside.locks;
  next = c.lock.new.locks;
  groups = c.self.inside.groups;
  prepared = c.self.inside.members.prepared;
  active = c.self.inside.members.active;
  place = c.args.place;
  asked = c.args.asked.now;
  member = c.at.result.now;
  run = c.self.invariant;
  within = within_own c.self.inside.locks c.self.inside.groups c.self.inside.members.active c.args.place
      (subst (λ (run : Run). c.args.place < length run.active) (sym c.self.view_is) c.requires);
  is = c.at.ensures c.at.result.now
      ∙ ap (λ (ms : List Member). get_or ms c.args.place c.at.result.now) c.active.ensures;
}

more : (c : After-lock)
    → OnOk c.lock.result (Locks c.at.result.now.tx c.args.asked.now c.self.inside.locks c.lock.new.locks)
more c =
    subst (λ (n : ℕ). OnOk c.lock.result (Locks n c.args.asked.now c.self.inside.locks c.lock.new.locks))
    c.tx-tx.ensures c.lock.ensures.ok

pub invariant_of-self : goal.invariant_of-self
invariant_of-self c =
    tried_run (trying c) c.lock.result (more c) c.lock.ensures.by_number c.lock.ensures.err

pub returns-clause-ok : goal.returns-clause-ok
returns-clause-ok c =
    subst (λ (run : Run). (tx : ℕ) → IsAt run.active tx c.args.place → OnOk c.lock.result
    (Changes (λ m. holding m c.args.asked.now) tx run.active
    (in_runs c.lock.new.locks c.self.inside.groups c.self.inside.members.active))) c.self.view_is
    (tried_changes (trying c) c.lock.result (more c) c.lock.ensures.by_number)

pub returns-clause-prepared : goal.returns-clause-prepared
returns-clause-prepared c =
    tried_prepared (trying c) c.lock.result (more c) c.lock.ensures.by_number c.lock.ensures.err
    ∙ ap (λ (run : Run). run.prepared) c.self.view_is
