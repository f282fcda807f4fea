use Rattle.std.proofs.Common.{◌≡◌, ℕ, sym, subst}
use Rattle.std.specs.Prelude.{◌↔◌, IsTrue}
use Rattle.ent_run.specs.InRuns.{in_runs}
use Rattle.ent_run.specs.Passing.{TellsPassed, passes}
use Rattle.ent_run.specs.Run.{Run, with_run}
use Rattle.ent_run.specs.Waits.{IsMadeToWait, is_awaited}
use Rattle.ent_run.proofs.Waiting.{waits_as}
use Rattle.ent_run.proofs.run.Run.awaits.Goals as goal

pub returns : goal.returns
returns c = λ s.
    let asker = c.args.asker.now in
    let asked = c.args.asked.now in
    let other = c.args.other.now in
    let result = c.awaits.result in
    let locks = c.self.inside.locks in
    let groups = c.self.inside.groups in
    let test = passes c.asking.result in
    subst (λ (run : Run). result ≡ is_awaited (with_run run s) asker asked other) c.self.view_is
    (waits_as locks groups (in_runs c.self.inside.locks c.self.inside.groups c.self.inside.members.prepared)
    (in_runs c.self.inside.locks c.self.inside.groups c.self.inside.members.active) c.self.invariant.0 asker test
    (subst (λ (run : Run). TellsPassed asker run test) (sym c.self.view_is) c.asking.ensures) asked other s result
    (subst (λ (group : ℕ). IsTrue result ↔ IsMadeToWait locks groups asked test group other) c.group.ensures
    c.awaits.ensures))
