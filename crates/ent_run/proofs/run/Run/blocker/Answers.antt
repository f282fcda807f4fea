use Rattle.std.proofs.Common.{◌≡◌, sym, subst}
use Rattle.ent_protocol.specs.Uses.{blocker}
use Rattle.ent_run.specs.InRuns.{in_runs}
use Rattle.ent_run.specs.Passing.{TellsPassed, passes}
use Rattle.ent_run.specs.Run.{Run, with_run}
use Rattle.ent_run.proofs.Blocked.{blocker_is}
use Rattle.ent_run.proofs.run.Run.blocker.Goals as goal

pub returns : goal.returns
returns c = λ s.
    let asker = c.args.asker.now in
    let asked = c.args.asked.now in
    let result = c.least_in_conflict.result in
    let test = passes c.asking.result in
    subst (λ (run : Run). result ≡ blocker (with_run run s) asker asked) c.self.view_is
    (blocker_is c.self.inside.locks (in_runs c.self.inside.locks c.self.inside.groups c.self.inside.members.prepared)
    (in_runs c.self.inside.locks c.self.inside.groups c.self.inside.members.active) c.self.invariant.0.0 asker test
    (subst (λ (run : Run). TellsPassed asker run test) (sym c.self.view_is) c.asking.ensures) asked result s
    c.least_in_conflict.ensures)
