use Rattle.std.proofs.Common.{◌≡◌, ◌∙◌, ℕ, List, sym, ap, subst}
use Rattle.ent_group.specs.declared.groups.Membership.{Membership}
use Rattle.ent_protocol.specs.State.{Member}
use Rattle.ent_run.specs.Passing.{TellsPassed, asker_of, passes}
use Rattle.ent_run.specs.Run.{Run}
use Rattle.ent_run.specs.InRuns.{in_runs}
use Rattle.ent_run.proofs.Passing.{tells_passed}
use Rattle.ent_run.proofs.run.Run.asking.Goals as goal

pub returns : goal.returns
returns c =
    let inside = c.self.inside in
    let asker = c.args.asker.now in
    subst (λ (run : Run). TellsPassed asker run (passes c.new.result)) c.self.view_is
    (tells_passed inside.locks inside.groups inside.members.prepared inside.members.active asker (passes c.new.result)
    c.self.invariant.0.0
    (λ holder. c.new.ensures holder
    ∙ ap (λ (ms : List Member). passes (asker_of asker ms inside.groups) holder) c.prepared.ensures))
