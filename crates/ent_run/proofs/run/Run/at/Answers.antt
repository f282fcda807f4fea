use Rattle.std.proofs.Common.{◌<◌, List, get_or, length, sym, ap, subst, ◌∙◌}
use Rattle.ent_members.specs.InRun.{in_run}
use Rattle.ent_protocol.specs.State.{Member}
use Rattle.ent_run.specs.Run.{Run}
use Rattle.ent_run.proofs.Lookups.{get_in_runs, within_own}
use Rattle.ent_run.proofs.run.Run.at.Goals as goal

pub returns : goal.returns
returns c = λ d.
    let inside = c.self.inside in
    let place = c.args.place in
    let own = c.at.result.now in
    c.new.ensures
    ∙ ap (in_run inside.locks inside.groups) (c.at.ensures own
    ∙ ap (λ (ms : List Member). get_or ms place own) c.active.ensures)
    ∙ sym (get_in_runs inside.locks inside.groups inside.members.active place d own
    (within_own inside.locks inside.groups inside.members.active place
    (subst (λ (run : Run). place < length run.active) (sym c.self.view_is) c.requires)))
    ∙ ap (λ (run : Run). get_or run.active place d) c.self.view_is
