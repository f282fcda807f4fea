use Rattle.std.proofs.Common.{◌∙◌, ◌++◌, List, ap, sym}
use Rattle.std.specs.Prelude.{Some}
use Rattle.ent_protocol.specs.State.{Member}
use Rattle.ent_members.specs.InRun.{in_run}
use Rattle.ent_run.specs.InRuns.{in_runs}
use Rattle.ent_run.specs.Places.{found}
use Rattle.ent_run.specs.Run.{Run}
use Rattle.ent_run.proofs.Lookups.{found_first, found_nobody, found_one, found_second}
use Rattle.ent_run.proofs.run.Run.member.Goals as goal

pub returns-in-Some : goal.returns-in-Some
returns-in-Some c = λ s.
    let inside = c.self.inside in
    let tx = c.args.tx in
    ap Some c.new.ensures
    ∙ found_first (in_runs inside.locks inside.groups inside.members.prepared)
    (in_runs inside.locks inside.groups inside.members.active) tx (in_run inside.locks inside.groups c.in-Some.own.now)
    (found_one inside.locks inside.groups inside.members.prepared tx c.in-Some.own.now
    (c.in-Some.ensures ∙ ap (λ (ms : List Member). found ms tx) c.prepared.ensures))
    ∙ ap (λ (run : Run). found (run.prepared ++ run.active) tx) c.self.view_is

pub returns-in-None : goal.returns-in-None
returns-in-None c = λ s.
    let inside = c.self.inside in
    let tx = c.args.tx in
    c.active_member.ensures s
    ∙ ap (λ (run : Run). found run.active tx) (sym c.self.view_is)
    ∙ found_second (in_runs inside.locks inside.groups inside.members.prepared)
    (in_runs inside.locks inside.groups inside.members.active) tx
    (found_nobody inside.locks inside.groups inside.members.prepared tx
    (c.in-None.ensures ∙ ap (λ (ms : List Member). found ms tx) c.prepared.ensures))
    ∙ ap (λ (run : Run). found (run.prepared ++ run.active) tx) c.self.view_is
