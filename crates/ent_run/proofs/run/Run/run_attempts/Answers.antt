use Rattle.std.proofs.Common.{◌++◌, List, [], sym, ap, ◌∙◌}
use Rattle.ent_protocol.specs.State.{Member}
use Rattle.ent_members.specs.RunAttempts.{gathered, run_attempts_in}
use Rattle.ent_run.specs.Run.{Run}
use Rattle.ent_members.proofs.ByNumber.{gathered-append}
use Rattle.std.proofs.Common.{map, subst}
use Rattle.ent_members.specs.Order.{IsAscending, tx_of}
use Rattle.ent_run.specs.InRuns.{in_runs}
use Rattle.ent_run.proofs.Lookups.{own_ascending}
use Rattle.ent_run.proofs.run.Run.run_attempts.Goals as goal

pub returns : goal.returns
returns c =
    let locks = c.self.inside.locks in
    let groups = c.self.inside.groups in
    let prepared = c.self.inside.members.prepared in
    let active = c.self.inside.members.active in
    c.gather.ensures.list locks
    ∙ ap (λ (ms : List Member). gathered c.args.group (in_runs locks groups ms) c.gather_by_number-run_attempts.result)
    c.prepared.ensures
    ∙ ap (gathered c.args.group (in_runs locks groups prepared)) (c.gather_by_number-run_attempts.ensures.list locks
    ∙ ap (λ (ms : List Member). run_attempts_in c.args.group (in_runs locks groups ms)) c.active.ensures)
    ∙ sym (gathered-append c.args.group (in_runs locks groups prepared) (in_runs locks groups active) [])
    ∙ ap (λ (run : Run). run_attempts_in c.args.group (run.prepared ++ run.active)) c.self.view_is

pub gather_by_number-run_attempts-requires-clause-ascending :
    goal.gather_by_number-run_attempts-requires-clause-ascending
gather_by_number-run_attempts-requires-clause-ascending c =
    let inside = c.self.inside in
    subst (λ (ms : List Member). IsAscending (map tx_of ms)) (sym c.active.ensures)
    (own_ascending inside.locks inside.groups inside.members.active c.self.invariant.0.0.run.ascending)
