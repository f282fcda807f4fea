use Rattle.std.proofs.Common.{◌≡◌, true, List, refl, sym, ap, subst, ◌∙◌}
use Rattle.std.specs.Prelude.{None}
use Rattle.std.specs.List.{list_any}
use Rattle.ent_protocol.specs.Member.{is_tx}
use Rattle.ent_protocol.specs.State.{Member}
use Rattle.ent_run.specs.Places.{found}
use Rattle.ent_run.specs.Run.{Run}
use Rattle.ent_run.proofs.Locked.{found_none, some_has}
use Rattle.ent_members.specs.InRun.{in_run}
use Rattle.ent_run.specs.InRuns.{in_runs}
use Rattle.ent_run.proofs.InRuns.{any_mapped}
use Rattle.ent_run.proofs.run.Run.is_prepared.Goals as goal

pub returns-clause-prepared : goal.returns-clause-prepared
returns-clause-prepared c = λ s.
    let inside = c.self.inside in
    c.is_among.ensures ∙ ap (λ (ms : List Member). list_any (is_tx c.args.tx) ms) c.prepared.ensures
    ∙ sym (any_mapped (in_run inside.locks inside.groups) (is_tx c.args.tx) (is_tx c.args.tx) (λ m. refl)
    inside.members.prepared)
    ∙ ap (λ (run : Run). list_any (is_tx c.args.tx) run.prepared) c.self.view_is

pub returns-clause-apart : goal.returns-clause-apart
returns-clause-apart c = λ s prepared.
    let tx = c.args.tx in
    let inside = c.self.inside in
    let shown = in_runs inside.locks inside.groups inside.members.prepared in
    let any : list_any (is_tx tx) shown ≡ true =
    any_mapped (in_run inside.locks inside.groups) (is_tx tx) (is_tx tx) (λ m. refl) inside.members.prepared
    ∙ ap (λ (ms : List Member). list_any (is_tx tx) ms) (sym c.prepared.ensures) ∙ sym c.is_among.ensures
    ∙ prepared in
    subst (λ (run : Run). found run.active tx ≡ None) c.self.view_is
    (found_none (in_runs inside.locks inside.groups inside.members.active) tx
    (c.self.invariant.0.0.apart tx (some_has shown tx any)))
