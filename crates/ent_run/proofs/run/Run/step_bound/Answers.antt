use Rattle.std.proofs.Common.{◌≡◌, List, refl, sym, ap, subst, ◌∙◌}
use Rattle.std.specs.Prelude.{IsSome}
use Rattle.ent_members.specs.Changes.{stepping}
use Rattle.ent_members.proofs.InRun.{numbers_in_run}
use Rattle.ent_protocol.specs.State.{Member}
use Rattle.ent_run.specs.Grouped.{IsRunOf}
use Rattle.ent_run.specs.InRuns.{in_runs}
use Rattle.ent_run.specs.Moves.{run_of}
use Rattle.ent_run.specs.Places.{Changes, found}
use Rattle.ent_run.specs.Run.{Run}
use Rattle.ent_run.proofs.InRuns.{changes_carried, changes_in_runs}
use Rattle.ent_run.proofs.Lookups.{numbers_apart}
use Rattle.ent_run.proofs.OneMember.{on_err_then, on_ok_then}
use Rattle.ent_run.proofs.RunWith.{stepped_with}
use Rattle.ent_run.proofs.run.Run.step_bound.Goals as goal

pub step_bound-requires : goal.step_bound-requires
step_bound-requires c =
    let inside = c.self.inside in
    numbers_apart inside.locks inside.groups inside.members c.self.invariant

pub invariant_of-self : goal.invariant_of-self
invariant_of-self c =
    let inside = c.self.inside in
    let locks = inside.locks in
    let groups = inside.groups in
    let old = inside.members.active in
    let new = c.step_bound.new.members.active in
    let change = (stepping c.args.answer c.args.bound.items) in
    subst (λ (ms : List Member). IsRunOf locks groups ms new) (sym c.step_bound.ensures.prepared) (
      stepped_with c.step_bound.result locks groups (in_runs locks groups inside.members.prepared)
          (in_runs locks groups old) (in_runs locks groups new) change (λ m. refl) (λ m. refl) (λ m. refl) c.args.tx
          c.self.invariant.0
          (subst (λ (run : Run). IsSome (found run.active c.args.tx)) (sym c.self.view_is) c.requires)
          (on_ok_then c.step_bound.result (Changes change c.args.tx old new)
          (Changes change c.args.tx (in_runs locks groups old) (in_runs locks groups new))
          (changes_in_runs locks groups change change (λ m. refl) c.args.tx old new) c.step_bound.ensures.ok)
          (on_err_then c.step_bound.result (c.step_bound.new.members ≡ inside.members)
          (in_runs locks groups new ≡ in_runs locks groups old)
          (ap (λ (run : Run). in_runs locks groups run.active)) c.step_bound.ensures.err)
          (numbers_in_run locks groups new ∙ c.step_bound.ensures.numbers ∙ sym (numbers_in_run locks groups old)),
      c.self.invariant.1,
    )

pub returns-clause-ok : goal.returns-clause-ok
returns-clause-ok c =
    let inside = c.self.inside in
    changes_carried inside.locks inside.groups c.step_bound.result (stepping c.args.answer c.args.bound.items)
    (λ m. refl) c.args.tx
    inside.members.active c.step_bound.new.members.active c.args.self.now.active
    (ap (λ (run : Run). run.active) c.self.view_is) c.step_bound.ensures.ok

pub returns-clause-prepared : goal.returns-clause-prepared
returns-clause-prepared c =
    let inside = c.self.inside in
    ap (in_runs inside.locks inside.groups) c.step_bound.ensures.prepared
    ∙ ap (λ (run : Run). run.prepared) c.self.view_is

pub returns-clause-err : goal.returns-clause-err
returns-clause-err c =
    let inside = c.self.inside in
    on_err_then c.step_bound.result (c.step_bound.new.members ≡ inside.members) _
    (λ same. ap (λ (run : Run). run_of (in_runs inside.locks inside.groups run.prepared)
    (in_runs inside.locks inside.groups run.active)) same ∙ c.self.view_is) c.step_bound.ensures.err
