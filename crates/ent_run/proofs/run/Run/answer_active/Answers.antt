use Rattle.std.proofs.Common.{◌≡◌, List, map, sym, ap, subst, ◌∙◌}
use Rattle.ent_protocol.specs.State.{Member}
use Rattle.ent_run.specs.Answered.{answered_from}
use Rattle.ent_run.specs.Grouped.{IsRunOf}
use Rattle.ent_run.specs.InRuns.{in_runs}
use Rattle.ent_run.specs.Moves.{run_of}
use Rattle.ent_run.specs.Run.{Run}
use Rattle.ent_run.proofs.InRuns.{answered_in_runs}
use Rattle.ent_run.proofs.Lookups.{numbers_apart}
use Rattle.ent_run.proofs.OneMember.{on_err_then, on_ok_then}
use Rattle.ent_run.proofs.RunWith.{answered_with}
use Rattle.ent_run.proofs.run.Run.answer_active.Goals as goal

pub answer_each-requires-clause-numbers : goal.answer_each-requires-clause-numbers
answer_each-requires-clause-numbers c =
    let inside = c.self.inside in
    numbers_apart inside.locks inside.groups inside.members c.self.invariant

pub invariant_of-self : goal.invariant_of-self
invariant_of-self c =
    let inside = c.self.inside in
    let locks = inside.locks in
    let groups = inside.groups in
    let given = c.args.given.items in
    let old = inside.members.active in
    let new = c.answer_each.new.members.active in
    subst (λ (ms : List Member). IsRunOf locks groups ms new) (sym c.answer_each.ensures.prepared) (
      answered_with c.answer_each.result given locks groups (in_runs locks groups inside.members.prepared)
          (in_runs locks groups old) (in_runs locks groups new)
          (on_ok_then c.answer_each.result (new ≡ map (answered_from given) old)
          (in_runs locks groups new ≡ map (answered_from given) (in_runs locks groups old))
          (λ answered. ap (in_runs locks groups) answered ∙ answered_in_runs locks groups given old)
          c.answer_each.ensures.ok)
          (on_err_then c.answer_each.result (new ≡ old) (in_runs locks groups new ≡ in_runs locks groups old)
          (ap (in_runs locks groups)) c.answer_each.ensures.err)
          c.self.invariant.0,
      c.self.invariant.1,
    )

pub returns-clause-ok : goal.returns-clause-ok
returns-clause-ok c =
    let inside = c.self.inside in
    let locks = inside.locks in
    let groups = inside.groups in
    let given = c.args.given.items in
    let old = inside.members.active in
    let new = c.answer_each.new.members.active in
    on_ok_then c.answer_each.result (new ≡ map (answered_from given) old)
    (in_runs locks groups new ≡ map (answered_from given) c.args.self.now.active)
    (λ answered. ap (in_runs locks groups) answered ∙ answered_in_runs locks groups given old
    ∙ ap (λ (run : Run). map (answered_from given) run.active) c.self.view_is)
    c.answer_each.ensures.ok

pub returns-clause-prepared : goal.returns-clause-prepared
returns-clause-prepared c =
    let inside = c.self.inside in
    ap (in_runs inside.locks inside.groups) c.answer_each.ensures.prepared
    ∙ ap (λ (run : Run). run.prepared) c.self.view_is

pub returns-clause-err : goal.returns-clause-err
returns-clause-err c =
    let inside = c.self.inside in
    on_err_then c.answer_each.result (c.answer_each.new.members.active ≡ inside.members.active) _
    (λ same. (λ i. run_of (in_runs inside.locks inside.groups (c.answer_each.ensures.prepared i))
    (in_runs inside.locks inside.groups (same i))) ∙ c.self.view_is) c.answer_each.ensures.err
