use Rattle.std.proofs.Common.{◌≡◌, ℕ, ◌<◌, length, sym, ap, subst, ◌∙◌}
use Rattle.std.specs.Prelude.{OnOk}
use Rattle.ent_run.specs.InRuns.{in_runs}
use Rattle.ent_run.specs.Moves.{Prepares, run_of}
use Rattle.ent_run.specs.Places.{IsAt}
use Rattle.ent_run.specs.Run.{Run}
use Rattle.ent_run.proofs.Lookups.{own_distinct, within_own}
use Rattle.ent_run.proofs.OneMember.{on_err_then}
use Rattle.ent_run.proofs.PreparedRun.{prepared_or_not, prepares_or_not}
use Rattle.ent_run.proofs.run.Run.prepare_at.Goals as goal

pub prepare-requires-clause-within : goal.prepare-requires-clause-within
prepare-requires-clause-within c =
    let inside = c.self.inside in
    within_own inside.locks inside.groups inside.members.active c.args.place
    (subst (λ (run : Run). c.args.place < length run.active) (sym c.self.view_is) c.requires)

pub prepare-requires-clause-distinct : goal.prepare-requires-clause-distinct
prepare-requires-clause-distinct c =
    let inside = c.self.inside in
    own_distinct inside.locks inside.groups inside.members.active c.self.invariant.0.0.run.distinct

pub invariant_of-self : goal.invariant_of-self
invariant_of-self c =
    let inside = c.self.inside in
    let old = inside.members in
    let new = c.prepare.new.self in
    prepared_or_not inside.locks inside.groups old.prepared old.active c.args.place c.self.invariant
    (within_own inside.locks inside.groups old.active c.args.place
    (subst (λ (run : Run). c.args.place < length run.active) (sym c.self.view_is) c.requires))
    c.prepare.result new.prepared new.active c.prepare.ensures.ok
    (on_err_then c.prepare.result (new ≡ old) (new.prepared ≡ old.prepared) (ap (λ (run : Run). run.prepared))
    c.prepare.ensures.err)
    (on_err_then c.prepare.result (new ≡ old) (new.active ≡ old.active) (ap (λ (run : Run). run.active))
    c.prepare.ensures.err)

pub returns-clause-ok : goal.returns-clause-ok
returns-clause-ok c =
    let inside = c.self.inside in
    let old = inside.members in
    let new = c.prepare.new.self in
    subst (λ (run : Run). (tx : ℕ) → IsAt run.active tx c.args.place → OnOk c.prepare.result (Prepares tx run
    (run_of (in_runs inside.locks inside.groups new.prepared) (in_runs inside.locks inside.groups new.active))))
    c.self.view_is
    (prepares_or_not inside.locks inside.groups old.prepared old.active c.args.place c.self.invariant
    (within_own inside.locks inside.groups old.active c.args.place
    (subst (λ (run : Run). c.args.place < length run.active) (sym c.self.view_is) c.requires))
    c.prepare.result new.prepared new.active c.prepare.ensures.ok)

pub returns-clause-err : goal.returns-clause-err
returns-clause-err c =
    let inside = c.self.inside in
    on_err_then c.prepare.result (c.prepare.new.self ≡ inside.members) _
    (λ same. ap (λ (run : Run). run_of (in_runs inside.locks inside.groups run.prepared)
    (in_runs inside.locks inside.groups run.active)) same ∙ c.self.view_is) c.prepare.ensures.err
