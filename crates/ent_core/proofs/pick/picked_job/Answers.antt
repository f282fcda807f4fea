use Rattle.std.proofs.Common.{refl, sym}
use Rattle.ent_waits.specs.Component.{IsFirstToPick}
use Rattle.ent_core.specs.contracts.store.Store.{the_view}
use Rattle.ent_core.proofs.Picked.{picked_first, picked_none}
use Rattle.ent_core.proofs.pick.picked_job.Goals as goal

pub joint_job-requires-clause-present : goal.joint_job-requires-clause-present
joint_job-requires-clause-present c =
    let s = the_view c.store.inside in
    let first : IsFirstToPick c.args.store.now c.in-Some.asked =
    picked_first s c.args.store.now c.store.inside.pool c.as_slice.result.now c.as_slice-2.result.now
    c.in_ok-picked.picked c.in-Some.asked c.store.view_is
    (c.store.invariant.0.posted s refl refl) (sym c.as_slice.ensures.value)
    (sym c.as_slice-2.ensures) c.in-Some.is c.in_ok-picked.ensures in
    first.can.component

pub returns-in_ok-job-in-Some : goal.returns-in_ok-job-in-Some
returns-in_ok-job-in-Some c =
    let s = the_view c.store.inside in
    let first : IsFirstToPick c.args.store.now c.in-Some.asked =
    picked_first s c.args.store.now c.store.inside.pool c.as_slice.result.now c.as_slice-2.result.now
    c.in_ok-picked.picked c.in-Some.asked c.store.view_is
    (c.store.invariant.0.posted s refl refl) (sym c.as_slice.ensures.value)
    (sym c.as_slice-2.ensures) c.in-Some.is c.in_ok-picked.ensures in
    record { asked = c.in-Some.asked; first = first; is = c.in_ok-job-in-Some.ensures }

pub returns-in-None : goal.returns-in-None
returns-in-None c =
    let s = the_view c.store.inside in
    picked_none s c.args.store.now c.store.inside.pool c.as_slice.result.now c.as_slice-2.result.now
    c.in_ok-picked.picked c.store.view_is
    (c.store.invariant.0.posted s refl refl) (sym c.as_slice.ensures.value)
    (sym c.as_slice-2.ensures) c.in-None.is c.in_ok-picked.ensures
