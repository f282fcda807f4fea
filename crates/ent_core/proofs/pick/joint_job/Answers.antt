use Rattle.std.proofs.Common.{◌≡◌, ◌∙◌, ap, sym}
use Rattle.ent_protocol.specs.PoolEvents.{joint_uses}
use Rattle.ent_core.specs.contracts.store.Store.{the_view}
use Rattle.ent_core.proofs.Picked.{makes_job}
use Rattle.ent_core.proofs.pick.joint_job.Goals as goal

pub joint-requires : goal.joint-requires
joint-requires c =
    let asked = c.args.asked in
    let used : c.as_slice-2.result.now ≡ joint_uses asked =
    c.as_slice-2.ensures.value ∙ c.in_ok-uses.ensures ∙ ap joint_uses c.as_slice.ensures in
    makes_job (the_view c.store.inside) c.args.store.now asked c.in_ok-tables.tables c.as_slice-2.result.now
    c.store.view_is used (c.in_ok-tables.ensures c.store.inside.opening.tables (sym c.store.invariant.0.kinds))
    (c.picked_statements_fit.ensures c.args.store.now asked c.requires.kept.reached c.requires.present)
