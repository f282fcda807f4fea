use Rattle.std.proofs.Common.{ap, refl, subst, sym}
use Rattle.std.specs.Prelude.{is_some}
use Rattle.ent_run.specs.Places.{IsAt}
use Rattle.ent_protocol.specs.Begin.{holding}
use Rattle.ent_protocol.specs.State.{State}
use Rattle.ent_core.specs.Begin.{IsUnposted}
use Rattle.ent_core.proofs.Begun.{found_at, kept_changed}
use Rattle.ent_core.proofs.Pooled.{kept_changing}
use Rattle.ent_core.proofs.begin.lend.Goals as goal

pub invariant_of-store-in-Ok-hold_at : goal.invariant_of-store-in-Ok-hold_at
invariant_of-store-in-Ok-hold_at c =
    let inside = c.store.inside in
    let tx = c.args.found.tx in
    let at = subst (λ (x : State). IsAt x.active tx c.args.found.place) (sym c.store.view_is) c.requires.at in
    let there = ap is_some (found_at inside.run.active tx c.args.found.place at).1 in
    let unposted = subst (λ (x : State). IsUnposted x tx) (sym c.store.view_is) c.requires.unposted in (
      kept_changed inside.catalogue.tables inside.opening inside.submitted.items inside.transaction_table
          inside.running inside.run c.hold_at.new.self inside.tables inside.pool inside.pool tx c.store.invariant.0
          there
          (kept_changing inside.submitted.items inside.run.active inside.pool c.store.invariant.0.posted
          (λ member. holding member c.as_slice.result.now) tx c.hold_at.new.self.active
          (c.in-Ok-hold_at.ensures.ok tx at) there (λ m. refl) (λ m off. off) unposted),
      c.store.invariant.1,
    )
