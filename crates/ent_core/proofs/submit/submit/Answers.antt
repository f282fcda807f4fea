use Rattle.std.proofs.Common.{◌∙◌, ap, subst, sym, arith, List, ◌++◌, ◌∷◌, []}
use Rattle.ent_protocol.specs.State.{Submitted}
use Rattle.ent_headline.specs.Resolved.{resolved_forms}
use Rattle.ent_protocol_laws.specs.Standing.{StandOnce}
use Rattle.ent_members.specs.TransactionTable.{TransactionTable}
use Rattle.ent_core.specs.Settled.{AreSettled}
use Rattle.ent_core.specs.contracts.store.Store.{the_view}
use Rattle.ent_core.proofs.Arrivals.{active_arrived, kept_submitted}
use Rattle.ent_core.proofs.Pooled.{kept_more}
use Rattle.ent_core.proofs.submit.submit.Goals as goal

pub invariant_of-store-in-Ok-admit : goal.invariant_of-store-in-Ok-admit
invariant_of-store-in-Ok-admit c =
    let inside = c.store.inside in
    let more = c.push_reserved.ensures.items
    ∙ ap (λ (xs : List Submitted). xs ++ c.in_ok-own.own ∷ []) c.reserve.ensures.items in (
      kept_submitted inside.catalogue.tables inside.opening inside.submitted.items _ inside.transaction_table _
          inside.running inside.run inside.tables inside.pool c.in_ok-own.own _ c.store.invariant.0
          c.within-asked.ensures.least more c.in-Ok-admit.ensures.ok (omega arith)
          (kept_more inside.submitted.items inside.run.active inside.pool c.store.invariant.0.posted _ c.in_ok-own.own
          more
          (active_arrived (the_view inside) (subst StandOnce (sym c.store.view_is)
          (c.transactions_stand_once.ensures.once resolved_forms c.args.store.now c.requires.kept.reached)))),
      subst (AreSettled inside.settled inside.joints.items)
          (sym (ap (λ (table : TransactionTable). table.fates) c.in-Ok-admit.ensures.ok)) c.store.invariant.1,
    )
