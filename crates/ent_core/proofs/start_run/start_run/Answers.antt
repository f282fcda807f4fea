use Rattle.std.proofs.Common.{◌≡◌, ◌<◌, ◌∙◌, ℕ, ap, arith, length, nat_eq, subst, sym, List, map, min, take}
use Rattle.std.specs.Prelude.{All}
use Rattle.std.specs.List.{IsDistinct}
use Rattle.ent_headline.specs.Resolved.{resolved_forms}
use Rattle.ent_form.specs.declared.fault.FormFault.{FormFault}
use Rattle.ent_group.specs.declared.members.TheConstants.{MOST_MEMBERS}
use Rattle.ent_protocol.specs.State.{State, Dormant, by_number}
use Rattle.ent_protocol.specs.Run.{fresh}
use Rattle.ent_members.specs.Order.{tx_of}
use Rattle.ent_semantics.specs.declared.book.Fated.{Fated}
use Rattle.ent_core.specs.Kept.{IsKeptState}
use Rattle.ent_core.specs.Settled.{AreSettled}
use Rattle.ent_core.specs.contracts.store.Store.{the_view}
use Rattle.ent_members.specs.TransactionTable.{TransactionTable}
use Rattle.ent_core.proofs.Packing.{IsPackable, started_packed}
use Rattle.ent_core.proofs.Pooled.{kept_fresh}
use Rattle.ent_core.proofs.Settled.{settled_at_rest}
use Rattle.ent_core.proofs.Starting.{distinct_taken, kept_started, started}
use Rattle.ent_core.proofs.start_run.start_run.Goals as goal

pub start-requires-clause-distinct : goal.start-requires-clause-distinct
start-requires-clause-distinct c =
    subst (λ (all : List Dormant). IsDistinct nat_eq (map (λ own. own.tx) all)) (sym (c.as_slice.ensures.value
    ∙ c.in_ok-entrants.ensures))
    (distinct_taken c.min-count.result c.store.inside.transaction_table.dormant c.store.invariant.0.distinct)

pub invariant_of-store : goal.invariant_of-store
invariant_of-store c =
    let inside = c.store.inside in
    let s : State = the_view inside in
    let kept = subst IsKeptState (sym c.store.view_is) c.requires.kept in
    let settled = settled_at_rest s (c.store.invariant.0.idle_prepared c.if-store.false)
    (c.store.invariant.0.idle_active c.if-store.false)
    (c.resolved_entangled_statements_are_answered_once.ensures.nothing_else s kept.formed kept.reached)
    (c.resolved_journals_fit_the_fates.ensures s kept.formed kept.reached) in
    let first_is : c.len-store-inside.result ≡ length inside.joints.items =
    omega (arith, c.len-store-inside.ensures, inside.joints.ok.0) in
    let Settled : ℕ → List Fated → Type 0 = λ first fates. AreSettled first inside.joints.items fates in (
      kept_started inside.catalogue.tables inside.opening inside.submitted.items inside.transaction_table _
          inside.running _ c.in_ok-run.run' inside.tables inside.pool inside.pool c.min-count.result
          c.store.invariant.0 c.take_first.ensures
          (kept_fresh inside.submitted.items inside.run.active inside.pool c.store.invariant.0.posted
          (take c.min-count.result inside.transaction_table.dormant) c.in_ok-run.run'.active
          (c.store.invariant.0.idle_active c.if-store.false)
          (c.in_ok-run.ensures.active
          ∙ ap (λ (all : List Dormant). by_number tx_of (map fresh all)) (c.as_slice.ensures.value
          ∙ c.in_ok-entrants.ensures))),
      subst (λ (first : ℕ). Settled first c.take_first.new.self.fates) (sym first_is)
          (subst (Settled (length inside.joints.items))
          (sym (ap (λ (r : TransactionTable). r.fates) c.take_first.ensures)) settled),
    )

pub of-members-requires : goal.of-members-requires
of-members-requires c =
    let inside = c.store.inside in
    let s : State = the_view inside in
    let kept = subst IsKeptState (sym c.store.view_is) c.requires.kept in
    let few = c.scripts_are_few.ensures resolved_forms s kept.reached in
    subst (All IsPackable) (sym (c.numbers-numbers.ensures s))
    (started_packed s.submitted few c.min-count.result inside.transaction_table.dormant c.in_ok-run.run'.prepared
    c.in_ok-run.run'.active c.store.invariant.0.arrived c.in_ok-run.ensures.prepared
    (c.in_ok-run.ensures.active
    ∙ ap (λ (all : List Dormant). by_number tx_of (map fresh all)) (c.as_slice.ensures.value
    ∙ c.in_ok-entrants.ensures)))

pub returns-clause-ok : goal.returns-clause-ok
returns-clause-ok c =
    let s : State = the_view c.store.inside in
    let waiting = c.dormant_len-waiting.ensures in
    let some : 0 < length c.store.inside.transaction_table.dormant = omega (arith, waiting) in
    let least : c.min-count.result ≡ min (length c.store.inside.transaction_table.dormant) MOST_MEMBERS =
    c.min-count.ensures
    ∙ ap (λ n. min n 64) waiting in
    started FormFault s c.args.store.now c.min-count.result c.take_first.new.self.dormant c.take_first.new.self.fates
    c.in_ok-run.run'.prepared c.in_ok-run.run'.active c.of-members.result c.clear.new.self.items
    c.store.view_is c.if-store.false c.clear.ensures.items (c.store.invariant.0.idle_prepared c.if-store.false) some
    least c.in_ok-run.ensures.prepared
    (c.in_ok-run.ensures.active
    ∙ ap (λ (all : List Dormant). by_number tx_of (map fresh all)) (c.as_slice.ensures.value
    ∙ c.in_ok-entrants.ensures))
    (ap (λ (r : TransactionTable). r.dormant) c.take_first.ensures)
    (ap (λ (r : TransactionTable). r.fates) c.take_first.ensures)
    (c.of-members.ensures ∙ c.numbers-numbers.ensures s)
