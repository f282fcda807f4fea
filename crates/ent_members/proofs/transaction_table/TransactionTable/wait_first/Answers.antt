use Rattle.std.proofs.Common.{◌≡◌, ◌+◌, ◌<◌, ◌∷◌, ℕ, false, List, Option, Some, IsSome, is_some, length}
use Rattle.std.proofs.Common.{ap, sym, subst, refl, ◌∙◌, arith}
use Rattle.std.specs.Prelude.{nat_eq}
use Rattle.slab.specs.Slab.{Updates, with_value}
use Rattle.slab.proofs.SlabLemmas.{Updates-with_value}
use Rattle.indexmap.specs.IndexMap.{get}
use Rattle.ent_protocol.specs.State.{Dormant}
use Rattle.ent_members.specs.TransactionTable.{TransactionTable, is_dormant, waiting}
use Rattle.ent_members.proofs.Changes.{in_front, key_here, keys_apart, length_waiting, slab_len-with_value}
use Rattle.ent_members.proofs.Changes.{stand_with, waiting_first}
use Rattle.ent_members.proofs.transaction_table.TransactionTable.wait_first.Goals as goal

pub overflow_sub-last : goal.overflow_sub-last
overflow_sub-last c =
    let s = c.self.inside in
    let tx = c.tx-tx.result in
    let awake : is_dormant tx (waiting s.live s.order s.in_run) ≡ false =
    ap (λ n. is_dormant n (waiting s.live s.order s.in_run)) c.tx-tx.ensures
    ∙ ap (λ (table : TransactionTable). is_dormant c.args.own.tx table.dormant) c.self.view_is
    ∙ c.requires.away.awake in
    let front =
    in_front s.live s.order s.in_run tx c.unwrap-at.result c.index-key.result.now
    (sym c.get_index_of.ensures.index ∙ c.unwrap-at.ensures) c.index-key.ensures awake in
    omega (arith, front)

pub invariant_of-self : goal.invariant_of-self
invariant_of-self c =
    let s = c.self.inside in
    let kept = c.self.invariant in
    let tx = c.tx-tx.result in
    let own : Dormant = c.args.own in
    let key = c.index-key.result.now in
    let new = with_value s.live key own in
    let after = c.swap_indices.new.self in
    let awake : is_dormant tx (waiting s.live s.order s.in_run) ≡ false =
    ap (λ n. is_dormant n (waiting s.live s.order s.in_run)) c.tx-tx.ensures
    ∙ ap (λ (table : TransactionTable). is_dormant own.tx table.dormant) c.self.view_is ∙ c.requires.away.awake in
    let here : get nat_eq s.order tx ≡ Some key =
    key_here s.live s.order s.in_run tx c.unwrap-at.result key
    (sym c.get_index_of.ensures.index ∙ c.unwrap-at.ensures) c.index-key.ensures awake in
    let same = c.swap_indices.ensures.reordered.2 in
    let long = c.swap_indices.ensures.reordered.1 in
    let there = ap is_some c.index_mut.ensures.value in
    let update : Updates s.live new key (Some own) = Updates-with_value s.live key own there in
    let room : length (waiting s.live s.order s.in_run) + length s.fates.items < s.known =
    subst (λ (table : TransactionTable). length table.dormant + length table.fates < table.known) (sym c.self.view_is)
    c.requires.room in
    let front =
    in_front s.live s.order s.in_run tx c.unwrap-at.result key (sym c.get_index_of.ensures.index ∙ c.unwrap-at.ensures)
    c.index-key.ensures awake in
    record {
      stand = stand_with s.live new s.order after tx key (Some own) kept.stand update (λ k ne. same k)
          (keys_apart s.live s.order kept.stand tx key here) own refl (sym c.tx-tx.ensures) (same tx ∙ here);
      held = slab_len-with_value s.live key own there ∙ kept.held ∙ sym long;
      members = omega (arith, long, kept.members);
      all = λ n number none. subst (λ (o : Option ℕ). IsSome o) (sym (same n)) (kept.all n number none);
      only = λ n there. kept.only n (subst (λ (o : Option ℕ). IsSome o) (same n) there);
      few = omega (arith, long, kept.few);
      bound = omega (arith, long, room, front, kept.members, length_waiting s.live s.order s.in_run);
      fits = kept.fits;
      all_finished = kept.all_finished;
      finished_shown = kept.finished_shown;
    }

pub returns : goal.returns
returns c =
    let s = c.self.inside in
    let kept = c.self.invariant in
    let tx = c.tx-tx.result in
    let own : Dormant = c.args.own in
    let key = c.index-key.result.now in
    let new = with_value s.live key own in
    let after = c.swap_indices.new.self in
    let awake : is_dormant tx (waiting s.live s.order s.in_run) ≡ false =
    ap (λ n. is_dormant n (waiting s.live s.order s.in_run)) c.tx-tx.ensures
    ∙ ap (λ (table : TransactionTable). is_dormant own.tx table.dormant) c.self.view_is ∙ c.requires.away.awake in
    let told : Dormant = record { tx = tx; runs = own.runs } in
    let same : told ≡ own = λ i. record { tx = c.tx-tx.ensures i; runs = own.runs } in
    let update : Updates s.live new key (Some told) =
    subst (λ (it : Dormant). Updates s.live new key (Some it)) (sym same)
    (Updates-with_value s.live key own (ap is_some c.index_mut.ensures.value)) in
    let back =
    waiting_first s.live s.order s.in_run tx c.unwrap-at.result key
    (sym c.get_index_of.ensures.index ∙ c.unwrap-at.ensures) c.index-key.ensures awake new after kept.members kept.stand
    own.runs update c.swap_indices.ensures.reordered.2
    c.swap_indices.ensures.entries in
    ap (λ (dormant : List Dormant). record { dormant = dormant; fates = s.fates.items; known = s.known })
    (back ∙ ap (λ (it : Dormant). it ∷ waiting s.live s.order s.in_run) same)
    ∙ ap (λ (table : TransactionTable). record table { dormant = own ∷ table.dormant }) c.self.view_is
