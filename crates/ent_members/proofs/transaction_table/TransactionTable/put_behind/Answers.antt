use Rattle.std.proofs.Common.{◌∙◌, ℕ, List, Option, IsSome, ap, arith, length, subst, sym}
use Rattle.ent_protocol.specs.State.{Dormant}
use Rattle.ent_members.specs.TransactionOrder.{first_behind}
use Rattle.ent_members.specs.TransactionTable.{TransactionTable}
use Rattle.ent_members.proofs.Changes.{length_waiting, waiting_behind}
use Rattle.ent_members.proofs.transaction_table.TransactionTable.put_behind.Goals as goal

pub put_behind-requires : goal.put_behind-requires
put_behind-requires c =
    let s = c.self.inside in
    omega (
      arith,
      c.requires,
      ap (λ (table : TransactionTable). length table.dormant) c.self.view_is,
      length_waiting s.live s.order s.in_run,
      c.self.invariant.members,
    )

pub invariant_of-self : goal.invariant_of-self
invariant_of-self c =
    let kept = c.self.invariant in
    let long = c.put_behind.ensures.reordered.1 in
    let same = c.put_behind.ensures.reordered.2 in
    record {
      stand = λ tx key there. kept.stand tx key (sym (same tx) ∙ there);
      held = kept.held ∙ sym long;
      members = omega (arith, long, kept.members);
      all = λ n number none. subst (λ (o : Option ℕ). IsSome o) (sym (same n)) (kept.all n number none);
      only = λ n there. kept.only n (subst (λ (o : Option ℕ). IsSome o) (same n) there);
      few = omega (arith, long, kept.few);
      bound = omega (arith, long, kept.bound);
      fits = kept.fits;
      all_finished = kept.all_finished;
      finished_shown = kept.finished_shown;
    }

pub returns : goal.returns
returns c =
    let s = c.self.inside in
    let count = c.args.count in
    ap (λ (dormant : List Dormant). record { dormant = dormant; fates = s.fates.items; known = s.known })
    (waiting_behind s.live s.order c.put_behind.new.order s.in_run count c.put_behind.ensures.reordered.2
    c.put_behind.ensures.entries)
    ∙ ap (λ (table : TransactionTable). record table { dormant = first_behind count table.dormant }) c.self.view_is
