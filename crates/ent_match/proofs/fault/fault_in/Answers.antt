use Rattle.std.proofs.Common.{length, arith, sym, ap, ◌∙◌, true≢false}
use Rattle.ent_value.specs.declared.value.Value.{Value}
use Rattle.ent_semantics.specs.declared.entangled.Entangled.{Entangled}
use Rattle.ent_match.specs.Fault.{MeetsOne}
use Rattle.ent_match.proofs.Faults.{one_more, old_post, all_posts}
use Rattle.ent_match.proofs.fault.fault_in.Goals as goal

pub loop-index-preserved-then-not-can_meet : goal.loop-index-preserved-then-not-can_meet
loop-index-preserved-then-not-can_meet c =
    one_more (MeetsOne c.args.members.now c.args.asker.now) c.loop-index.index c.loop-index.invariant
    (old_post c.args.members.now c.requires.by_number c.args.asker.now c.args.new.now c.loop-index.index c.requires.asks
    c.requires.is_new c.requires.safe (λ e. c.if-tx.true (c.tx.ensures ∙ (e ∙ sym c.tx-in-loop-index.ensures)))
    (λ m. true≢false (sym (c.can_meet.ensures.1 m) ∙ c.if-not-can_meet.true)))

pub loop-index-preserved : goal.loop-index-preserved
loop-index-preserved c =
    one_more (MeetsOne c.args.members.now c.args.asker.now) c.loop-index.index c.loop-index.invariant
    c.in_default.ensures

pub returns : goal.returns
returns c =
    let posts = ap (λ (s : Entangled Value). length s.posts) c.statement.ensures in
    all_posts c.args.members.now c.args.asker.now c.loop-index.index (omega arith) c.loop-index.invariant
