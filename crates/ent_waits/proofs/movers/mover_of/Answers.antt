use Rattle.std.proofs.Common.{refl, sym, ◌∙◌, true≢false}
use Rattle.ent_lists.specs.Elements.{neither}
use Rattle.ent_protocol.specs.Member.{is_lent, next_of}
use Rattle.ent_waits.specs.Waits.{nothing, state_with}
use Rattle.ent_waits.proofs.Moving.{free_asks, free_moves, mover_is_unblocked}
use Rattle.ent_waits.proofs.WouldMove.{mover}
use Rattle.ent_waits.proofs.movers.mover_of.Goals as goal

pub returns-then-not-is_free : goal.returns-then-not-is_free
returns-then-not-is_free c = λ s same tx moves.
    let here = state_with c.args.run.now c.args.submitted.now c.args.lent.now s in
    let member = c.args.member.now in
    let free = (c.is_free.ensures s).1 (record {
      idle = moves.idle;
      unblocked = mover_is_unblocked here member (next_of here member) moves.moves;
    }) in
    true≢false (sym free ∙ c.if-not-is_free.true)

pub returns-then-not-is_posting : goal.returns-then-not-is_posting
returns-then-not-is_posting c = λ s same.
    let here = state_with c.args.run.now c.args.submitted.now c.args.lent.now s in
    let member = c.args.member.now in
    let free = (c.is_free.ensures s).0 c.if-not-is_free.false in
    mover here member c.tx.result c.tx.ensures free.idle
    (free_moves here member (next_of here member) free.unblocked (sym c.is_posting.ensures ∙ c.if-not-is_posting.true))

pub stays_safe-requires : goal.stays_safe-requires
stays_safe-requires c =
    let here = state_with c.args.run.now c.args.submitted.now c.args.lent.now nothing in
    let member = c.args.member.now in
    c.requires
    (neither member.posted (is_lent here member.tx)
    ((c.is_free.ensures nothing).0 c.if-not-is_free.false).idle).0

pub returns-then-branch : goal.returns-then-branch
returns-then-branch c = λ s same.
    let here = state_with c.args.run.now c.args.submitted.now c.args.lent.now s in
    let member = c.args.member.now in
    let free = (c.is_free.ensures s).0 c.if-not-is_free.false in
    let asks = free_asks here member (next_of here member) refl free.unblocked
    (sym c.is_posting.ensures ∙ c.if-not-is_posting.false) in
    let safe = (c.in_ok-stays_safe.ensures here asks.statement refl same asks.next).0 c.if-branch.true in
    mover here member c.tx-then-branch.result c.tx-then-branch.ensures free.idle (asks.moves.1 safe)

pub returns-else-branch : goal.returns-else-branch
returns-else-branch c = λ s same tx moves.
    let here = state_with c.args.run.now c.args.submitted.now c.args.lent.now s in
    let member = c.args.member.now in
    let free = (c.is_free.ensures s).0 c.if-not-is_free.false in
    let asks = free_asks here member (next_of here member) refl free.unblocked
    (sym c.is_posting.ensures ∙ c.if-not-is_posting.false) in
    let is = (c.in_ok-stays_safe.ensures here asks.statement refl same asks.next).1 (asks.moves.0 moves.moves) in
    true≢false (sym is ∙ c.if-branch.false)
