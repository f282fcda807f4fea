use Rattle.ent_waits.proofs.Stuck.{all_awaited, is_zero, none_stuck, still}
use Rattle.ent_waits.proofs.cycle_search.may_have_cycle.Goals as goal

pub loop-round-init : goal.loop-round-init
loop-round-init c =
    all_awaited c.args.rows.now c.awaited-stuck.result c.awaited-stuck.ensures

pub loop-round-preserved : goal.loop-round-preserved
loop-round-preserved c =
    still c.args.rows.now c.loop-round.stuck c.still_stuck-stuck.result c.still_stuck-stuck.ensures
    c.loop-round.invariant

pub returns-then-stuck-eq0 : goal.returns-then-stuck-eq0
returns-then-stuck-eq0 c = λ none.
    none_stuck c.args.rows.now c.loop-round.stuck c.if-stuck-eq0.true c.loop-round.invariant

pub returns : goal.returns
returns c = λ none. none_stuck c.args.rows.now c.loop-round.stuck (is_zero c.loop-round.stuck none)
    c.loop-round.invariant
