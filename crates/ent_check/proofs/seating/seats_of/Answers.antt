use Rattle.std.proofs.Common.{◌<◌, ◌≤◌, length, arith, rules}
use Rattle.ent_check.proofs.Taken.{no_seats, seated_all, seated_begun, seated_more}
use Rattle.ent_check.proofs.seating.seats_of.Goals as goal

pub loop-index-init : goal.loop-index-init
loop-index-init c =
    seated_begun c.args.joints.now c.new-seats.result (no_seats c.new-seats.result c.new-seats.ensures.empty)

pub loop-index-preserved : goal.loop-index-preserved
loop-index-preserved c =
    let low : c.loop-index.index < length c.args.joints.now = grind (arith, rules) in
    seated_more c.args.joints.now c.loop-index.index c.index-joints-index.result c.as_slice.result.now
    c.loop-index.seats c.take_seats.new.seats low c.index-joints-index.is c.as_slice.ensures
    c.in_ok-take_seats.ensures c.loop-index.invariant

pub returns : goal.returns
returns c =
    let over : length c.args.joints.now ≤ c.loop-index.index = grind (arith, rules) in
    seated_all c.args.joints.now c.loop-index.index c.loop-index.seats over c.loop-index.invariant
