use Rattle.std.proofs.Common.{◌<◌, ◌≤◌, length, arith, rules}
use Rattle.ent_check.proofs.Taken.{taken_all, taken_begun, taken_more}
use Rattle.ent_check.proofs.seating.take_seats.Goals as goal

pub loop-index-init : goal.loop-index-init
loop-index-init c = λ before are. taken_begun c.args.joint c.args.members.now before c.args.seats.now are

pub loop-index-preserved : goal.loop-index-preserved
loop-index-preserved c =
    let low : c.loop-index.index < length c.args.members.now = grind (arith, rules) in
    λ before are. taken_more c.args.joint c.args.members.now before c.loop-index.index c.index-members-index.result
    c.loop-index.seats c.take_seat.new.seats low c.index-members-index.is c.in_ok-take_seat.ensures
    (c.loop-index.invariant before are)

pub returns : goal.returns
returns c =
    let over : length c.args.members.now ≤ c.loop-index.index = grind (arith, rules) in
    λ before are. taken_all c.args.joint c.args.members.now before c.loop-index.index c.loop-index.seats over
    (c.loop-index.invariant before are)
