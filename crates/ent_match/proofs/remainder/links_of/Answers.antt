use Rattle.std.proofs.Common.{arith}
use Rattle.ent_match.proofs.Linked.{asked_more}
use Rattle.ent_match.proofs.remainder.links_of.Goals as goal

pub loop-place-preserved : goal.loop-place-preserved
loop-place-preserved c =
    let more = asked_more c.args.members.now c.loop-place.place c.loop-place.links.items c.push_links.new.links.items
    c.loop-place.removed.items c.push.new.self.items c.in_ok-is_removed.is_removed c.loop-place.invariant.room
    c.loop-place.invariant.sound c.loop-place.invariant.asked c.in_ok-is_removed.ensures
    c.in_ok-push.ensures.items in
    record { room = more.0; sound = more.1; asked = more.2 }

pub returns : goal.returns
returns c =
    record {
      room = omega arith;
      sound = c.loop-place.invariant.sound;
      asked = λ place below. c.loop-place.invariant.asked place (omega arith);
    }
