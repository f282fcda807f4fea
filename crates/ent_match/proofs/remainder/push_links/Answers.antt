use Rattle.std.proofs.Common.{length, arith, ap}
use Rattle.ent_value.specs.declared.value.Value.{Value}
use Rattle.ent_semantics.specs.declared.entangled.Entangled.{Entangled}
use Rattle.ent_match.proofs.Linked.{unmet, offered_more, all_offered}
use Rattle.ent_match.proofs.remainder.push_links.Goals as goal

pub returns-in_default : goal.returns-in_default
returns-in_default c =
    let posts = ap (λ (s : Entangled Value). length s.posts) c.statement.ensures in
    record {
      grows = c.loop-index.invariant.grows;
      sound = c.loop-index.invariant.sound;
      asked = unmet c.args.members.now c.args.place c.index-members-place.result c.loop-index.index c.requires.within
          c.index-members-place.is (omega arith) c.in_default.ensures;
    }

pub loop-index-preserved : goal.loop-index-preserved
loop-index-preserved c =
    let more = offered_more c.args.members.now c.args.links.now.items c.loop-index.links.items c.push.new.self.items
    c.args.place c.index-members-place.result c.loop-index.index c.in-Some.owner c.requires.within
    c.index-members-place.is
    c.in-Some.ensures c.in_ok-push.ensures.items c.loop-index.invariant.grows c.loop-index.invariant.sound
    c.loop-index.invariant.so_far in
    record { grows = more.0; sound = more.1; so_far = more.2 }

pub returns : goal.returns
returns c =
    let posts = ap (λ (s : Entangled Value). length s.posts) c.statement.ensures in
    record {
      grows = c.loop-index.invariant.grows;
      sound = c.loop-index.invariant.sound;
      asked = all_offered c.args.members.now c.loop-index.links.items c.args.place c.index-members-place.result
          c.loop-index.index c.index-members-place.is c.requires.within (omega arith) c.loop-index.invariant.so_far;
    }
