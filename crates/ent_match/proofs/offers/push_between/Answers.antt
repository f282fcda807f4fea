use Rattle.std.proofs.Common.{arith, sym}
use Rattle.ent_match.proofs.Numbered.{same_member}
use Rattle.ent_match.proofs.Offered.{between_all, between_grow, between_more}
use Rattle.ent_match.proofs.offers.push_between.Goals as goal

pub push_pair-requires : goal.push_pair-requires
push_pair-requires c = λ same.
    same_member c.args.members.now c.requires.by_number c.member-item.result c.args.new.now
    (c.loop-member.member-index, c.loop-member-test.true, sym c.member-item.is) c.requires.is_new same

pub returns-in_err-push_pair-clause-grows : goal.returns-in_err-push_pair-clause-grows
returns-in_err-push_pair-clause-grows c =
    between_grow c.args.offers.now.items c.loop-member.offers.items c.push_pair.new.offers.items c.args.members.now
    c.args.new.now c.loop-member.member-index c.member-item.result c.loop-member-test.true c.member-item.is
    c.push_pair.ensures.grows c.loop-member.invariant

pub loop-member-preserved : goal.loop-member-preserved
loop-member-preserved c =
    between_more c.args.offers.now.items c.loop-member.offers.items c.push_pair.new.offers.items c.args.members.now
    c.args.new.now c.loop-member.member-index c.member-item.result c.loop-member-test.true c.member-item.is
    c.push_pair.ensures.grows c.in_ok-push_pair.ensures.ok c.loop-member.invariant

pub returns-clause-ok : goal.returns-clause-ok
returns-clause-ok c =
    between_all c.args.offers.now.items c.loop-member.offers.items c.args.members.now c.args.new.now
    c.loop-member.member-index (omega arith) c.loop-member.invariant
