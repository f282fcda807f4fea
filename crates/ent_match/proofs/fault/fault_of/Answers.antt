use Rattle.std.proofs.Common.{arith}
use Rattle.ent_match.proofs.Faults.{more_askers, first_unsafe, of_pool, is_safe}
use Rattle.ent_match.proofs.fault.fault_of.Goals as goal

pub returns-in-Some : goal.returns-in-Some
returns-in-Some c =
    first_unsafe c.args.members.now c.requires.by_number c.loop-asker.asker-index c.asker-item.result
    c.loop-asker-test.true
    c.asker-item.is c.loop-asker.invariant c.in-Some.fault c.in-Some.ensures

pub loop-asker-preserved : goal.loop-asker-preserved
loop-asker-preserved c =
    more_askers c.args.members.now c.requires.by_number c.loop-asker.asker-index c.asker-item.result
    c.loop-asker-test.true
    c.asker-item.is c.loop-asker.invariant c.in_default.ensures

pub returns : goal.returns
returns c =
    is_safe c.args.members.now
    (of_pool c.args.members.now c.loop-asker.asker-index (omega arith) c.loop-asker.invariant)
