use Rattle.ent_waits.proofs.cycles.deadlock.Goals as goal

pub returns-else-may_wait_on_cycle-clause-none : goal.returns-else-may_wait_on_cycle-clause-none
returns-else-may_wait_on_cycle-clause-none c = λ s none. c.may_wait_on_cycle.ensures s c.if-may_wait_on_cycle.false
