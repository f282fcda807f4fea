use Rattle.ent_join.proofs.Learnt.{one_more}
use Rattle.ent_join.proofs.dead.insert.Goals as goal

pub returns-in_ok-insert : goal.returns-in_ok-insert
returns-in_ok-insert c = λ other.
    one_more c.args.values.now.items c.insert.new.self.items c.in-Err.index c.in_ok-copy.field-0 c.args.value.now other
    c.in_ok-insert.ensures.items c.in_ok-copy.ensures
