use Rattle.ent_members.proofs.order.+put_each_behind.Given as goal

abbrev pub decreases-put_each_behind : goal.decreases-put_each_behind
decreases-put_each_behind l = l.count
