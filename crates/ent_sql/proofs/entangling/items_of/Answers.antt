use Rattle.std.proofs.Common.{Ok, ap}
use Rattle.ent_sql.proofs.Items.{built}
use Rattle.ent_sql.proofs.entangling.items_of.Goals as goal

pub returns-in_ok-push-in-Some : goal.returns-in_ok-push-in-Some
returns-in_ok-push-in-Some c =
    ap (λ xs. Ok xs)
    (built c.args.operands c.into_vec-others.result.items c.pop.new.self.items c.in-Some.last c.args.binds
    c.in_ok-items-in-Some.items c.push.new.self c.term_of-term.result
    c.into_vec-others.ensures.items c.in-Some.ensures.items c.in_ok-items-in-Some.ensures.value c.term_of-term.ensures
    c.in_ok-push-in-Some.ensures.ok)
