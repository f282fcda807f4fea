use Rattle.ent_unify.specs.Unifier.{kinds_seen}
use Rattle.ent_plan.proofs.Rows.{rows_more}
use Rattle.ent_plan.proofs.class.rows_of.Goals as goal

pub loop-member-preserved : goal.loop-member-preserved
loop-member-preserved c =
    rows_more c.args.unifier.now (kinds_seen c.args.kinds.now) c.loop-member.member c.loop-member.classes.items
    c.row_of.new.classes.items c.loop-member.rows.items c.push.new.self.items c.in_ok-row.row c.loop-member.invariant
    c.in_ok-row.ensures c.in_ok-push.ensures.items
