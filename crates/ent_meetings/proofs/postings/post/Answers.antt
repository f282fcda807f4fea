use Rattle.std.proofs.Common.{arith, rules}
use Rattle.ent_meetings.proofs.Posted.{posts_up_to}
use Rattle.ent_meetings.proofs.postings.post.Goals as goal

pub returns-in_err-post_pattern-clause-err : goal.returns-in_err-post_pattern-clause-err
returns-in_err-post_pattern-clause-err c =
    let some = posts_up_to c.args.ticket c.args.patterns.now c.args.postings.now c.loop-pattern.postings
    c.post_pattern.new.postings c.loop-pattern.pattern-index c.pattern-item.result (omega arith) c.pattern-item.is
    c.loop-pattern.invariant c.in_err-post_pattern.ensures.err in
    search rules
