use Rattle.std.proofs.Common.{sym, true≢false}
use Rattle.ent_match.proofs.meets.can_meet.Goals as goal

pub returns-then-not-may_meet : goal.returns-then-not-may_meet
returns-then-not-may_meet c = (
  λ met. absurd (true≢false (sym met)),
  λ meets. absurd (c.may_meet.ensures c.if-not-may_meet.true c.args.index meets),
)
