use Rattle.ent_history.specs.Account.{accounts_from}
use Rattle.ent_check.proofs.Joints.{Judged}
use Rattle.ent_check.proofs.joint.members_finding.Given as goal

-- the members of the joint answers so far are right
abbrev pub invariant-loop-index : goal.invariant-loop-index
invariant-loop-index l = Judged (accounts_from 1 l.scripts l.transactions) l.joints l.index
