-- Replies of the code that lend nothing.
use Rattle.std.proofs.Common.{◌≡◌, refl}
use Rattle.ent_protocol.specs.Job.{Job}
use Rattle.ent_core.specs.Reply.{reply_seen}
use Rattle.ent_core.specs.declared.reply.Reply.{Reply}
use Rattle.ent_core.specs.declared.reply.Reply.TheVariants as replies
use Rattle.ent_sched.proofs.Moving.{LendsNone}

-- another reply than a job
pub lends_none : (reply : Reply) → ((job : Job) → reply ≡ replies.Lent job → ⊥) → LendsNone (reply_seen reply)
lends_none (replies.Submitted tx) other = tt
lends_none (replies.Started members) other = tt
lends_none (replies.Blocked holder) other = tt
lends_none (replies.Lent job) other = other job refl
lends_none (replies.HeldBack fault) other = tt
lends_none replies.Posted other = tt
lends_none replies.Prepared other = tt
lends_none (replies.Committed first members) other = tt
lends_none (replies.RolledBack group) other = tt
lends_none (replies.Stepped answer) other = tt
lends_none (replies.Failed failure group) other = tt
lends_none replies.Nothing other = tt
lends_none replies.Answered other = tt
lends_none replies.NoChoice other = tt
lends_none (replies.Broken cycle group) other = tt
lends_none replies.NoCycle other = tt
lends_none (replies.Ended members) other = tt
lends_none replies.Recalled other = tt
lends_none replies.Absent other = tt
lends_none replies.NotNow other = tt
lends_none (replies.Stale done) other = tt
lends_none (replies.Busy reason) other = tt
lends_none (replies.Full script) other = tt
lends_none (replies.Faulty script fault) other = tt
