-- The replies of the code, as those of the protocol.
use Rattle.std.specs.Prelude.{ℕ, suc, List, [], ◌∷◌}
use Rattle.ent_form.specs.declared.fault.FormFault.{FormFault}
use Rattle.ent_protocol.specs.Event.{Reply}
use Rattle.ent_protocol.specs.Event as replies
use Rattle.ent_waits.specs.Quiet.{reason_seen}
use Rattle.ent_core.specs.declared.reply.Reply.{Reply as Given}
use Rattle.ent_core.specs.declared.reply.Reply.TheVariants as given

-- members with consecutive numbers
abbrev pub numbered_from : ℕ → List ℕ → List (ℕ × ℕ)
numbered_from number [] = []
numbered_from number (tx ∷ more) = (number, tx) ∷ numbered_from (suc number) more

abbrev pub reply_seen : Given → Reply FormFault
reply_seen (given.Submitted tx) = replies.Submitted tx
reply_seen (given.Started members) = replies.Started members
reply_seen (given.Blocked holder) = replies.Blocked holder
reply_seen (given.Lent job) = replies.Lent job
reply_seen (given.HeldBack fault) = replies.HeldBack fault
reply_seen given.Posted = replies.Posted
reply_seen given.Prepared = replies.Prepared
reply_seen (given.Committed first members) = replies.Committed (numbered_from first members)
reply_seen (given.RolledBack group) = replies.RolledBack group
reply_seen (given.Stepped answer) = replies.Stepped answer
reply_seen (given.Failed failure group) = replies.Failed failure group
reply_seen given.Nothing = replies.Nothing
reply_seen given.Answered = replies.Answered
reply_seen given.NoChoice = replies.NoChoice
reply_seen (given.Broken cycle group) = replies.Broken cycle group
reply_seen given.NoCycle = replies.NoCycle
reply_seen (given.Ended members) = replies.Ended members
reply_seen given.Recalled = replies.Recalled
reply_seen given.Absent = replies.Absent
reply_seen given.NotNow = replies.NotNow
reply_seen (given.Stale done) = replies.Stale done
reply_seen (given.Busy reason) = replies.Busy (reason_seen reason)
reply_seen (given.Full script) = replies.Full script
reply_seen (given.Faulty script fault) = replies.Faulty script fault
