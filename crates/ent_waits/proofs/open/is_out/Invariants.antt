use Rattle.std.proofs.Common.{◌≢◌, ℕ, ◌<◌, slice_index_or}
use Rattle.ent_match.specs.Components.{component_at}
use Rattle.ent_protocol.specs.Job.{Job, Joint}
use Rattle.ent_waits.proofs.open.is_out.Given as goal

-- none of the jobs so far is one of these statements
abbrev pub invariant-loop-job : goal.invariant-loop-job
invariant-loop-job l =
    (k : ℕ) (d : Job) → k < l.job-index
    → (slice_index_or l.lent k d).work ≢ Joint (component_at l.firsts l.place l.members)
