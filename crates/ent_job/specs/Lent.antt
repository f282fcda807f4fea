-- Jobs in a list of lent ones.
use Rattle.std.specs.Prelude.{ℕ, Bool, true, ◌==◌, List}
use Rattle.std.specs.List.{list_any}
use Rattle.ent_protocol.specs.Job.{Job, Work, One, Joint}

-- a job goes with the members of these numbers: their own, and every joint one
abbrev pub goes_with_any : List ℕ → Job → Bool
goes_with_any numbers job = work_of job.work
  where
    work_of : Work → Bool
    work_of (One single) = list_any (λ n. n == single.tx) numbers
    work_of (Joint posted) = true
