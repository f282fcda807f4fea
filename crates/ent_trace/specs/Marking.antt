-- What is kept of a result while it is handed in.
use Rattle.std.specs.Prelude.{◌≡◌, ◌<◌, ℕ, List, Option, length, MatchOption}
use Rattle.ent_group.specs.declared.members.TheConstants.{MOST_MEMBERS}
use Rattle.ent_reasons.specs.News.{workers}
use Rattle.ent_protocol.specs.Job.{Done}

-- these transactions; none where they are more than a list of members holds
abbrev pub AreHeld : Option (List ℕ) → List ℕ → Type 0
AreHeld held own = MatchOption held (MOST_MEMBERS < length own) (λ members. members ≡ own)

-- the transactions of a result
abbrev pub Marks : Option (List ℕ) → Done → Type 0
Marks mark done = AreHeld mark (workers done.job.work)
