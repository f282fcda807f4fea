-- Stamps of lent jobs: places in one log of jobs, which only grows.
use Rattle.std.specs.Prelude.{◌≡◌, ◌==◌, ℕ, zero, suc, Bool, true, not, List, [], ◌∷◌, Option, Some, None, IfSome}
use Rattle.std.specs.Prelude.{filter}
use Rattle.std.specs.Prelude.{length, slice_get}
use Rattle.std.specs.List.{list_any}
use Rattle.logbook.specs.Pages.{Book, Cell, Named, Step, View}
use Rattle.ent_protocol.specs.Job.{Job, Work, One, Joint}
use Rattle.ent_job.specs.Lent.{goes_with_any}

-- ---- the log

-- The first word is how many stand in the log. A book has two words, of which this one leaves the second at 0.
abbrev pub IsKept : {X : Type 0} → List Cell → List X → Type 0
IsKept cells log = cells ≡ (length log, true) ∷ (0, true) ∷ []

abbrev pub head_of : Book → Named
head_of book = record { tracked = true; key = 0; book = book }

-- where the number found is the one that was hoped for, what was asked for stands there
abbrev pub Adds : {X : Type 0} → Step X → View X ℕ → ℕ → View X ℕ → Type 0
Adds step before found after = found ≡ step.old → slice_get after.0 found ≡ Some step.ask

-- ---- stamps

-- a number, where there is one, and how far the log was seen
abbrev pub Stamp : Type 0
Stamp = Option ℕ × List Job

-- the job stands in the log under the stamp's number, where it has one
abbrev pub IsStampOf : Stamp → Job → Type 0
IsStampOf stamp job = IfSome stamp.0 (λ number. slice_get stamp.1 number ≡ Some job)

-- ---- what is known of lent jobs

-- whose statement a job does; nobody's, where it is joint
abbrev pub owner_of : Work → Option ℕ
owner_of (One single) = Some single.tx
owner_of (Joint asked) = None

-- the stamp of a job, and whose statement it does
abbrev pub LentStamp : Type 0
LentStamp = Stamp × Option ℕ

abbrev pub IsLentStampOf : LentStamp → Job → Type 0
IsLentStampOf lent job = IsStampOf lent.0 job × (lent.1 ≡ owner_of job.work)

-- each stamp is of the job at its place
abbrev pub AreStampsOf : List LentStamp → List Job → Type 0
AreStampsOf [] [] = Unit {0}
AreStampsOf [] (job ∷ jobs) = ⊥
AreStampsOf (lent ∷ stamps) [] = ⊥
AreStampsOf (lent ∷ stamps) (job ∷ jobs) = IsLentStampOf lent job × AreStampsOf stamps jobs

-- behind so many jobs, the oldest, the stamps are those of the others
abbrev pub AreStampsBehind : ℕ → List LentStamp → List Job → Type 0
AreStampsBehind zero stamps jobs = AreStampsOf stamps jobs
AreStampsBehind (suc older) stamps [] = ⊥
AreStampsBehind (suc older) stamps (job ∷ jobs) = AreStampsBehind older stamps jobs

-- ---- members who go

-- whose job goes with members of these numbers: one of their own statements, and every joint one
abbrev pub goes_along : List ℕ → Option ℕ → Bool
goes_along gone (Some tx) = list_any (λ n. n == tx) gone
goes_along gone None = true

-- what is left of the lent jobs where members of these numbers went
abbrev pub jobs_left_by : List ℕ → List Job → List Job
jobs_left_by gone jobs = filter (λ job. not (goes_with_any gone job)) jobs
