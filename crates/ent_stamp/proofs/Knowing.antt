-- Stamps are those of lent jobs, also behind changes of these.
use Rattle.std.proofs.Common.{◌≡◌, ◌+◌, ◌++◌, ◌<◌, ◌≤◌, ◌-◌, ◌∙◌, ℕ, zero, suc, Bool, true, false, not, cond, List, []}
use Rattle.std.proofs.Common.{◌∷◌}
use Rattle.std.proofs.Common.{Option, Some, None, IfSome, ap, arith, length, refl, slice_get, subst, sym}
use Rattle.std.specs.Option.{SomeIff}
use Rattle.std.specs.List.{remove}
use Rattle.std.specs.Prelude.{filter}
use Rattle.ent_protocol.specs.Job.{Job, Joint, Numbered, One, Work}
use Rattle.ent_job.specs.Lent.{goes_with_any}
use Rattle.ent_stamp.specs.Stamps.{AreStampsBehind, AreStampsOf, IsLentStampOf, IsStampOf, LentStamp, Stamp}
use Rattle.ent_stamp.specs.Stamps.{goes_along, jobs_left_by, owner_of}

-- no stamp is kept
none_known : (jobs : List Job) → AreStampsBehind (length jobs) [] jobs
none_known [] = tt
none_known (job ∷ jobs) = none_known jobs

pub none_behind : (count : ℕ) (stamps : List LentStamp) (jobs : List Job) → stamps ≡ [] → length jobs ≡ count
    → AreStampsBehind count stamps jobs
none_behind count stamps jobs none long =
    subst (λ (m : List LentStamp). AreStampsBehind count m jobs) (sym none)
    (subst (λ n. AreStampsBehind n [] jobs) long (none_known jobs))

-- a job more
one_more : (stamps : List LentStamp) (jobs : List Job) (lent : LentStamp) (job : Job) → AreStampsOf stamps jobs
    → IsLentStampOf lent job → AreStampsOf (stamps ++ lent ∷ []) (jobs ++ job ∷ [])
one_more [] [] lent job are is = (is, tt)
one_more [] (own ∷ jobs) lent job are is = absurd are
one_more (own ∷ stamps) [] lent job are is = absurd are
one_more (own ∷ stamps) (other ∷ jobs) lent job are is = (are.0, one_more stamps jobs lent job are.1 is)

pub known_more : (older : ℕ) (stamps : List LentStamp) (jobs : List Job) (lent : LentStamp) (job : Job)
    → AreStampsBehind older stamps jobs → IsLentStampOf lent job
    → AreStampsBehind older (stamps ++ lent ∷ []) (jobs ++ job ∷ [])
known_more zero stamps jobs lent job are is = one_more stamps jobs lent job are is
known_more (suc older) stamps [] lent job are is = absurd are
known_more (suc older) stamps (own ∷ jobs) lent job are is = known_more older stamps jobs lent job are is

-- so many and so many, by the first
abbrev plus : ℕ → ℕ → ℕ
plus zero n = n
plus (suc m) n = suc (plus m n)

plus_is : (m n : ℕ) → plus m n ≡ m + n
plus_is zero n = omega arith
plus_is (suc m) n = let h = plus_is m n in omega (arith, h)

-- a job less
one_less : (index : ℕ) (stamps : List LentStamp) (jobs : List Job) → AreStampsOf stamps jobs
    → AreStampsOf (remove stamps index) (remove jobs index)
one_less zero [] [] are = tt
one_less (suc index) [] [] are = tt
one_less index [] (own ∷ jobs) are = absurd are
one_less index (own ∷ stamps) [] are = absurd are
one_less zero (own ∷ stamps) (other ∷ jobs) are = are.1
one_less (suc index) (own ∷ stamps) (other ∷ jobs) are = (are.0, one_less index stamps jobs are.1)

less_behind : (older place : ℕ) (stamps : List LentStamp) (jobs : List Job) → AreStampsBehind older stamps jobs
    → AreStampsBehind older (remove stamps place) (remove jobs (plus older place))
less_behind zero place stamps jobs are = one_less place stamps jobs are
less_behind (suc older) place stamps [] are = absurd are
less_behind (suc older) place stamps (own ∷ jobs) are = less_behind older place stamps jobs are

-- one of those whose stamps are kept
pub known_less : (older index : ℕ) (stamps : List LentStamp) (jobs : List Job) → older ≤ index
    → AreStampsBehind older stamps jobs → AreStampsBehind older (remove stamps (index - older)) (remove jobs index)
known_less older index stamps jobs behind are =
    let is : plus older (index - older) ≡ index =
    plus_is older (index - older) ∙ let same : older + (index - older) ≡ index = omega (arith, behind) in same in
    subst (λ n. AreStampsBehind older (remove stamps (index - older)) (remove jobs n)) is
    (less_behind older (index - older) stamps jobs are)

-- one of the others
older_less : (rest index : ℕ) (stamps : List LentStamp) (jobs : List Job) → index < suc rest
    → AreStampsBehind (suc rest) stamps jobs → AreStampsBehind rest stamps (remove jobs index)
older_less rest index stamps [] before are = absurd are
older_less rest zero stamps (own ∷ jobs) before are = are
older_less zero (suc index) stamps (own ∷ jobs) before are = absurd (omega (arith, before))
older_less (suc rest) (suc index) stamps (own ∷ jobs) before are =
    older_less rest index stamps jobs (omega (arith, before)) are

pub unknown_less : (older index : ℕ) (stamps : List LentStamp) (jobs : List Job) → index < older
    → AreStampsBehind older stamps jobs → AreStampsBehind (older - 1) stamps (remove jobs index)
unknown_less zero index stamps jobs before are = absurd (omega (arith, before))
unknown_less (suc rest) index stamps jobs before are =
    let less : rest ≡ suc rest - 1 = omega arith in
    subst (λ n. AreStampsBehind n stamps (remove jobs index)) less (older_less rest index stamps jobs before are)

-- members went
module _ (gone : List ℕ) where
  abbrev stamps_left : List LentStamp → List LentStamp
  stamps_left stamps = filter (λ lent. not (goes_along gone lent.1)) stamps

  by_owner : (work : Work) (tables : List Numbered)
      → goes_along gone (owner_of work) ≡ goes_with_any gone (record { work = work; tables = tables })
  by_owner (One single) tables = refl
  by_owner (Joint posted) tables = refl

  -- a stamp goes with its job
  stamp_left : (lent : LentStamp) (stamps : List LentStamp) (job : Job) (jobs : List Job) (goes : Bool)
      → goes_with_any gone job ≡ goes → IsLentStampOf lent job
      → AreStampsOf (stamps_left stamps) (jobs_left_by gone jobs)
      → AreStampsOf (stamps_left (lent ∷ stamps)) (jobs_left_by gone (job ∷ jobs))
  stamp_left lent stamps job jobs true is own are =
      let also : goes_along gone lent.1 ≡ true =
      ap (goes_along gone) own.1 ∙ by_owner job.work job.tables ∙ is in
      rw (is, also) are
  stamp_left lent stamps job jobs false is own are =
      let also : goes_along gone lent.1 ≡ false =
      ap (goes_along gone) own.1 ∙ by_owner job.work job.tables ∙ is in
      rw (is, also) (own, are)

  all_left : (stamps : List LentStamp) (jobs : List Job) → AreStampsOf stamps jobs
      → AreStampsOf (stamps_left stamps) (jobs_left_by gone jobs)
  all_left [] [] are = tt
  all_left [] (own ∷ jobs) are = absurd are
  all_left (own ∷ stamps) [] are = absurd are
  all_left (own ∷ stamps) (other ∷ jobs) are =
      stamp_left own stamps other jobs (goes_with_any gone other) refl are.0 (all_left stamps jobs are.1)

  -- so many of the oldest are left
  abbrev older_left : ℕ → List Job → ℕ
  older_left zero jobs = zero
  older_left (suc older) [] = zero
  older_left (suc older) (job ∷ jobs) =
      cond (not (goes_with_any gone job)) (suc (older_left older jobs)) (older_left older jobs)

  is_left_behind : (older : ℕ) (stamps : List LentStamp) (job : Job) (jobs : List Job) (goes : Bool)
      → goes_with_any gone job ≡ goes
      → AreStampsBehind (older_left older jobs) stamps (jobs_left_by gone jobs)
      → AreStampsBehind (older_left (suc older) (job ∷ jobs)) stamps (jobs_left_by gone (job ∷ jobs))
  is_left_behind older stamps job jobs true is are = rw is are
  is_left_behind older stamps job jobs false is are = rw is are

  all_left_behind : (older : ℕ) (stamps : List LentStamp) (jobs : List Job) → AreStampsBehind older stamps jobs
      → AreStampsBehind (older_left older jobs) (stamps_left stamps) (jobs_left_by gone jobs)
  all_left_behind zero stamps jobs are = all_left stamps jobs are
  all_left_behind (suc older) stamps [] are = absurd are
  all_left_behind (suc older) stamps (own ∷ jobs) are =
      is_left_behind older (stamps_left stamps) own jobs (goes_with_any gone own) refl
      (all_left_behind older stamps jobs are)

-- as many jobs as stamps, and the older ones
as_many : (stamps : List LentStamp) (jobs : List Job) → AreStampsOf stamps jobs → length jobs ≡ length stamps
as_many [] [] are = refl
as_many [] (own ∷ jobs) are = absurd are
as_many (own ∷ stamps) [] are = absurd are
as_many (own ∷ stamps) (other ∷ jobs) are = ap suc (as_many stamps jobs are.1)

as_many_behind : (older : ℕ) (stamps : List LentStamp) (jobs : List Job) → AreStampsBehind older stamps jobs
    → length jobs ≡ plus older (length stamps)
as_many_behind zero stamps jobs are = as_many stamps jobs are
as_many_behind (suc older) stamps [] are = absurd are
as_many_behind (suc older) stamps (own ∷ jobs) are = ap suc (as_many_behind older stamps jobs are)

pub known_left : (gone : List ℕ) (older count : ℕ) (stamps left : List LentStamp) (jobs : List Job)
    → left ≡ filter (λ lent. not (goes_along gone lent.1)) stamps → length (jobs_left_by gone jobs) ≡ count
    → AreStampsBehind older stamps jobs → AreStampsBehind (count - length left) left (jobs_left_by gone jobs)
known_left gone older count stamps left jobs is long are =
    let own = all_left_behind gone older stamps jobs are in
    let more = older_left gone older jobs in
    let here : AreStampsBehind more left (jobs_left_by gone jobs) =
    subst (λ (m : List LentStamp). AreStampsBehind more m (jobs_left_by gone jobs)) (sym is) own in
    let sum : count ≡ more + length left =
    sym long ∙ as_many_behind more left (jobs_left_by gone jobs) here ∙ plus_is more (length left) in
    let same : more ≡ count - length left = omega (arith, sum) in
    subst (λ n. AreStampsBehind n left (jobs_left_by gone jobs)) same here

-- a job that is lent stands among them
pub known_within : (older : ℕ) (stamps : List LentStamp) (jobs : List Job) (index : ℕ)
    → AreStampsBehind older stamps jobs
    → index < length jobs → index < older + length stamps
known_within older stamps jobs index are within =
    let all : length jobs ≡ older + length stamps =
    as_many_behind older stamps jobs are ∙ plus_is older (length stamps) in
    omega (arith, all, within)

-- the job at the place of a stamp
module _ (job : Job) (lent : LentStamp) (same : (own : Job) → IsStampOf lent.0 own → own ≡ job) where
  job_at : (place : ℕ) (stamps : List LentStamp) (jobs : List Job) → AreStampsOf stamps jobs
      → slice_get stamps place ≡ Some lent → slice_get jobs place ≡ Some job
  job_at place [] [] are at = let no : None ≡ Some lent = at in cc
  job_at place [] (own ∷ jobs) are at = absurd are
  job_at place (own ∷ stamps) [] are at = absurd are
  job_at zero (own ∷ stamps) (other ∷ jobs) are at =
      let is : own ≡ lent = cc in
      ap Some (same other (subst (λ (m : LentStamp). IsStampOf m.0 other) is are.0.0))
  job_at (suc place) (own ∷ stamps) (other ∷ jobs) are at = job_at place stamps jobs are.1 at

  all_at : (older place : ℕ) (stamps : List LentStamp) (jobs : List Job) → AreStampsBehind older stamps jobs
      → slice_get stamps place ≡ Some lent → slice_get jobs (plus older place) ≡ Some job
  all_at zero place stamps jobs are at = job_at place stamps jobs are at
  all_at (suc older) place stamps [] are at = absurd are
  all_at (suc older) place stamps (own ∷ jobs) are at = all_at older place stamps jobs are at

  pub known_at : (older place : ℕ) (stamps : List LentStamp) (jobs : List Job) → AreStampsBehind older stamps jobs
      → slice_get stamps place ≡ Some lent → slice_get jobs (older + place) ≡ Some job
  known_at older place stamps jobs are at =
      subst (λ n. slice_get jobs n ≡ Some job) (plus_is older place) (all_at older place stamps jobs are at)

-- a stamp that is the same as one that is kept is of the job at the place of this one
pub index_known : (P : Type 0) (older place : ℕ) (stamps : List LentStamp) (stamp : Stamp) (lent : LentStamp)
    (index : Option ℕ)
    → slice_get stamps place ≡ Some lent
    → ((one two : Job) → IsStampOf lent.0 one → IsStampOf stamp two → one ≡ two)
    → SomeIff index P (older + place)
    → IfSome index (λ i. (jobs : List Job) (job : Job) → IsStampOf stamp job → AreStampsBehind older stamps jobs
    → slice_get jobs i ≡ Some job)
index_known P older place stamps stamp lent None at same sum = tt
index_known P older place stamps stamp lent (Some i) at same sum = λ jobs job is are.
    subst (λ n. slice_get jobs n ≡ Some job) (sym sum.1)
    (known_at job lent (λ own has. same own job has is) older place stamps jobs are at)
