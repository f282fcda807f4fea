-- What holds of the jobs that are lent, and that it goes on to hold.
use Rattle.std.proofs.Common.{◌≡◌, ◌⊎◌, ◌<◌, ◌≤◌, ℕ, ◌==◌, true, false, List, refl, sym}
use Rattle.std.proofs.Common.{ap, subst, ◌∙◌, inl, inr, arith}
use Rattle.std.specs.List.{AllByRecursion}
use Rattle.ent_semantics.specs.Serial.{numbered}
use Rattle.ent_semantics.specs.Form.{Tables}
use Rattle.ent_semantics.specs.Pool.{Posted}
use Rattle.ent_protocol.specs.Job.{Job, Work, One, Joint, Single, tables_of}
use Rattle.ent_protocol.specs.Member.{Ordinary, next_in, is_single_of}
use Rattle.ent_protocol.specs.PostedBy.{next_same}
use Rattle.ent_protocol.specs.State.{Submitted, Member, Use}
use Rattle.ent_protocol.specs.Uses.{statement_uses, entangled_uses}
use Rattle.ent_lists.specs.Elements.{In, of_all, to_all, number_itself}
use Rattle.ent_protocol_laws.proofs.Outcomes.{SameAt, HasRoom}
use Rattle.ent_protocol_laws.proofs.Operations.{HoldsUses}

-- ---- jobs

-- the job of one statement: its member stands before it, and the tables that it uses are as they were seen
pub record SingleRight (submitted : List Submitted) (active : List Member) (tables seen : Tables) (single : Single)
    : Type 0 where
  pub member : Member
  pub at : In member active
  pub tx : member.tx ≡ single.tx
  pub unposted : member.posted ≡ false
  pub next : next_in (numbered submitted member.tx) member ≡ Ordinary single.statement
  pub holds : HoldsUses member (statement_uses single.statement)
  pub alike : SameAt (statement_uses single.statement) seen tables
  pub room : HasRoom (statement_uses single.statement) seen

pub record StillAsks (tables seen : Tables) (query : Posted) (member : Member) : Type 0 where
  pub posted : member.posted ≡ true
  pub holds : HoldsUses member (entangled_uses query.statement)
  pub alike : SameAt (entangled_uses query.statement) seen tables

-- a statement of a joint job: its member still asks, or is past it
abbrev pub PostedQueryRight : List Member → Tables → Tables → Posted → Type 0
PostedQueryRight active tables seen query =
    (member : Member) → In member active → member.tx ≡ query.tx
    → (query.place ≤ member.place) × (member.place ≡ query.place → StillAsks tables seen query member)

abbrev pub WorkRight : List Submitted → List Member → Tables → Tables → Work → Type 0
WorkRight submitted active tables seen (One single) = SingleRight submitted active tables seen single
WorkRight submitted active tables seen (Joint asked) = AllByRecursion (PostedQueryRight active tables seen) asked

abbrev pub JobRight : List Submitted → List Member → Tables → Job → Type 0
JobRight submitted active tables job = WorkRight submitted active tables (tables_of job.tables) job.work

-- two jobs are not of statements of one transaction
abbrev pub OtherWork : Work → Work → Type 0
OtherWork (One one) (One other) = one.tx ≡ other.tx → ⊥
OtherWork (One one) (Joint asked) = Unit {0}
OtherWork (Joint asked) work = Unit {0}

abbrev pub OtherJob : Job → Job → Type 0
OtherJob one other = OtherWork one.work other.work

pub other_turned : (one other : Job) → OtherJob one other → OtherJob other one
other_turned one other h = by one.work other.work h
  where
    by : (v w : Work) → OtherWork v w → OtherWork w v
    by (One a) (One b) h = λ e. h (sym e)
    by (One a) (Joint b) h = tt
    by (Joint a) (One b) h = tt
    by (Joint a) (Joint b) h = tt

-- ---- members that become others

-- a member that stands where it stood, over tables that are the same where it uses them
pub record Stays (tables new : Tables) (one other : Member) : Type 0 where
  pub tx : other.tx ≡ one.tx
  pub place : other.place ≡ one.place
  pub bound : other.bound ≡ one.bound
  pub posts : one.posted ≡ true → other.posted ≡ true
  pub holds : HoldsUses other one.uses
  pub alike : SameAt one.uses tables new

abbrev pub Moves : Member → Member → Type 0
Moves one other = (other.tx ≡ one.tx) × (one.place < other.place)

pub holds_through : (one other : Member) (asked : List Use) → HoldsUses one asked → HoldsUses other one.uses
    → HoldsUses other asked
holds_through one other asked h g table = (λ u. (g table).0 ((h table).0 u), λ u. (g table).1 ((h table).1 u))

-- a statement's job of the transaction is lent
abbrev pub HasSingle : List Job → ℕ → Type 0
HasSingle lent tx = (job : Job) × In job lent × (is_single_of tx job ≡ true)

module _ (submitted : List Submitted) (active next : List Member) (tables new : Tables) (lent left : List Job)
    (fewer : (job : Job) → In job left → In job lent)
    (backward : (other : Member) → In other next
    → (one : Member) × In one active × (Stays tables new one other ⊎ Moves one other))
    (forward : (one : Member) → In one active → one.posted ≡ false → HasSingle left one.tx
    → (other : Member) × In other next × Stays tables new one other × (other.posted ≡ false)) where
  still : (seen : Tables) (query : Posted) (one other : Member) → Stays tables new one other
      → StillAsks tables seen query one → StillAsks new seen query other
  still seen query one other stays h =
      record {
        posted = stays.posts h.posted;
        holds = holds_through one other (entangled_uses query.statement) h.holds stays.holds;
        alike = λ table used. h.alike table used ∙ stays.alike table ((h.holds table).0 used);
      }

  query_moved : (seen : Tables) (query : Posted) → PostedQueryRight active tables seen query
      → PostedQueryRight next new seen query
  query_moved seen query right other at tx =
      let r = backward other at in
      elim r.2 [
        | inl stays ↦
            let h = right r.0 r.1 (sym stays.tx ∙ tx) in (
              subst (λ n. query.place ≤ n) (sym stays.place) h.0,
              λ here. still seen query r.0 other stays (h.1 (sym stays.place ∙ here)),
            )
        | inr moves ↦
            let h = right r.0 r.1 (sym moves.0 ∙ tx) in (
              lower query.place r.0.place other.place h.0 moves.1,
              λ here. absurd (not_here query.place r.0.place other.place h.0 moves.1 here),
            )
      ]
    where
      lower : (a b c : ℕ) → a ≤ b → b < c → a ≤ c
      lower a b c x y = omega (arith, x, y)

      not_here : (a b c : ℕ) → a ≤ b → b < c → c ≡ a → ⊥
      not_here a b c x y e = omega (arith, x, y, e)

  work_moved : (job : Job) → In job left → (seen : Tables) (work : Work) → job.work ≡ work
      → WorkRight submitted active tables seen work → WorkRight submitted next new seen work
  work_moved job at seen (Joint asked) is right =
      to_all (PostedQueryRight next new seen) asked
      (λ query there. query_moved seen query (of_all (PostedQueryRight active tables seen) asked query right there))
  work_moved job at seen (One single) is right =
      let has : is_single_of right.member.tx job ≡ true =
      ap (λ w. is_single_of right.member.tx (record { work = w; tables = job.tables })) is
      ∙ ap (λ n. single.tx == n) right.tx ∙ number_itself single.tx in
      let r = forward right.member right.at right.unposted (job, at, has) in
      record {
        member = r.0;
        at = r.1;
        tx = r.2.tx ∙ right.tx;
        unposted = r.3;
        next = ap (λ n. next_in (numbered submitted n) r.0) r.2.tx
            ∙ next_same (numbered submitted right.member.tx) r.0 right.member r.2.place r.2.bound ∙ right.next;
        holds = holds_through right.member r.0 (statement_uses single.statement) right.holds r.2.holds;
        alike = λ table used. right.alike table used ∙ r.2.alike table ((right.holds table).0 used);
        room = right.room;
      }

  pub jobs_moved : AllByRecursion (JobRight submitted active tables) lent
      → AllByRecursion (JobRight submitted next new) left
  jobs_moved jobs =
      to_all (JobRight submitted next new) left (λ job at.
      work_moved job at (tables_of job.tables) job.work refl
      (of_all (JobRight submitted active tables) lent job jobs (fewer job at)))

pub holds_own : (member : Member) → HoldsUses member member.uses
holds_own member table = (λ u. u, λ u. u)

pub stays_as_is : (tables new : Tables) (member : Member) → SameAt member.uses tables new
    → Stays tables new member member
stays_as_is tables new member alike =
    record {
      tx = refl;
      place = refl;
      bound = refl;
      posts = λ e. e;
      holds = holds_own member;
      alike = alike;
    }
