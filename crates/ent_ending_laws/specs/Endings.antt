-- Who ended otherwise than by a commit, and what groups tell of it.
use Rattle.std.specs.Prelude.{◌≡◌, ◌++◌, ℕ, zero, suc, List, []}
use Rattle.std.proofs.Common.{inl, inr}
use Rattle.std.specs.List.{flat_map}
use Rattle.ent_admission.specs.Acts.{Acts, Happens}
use Rattle.ent_admission.specs.Admission.{Admission}
use Rattle.ent_admission.specs.Moves.{Chain, Moves, Settles, ended_with, ending_at, news_of}
use Rattle.ent_feed.specs.Group.{AreNumbered}
use Rattle.ent_feed.specs.declared.group.EndedTicket.{EndedTicket}
use Rattle.ent_feed.specs.declared.group.Group.{Group}

-- ---- who ended

-- who was submitted ended as the core says of its transaction, or gave up, or waits again
abbrev pub settled_as : (old new : Admission) → Settles old new → List EndedTicket
settled_as old new settles =
    news_of settles.ticket
    (ended_with (ending_at old.epoch settles.submission) old.again settles.ticket settles.stands.waiter)

-- a move ends somebody only where a batch is over
abbrev pub ended_by_move : (old new : Admission) → Moves old new → List EndedTicket
ended_by_move old new (inl chooses) = []
ended_by_move old new (inr (inl enters)) = []
ended_by_move old new (inr (inr (inl runs))) = []
ended_by_move old new (inr (inr (inr (inl settles)))) = settled_as old new settles
ended_by_move old new (inr (inr (inr (inr tells)))) = []

abbrev pub ended_by_act : (old new : Admission) → Acts old new → List EndedTicket
ended_by_act old new (inl plans) = []
ended_by_act old new (inr (inl shifts)) = []
ended_by_act old new (inr (inr (inl turns))) = []
ended_by_act old new (inr (inr (inr move))) = ended_by_move old new move

-- a client's call ends nobody, but who withdraws, which isn't told
abbrev pub ended_by : (old new : Admission) → Happens old new → List EndedTicket
ended_by old new (inl act) = ended_by_act old new act
ended_by old new (inr asks) = []

-- who ended since, in order
abbrev pub endings : (count : ℕ) (first last : Admission) → Chain Happens count first last → List EndedTicket
endings zero first last same = []
endings (suc count) first last (between, before, step) =
    endings count first between before ++ ended_by between last step

-- ---- what is told

-- all whom the groups tell
abbrev pub all_ended : List Group → List EndedTicket
all_ended groups = flat_map (λ group. group.ended) groups

-- These groups came to the feed, counted on, of which it keeps the last, behind those that it had. They tell whom it had
-- to tell and who ended since, up to those that it still has to tell.
pub record HasToldEndings (first last : Admission) (ended : List EndedTicket) : Type 0 where
  pub groups : List Group
  pub numbered : AreNumbered first.feed.next groups last.feed.next
  pub settled : List Group
  pub kept : settled ++ last.feed.groups ≡ first.feed.groups ++ groups
  pub told : all_ended groups ++ last.news ≡ first.news ++ ended

-- these groups came, and tell exactly those
pub record HasToldThem (first last : Admission) (ended : List EndedTicket) : Type 0 where
  pub groups : List Group
  pub numbered : AreNumbered first.feed.next groups last.feed.next
  pub settled : List Group
  pub kept : settled ++ last.feed.groups ≡ first.feed.groups ++ groups
  pub told : all_ended groups ≡ ended
