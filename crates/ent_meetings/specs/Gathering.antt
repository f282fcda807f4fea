-- A set of those who wait that grows.
use Rattle.std.specs.Prelude.{ℕ, ◌≡◌, ◌≢◌, ◌≤◌, ◌++◌, List, length}
use Rattle.ent_group.specs.declared.members.TheConstants.{MOST_MEMBERS}
use Rattle.ent_lists.specs.Elements.{Pairs}
use Rattle.ent_meetings.specs.Group.{seen}
use Rattle.ent_meetings.specs.Waiting.{Waiting, named}
use Rattle.ent_meetings.specs.Widening.{IsWidened}
use Rattle.ent_meetings.specs.declared.widening.Gathering.{Gathering}

-- it has the parties of its tickets
abbrev pub IsGathering : Waiting → Gathering → Type 0
IsGathering waiting gathering = seen gathering.parties.items ≡ named waiting gathering.tickets.items

-- the tickets differ, and are no more than a run can have
pub record IsRunnable (tickets : List ℕ) : Type 0 where
  pub distinct : Pairs (λ one other. one ≢ other) tickets
  pub bound : length tickets ≤ MOST_MEMBERS

-- it has more tickets, or the same
pub record Grows (waiting : Waiting) (old new : Gathering) : Type 0 where
  pub parties : IsGathering waiting new
  pub wider : IsWidened waiting old.tickets.items new.tickets.items
  pub longer : (more : List ℕ) × (new.tickets.items ≡ old.tickets.items ++ more)
  pub runnable : IsRunnable old.tickets.items → IsRunnable new.tickets.items
