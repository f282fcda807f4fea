-- Members that go from one list to another, or leave.
use Rattle.std.specs.Prelude.{◌≡◌, ℕ, ◌==◌, Bool, not, List, [], ◌∷◌, ◌++◌, Some, filter}
use Rattle.std.specs.List.{list_any}
use Rattle.ent_protocol.specs.Member.{is_of, is_tx}
use Rattle.ent_protocol.specs.Rollback.{is_among}
use Rattle.ent_protocol.specs.State.{Member}
use Rattle.ent_run.specs.Places.{found}
use Rattle.ent_run.specs.Run.{Run}

-- a member that isn't prepared, where it is there, is prepared, the last so far
pub record PreparesMember (member : Member) (old new : Run) : Type 0 where
  pub prepared : new.prepared ≡ old.prepared ++ member ∷ []
  pub active : new.active ≡ filter (λ other. not (is_tx member.tx other)) old.active

abbrev pub Prepares : ℕ → Run → Run → Type 0
Prepares tx old new = (member : Member) → found old.active tx ≡ Some member → PreparesMember member old new

-- the lists as a run
abbrev pub run_of : List Member → List Member → Run
run_of prepared active = record { prepared = prepared; active = active }

-- a member of none of these numbers
abbrev pub is_not_of : List ℕ → Member → Bool
is_not_of numbers member = not (list_any (λ n. n == member.tx) numbers)

abbrev pub is_of_another : ℕ → Member → Bool
is_of_another group member = not (is_of group member)

-- the other members stay
pub record Leave (gone : List Member) (old new : Run) : Type 0 where
  pub prepared : new.prepared ≡ filter (λ member. not (is_among gone member.tx)) old.prepared
  pub active : new.active ≡ filter (λ member. not (is_among gone member.tx)) old.active
