-- Members whose groups become one.
use Rattle.std.specs.Prelude.{◌≡◌, ℕ, ◌==◌, Bool, List, map, filter}
use Rattle.std.specs.List.{list_any}
use Rattle.ent_protocol.specs.PoolEvents.{in_joined_group}
use Rattle.ent_protocol.specs.State.{Member}
use Rattle.ent_run.specs.Run.{Run}

abbrev pub is_one_of : List ℕ → Member → Bool
is_one_of numbers member = list_any (λ n. n == member.tx) numbers

-- the labels of the groups of members of these numbers
abbrev pub labels_in : List ℕ → List Member → List ℕ
labels_in numbers members = map (λ member. member.group) (filter (is_one_of numbers) members)

-- groups of these labels become one
pub record JoinGroups (labels : List ℕ) (old new : Run) : Type 0 where
  pub prepared : new.prepared ≡ map (in_joined_group labels) old.prepared
  pub active : new.active ≡ map (in_joined_group labels) old.active
