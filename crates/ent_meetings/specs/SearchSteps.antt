-- How a search moves on.
use Rattle.std.specs.Prelude.{ℕ, ◌≡◌, List, [], Option, None, Some}
use Rattle.ent_meetings.specs.Meeting.{HasOneOf, IsLonely, IsMeeting}
use Rattle.ent_meetings.specs.Search.{IsFurther, IsStand, IsTaken, found_of}
use Rattle.ent_meetings.specs.Stand.{IsPassed}
use Rattle.ent_meetings.specs.Waiting.{Waiting}
use Rattle.ent_meetings.specs.declared.found.Found.{Found}
use Rattle.ent_meetings.specs.declared.found.Found.TheVariants.{Meeting, Lonely, Nobody, Stopped}
use Rattle.ent_meetings.specs.declared.search.Search.{Search}

-- the sets that have all of the chosen are passed
abbrev pub IsPast : Waiting → Search → Type 0
IsPast waiting search =
    IsPassed waiting search.root (found_of search) search.is_clear search.is_cut search.chosen.items

-- the search stands right, at a later place
pub record Moves (waiting : Waiting) (old new : Search) : Type 0 where
  pub stand : IsStand waiting new
  pub root : new.root ≡ old.root
  pub found : found_of new ≡ found_of old
  pub further : IsFurther old new

-- where memory runs out it stands where it stood
pub record IsUnmoved (old new : Search) : Type 0 where
  pub root : new.root ≡ old.root
  pub found : found_of new ≡ found_of old
  pub is_clear : new.is_clear ≡ old.is_clear
  pub is_cut : new.is_cut ≡ old.is_cut
  pub chosen : new.chosen.items ≡ old.chosen.items
  pub last : new.last ≡ old.last

-- a step found nothing, or another meeting
abbrev pub IsStep : Waiting → Search → Search → Option (List ℕ) → Type 0
IsStep waiting old new None = Moves waiting old new
IsStep waiting old new (Some meeting) = IsStand waiting new × (new.root ≡ old.root) × IsTaken waiting old new meeting

-- what a search tells once both passes are over
abbrev pub IsRest : Waiting → Search → Found → Type 0
IsRest waiting search (Meeting meeting) = ⊥
IsRest waiting search Lonely = (found_of search ≡ []) × IsLonely waiting search.root
IsRest waiting search Nobody = (others : List ℕ) → IsMeeting waiting search.root others
    → HasOneOf (found_of search) others
IsRest waiting search (Stopped bound) = ⊥
