-- A search for the meetings of a root.
use Rattle.std.specs.Prelude.{ℕ, suc, ◌≡◌, ◌<◌, ◌≤◌, Bool, true, false, All, Contains, List, [], ◌∷◌, ◌++◌, ◌⊎◌, length}
use Rattle.std.specs.Prelude.{map}
use Rattle.std.specs.Prelude.{Option, None, Some}
use Rattle.std.specs.Cmp.Lexicographic.{slice_cmp}
use Rattle.std.specs.Ordering.{nat_cmp}
use Rattle.std.specs.declared.cmp.Ordering.TheVariants.{Less}
use Rattle.ent_meetings.specs.PartyMeeting.{IsClear}
use Rattle.ent_meetings.specs.Meeting.{HasOneOf, IsClearMeeting, IsLonely, IsMeeting}
use Rattle.ent_meetings.specs.Stand.{Stand}
use Rattle.ent_meetings.specs.Waiting.{Waiting, Waits, named}
use Rattle.ent_meetings.specs.declared.found.Bound.TheVariants as bounds
use Rattle.ent_meetings.specs.declared.found.Found.{Found}
use Rattle.ent_meetings.specs.declared.found.Found.TheVariants.{Meeting, Lonely, Nobody, Stopped}
use Rattle.ent_meetings.specs.declared.search.Search.{Search}
use Rattle.ent_meetings.specs.declared.search.TheConstants.{MOST_CHOICES}

-- whose meetings are sought
abbrev pub root_of : Search → ℕ
root_of search = search.root

-- the meetings that were handed out, in order
abbrev pub found_of : Search → List (List ℕ)
found_of search = map (λ meeting. meeting.items) search.found.items

-- each clear meeting of the root has one of the sets in it
abbrev pub AreCleared : Waiting → ℕ → List (List ℕ) → Type 0
AreCleared waiting root found = (others : List ℕ) → IsClearMeeting waiting root others → HasOneOf found others

-- what a search says of what it has passed is true of those who wait
pub record IsStand (waiting : Waiting) (search : Search) : Type 0 where
  pub root : Waits waiting search.root
  pub meetings : All (IsMeeting waiting search.root) (found_of search)
  pub stand : Stand waiting search.root (found_of search) search.is_clear search.is_cut search.chosen.items search.last
  pub cleared : search.is_clear ≡ false → AreCleared waiting search.root (found_of search)

-- where a search stands: in which pass, with whom, and whom it looks at next
abbrev pub next_of : Option ℕ → ℕ
next_of None = 0
next_of (Some last) = suc last

abbrev pub pass_of : Bool → ℕ
pass_of true = 0
pass_of false = 1

abbrev pub place_of : Search → List ℕ
place_of search = pass_of search.is_clear ∷ (search.chosen.items ++ next_of search.last ∷ [])

-- it stands at a later place than it did
abbrev pub IsFurther : Search → Search → Type 0
IsFurther old new = slice_cmp nat_cmp (place_of old) (place_of new) ≡ Less

-- another meeting is handed out; clear ones come first
pub record IsTaken (waiting : Waiting) (old new : Search) (meeting : List ℕ) : Type 0 where
  pub meets : IsMeeting waiting old.root meeting
  pub other : Contains (found_of old) meeting → ⊥
  pub found : found_of new ≡ found_of old ++ meeting ∷ []
  pub clear_first : IsClear (named waiting meeting) ⊎ AreCleared waiting old.root (found_of old)

-- what an answer says, with so many looks left
abbrev pub IsFound : Waiting → Search → Search → ℕ → ℕ → Found → Type 0
IsFound waiting old new looks left (Meeting meeting) = IsTaken waiting old new meeting.items
IsFound waiting old new looks left Lonely = (found_of new ≡ []) × IsLonely waiting old.root
IsFound waiting old new looks left Nobody = (found_of new ≡ found_of old)
    × ((others : List ℕ) → IsMeeting waiting old.root others → HasOneOf (found_of new) others)
IsFound waiting old new looks left (Stopped bounds.Looks) = (left ≡ 0) × (found_of new ≡ found_of old)
    × (0 < looks → IsFurther old new)
IsFound waiting old new looks left (Stopped bounds.Choices) = (MOST_CHOICES ≤ length (found_of new))
    × (found_of new ≡ found_of old)
