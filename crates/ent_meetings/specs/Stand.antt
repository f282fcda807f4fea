-- Where a search for the meetings of a root stands.
use Rattle.std.specs.Prelude.{ℕ, ◌≡◌, ◌≢◌, ◌<◌, ◌≤◌, Bool, true, false, List, [], ◌∷◌, ◌++◌, length}
use Rattle.std.specs.Prelude.{take, slice_index, Option}
use Rattle.std.specs.List.{AllByRecursion}
use Rattle.std.specs.Option.{option_map_or}
use Rattle.ent_group.specs.declared.members.TheConstants.{MOST_MEMBERS}
use Rattle.ent_lists.specs.Elements.{Pairs}
use Rattle.ent_meetings.specs.PartyMeeting.{IsClear}
use Rattle.ent_meetings.specs.Group.{first_unmet}
use Rattle.ent_meetings.specs.Meeting.{HasOneOf, IsClosedWith, IsWithin}
use Rattle.ent_meetings.specs.Next.{IsUpTo}
use Rattle.ent_meetings.specs.Waiting.{Waiting, Waits, named, offers_at}

-- who waits under the ticket may offer what the chosen demand first that none of them may meet
abbrev pub gives : Waiting → List ℕ → ℕ → Bool
gives waiting chosen ticket =
    option_map_or (λ demand. offers_at waiting demand ticket) (first_unmet (named waiting chosen)) false

-- what a pass of the search is for: closed sets with the root, clear ones alone, or of at most MOST_MEMBERS alone
pub record IsSought (waiting : Waiting) (root : ℕ) (is_clear is_cut : Bool) (tickets : List ℕ) : Type 0 where
  pub stands : IsClosedWith waiting root tickets
  pub clear : is_clear ≡ true → IsClear (named waiting tickets)
  pub bound : is_cut ≡ true → length tickets ≤ MOST_MEMBERS

-- each of them that has the chosen has one of those found in it
abbrev pub IsPassed : Waiting → ℕ → List (List ℕ) → Bool → Bool → List ℕ → Type 0
IsPassed waiting root found is_clear is_cut chosen = (others : List ℕ) → IsSought waiting root is_clear is_cut others
    → IsWithin chosen others → HasOneOf found others

-- the chosen differ and wait; what is passed are those that have, in the place of one of them, one who came before, or
-- behind them all one up to the last
pub record Stand (waiting : Waiting) (root : ℕ) (found : List (List ℕ)) (is_clear is_cut : Bool) (chosen : List ℕ)
    (last : Option ℕ) : Type 0 where
  pub waits : AllByRecursion (Waits waiting) chosen
  pub distinct : Pairs (λ one other. one ≢ other) chosen
  pub bound : length chosen ≤ MOST_MEMBERS
  pub begins : 0 < length chosen → slice_index chosen 0 ≡ root
  pub before : (place ticket : ℕ) → place < length chosen → ticket < slice_index chosen place
      → gives waiting (take place chosen) ticket ≡ true
      → IsPassed waiting root found is_clear is_cut (take place chosen ++ ticket ∷ [])
  pub behind : (ticket : ℕ) → IsUpTo last ticket → gives waiting chosen ticket ≡ true
      → IsPassed waiting root found is_clear is_cut (chosen ++ ticket ∷ [])
  pub over : length chosen ≡ 0 → IsPassed waiting root found is_clear is_cut []
