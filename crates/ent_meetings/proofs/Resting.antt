-- What a search tells once both passes are over, and one step after the other.
use Rattle.std.proofs.Common.{◌≡◌, ◌<◌, ◌≤◌, ◌∷◌, ◌++◌, [], ℕ, false, List, length, Contains, sym, ap, subst, ◌∙◌, ◌⊎◌}
use Rattle.std.proofs.Common.{⊎_elim, arith}
use Rattle.std.specs.Cmp.Lexicographic.{slice_cmp}
use Rattle.std.specs.Ordering.{nat_cmp}
use Rattle.std.specs.declared.cmp.Ordering.TheVariants.{Less}
use Rattle.std.proofs.lemmas.Bool.{both_ways, cases_lt}
use Rattle.std.proofs.lemmas.Cmp.{nat_list_cmp_total}
use Rattle.ent_meetings.specs.PartyMeeting.{IsClear}
use Rattle.ent_meetings.specs.Meeting.{HasOneOf, IsLonely, IsMeeting}
use Rattle.ent_meetings.specs.Search.{AreCleared, IsFound, IsFurther, IsStand, IsTaken, found_of, place_of}
use Rattle.ent_meetings.specs.SearchSteps.{IsRest}
use Rattle.ent_meetings.specs.Waiting.{Waiting, named}
use Rattle.ent_meetings.specs.declared.found.Found.{Found}
use Rattle.ent_meetings.specs.declared.found.Found.TheVariants.{Meeting, Lonely, Nobody, Stopped}
use Rattle.ent_meetings.specs.declared.search.Search.{Search}

module _ (waiting : Waiting) (search : Search) (right : IsStand waiting search) (over : length search.chosen.items ≡ 0)
    (all : search.is_clear ≡ false) where
  pub nobody_else : (others : List ℕ) → IsMeeting waiting search.root others → HasOneOf (found_of search) others
  nobody_else others meets =
      right.stand.over over others (record {
        stands = meets.stands;
        clear = λ clear. absurd (both_ways search.is_clear all clear);
        bound = λ cut. meets.bound;
      }) (λ k d low. absurd (omega (arith, low)))

module _ (waiting : Waiting) (old mid : Search) (root : mid.root ≡ old.root) (found : found_of mid ≡ found_of old) where
  pub rested : (looks left : ℕ) (told : Found) → IsRest waiting mid told → IsFound waiting old mid looks left told
  rested looks left (Meeting meeting) rest = absurd rest
  rested looks left Lonely rest = (rest.0, subst (IsLonely waiting) root rest.1)
  rested looks left Nobody rest =
      (found, λ others meets. rest others (subst (λ (n : ℕ). IsMeeting waiting n others) (sym root) meets))
  rested looks left (Stopped bound) rest = absurd rest

  pub taken_from : (new : Search) (meeting : List ℕ) → IsTaken waiting mid new meeting → IsTaken waiting old new meeting
  taken_from new meeting taken = record {
    meets = subst (λ (n : ℕ). IsMeeting waiting n meeting) root taken.meets;
    other = λ has. taken.other (subst (λ (sets : List (List ℕ)). Contains sets meeting) (sym found) has);
    found = taken.found ∙ ap (λ (sets : List (List ℕ)). sets ++ meeting ∷ []) found;
    clear_first = subst (λ (sets : List (List ℕ)). IsClear (named waiting meeting)
        ⊎ AreCleared waiting old.root sets) found
        (subst (λ (n : ℕ). IsClear (named waiting meeting) ⊎ AreCleared waiting n (found_of mid)) root
        taken.clear_first);
  }

-- one step after the other
pub further_still : (old mid new : Search) (looks left : ℕ) → left ≤ looks → (left < looks → IsFurther old mid)
    → (left ≡ looks → place_of mid ≡ place_of old) → IsFurther mid new → IsFurther old new
further_still old mid new looks left fewer further same last =
    ⊎_elim (λ earlier. nat_list_cmp_total.trans (place_of old) (place_of mid) (place_of new) (further earlier) last)
    (λ first. subst (λ (place : List ℕ). slice_cmp nat_cmp place (place_of new) ≡ Less) (same (omega arith)) last)
    (cases_lt left looks)
