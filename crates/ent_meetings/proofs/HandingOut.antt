-- A meeting is handed out.
use Rattle.std.proofs.Common.{◌≡◌, ◌++◌, ◌∷◌, [], ℕ, List, map, All, Contains, refl, sym, ap, subst, ◌∙◌}
use Rattle.std.proofs.Common.{◌⊎◌, inl, inr}
use Rattle.std.specs.Global.{Vec}
use Rattle.ent_lists.specs.Elements.{in_either, in_first, in_second, in_contains, contains_in, map_joined}
use Rattle.ent_lists.proofs.Lists.{of_index, index_all}
use Rattle.ent_meetings.specs.PartyMeeting.{IsClear}
use Rattle.ent_meetings.specs.Meeting.{HasOneOf, IsMeeting, IsWithin}
use Rattle.ent_meetings.specs.Search.{AreCleared, IsStand, IsTaken, found_of}
use Rattle.ent_meetings.specs.SearchSteps.{IsPast, Moves}
use Rattle.ent_meetings.specs.Stand.{Stand}
use Rattle.ent_meetings.specs.Waiting.{Waiting, named}
use Rattle.ent_meetings.specs.declared.search.Search.{Search}
use Rattle.ent_meetings.proofs.Passed.{passed_found}
use Rattle.ent_meetings.proofs.Stands.{still}

lists : List (Vec ℕ) → List (List ℕ)
lists vectors = map (λ vector. vector.items) vectors

pub one_more : (before : List (Vec ℕ)) (after : List (Vec ℕ)) (copy : Vec ℕ) (meeting : List ℕ) → after
    ≡ before ++ copy ∷ []
    → copy.items ≡ meeting → map (λ vector. vector.items) after ≡ map (λ vector. vector.items) before ++ meeting ∷ []
one_more before after copy meeting is same =
    ap (map (λ (vector : Vec ℕ). vector.items)) is ∙ map_joined (λ (vector : Vec ℕ). vector.items) before (copy ∷ [])
    ∙ ap (λ (one : List ℕ). map (λ (vector : Vec ℕ). vector.items) before ++ one ∷ []) same

has_last : (before : List (List ℕ)) (meeting others : List ℕ) → IsWithin meeting others
    → HasOneOf (before ++ meeting ∷ []) others
has_last before meeting others all =
    let there = in_contains (before ++ meeting ∷ []) meeting (in_second before (meeting ∷ []) meeting (inl refl)) in
    (there.0, meeting, there.1, there.2, all)

has_more : (before : List (List ℕ)) (meeting others : List ℕ) → HasOneOf before others
    → HasOneOf (before ++ meeting ∷ []) others
has_more before meeting others one =
    let there = in_contains (before ++ meeting ∷ []) one.1
    (in_first before (meeting ∷ []) one.1 (contains_in before one.1 (one.0, one.2, one.3))) in
    (there.0, one.1, there.1, there.2, one.4)

module _ (waiting : Waiting) (old : Search) (right : IsStand waiting old) (found : Vec (Vec ℕ)) (meeting : List ℕ)
    (is : map (λ (vector : Vec ℕ). vector.items) found.items ≡ found_of old ++ meeting ∷ [])
    (meets : IsMeeting waiting old.root meeting) (all : IsWithin meeting old.chosen.items) where
  abbrev pub with_one : Search
  with_one = record old { found = found }

  pub still_right : IsStand waiting (record old { found = found })
  still_right = record {
    root = right.root;
    meetings = subst (All (IsMeeting waiting old.root)) (sym is)
        (index_all (IsMeeting waiting old.root) (found_of old ++ meeting ∷ []) (λ one at.
        elim (in_either (found_of old) (meeting ∷ []) one at) [
          | inl a ↦ of_index (IsMeeting waiting old.root) (found_of old) one right.meetings a
          | inr b ↦ elim b [ inl same ↦ subst (IsMeeting waiting old.root) (sym same) meets | inr bad ↦ absurd bad ]
        ]));
    stand = subst (λ (sets : List (List ℕ)). Stand waiting old.root sets old.is_clear old.is_cut old.chosen.items
        old.last) (sym is)
        (still waiting old.root (found_of old) (found_of old ++ meeting ∷ []) old.is_clear old.is_cut old.is_cut
        (λ one at. in_first (found_of old) (meeting ∷ []) one at) (λ cut. cut) old.chosen.items old.last right.stand);
    cleared = λ another. subst (AreCleared waiting old.root) (sym is)
        (λ others clear. has_more (found_of old) meeting others (right.cleared another others clear));
  }

  pub past_it : IsPast waiting (record old { found = found })
  past_it =
      passed_found waiting old.root (map (λ (vector : Vec ℕ). vector.items) found.items) old.is_clear old.is_cut
      old.chosen.items
      (subst (λ (sets : List (List ℕ)). HasOneOf sets old.chosen.items) (sym is)
      (has_last (found_of old) meeting old.chosen.items all))

  pub handed_out : (new : Search) → Moves waiting (record old { found = found }) new
      → (Contains (found_of old) meeting → ⊥)
      → IsClear (named waiting meeting) ⊎ AreCleared waiting old.root (found_of old)
      → IsStand waiting new × (new.root ≡ old.root) × IsTaken waiting old new meeting
  handed_out new moves other clear = (
    moves.stand,
    moves.root,
    record { meets = meets; other = other; found = moves.found ∙ is; clear_first = clear },
  )
