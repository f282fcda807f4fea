-- The moves of a search.
use Rattle.std.proofs.Common.{◌≡◌, ◌<◌, ◌≤◌, ◌++◌, ◌∷◌, [], ℕ, suc, Bool, true, false, List, length, Option, None, Some}
use Rattle.std.proofs.Common.{IsSomeAnd, refl, sym, subst, arith}
use Rattle.std.specs.Global.{Vec}
use Rattle.std.specs.Cmp.Lexicographic.{slice_cmp}
use Rattle.std.specs.Ordering.{nat_cmp}
use Rattle.std.specs.declared.cmp.Ordering.TheVariants.{Less}
use Rattle.ent_group.specs.declared.members.TheConstants.{MOST_MEMBERS}
use Rattle.ent_meetings.specs.declared.pattern.Pattern.{Pattern}
use Rattle.ent_meetings.specs.Group.{first_unmet}
use Rattle.ent_meetings.specs.Next.{IsAfter, IsUpTo}
use Rattle.ent_meetings.specs.Search.{IsStand, found_of, next_of, pass_of}
use Rattle.ent_meetings.specs.SearchSteps.{IsPast, Moves}
use Rattle.ent_meetings.specs.Stand.{IsPassed, Stand}
use Rattle.ent_meetings.specs.Waiting.{Waiting, named, offers_at}
use Rattle.ent_meetings.specs.declared.search.Search.{Search}
use Rattle.ent_meetings.proofs.Places as place
use Rattle.ent_meetings.proofs.Passed.{passed_full}
use Rattle.ent_meetings.proofs.Stands.{chosen_more, further_on, none_left, one_less, stand_begins, still}

module _ (waiting : Waiting) (old : Search) (right : IsStand waiting old) where
  pub goes_back : (chosen : Vec ℕ) (ticket : ℕ) → old.chosen.items ≡ chosen.items ++ ticket ∷ [] → IsPast waiting old
      → Moves waiting old (record old { chosen = chosen; last = Some ticket })
  goes_back chosen ticket is past = record {
    stand = record {
      root = right.root;
      meetings = right.meetings;
      stand = one_less waiting old.root (found_of old) old.is_clear old.is_cut chosen.items ticket old.last
          (subst (λ (xs : List ℕ). Stand waiting old.root (found_of old) old.is_clear old.is_cut xs old.last) is
          right.stand)
          (subst (IsPassed waiting old.root (found_of old) old.is_clear old.is_cut) is past);
      cleared = right.cleared;
    };
    root = refl;
    found = refl;
    further = subst (λ (xs : List ℕ). slice_cmp nat_cmp (pass_of old.is_clear ∷ (xs ++ next_of old.last ∷ []))
        (pass_of old.is_clear ∷ (chosen.items ++ suc ticket ∷ [])) ≡ Less) (sym is)
        (place.further_back (pass_of old.is_clear) chosen.items ticket (next_of old.last));
  }

  -- one comes to the chosen
  pub comes : (chosen : Vec ℕ) (demand : Pattern) (ticket : ℕ) → chosen.items ≡ old.chosen.items ++ ticket ∷ []
      → first_unmet (named waiting old.chosen.items) ≡ Some demand → length old.chosen.items < MOST_MEMBERS
      → 0 < length old.chosen.items → IsAfter old.last ticket → offers_at waiting demand ticket ≡ true
      → ((other : ℕ) → IsAfter old.last other → other < ticket → offers_at waiting demand other ≡ false)
      → Moves waiting old (record old { chosen = chosen; last = None })
  comes chosen demand ticket is unmet room some after gives none = record {
    stand = record {
      root = right.root;
      meetings = right.meetings;
      stand = subst (λ (xs : List ℕ). Stand waiting old.root (found_of old) old.is_clear old.is_cut xs None) (sym is)
          (chosen_more waiting old.root (found_of old) old.is_clear old.is_cut old.chosen.items old.last demand ticket
          right.stand unmet room some gives none);
      cleared = right.cleared;
    };
    root = refl;
    found = refl;
    further = subst (λ (xs : List ℕ). slice_cmp nat_cmp (pass_of old.is_clear ∷
        (old.chosen.items ++ next_of old.last ∷ []))
        (pass_of old.is_clear ∷ (xs ++ 0 ∷ [])) ≡ Less) (sym is)
        (place.further_more (pass_of old.is_clear) old.chosen.items old.last ticket after);
  }

  -- some more were looked at in vain
  pub looks_on : (last : Option ℕ) (demand : Pattern) → first_unmet (named waiting old.chosen.items) ≡ Some demand
      → IsSomeAnd last (IsAfter old.last)
      → ((other : ℕ) → IsAfter old.last other → IsUpTo last other → offers_at waiting demand other ≡ false)
      → Moves waiting old (record old { last = last })
  looks_on last demand unmet after none = record {
    stand = record {
      root = right.root;
      meetings = right.meetings;
      stand = further_on waiting old.root (found_of old) old.is_clear old.is_cut old.chosen.items old.last last demand
          right.stand unmet none;
      cleared = right.cleared;
    };
    root = refl;
    found = refl;
    further = by last refl after;
  }
    where
      by : (next : Option ℕ) → last ≡ next → IsSomeAnd next (IsAfter old.last)
          → slice_cmp nat_cmp (pass_of old.is_clear ∷ (old.chosen.items ++ next_of old.last ∷ []))
          (pass_of old.is_clear ∷ (old.chosen.items ++ next_of last ∷ [])) ≡ Less
      by None is later = absurd later
      by (Some ticket) is later = place.further_on (pass_of old.is_clear) old.chosen.items old.last last ticket is later

  -- nobody else gives what the chosen lack
  pub past_all : (demand : Pattern) → first_unmet (named waiting old.chosen.items) ≡ Some demand
      → ((other : ℕ) → IsAfter old.last other → offers_at waiting demand other ≡ false) → IsPast waiting old
  past_all demand unmet none =
      none_left waiting old.root (found_of old) old.is_clear old.is_cut old.chosen.items old.last demand right.stand
      unmet none

  -- the pass for clear sets is over, and the one for all begins
  pub begins_again : (chosen : Vec ℕ) → chosen.items ≡ old.root ∷ [] → length old.chosen.items ≡ 0 → old.is_clear ≡ true
      → Moves waiting old (record old { chosen = chosen; last = None; is_clear = false; is_cut = false })
  begins_again chosen is over clear = record {
    stand = record {
      root = right.root;
      meetings = right.meetings;
      stand = subst (λ (xs : List ℕ). Stand waiting old.root (found_of old) false false xs None) (sym is)
          (stand_begins waiting old.root (found_of old) false false right.root);
      cleared = λ another others clear_one.
          right.stand.over over others (record {
            stands = clear_one.meets.stands;
            clear = λ sought. clear_one.clear;
            bound = λ cut. clear_one.meets.bound;
          }) (λ k d low. absurd (omega (arith, low)));
    };
    root = refl;
    found = refl;
    further = subst (λ (b : Bool). slice_cmp nat_cmp (pass_of b ∷ (old.chosen.items ++ next_of old.last ∷ []))
        (1 ∷ (chosen.items ++ 0 ∷ [])) ≡ Less) (sym clear) refl;
  }

  -- the sets with the chosen are too large, and are left out
  pub cuts : (demand : Pattern) → first_unmet (named waiting old.chosen.items) ≡ Some demand
      → MOST_MEMBERS ≤ length old.chosen.items
      → IsStand waiting (record old { is_cut = true }) × IsPast waiting (record old { is_cut = true })
  cuts demand unmet full = (
    record {
      root = right.root;
      meetings = right.meetings;
      stand = still waiting old.root (found_of old) (found_of old) old.is_clear old.is_cut true (λ one at. at)
          (λ cut. refl)
          old.chosen.items old.last right.stand;
      cleared = right.cleared;
    },
    passed_full waiting old.root (found_of old) old.is_clear true old.chosen.items demand unmet right.stand.distinct
        full refl,
  )
