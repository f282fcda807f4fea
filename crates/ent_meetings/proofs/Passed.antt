-- What a search has passed.
use Rattle.std.proofs.Common.{◌≡◌, ◌≢◌, ◌<◌, ◌≤◌, ℕ, Bool, true, false, not, List, [], ◌∷◌, ◌++◌, length, Some}
use Rattle.std.proofs.Common.{sym, subst, inl, inr, arith}
use Rattle.std.proofs.lemmas.Bool.Decides.{Decides-eqb}
use Rattle.std.proofs.lemmas.Cmp.{nat_eq_equiv}
use Rattle.std.specs.Prelude.{nat_eq}
use Rattle.std.proofs.lemmas.List.{length_push}
use Rattle.std.proofs.lemmas.Map.Made.{IsDistinct-from_AllPairs, length-le_from_is_member}
use Rattle.ent_group.specs.declared.members.TheConstants.{MOST_MEMBERS}
use Rattle.ent_lists.specs.Elements.{In, Pairs, any_in, any_some, clash, in_either, pairs_behind, pairs_index, turned}
use Rattle.ent_meetings.specs.PartyMeeting.{is_met, ways}
use Rattle.ent_meetings.specs.declared.pattern.Pattern.{Pattern}
use Rattle.ent_meetings.specs.Group.{demands_of, first_unmet}
use Rattle.ent_meetings.specs.Meeting.{HasOneOf, IsClosedWith, IsWithin}
use Rattle.ent_meetings.specs.Stand.{IsPassed}
use Rattle.ent_meetings.specs.Waiting.{Waiting, named, offers_at}
use Rattle.ent_meetings.proofs.Ways.{clear_ways, ways_more}
use Rattle.ent_meetings.proofs.Waiters.{closed_meets, demanded_more, found_in, giver_of, met_by, within, within_both}
use Rattle.ent_meetings.proofs.Waiters.{within_by}

-- distinct numbers of a list are no more than it has
pub no_more : (xs ys : List ℕ) → Pairs (λ (one other : ℕ). one ≢ other) xs → IsWithin xs ys → length xs ≤ length ys
no_more xs ys distinct all =
    length-le_from_is_member nat_eq_equiv xs ys
    (IsDistinct-from_AllPairs Decides-eqb xs (pairs_index (λ (one other : ℕ). one ≢ other) xs distinct))
    (λ q is.
    let some = any_some (λ (y : ℕ). nat_eq q y) xs is in
    any_in (λ (y : ℕ). nat_eq q y) ys some.0 (within xs ys some.0 all some.1) some.2)

module _ (waiting : Waiting) (root : ℕ) (found : List (List ℕ)) (is_clear is_cut : Bool) where
  -- a sought set with the chosen has one who gives what they lack
  giver : (chosen others : List ℕ) (demand : Pattern) → first_unmet (named waiting chosen) ≡ Some demand
      → IsClosedWith waiting root others → IsWithin chosen others
      → (ticket : ℕ) × In ticket others × (offers_at waiting demand ticket ≡ true)
  giver chosen others demand unmet stands all =
      let first = found_in (λ d. not (is_met (named waiting chosen) d)) (demands_of (named waiting chosen)) demand
      unmet in
      giver_of waiting others demand
      (closed_meets (named waiting others) demand stands.closed
      (demanded_more waiting chosen others demand all first.0))

  -- who gives it isn't among them
  pub not_chosen : (chosen : List ℕ) (demand : Pattern) → first_unmet (named waiting chosen) ≡ Some demand
      → (ticket : ℕ)
      → offers_at waiting demand ticket ≡ true → In ticket chosen → ⊥
  not_chosen chosen demand unmet ticket is at =
      let first = found_in (λ d. not (is_met (named waiting chosen) d)) (demands_of (named waiting chosen)) demand
      unmet in
      clash (is_met (named waiting chosen) demand) (met_by waiting chosen demand ticket at is)
      (turned (is_met (named waiting chosen) demand) first.1)

  with_one : (chosen others : List ℕ) (ticket : ℕ) → IsWithin chosen others → In ticket others
      → IsWithin (chosen ++ ticket ∷ []) others
  with_one chosen others ticket all at =
      within_by (chosen ++ ticket ∷ []) others (λ t there.
      elim (in_either chosen (ticket ∷ []) t there) [
        | inl a ↦ within chosen others t all a
        | inr b ↦ elim b [ inl same ↦ subst (λ (n : ℕ). In n others) (sym same) at | inr bad ↦ absurd bad ]
      ])

  -- where each who gives what the chosen lack is passed with them, they are
  pub passed_all : (chosen : List ℕ) (demand : Pattern) → first_unmet (named waiting chosen) ≡ Some demand
      → ((ticket : ℕ) → offers_at waiting demand ticket ≡ true
      → IsPassed waiting root found is_clear is_cut (chosen ++ ticket ∷ []))
      → IsPassed waiting root found is_clear is_cut chosen
  passed_all chosen demand unmet each others sought all =
      let one = giver chosen others demand unmet sought.stands all in
      each one.0 one.2 others sought (with_one chosen others one.0 all one.1)

  -- where they lack something and are as many as a run can have, they are
  pub passed_full : (chosen : List ℕ) (demand : Pattern) → first_unmet (named waiting chosen) ≡ Some demand
      → Pairs (λ (one other : ℕ). one ≢ other) chosen → MOST_MEMBERS ≤ length chosen → is_cut ≡ true
      → IsPassed waiting root found is_clear is_cut chosen
  passed_full chosen demand unmet distinct full cut others sought all =
      let one = giver chosen others demand unmet sought.stands all in
      let more : Pairs (λ (one other : ℕ). one ≢ other) (chosen ++ one.0 ∷ []) =
      pairs_behind (λ (one other : ℕ). one ≢ other) chosen one.0 distinct
      (λ y at same. not_chosen chosen demand unmet one.0 one.2 (subst (λ (n : ℕ). In n chosen) same at)) in
      let most : length (chosen ++ one.0 ∷ []) ≤ length others =
      no_more (chosen ++ one.0 ∷ []) others more (with_one chosen others one.0 all one.1) in
      let few = sought.bound cut in
      absurd (omega (arith, full, most, few, length_push chosen one.0))

  -- where one of those found is among them, they are
  pub passed_found : (chosen : List ℕ) → HasOneOf found chosen → IsPassed waiting root found is_clear is_cut chosen
  passed_found chosen one others sought all =
      (one.0, one.1, one.2, one.3, within_both one.1 chosen others one.4 all)

  -- where one of them demands what nobody who waits may offer, they are
  pub passed_hopeless : (chosen : List ℕ) (demand : Pattern) → In demand (demands_of (named waiting chosen))
      → ((ticket : ℕ) → offers_at waiting demand ticket ≡ false) → IsPassed waiting root found is_clear is_cut chosen
  passed_hopeless chosen demand asked nobody others sought all =
      let one = giver_of waiting others demand
      (closed_meets (named waiting others) demand sought.stands.closed
      (demanded_more waiting chosen others demand all asked)) in
      clash (offers_at waiting demand one.0) one.2 (nobody one.0)

  -- where two offers may meet what one of them demands, they are in a pass for clear sets
  pub passed_crowded : (chosen : List ℕ) (demand : Pattern) → In demand (demands_of (named waiting chosen))
      → 1 < ways (named waiting chosen) demand → Pairs (λ (one other : ℕ). one ≢ other) chosen → is_clear ≡ true
      → IsPassed waiting root found is_clear is_cut chosen
  passed_crowded chosen demand asked two distinct clear others sought all =
      let more = ways_more waiting chosen others demand distinct all in
      let one = clear_ways (named waiting others) demand (sought.clear clear)
      (demanded_more waiting chosen others demand all asked) in
      absurd (omega (arith, more, one, two))
