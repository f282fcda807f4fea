-- Chosen that need nobody else are a meeting.
use Rattle.std.proofs.Common.{◌≡◌, ◌≢◌, ◌<◌, ◌≤◌, ◌∷◌, [], ℕ, Bool, true, false, cond, nat_lt, List, length, get_or}
use Rattle.std.proofs.Common.{Option, None}
use Rattle.std.proofs.Common.{All, sym, ap, ◌∙◌, inl, inr, arith, count_by}
use Rattle.std.specs.List.{flat_map}
use Rattle.std.specs.List.Sorted.{IsNonDecreasing, IsPermutation}
use Rattle.std.proofs.lemmas.Bool.{ltb-false, ltb-true}
use Rattle.std.proofs.lemmas.Bool.Decides.{Decides-eqb}
use Rattle.std.proofs.lemmas.Cmp.{nat_eq_equiv}
use Rattle.std.proofs.lemmas.List.Sorted.{Contains-permutation, IsPermutation-sym, length_permutation}
use Rattle.std.proofs.lemmas.List.Sums.{sum_by-cons}
use Rattle.std.proofs.lemmas.Map.Keys.{IsDistinct-IsPermutation, IsStrictlyIncreasing-from_distinct}
use Rattle.std.proofs.lemmas.Map.Made.{AllPairs-from_IsDistinct, IsDistinct-from_AllPairs}
use Rattle.std.specs.Prelude.{nat_eq}
use Rattle.ent_lists.specs.Elements.{In, Pairs, any_none, any_some, contains_in, in_contains, index_pairs, of_all}
use Rattle.ent_lists.specs.Elements.{pairs_index, to_flat}
use Rattle.ent_lists.proofs.Lists.{index_all}
use Rattle.ent_meetings.specs.PartyMeeting.{IsClear, IsClosed, MeetAll, is_met, offers, ways}
use Rattle.ent_meetings.specs.Pattern.{may_meet}
use Rattle.ent_meetings.specs.declared.party.Party.{Party}
use Rattle.ent_meetings.specs.declared.pattern.Pattern.{Pattern}
use Rattle.ent_meetings.specs.Group.{demands_of, first_unmet, is_crowded}
use Rattle.ent_meetings.specs.Meeting.{IsMeeting, IsWithin}
use Rattle.ent_meetings.specs.Stand.{Stand}
use Rattle.ent_meetings.specs.Waiting.{Waiting, Waits, named}
use Rattle.ent_meetings.proofs.Ways.{ways_more}
use Rattle.ent_meetings.proofs.Waiters.{closed_by, closed_meets, demanded_more, giver_of, met_by, within, within_by}

-- the same tickets in another order
pub within_permuted : (one other : List ℕ) → IsPermutation one other → IsWithin one other
within_permuted one other moved =
    within_by one other (λ ticket at. contains_in other ticket
    (Contains-permutation one other ticket moved (in_contains one ticket at)))

pub distinct_permuted : (one other : List ℕ) → IsPermutation one other → Pairs (λ (a b : ℕ). a ≢ b) one
    → Pairs (λ (a b : ℕ). a ≢ b) other
distinct_permuted one other moved distinct =
    index_pairs (λ (a b : ℕ). a ≢ b) other
    (AllPairs-from_IsDistinct Decides-eqb other
    (IsDistinct-IsPermutation nat_eq (λ x y. nat_eq_equiv.symm x y) one other moved
    (IsDistinct-from_AllPairs Decides-eqb one (pairs_index (λ (a b : ℕ). a ≢ b) one distinct))))

-- what a set meets, a set with all of it meets
pub met_more : (waiting : Waiting) (one others : List ℕ) (demand : Pattern) → IsWithin one others
    → is_met (named waiting one) demand ≡ true → is_met (named waiting others) demand ≡ true
met_more waiting one others demand all met =
    let giver = giver_of waiting one demand met in
    met_by waiting others demand giver.0 (within one others giver.0 all giver.1) giver.2

-- one that passes is counted
pub counted : {X : Type 0} (p : X → Bool) (xs : List X) (x : X) → In x xs → p x ≡ true → 1 ≤ count_by p xs
counted p [] x at passes = absurd at
counted p (y ∷ ys) x (inl same) passes =
    let one : cond {A = ℕ} (p y) 1 0 ≡ 1 = ap (λ (b : Bool). cond b 1 0) (ap p (sym same) ∙ passes) in
    let all = sum_by-cons (λ z. cond (p z) 1 0) y ys in
    omega arith
counted p (y ∷ ys) x (inr at) passes =
    let rest = counted p ys x at passes in
    let all = sum_by-cons (λ z. cond (p z) 1 0) y ys in
    omega arith

-- what is met is met in some way
pub met_ways : (parties : List Party) (demand : Pattern) → is_met parties demand ≡ true → 1 ≤ ways parties demand
met_ways parties demand met =
    let party = any_some (offers demand) parties met in
    let offer = any_some (may_meet demand) party.0.offers party.2 in
    counted (may_meet demand) (flat_map (λ (p : Party). p.offers) parties) offer.0
    (to_flat (λ (p : Party). p.offers) parties party.0 offer.0 party.1 offer.1) offer.2

module _ (waiting : Waiting) (root : ℕ) (found : List (List ℕ)) (clear cut : Bool) (chosen : List ℕ) (last : Option ℕ)
    (stand : Stand waiting root found clear cut chosen last) (some : 0 < length chosen) (sorted : List ℕ)
    (moved : IsPermutation chosen sorted) (none : first_unmet (named waiting chosen) ≡ None) where
  there : IsWithin chosen sorted
  there = within_permuted chosen sorted moved

  back : IsWithin sorted chosen
  back = within_permuted sorted chosen (IsPermutation-sym chosen sorted moved)

  root_in : (xs : List ℕ) → 0 < length xs → get_or xs 0 0 ≡ root → In root xs
  root_in [] low is = absurd (omega (arith, low))
  root_in (x ∷ xs) low is = inl (sym is)

  closed : IsClosed (named waiting sorted)
  closed =
      index_all (MeetAll (named waiting sorted)) (named waiting sorted) (λ party at.
      index_all (λ (demand : Pattern). is_met (named waiting sorted) demand ≡ true) party.demands (λ demand asked.
      met_more waiting chosen sorted demand there
      (closed_meets (named waiting chosen) demand (closed_by (named waiting chosen) none)
      (demanded_more waiting sorted chosen demand back
      (to_flat (λ (p : Party). p.demands) (named waiting sorted) party demand at asked)))))

  pub is_meeting : IsNonDecreasing sorted → IsMeeting waiting root sorted
  is_meeting rises = record {
    stands = record {
      waits = index_all (Waits waiting) sorted (λ ticket at.
          of_all (Waits waiting) chosen ticket stand.waits (within sorted chosen ticket back at));
      has_root = in_contains sorted root (within chosen sorted root there (root_in chosen some (stand.begins some)));
      closed = closed;
    };
    by_arrival = IsStrictlyIncreasing-from_distinct sorted rises
        (IsDistinct-from_AllPairs Decides-eqb sorted (pairs_index (λ (a b : ℕ). a ≢ b) sorted
        (distinct_permuted chosen sorted moved stand.distinct)));
    bound = let bound = stand.bound in omega (arith, length_permutation chosen sorted moved);
  }

  pub is_clear : is_crowded (named waiting chosen) ≡ false → IsClear (named waiting sorted)
  is_clear free =
      index_all (λ (party : Party). All (λ demand. ways (named waiting sorted) demand ≡ 1) party.demands)
      (named waiting sorted) (λ party at.
      index_all (λ (demand : Pattern). ways (named waiting sorted) demand ≡ 1) party.demands (λ demand asked.
      let demanded : In demand (demands_of (named waiting sorted)) =
      to_flat (λ (p : Party). p.demands) (named waiting sorted) party demand at asked in
      let single : ways (named waiting chosen) demand ≤ 1 =
      ltb-false 1 (ways (named waiting chosen) demand)
      (any_none (λ d. nat_lt 1 (ways (named waiting chosen) d)) (demands_of (named waiting chosen)) free demand
      (demanded_more waiting sorted chosen demand back demanded)) in
      let less = ways_more waiting sorted chosen demand (distinct_permuted chosen sorted moved stand.distinct) back in
      let some_way = met_ways (named waiting sorted) demand (closed_meets (named waiting sorted) demand closed
      demanded) in
      omega arith))

-- where a set is crowded, two offers may meet one demand
pub crowd_of : (parties : List Party) → is_crowded parties ≡ true
    → (demand : Pattern) × In demand (demands_of parties) × (1 < ways parties demand)
crowd_of parties is =
    let some = any_some (λ d. nat_lt 1 (ways parties d)) (demands_of parties) is in
    (some.0, some.1, ltb-true 1 (ways parties some.0) some.2)
