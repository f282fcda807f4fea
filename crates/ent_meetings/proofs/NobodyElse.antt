-- Nobody else might come.
use Rattle.std.proofs.Common.{◌≡◌, ◌+◌, ℕ, true, false, not, ◌==◌, List, [], ◌∷◌, ◌++◌, sym, ◌∙◌, inl, inr, arith}
use Rattle.std.proofs.Common.{count_by}
use Rattle.std.specs.List.Sorted.{IsPermutation}
use Rattle.std.proofs.lemmas.List.Sorted.{IsPermutation-sym}
use Rattle.std.proofs.lemmas.List.Sums.{AllPass-from_list_all}
use Rattle.ent_lists.specs.Elements.{In, and_both, any_none, clash, contains_in, in_contains, same_number, turned}
use Rattle.ent_lists.proofs.Lists.{of_index}
use Rattle.ent_meetings.specs.PartyMeeting.{offers, ways}
use Rattle.ent_meetings.specs.Pattern.{may_meet}
use Rattle.ent_meetings.specs.declared.party.Party.{Party}
use Rattle.ent_meetings.specs.declared.pattern.Pattern.{Pattern}
use Rattle.ent_meetings.specs.Group.{demands_of, is_served_once, may_come, offers_of, serves}
use Rattle.ent_meetings.specs.Meeting.{IsWithin}
use Rattle.ent_meetings.specs.Settling.{IsSettled, IsWhole}
use Rattle.ent_meetings.specs.Waiting.{Waiting, demands, named}
use Rattle.ent_meetings.specs.Widening.{MightCome}
use Rattle.ent_meetings.proofs.Coming.{none_counted, ways_joined}
use Rattle.ent_meetings.proofs.Settled.{none_any, offered_within}
use Rattle.ent_meetings.proofs.Taking.{within_permuted}
use Rattle.ent_meetings.proofs.Waiters.{demanded_more, within}
use Rattle.ent_meetings.proofs.Ways.{ways_permuted}

module _ (parties : List Party) (party : Party) (may : may_come parties party ≡ true) where
  parts : (is_served_once parties party ≡ true) × (not (serves parties party) ≡ true)
  parts = and_both (is_served_once parties party) (not (serves parties party)) may

  once : (demand : Pattern) → In demand party.demands → ways parties demand + count_by (may_meet demand)
      party.offers ≡ 1
  once demand there =
      sym (ways_joined parties party demand)
      ∙ same_number (ways (parties ++ party ∷ []) demand) 1
      (of_index (λ (d : Pattern). (ways (parties ++ party ∷ []) d == 1) ≡ true) party.demands demand
      (AllPass-from_list_all (λ (d : Pattern). ways (parties ++ party ∷ []) d == 1) party.demands parts.0) there)

  unserving : (demand : Pattern) → In demand (demands_of parties) → offers demand party ≡ false
  unserving demand there =
      any_none (λ d. offers d party) (demands_of parties) (turned (serves parties party) parts.1) demand there

pub none_might : (waiting : Waiting) (tickets sorted : List ℕ) → IsWhole waiting tickets → IsPermutation tickets sorted
    → (ticket : ℕ) → MightCome waiting sorted ticket → ⊥
none_might waiting tickets sorted whole moved ticket might =
    by (whole.past.settled ticket might.party might.waits might.asks.1 (whole.own_in might.asks.1 asked_here) asks)
  where
    there : IsWithin tickets sorted
    there = within_permuted tickets sorted moved

    back : IsWithin sorted tickets
    back = within_permuted sorted tickets (IsPermutation-sym tickets sorted moved)

    asks : demands might.asks.1 might.party ≡ true
    asks = might.asks.4

    asked_here : In might.asks.1 (offers_of (named waiting tickets))
    asked_here = offered_within waiting sorted tickets might.asks.1 back
        (contains_in (offers_of (named waiting sorted)) might.asks.1 (might.asks.0, might.asks.2, might.asks.3))

    as_many : (demand : Pattern) → ways (named waiting sorted) demand ≡ ways (named waiting tickets) demand
    as_many demand = ways_permuted waiting tickets sorted demand moved

    by : IsSettled waiting tickets whole.offered ticket might.party → ⊥
    by (inl at) = might.other (in_contains sorted ticket (within tickets sorted ticket there at))
    by (inr (inl (inl crowd))) =
        let one = once (named waiting sorted) might.party might.comes crowd.0 crowd.1 in
        let same = as_many crowd.0 in
        let two = crowd.2 in
        absurd (omega arith)
    by (inr (inl (inr served))) =
        clash (offers served.0 might.party) served.2
        (unserving (named waiting sorted) might.party might.comes served.0
        (demanded_more waiting tickets sorted served.0 there served.1))
    by (inr (inr lacks)) =
        let one = once (named waiting sorted) might.party might.comes lacks.0 lacks.1 in
        let same = as_many lacks.0 in
        let here = none_counted (may_meet lacks.0) (offers_of (named waiting tickets))
        (none_any (may_meet lacks.0) (offers_of (named waiting tickets)) (λ o at. lacks.3 o (whole.own_in o at))) in
        let own = none_counted (may_meet lacks.0) might.party.offers lacks.2 in
        absurd (omega arith)
