-- Somebody comes to a set.
use Rattle.std.proofs.Common.{◌≡◌, ℕ, ◌+◌, Bool, true, false, not, ◌==◌, List, [], ◌∷◌, ◌++◌, Option, Some, All, refl}
use Rattle.std.proofs.Common.{sym, ap, subst, ◌∙◌, inl, inr, arith, cond, count_by}
use Rattle.std.proofs.Common.{◌⊎◌, Contains, IfSome, IsSome}
use Rattle.std.specs.List.{cons_option, flat_map, list_any}
use Rattle.std.proofs.lemmas.Grind.{flat_map-append}
use Rattle.std.proofs.lemmas.List.{append-nil}
use Rattle.std.proofs.lemmas.List.Elements.{filter_map-append}
use Rattle.std.proofs.lemmas.List.Sums.{AllPass-from_list_all, sum_by-append, sum_by-cons}
use Rattle.ent_lists.specs.Elements.{In, and_both, any_none, in_contains, in_either, in_first, neither, same_number}
use Rattle.ent_lists.specs.Elements.{turned}
use Rattle.ent_lists.proofs.Lists.{of_index, index_all}
use Rattle.ent_meetings.specs.PartyMeeting.{offers, ways}
use Rattle.ent_meetings.specs.Pattern.{may_meet}
use Rattle.ent_meetings.specs.declared.party.Party.{Party}
use Rattle.ent_meetings.specs.declared.pattern.Pattern.{Pattern}
use Rattle.ent_meetings.specs.Group.{demands_of, is_served_once, may_come, serves}
use Rattle.ent_meetings.specs.Waiting.{Waiting, named, party_at}
use Rattle.ent_meetings.specs.Widening.{IsServed, IsWidened}
use Rattle.ent_meetings.proofs.Waiters.{within_by}

-- the ways of one more party are added
pub ways_joined : (parties : List Party) (party : Party) (demand : Pattern)
    → ways (parties ++ party ∷ []) demand ≡ ways parties demand + count_by (may_meet demand) party.offers
ways_joined parties party demand =
    let offered = λ (p : Party). p.offers in
    ap (count_by (may_meet demand)) (flat_map-append offered parties (party ∷ [])
    ∙ ap (λ (more : List Pattern). flat_map offered parties ++ more) (append-nil party.offers))
    ∙ sum_by-append (λ offer. cond (may_meet demand offer) 1 0) (flat_map offered parties) party.offers

pub none_counted : {X : Type 0} (p : X → Bool) (xs : List X) → list_any p xs ≡ false → count_by p xs ≡ 0
none_counted p [] none = refl
none_counted p (x ∷ xs) none =
    let both = neither (p x) (list_any p xs) none in
    let rest = none_counted p xs both.1 in
    let here : cond {A = ℕ} (p x) 1 0 ≡ 0 = ap (λ (b : Bool). cond b 1 0) both.0 in
    let all = sum_by-cons (λ y. cond (p y) 1 0) x xs in
    omega arith

module _ (waiting : Waiting) (tickets : List ℕ) (ticket : ℕ) (party : Party)
    (at : party_at waiting ticket ≡ Some party) where
  pub named_joined : named waiting (tickets ++ ticket ∷ []) ≡ named waiting tickets ++ party ∷ []
  named_joined =
      filter_map-append (party_at waiting) tickets (ticket ∷ [])
      ∙ ap (λ (who : Option Party). named waiting tickets ++ cons_option who []) at

  module _ (may : may_come (named waiting tickets) party ≡ true) where
    parts : (is_served_once (named waiting tickets) party ≡ true) × (not (serves (named waiting tickets) party) ≡ true)
    parts = and_both (is_served_once (named waiting tickets) party) (not (serves (named waiting tickets) party)) may

    as_before : (demand : Pattern) → In demand (demands_of (named waiting tickets))
        → ways (named waiting (tickets ++ ticket ∷ [])) demand ≡ ways (named waiting tickets) demand
    as_before demand there =
        let none = none_counted (may_meet demand) party.offers
        (any_none (λ d. offers d party) (demands_of (named waiting tickets))
        (turned (serves (named waiting tickets) party) parts.1) demand there) in
        let joined = ap (λ (ps : List Party). ways ps demand) named_joined in
        let added = ways_joined (named waiting tickets) party demand in
        omega arith

    once : (demand : Pattern) → In demand party.demands → ways (named waiting (tickets ++ ticket ∷ [])) demand ≡ 1
    once demand there =
        let tested : (d : Pattern) → Bool = λ (d : Pattern). ways (named waiting tickets ++ party ∷ []) d == 1 in
        ap (λ (ps : List Party). ways ps demand) named_joined
        ∙ same_number (ways (named waiting tickets ++ party ∷ []) demand) 1
        (of_index (λ (d : Pattern). (ways (named waiting tickets ++ party ∷ []) d == 1) ≡ true) party.demands demand
        (AllPass-from_list_all (λ (d : Pattern). ways (named waiting tickets ++ party ∷ []) d == 1) party.demands
        parts.0) there)

    served : IsServed waiting (tickets ++ ticket ∷ []) ticket
    served = record {
      waits = subst IsSome (sym at) refl;
      once = subst (λ (who : Option Party). IfSome who (λ (p : Party).
          All (λ (d : Pattern). ways (named waiting (tickets ++ ticket ∷ [])) d ≡ 1) p.demands)) (sym at)
          (index_all (λ (d : Pattern). ways (named waiting (tickets ++ ticket ∷ [])) d ≡ 1) party.demands once);
    }

    -- the set is wider
    pub comes : IsWidened waiting tickets (tickets ++ ticket ∷ [])
    comes = record {
      kept = within_by tickets (tickets ++ ticket ∷ []) (λ t there. in_first tickets (ticket ∷ []) t there);
      ways = index_all
          (λ (d : Pattern). ways (named waiting (tickets ++ ticket ∷ [])) d ≡ ways (named waiting tickets) d)
          (demands_of (named waiting tickets)) as_before;
      others = index_all (λ (t : ℕ). Contains tickets t ⊎ IsServed waiting (tickets ++ ticket ∷ []) t)
          (tickets ++ ticket ∷ [])
          (λ t there.
          elim (in_either tickets (ticket ∷ []) t there) [
            | inl a ↦ inl (in_contains tickets t a)
            | inr b ↦ elim b [
              | inl same ↦ inr (subst (IsServed waiting (tickets ++ ticket ∷ [])) (sym same) served)
              | inr bad ↦ absurd bad
            ]
          ]);
    }
