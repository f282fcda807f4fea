-- Who may come to a set that grows, and who may not.
use Rattle.std.proofs.Common.{◌≡◌, ◌<◌, ◌≤◌, ◌+◌, ℕ, Bool, true, false, not, ◌&&◌, ◌||◌, ◌==◌, cond, List, [], ◌∷◌}
use Rattle.std.proofs.Common.{◌++◌, length, take, get_or, Option, None, Some, refl, sym, ap, subst, ◌∙◌}
use Rattle.std.proofs.Common.{◌⊎◌, inl, inr, ⊎_elim, arith, count_by}
use Rattle.std.specs.List.{cons_option, flat_map, list_all, list_any}
use Rattle.std.specs.Option.{option_map_or}
use Rattle.std.proofs.lemmas.Bool.{cases_eq, cases_lt}
use Rattle.std.proofs.lemmas.Grind.{flat_map-append}
use Rattle.std.proofs.lemmas.List.{append-nil, take-append-le, take_all, take_more}
use Rattle.std.proofs.lemmas.List.Elements.{filter_map-append}
use Rattle.std.proofs.lemmas.List.Sums.{sum_by-append}
use Rattle.ent_lists.specs.Elements.{In, any_none, any_some, clash, differ, in_either, in_first, in_flat, in_second}
use Rattle.ent_lists.specs.Elements.{nth_in, to_flat}
use Rattle.ent_meetings.specs.PartyMeeting.{offers, ways}
use Rattle.ent_meetings.specs.Pattern.{may_meet}
use Rattle.ent_meetings.specs.declared.party.Party.{Party}
use Rattle.ent_meetings.specs.declared.pattern.Pattern.{Pattern}
use Rattle.ent_meetings.specs.Group.{demands_of, is_served_once, may_come, offers_of, serves}
use Rattle.ent_meetings.specs.Meeting.{IsWithin}
use Rattle.ent_meetings.specs.Next.{IsAfter}
use Rattle.ent_meetings.specs.Settling.{GoesPast, IsBarred, IsLacking, IsPassing, IsPast, IsPastAll, IsSettled, IsTried}
use Rattle.ent_meetings.specs.Settling.{IsWhole}
use Rattle.ent_meetings.specs.Waiting.{Waiting, demands, demands_at, named, party_at}
use Rattle.ent_meetings.proofs.Coming.{ways_joined}
use Rattle.ent_meetings.proofs.Nexts.{after_or_up_to}
use Rattle.ent_meetings.proofs.Taking.{counted}
use Rattle.ent_meetings.proofs.Waiters.{demanded_more, of_named, to_named, within, within_by}

-- what some offer among those that are more
pub offered_within : (waiting : Waiting) (one others : List ℕ) (offer : Pattern) → IsWithin one others
    → In offer (offers_of (named waiting one)) → In offer (offers_of (named waiting others))
offered_within waiting one others offer all at =
    let from = in_flat (λ (party : Party). party.offers) (named waiting one) offer at in
    let who = of_named (party_at waiting) one from.0 from.1 in
    to_flat (λ (party : Party). party.offers) (named waiting others) from.0 offer
    (to_named (party_at waiting) others who.0 from.0 (within one others who.0 all who.1) who.2) from.2

-- with more tickets
module _ (waiting : Waiting) (one more : List ℕ) where
  named_more : named waiting (one ++ more) ≡ named waiting one ++ named waiting more
  named_more = filter_map-append (party_at waiting) one more

  ways_more : (demand : Pattern) → ways (named waiting one) demand ≤ ways (named waiting (one ++ more)) demand
  ways_more demand =
      let offered = λ (p : Party). p.offers in
      let all : ways (named waiting (one ++ more)) demand
      ≡ ways (named waiting one) demand + ways (named waiting more) demand =
      ap (λ (ps : List Party). ways ps demand) named_more
      ∙ ap (count_by (may_meet demand)) (flat_map-append offered (named waiting one) (named waiting more))
      ∙ sum_by-append (λ offer. cond (may_meet demand offer) 1 0) (flat_map offered (named waiting one))
      (flat_map offered (named waiting more)) in
      omega arith

  longer : IsWithin one (one ++ more)
  longer = within_by one (one ++ more) (λ ticket at. in_first one more ticket at)

  pub offered_more : (offer : Pattern) → In offer (offers_of (named waiting one))
      → In offer (offers_of (named waiting (one ++ more)))
  offered_more offer at = offered_within waiting one (one ++ more) offer longer at

  barred_more : (party : Party) → IsBarred (named waiting one) party → IsBarred (named waiting (one ++ more)) party
  barred_more party (inl crowd) =
      let least = ways_more crowd.0 in
      let two = crowd.2 in
      inl (crowd.0, crowd.1, omega arith)
  barred_more party (inr served) =
      inr (
        served.0,
        demanded_more waiting one (one ++ more) served.0 longer served.1,
        served.2,
      )

  settled_more : (offered : List Pattern) (ticket : ℕ) (party : Party) → IsSettled waiting one offered ticket party
      → IsSettled waiting (one ++ more) offered ticket party
  settled_more offered ticket party (inl at) = inl (in_first one more ticket at)
  settled_more offered ticket party (inr (inl barred)) = inr (inl (barred_more party barred))
  settled_more offered ticket party (inr (inr lacks)) = inr (inr lacks)

  past_more : (offered : List Pattern) → IsPast waiting one offered → IsPast waiting (one ++ more) offered
  past_more offered past = record {
    among = λ offer at. offered_more offer (past.among offer at);
    settled = λ ticket party waits offer at asks. settled_more offered ticket party
        (past.settled ticket party waits offer at asks);
  }

-- a test that not all pass
not_all : {X : Type 0} (p : X → Bool) (xs : List X) → list_all p xs ≡ false → (x : X) × In x xs × (p x ≡ false)
not_all p [] is = cc
not_all {X} p (x ∷ xs) is = by (p x) refl (not_all p xs) is
  where
    by : (b : Bool) → p x ≡ b → (list_all p xs ≡ false → (y : X) × In y xs × (p y ≡ false))
        → (b && list_all p xs) ≡ false → (y : X) × In y (x ∷ xs) × (p y ≡ false)
    by true passes rest none = let later = rest none in (later.0, inr later.1, later.2)
    by false fails rest none = (x, inl refl, fails)

-- what isn't counted isn't there
none_there : {X : Type 0} (p : X → Bool) (xs : List X) → count_by p xs ≡ 0 → (x : X) → In x xs → p x ≡ false
none_there {X} p xs none x at = by (p x) refl
  where
    by : (b : Bool) → p x ≡ b → b ≡ false
    by true is = let some = counted p xs x at is in absurd (omega arith)
    by false is = refl

pub none_any : {X : Type 0} (p : X → Bool) (xs : List X) → ((x : X) → In x xs → p x ≡ false) → list_any p xs ≡ false
none_any p [] none = refl
none_any p (x ∷ xs) none =
    ap (λ (b : Bool). b || list_any p xs) (none x (inl refl)) ∙ none_any p xs (λ y at. none y (inr at))

-- who may not come is barred, or lacks something
module _ (parties : List Party) (party : Party) (offered : List Pattern)
    (among : (offer : Pattern) → In offer offered → In offer (offers_of parties)) where
  unserved : (demand : Pattern) → In demand party.demands → (ways (parties ++ party ∷ []) demand == 1) ≡ false
      → IsBarred parties party ⊎ IsLacking offered party
  unserved demand at off =
      let all = ways_joined parties party demand in
      let apart : ways (parties ++ party ∷ []) demand ≡ 1 → ⊥ = differ (ways (parties ++ party ∷ []) demand) 1 off in
      ⊎_elim (λ two. inl (inl (demand, at, omega arith)))
      (λ few.
      let other : ways (parties ++ party ∷ []) demand ≡ 0 = none_or_one (ways (parties ++ party ∷ []) demand)
      apart few in
      let here : ways parties demand ≡ 0 = omega arith in
      let own : count_by (may_meet demand) party.offers ≡ 0 = omega arith in
      inr (
        demand,
        at,
        none_any (may_meet demand) party.offers (none_there (may_meet demand) party.offers own),
        λ offer there. none_there (may_meet demand) (offers_of parties) here offer (among offer there),
      ))
      (cases_lt 1 (ways (parties ++ party ∷ []) demand))
    where
      none_or_one : (n : ℕ) → (n ≡ 1 → ⊥) → n ≤ 1 → n ≡ 0
      none_or_one n not_one few =
          ⊎_elim (λ same. absurd (not_one same)) (λ other. omega (arith, few, other)) (cases_eq n 1)

  barred_or_lacking : may_come parties party ≡ false → IsBarred parties party ⊎ IsLacking offered party
  barred_or_lacking is = by (is_served_once parties party) refl (serves parties party) refl is
    where
      by : (served : Bool) → is_served_once parties party ≡ served → (serving : Bool) → serves parties party ≡ serving
          → (served && not serving) ≡ false → IsBarred parties party ⊎ IsLacking offered party
      by false off serving on none =
          let some = not_all (λ demand. ways (parties ++ party ∷ []) demand == 1) party.demands off in
          unserved some.0 some.1 some.2
      by true off true on none =
          let some = any_some (λ demand. offers demand party) (demands_of parties) on in
          inl (inr (some.0, some.1, some.2))
      by true off false on none = cc

module _ (waiting : Waiting) where
  pub settled_tried : (tickets : List ℕ) (offered : List Pattern) (ticket : ℕ) (party : Party)
      → ((offer : Pattern) → In offer offered → In offer (offers_of (named waiting tickets)))
      → party_at waiting ticket ≡ Some party → IsTried waiting tickets ticket
      → IsSettled waiting tickets offered ticket party
  settled_tried tickets offered ticket party among waits tried = by (tried party waits)
    where
      by : In ticket tickets ⊎ (may_come (named waiting tickets) party ≡ false)
          → IsSettled waiting tickets offered ticket party
      by (inl at) = inl at
      by (inr off) = inr (barred_or_lacking (named waiting tickets) party offered among off)

  -- nothing is looked through yet
  pub past_none : (tickets : List ℕ) → IsPast waiting tickets []
  past_none tickets = record { among = λ offer at. absurd at; settled = λ ticket party waits offer at asks. absurd at }

  asked : (offer : Pattern) (ticket : ℕ) (party : Party) → party_at waiting ticket ≡ Some party
      → demands_at waiting offer ticket ≡ false → demands offer party ≡ true → ⊥
  asked offer ticket party waits off on =
      clash (demands offer party) on (sym (ap (λ (who : Option Party). option_map_or (demands offer) who false)
      waits) ∙ off)

  -- an offer more is looked through
  pub passes_on : (old more : List ℕ) (offered : List Pattern) (offer : Pattern) (last : Option ℕ) (ticket : ℕ)
      → IsPassing waiting old offered offer last → IsTried waiting (old ++ more) ticket
      → ((other : ℕ) → IsAfter last other → other < ticket → demands_at waiting offer other ≡ false)
      → IsPassing waiting (old ++ more) offered offer (Some ticket)
  passes_on old more offered offer last ticket passing tried none = record {
    past = past_more waiting old more offered passing.past;
    among = there;
    before = λ other party up_to waits asks.
        ⊎_elim (λ later. here other party later up_to waits asks)
        (λ earlier. settled_more waiting old more (offer ∷ offered) other party
        (passing.before other party earlier waits asks))
        (after_or_up_to last other);
  }
    where
      there : In offer (offers_of (named waiting (old ++ more)))
      there = offered_more waiting old more offer passing.among

      among_all : (o : Pattern) → In o (offer ∷ offered) → In o (offers_of (named waiting (old ++ more)))
      among_all o (inl same) = subst (λ (x : Pattern). In x (offers_of (named waiting (old ++ more)))) (sym same) there
      among_all o (inr at) = offered_more waiting old more o (passing.past.among o at)

      here : (other : ℕ) (party : Party) → IsAfter last other → other ≤ ticket → party_at waiting other ≡ Some party
          → demands offer party ≡ true → IsSettled waiting (old ++ more) (offer ∷ offered) other party
      here other party later up_to waits asks =
          ⊎_elim (λ low. absurd (asked offer other party waits (none other later low) asks))
          (λ past.
          let same : ticket ≡ other = omega (arith, past, up_to) in
          settled_tried (old ++ more) (offer ∷ offered) other party among_all waits
          (subst (IsTried waiting (old ++ more)) same tried))
          (cases_lt other ticket)

  pub passed_one : (tickets : List ℕ) (offered : List Pattern) (offer : Pattern) (last : Option ℕ)
      → IsPassing waiting tickets offered offer last
      → ((other : ℕ) → IsAfter last other → demands_at waiting offer other ≡ false)
      → IsPast waiting tickets (offer ∷ offered)
  passed_one tickets offered offer last passing none = record {
    among = among_all;
    settled = λ ticket party waits o at asks. by ticket party waits o at asks (demands offer party) refl;
  }
    where
      among_all : (o : Pattern) → In o (offer ∷ offered) → In o (offers_of (named waiting tickets))
      among_all o (inl same) = subst (λ (x : Pattern). In x (offers_of (named waiting tickets))) (sym same)
          passing.among
      among_all o (inr at) = passing.past.among o at

      first : (ticket : ℕ) (party : Party) → party_at waiting ticket ≡ Some party → demands offer party ≡ true
          → IsSettled waiting tickets (offer ∷ offered) ticket party
      first ticket party waits asks =
          ⊎_elim (λ later. absurd (asked offer ticket party waits (none ticket later) asks))
          (λ earlier. passing.before ticket party earlier waits asks) (after_or_up_to last ticket)

      keeps : (ticket : ℕ) (party : Party) → demands offer party ≡ false
          → IsSettled waiting tickets offered ticket party
          → IsSettled waiting tickets (offer ∷ offered) ticket party
      keeps ticket party off (inl at) = inl at
      keeps ticket party off (inr (inl barred)) = inr (inl barred)
      keeps ticket party off (inr (inr lacks)) =
          inr (inr (
            lacks.0,
            lacks.1,
            lacks.2,
            λ o there.
                elim there [
                  | inl same ↦ ap (may_meet lacks.0) same ∙ any_none (λ d. may_meet d offer) party.demands off
                      lacks.0 lacks.1
                  | inr at ↦ lacks.3 o at
                ],
          ))

      by : (ticket : ℕ) (party : Party) → party_at waiting ticket ≡ Some party → (o : Pattern) → In o (offer ∷ offered)
          → demands o party ≡ true → (b : Bool) → demands offer party ≡ b
          → IsSettled waiting tickets (offer ∷ offered) ticket party
      by ticket party waits o at asks true on = first ticket party waits on
      by ticket party waits o (inl same) asks false off =
          first ticket party waits (ap (λ (x : Pattern). demands x party) (sym same) ∙ asks)
      by ticket party waits o (inr at) asks false off =
          keeps ticket party off (passing.past.settled ticket party waits o at asks)

  -- one after the other
  pub goes_past_not : (tickets : List ℕ) → GoesPast waiting tickets tickets []
  goes_past_not tickets before past among =
      record { offered = before; past = past; before_in = λ offer at. at; own_in = λ offer at. absurd at }

  pub goes_past_both : (old mid more : List ℕ) (own other : List Pattern)
      → ((offer : Pattern) → In offer (offers_of (named waiting old)) → In offer (offers_of (named waiting mid)))
      → GoesPast waiting old mid own → GoesPast waiting mid more other → GoesPast waiting old more (own ++ other)
  goes_past_both old mid more own other grows first second before past among =
      let one = first before past (λ offer at. among offer (in_first own other offer at)) in
      let two = second one.offered one.past (λ offer at. grows offer (among offer (in_second own other offer at))) in
      record {
        offered = two.offered;
        past = two.past;
        before_in = λ offer at. two.before_in offer (one.before_in offer at);
        own_in = λ offer at.
            ⊎_elim (λ a. two.before_in offer (one.own_in offer a)) (λ b. two.own_in offer b)
            (in_either own other offer at);
      }

-- the offers of one party more
pub party_more : (waiting : Waiting) (mid new longer : List ℕ) (place : ℕ) (party : Party) → new ≡ mid ++ longer
    → place < length (named waiting mid) → party ≡ get_or (named waiting mid) place party
    → IsPastAll waiting mid [] (offers_of (take place (named waiting mid))) → GoesPast waiting mid new party.offers
    → IsPastAll waiting new [] (offers_of (take (place + 1) (named waiting new)))
party_more waiting mid new longer place party is low at one second = record {
  offered = two.offered;
  past = two.past;
  before_in = λ offer there. absurd there;
  own_in = λ offer there.
      ⊎_elim (λ a. two.before_in offer (one.own_in offer a)) (λ b. two.own_in offer b)
      (in_either (offers_of (take place (named waiting mid))) party.offers offer
      (subst (In offer) (ap offers_of front ∙ flat_map-append offered (take place (named waiting mid)) (party ∷ [])
      ∙ ap (λ (xs : List Pattern). offers_of (take place (named waiting mid)) ++ xs) (append-nil party.offers)) there));
}
  where
    offered : Party → List Pattern
    offered p = p.offers

    front : take (place + 1) (named waiting new) ≡ take place (named waiting mid) ++ party ∷ []
    front =
        ap (λ (xs : List ℕ). take (place + 1) (named waiting xs)) is
        ∙ ap (take (place + 1)) (named_more waiting mid longer)
        ∙ take-append-le (place + 1) (named waiting mid) (named waiting longer) (omega (arith, low))
        ∙ take_more (named waiting mid) place party low
        ∙ ap (λ (p : Party). take place (named waiting mid) ++ p ∷ []) (sym at)

    among : In party (named waiting mid)
    among = subst (λ (p : Party). In p (named waiting mid)) (sym at) (nth_in (named waiting mid) place party low)

    two : IsPastAll waiting new one.offered party.offers
    two = second one.offered one.past (λ offer there. to_flat offered (named waiting mid) party offer among there)

named_short : (waiting : Waiting) (tickets : List ℕ) → length (named waiting tickets) ≤ length tickets
named_short waiting [] = omega arith
named_short waiting (ticket ∷ tickets) = by (party_at waiting ticket) (named_short waiting tickets)
  where
    by : (who : Option Party) → length (named waiting tickets) ≤ length tickets
        → length (cons_option who (named waiting tickets)) ≤ length (ticket ∷ tickets)
    by None short = omega arith
    by (Some party) short = omega arith

-- behind the last member all offers are looked through
pub all_past : (waiting : Waiting) (tickets : List ℕ) (place : ℕ) → length (named waiting tickets) ≤ place
    → IsPastAll waiting tickets [] (offers_of (take place (named waiting tickets))) → IsWhole waiting tickets
all_past waiting tickets place long past =
    subst (λ (parties : List Party). IsPastAll waiting tickets [] (offers_of parties))
    (take_all place (named waiting tickets) long) past

pub all_past_most : (waiting : Waiting) (tickets : List ℕ) (place : ℕ) → length tickets ≤ place
    → IsPastAll waiting tickets [] (offers_of (take place (named waiting tickets))) → IsWhole waiting tickets
all_past_most waiting tickets place long past =
    let short = named_short waiting tickets in
    all_past waiting tickets place (omega arith) past
