-- The parties that tickets name.
use Rattle.std.proofs.Common.{◌≡◌, ◌<◌, ℕ, Bool, true, false, not, cond, List, [], ◌∷◌, ◌++◌, ◌+◌, length, take}
use Rattle.std.proofs.Common.{get_or, Option, None, Some, IsSome, Contains, refl, sym, ap, subst, ◌∙◌, inl, inr}
use Rattle.std.specs.List.{cons_option, filter_map, find}
use Rattle.std.specs.Option.{option_map_or}
use Rattle.std.proofs.lemmas.List.{take_more}
use Rattle.std.proofs.lemmas.List.Elements.{filter_map-append}
use Rattle.ent_lists.specs.Elements.{In, any_in, any_some, contains_in, in_contains, in_flat, to_flat, turned}
use Rattle.ent_lists.proofs.Lists.{of_index, index_all}
use Rattle.ent_meetings.specs.PartyMeeting.{IsClosed, MeetAll, is_met, offers}
use Rattle.ent_meetings.specs.declared.party.Party.{Party}
use Rattle.ent_meetings.specs.declared.pattern.Pattern.{Pattern}
use Rattle.ent_meetings.specs.Group.{demands_of, first_unmet}
use Rattle.ent_meetings.specs.Meeting.{IsWithin}
use Rattle.ent_meetings.specs.Waiting.{Waiting, Waits, named, offers_at, party_at}

pub within : (one others : List ℕ) (ticket : ℕ) → IsWithin one others → In ticket one → In ticket others
within one others ticket all at = contains_in others ticket (of_index (Contains others) one ticket all at)

pub within_by : (one others : List ℕ) → ((ticket : ℕ) → In ticket one → In ticket others) → IsWithin one others
within_by one others f = index_all (Contains others) one (λ ticket at. in_contains others ticket (f ticket at))

pub within_both : (one mid others : List ℕ) → IsWithin one mid → IsWithin mid others → IsWithin one others
within_both one mid others first second =
    within_by one others (λ ticket at. within mid others ticket second (within one mid ticket first at))

module _ {X Y : Type 0} (f : X → Option Y) where
  pub of_named : (xs : List X) (y : Y) → In y (filter_map f xs) → (x : X) × In x xs × (f x ≡ Some y)
  of_named [] y at = absurd at
  of_named (x ∷ xs) y at = by (f x) refl (of_named xs y) at
    where
      further : (z : X) × In z xs × (f z ≡ Some y) → (z : X) × In z (x ∷ xs) × (f z ≡ Some y)
      further r = (r.0, inr r.1, r.2)

      by : (o : Option Y) → f x ≡ o → (In y (filter_map f xs) → (z : X) × In z xs × (f z ≡ Some y))
          → In y (cons_option o (filter_map f xs)) → (z : X) × In z (x ∷ xs) × (f z ≡ Some y)
      by None is rest there = further (rest there)
      by (Some z) is rest (inl same) = (x, inl refl, is ∙ ap (λ (w : Y). Some w) (sym same))
      by (Some z) is rest (inr there) = further (rest there)

  pub to_named : (xs : List X) (x : X) (y : Y) → In x xs → f x ≡ Some y → In y (filter_map f xs)
  to_named [] x y at is = absurd at
  to_named (z ∷ xs) x y (inl same) is =
      subst (λ (o : Option Y). In y (cons_option o (filter_map f xs))) (sym is ∙ ap f same) (inl refl)
  to_named (z ∷ xs) x y (inr at) is = by (f z) (to_named xs x y at is)
    where
      by : (o : Option Y) → In y (filter_map f xs) → In y (cons_option o (filter_map f xs))
      by None there = there
      by (Some w) there = inr there

pub found_in : {X : Type 0} (p : X → Bool) (xs : List X) (x : X) → find p xs ≡ Some x → In x xs × (p x ≡ true)
found_in p [] x is = cc
found_in {X} p (y ∷ ys) x is = by (p y) refl (found_in p ys x) is
  where
    by : (b : Bool) → p y ≡ b → (find p ys ≡ Some x → In x ys × (p x ≡ true)) → cond b (Some y) (find p ys) ≡ Some x
        → In x (y ∷ ys) × (p x ≡ true)
    by true passes rest here = let same : y ≡ x = cc in (inl (sym same), ap p (sym same) ∙ passes)
    by false fails rest there = let r = rest there in (inr r.0, r.1)

pub none_found : {X : Type 0} (p : X → Bool) (xs : List X) → find p xs ≡ None → (x : X) → In x xs → p x ≡ false
none_found p [] is x at = absurd at
none_found {X} p (y ∷ ys) is x at = by (p y) refl (none_found p ys) is at
  where
    by : (b : Bool) → p y ≡ b → (find p ys ≡ None → (x : X) → In x ys → p x ≡ false)
        → cond b (Some y) (find p ys) ≡ None → In x (y ∷ ys) → p x ≡ false
    by true passes rest some here = cc
    by false fails rest none (inl same) = ap p same ∙ fails
    by false fails rest none (inr there) = rest none x there

module _ (waiting : Waiting) where
  -- one of those named may offer the demand
  pub giver_of : (tickets : List ℕ) (demand : Pattern) → is_met (named waiting tickets) demand ≡ true
      → (ticket : ℕ) × In ticket tickets × (offers_at waiting demand ticket ≡ true)
  giver_of tickets demand met =
      let some = any_some (offers demand) (named waiting tickets) met in
      let from = of_named (party_at waiting) tickets some.0 some.1 in
      (from.0, from.1, ap (λ (who : Option Party). option_map_or (offers demand) who false) from.2 ∙ some.2)

  pub met_by : (tickets : List ℕ) (demand : Pattern) (ticket : ℕ) → In ticket tickets
      → offers_at waiting demand ticket ≡ true → is_met (named waiting tickets) demand ≡ true
  met_by tickets demand ticket at is = by (party_at waiting ticket) refl is
    where
      by : (who : Option Party) → party_at waiting ticket ≡ who → option_map_or (offers demand) who false ≡ true
          → is_met (named waiting tickets) demand ≡ true
      by None who is' = cc
      by (Some party) who is' =
          any_in (offers demand) (named waiting tickets) party
          (to_named (party_at waiting) tickets ticket party at who) is'

  -- who may offer something waits
  pub giver_waits : (demand : Pattern) (ticket : ℕ) → offers_at waiting demand ticket ≡ true → Waits waiting ticket
  giver_waits demand ticket is = by (party_at waiting ticket) is
    where
      by : (who : Option Party) → option_map_or (offers demand) who false ≡ true → IsSome who
      by None is' = cc
      by (Some party) is' = refl

  -- what some demand among those that are more
  pub demanded_more : (one others : List ℕ) (demand : Pattern) → IsWithin one others
      → In demand (demands_of (named waiting one))
      → In demand (demands_of (named waiting others))
  demanded_more one others demand all at =
      let from = in_flat (λ (party : Party). party.demands) (named waiting one) demand at in
      let who = of_named (party_at waiting) one from.0 from.1 in
      to_flat (λ (party : Party). party.demands) (named waiting others) from.0 demand
      (to_named (party_at waiting) others who.0 from.0 (within one others who.0 all who.1) who.2) from.2

-- what is demanded in a closed set is met
pub closed_meets : (parties : List Party) (demand : Pattern) → IsClosed parties → In demand (demands_of parties)
    → is_met parties demand ≡ true
closed_meets parties demand closed at =
    let from = in_flat (λ (party : Party). party.demands) parties demand at in
    of_index (λ (d : Pattern). is_met parties d ≡ true) from.0.demands demand
    (of_index (MeetAll parties) parties from.0 closed from.1) from.2

-- where nothing is unmet, the set is closed
pub closed_by : (parties : List Party) → first_unmet parties ≡ None → IsClosed parties
closed_by parties none =
    index_all (MeetAll parties) parties (λ party at.
    index_all (λ (demand : Pattern). is_met parties demand ≡ true) party.demands (λ demand there.
    turned' (is_met parties demand)
    (none_found (λ (d : Pattern). not (is_met parties d)) (demands_of parties) none demand
    (to_flat (λ (p : Party). p.demands) parties party demand at there))))
  where
    turned' : (b : Bool) → not b ≡ false → b ≡ true
    turned' true is = refl
    turned' false is = cc

-- one more ticket
pub named_more : {X Y : Type 0} (f : X → Option Y) (xs : List X) (i : ℕ) (d : X) → i < length xs
    → filter_map f (take (i + 1) xs) ≡ filter_map f (take i xs) ++ cons_option (f (get_or xs i d)) []
named_more f xs i d low = ap (filter_map f) (take_more xs i d low)
    ∙ filter_map-append f (take i xs) (get_or xs i d ∷ [])

-- where something is unmet, the set isn't
pub unmet_opens : (parties : List Party) (demand : Pattern) → first_unmet parties ≡ Some demand → IsClosed parties → ⊥
unmet_opens parties demand unmet closed =
    let found = found_in (λ (d : Pattern). not (is_met parties d)) (demands_of parties) demand unmet in
    let met = closed_meets parties demand closed found.0 in
    let open' = turned (is_met parties demand) found.1 in
    absurd (let e = sym met ∙ open' in cc)
