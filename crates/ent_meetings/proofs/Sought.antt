-- Who fits what is sought is posted where it is looked for.
use Rattle.std.proofs.Common.{◌≡◌, ◌<◌, ◌≤◌, ℕ, zero, suc, true, false, ◌==◌, List, [], ◌∷◌, length}
use Rattle.std.proofs.Common.{All, ◌⊎◌, Option, None, Some, IsSome, get_or, refl, sym, ap, subst, ◌∙◌, inl, inr, ⊎_elim}
use Rattle.std.proofs.Common.{arith, eq-eqb}
use Rattle.std.specs.Cmp.Lexicographic.{pointwise}
use Rattle.std.specs.Option.{option_map_or}
use Rattle.std.specs.Ordering.{is_eq}
use Rattle.std.proofs.lemmas.List.{get_or_past}
use Rattle.std.proofs.lemmas.List.Elements.{All-contains}
use Rattle.std.proofs.lemmas.Map.Lookups.{exact_unsigned}
use Rattle.std.proofs.lemmas.Map.Views.{Contains-keys_from_lookup, tells_apart}
use Rattle.std.specs.Map.{keys_of}
use Rattle.std.proofs.lemmas.Bool.{cases_eq, cases_lt, or_left, or_right}
use Rattle.ent_lists.specs.Elements.{In, and_both, any_in, any_some}
use Rattle.ent_lists.proofs.Orders.{is_equal}
use Rattle.ent_semantics.specs.Database.{Name, same_name}
use Rattle.ent_semantics.specs.Names.{equal_names}
use Rattle.ent_value.specs.Order.{exact_values}
use Rattle.ent_value.specs.Value.{value_cmp}
use Rattle.ent_value.specs.declared.value.Value.{Value}
use Rattle.ent_meetings.specs.Pattern.{may_be_one, may_meet}
use Rattle.ent_meetings.specs.declared.party.Party.{Party}
use Rattle.ent_meetings.specs.declared.pattern.Pattern.{Pattern}
use Rattle.ent_meetings.specs.Keys.{has_key, has_key_below, have_key, key, key_at, unknown_at}
use Rattle.ent_meetings.specs.Postings.{Agrees, IsPosted, Postings, has}
use Rattle.ent_meetings.specs.Sides.{fits, fits_at, patterns_of}
use Rattle.ent_meetings.specs.Waiting.{Waiting, party_at}
use Rattle.ent_meetings.specs.declared.side.SoughtSide.{SoughtSide}
use Rattle.ent_meetings.specs.declared.side.SoughtSide.TheVariants.{Offers, Demands}

-- a term is like a known one: it is the same, or it isn't known
pub IsLike : Option Value → Option Value → Type 0
IsLike known other = (other ≡ known) ⊎ (other ≡ None)

same_values : (one other : Value) → is_eq (value_cmp one other) ≡ true → one ≡ other
same_values one other is = exact_values one other (is_equal (value_cmp one other) is)

like_offered : (demanded offered : Option Value) → may_be_one demanded offered ≡ true → IsSome demanded
    → IsLike demanded offered
unfolding IsLike
like_offered None offered is known = cc
like_offered (Some value) None is known = inr refl
like_offered (Some value) (Some other) is known = inl (ap (λ (v : Value). Some v) (sym (same_values value other is)))

like_demanded : (demanded offered : Option Value) → may_be_one demanded offered ≡ true → IsSome offered
    → IsLike offered demanded
unfolding IsLike
like_demanded demanded None is known = cc
like_demanded None (Some value) is known = inr refl
like_demanded (Some other) (Some value) is known = inl (ap (λ (v : Value). Some v) (same_values other value is))

-- rows that may be one have as many terms, and each two may be one
as_long : (xs ys : List (Option Value)) → pointwise may_be_one xs ys ≡ true → length xs ≡ length ys
as_long [] [] is = refl
as_long [] (y ∷ ys) is = cc
as_long (x ∷ xs) [] is = cc
as_long (x ∷ xs) (y ∷ ys) is = ap suc (as_long xs ys (and_both (may_be_one x y) (pointwise may_be_one xs ys) is).1)

each_may : (xs ys : List (Option Value)) → pointwise may_be_one xs ys ≡ true → (place : ℕ)
    → may_be_one (get_or xs place None) (get_or ys place None) ≡ true
each_may [] [] is place = refl
each_may [] (y ∷ ys) is place = cc
each_may (x ∷ xs) [] is place = cc
each_may (x ∷ xs) (y ∷ ys) is zero = (and_both (may_be_one x y) (pointwise may_be_one xs ys) is).0
each_may (x ∷ xs) (y ∷ ys) is (suc place) =
    each_may xs ys (and_both (may_be_one x y) (pointwise may_be_one xs ys) is).1 place

-- two patterns are of one relation and length, and where the one is known the other is like it
pub record Matches (sought other : Pattern) : Type 0 where
  pub relation : sought.relation ≡ other.relation
  pub size : length sought.terms ≡ length other.terms
  pub terms : (place : ℕ) → IsSome (get_or sought.terms place None)
      → IsLike (get_or sought.terms place None) (get_or other.terms place None)

offer_matches : (demand offer : Pattern) → may_meet demand offer ≡ true → Matches demand offer
offer_matches demand offer is =
    let both = and_both (same_name demand.relation offer.relation) (pointwise may_be_one demand.terms offer.terms) is in
    record {
      relation = equal_names demand.relation offer.relation both.0;
      size = as_long demand.terms offer.terms both.1;
      terms = λ place known. like_offered (get_or demand.terms place None) (get_or offer.terms place None)
          (each_may demand.terms offer.terms both.1 place) known;
    }

demand_matches : (offer demand : Pattern) → may_meet demand offer ≡ true → Matches offer demand
demand_matches offer demand is =
    let both = and_both (same_name demand.relation offer.relation) (pointwise may_be_one demand.terms offer.terms) is in
    record {
      relation = sym (equal_names demand.relation offer.relation both.0);
      size = sym (as_long demand.terms offer.terms both.1);
      terms = λ place known. like_demanded (get_or demand.terms place None) (get_or offer.terms place None)
          (each_may demand.terms offer.terms both.1 place) known;
    }

-- each place of a pattern has its key
has_place : (pattern : Pattern) (place more : ℕ) → place < more
    → has_key_below pattern more (key_at pattern place) ≡ true
has_place pattern place zero low = absurd (omega (arith, low))
has_place pattern place (suc more) low =
    ⊎_elim (λ same.
    or_left (key_at pattern more == key_at pattern place) (has_key_below pattern more (key_at pattern place))
    (eq-eqb (key_at pattern more) (key_at pattern place) (ap (key_at pattern) (sym same))))
    (λ apart.
    or_right (key_at pattern more == key_at pattern place) (has_key_below pattern more (key_at pattern place))
    (has_place pattern place more (omega (arith, low, apart))))
    (cases_eq place more)

-- a pattern of somebody fits what is sought
pub record Fitting (side : SoughtSide) (sought : Pattern) (party : Party) : Type 0 where
  pub pattern : Pattern
  pub among : In pattern (patterns_of side party)
  pub matches : Matches sought pattern

fitting : (side : SoughtSide) (sought : Pattern) (party : Party) → fits side sought party ≡ true
    → Fitting side sought party
fitting Offers sought party is =
    let some = any_some (may_meet sought) party.offers is in
    record { pattern = some.0; among = some.1; matches = offer_matches sought some.0 some.2 }
fitting Demands sought party is =
    let some = any_some (λ demand. may_meet demand sought) party.demands is in
    record { pattern = some.0; among = some.1; matches = demand_matches sought some.0 some.2 }

known_within : (terms : List (Option Value)) (place : ℕ) → IsSome (get_or terms place None) → place < length terms
known_within terms place known =
    ⊎_elim (λ low. low) (λ past. let unknown : false ≡ true = subst IsSome (get_or_past terms place None past) known in
    cc) (cases_lt place (length terms))

module _ (side : SoughtSide) (waiting : Waiting) (postings : Postings) (sought : Pattern) (ticket : ℕ)
    (posted : IsPosted (patterns_of side) waiting postings) (party : Party)
    (waits : party_at waiting ticket ≡ Some party)
    (some : Fitting side sought party) where
  stands : (place : ℕ) → place ≤ length some.pattern.terms → has postings (key_at some.pattern place) ticket ≡ true
  stands place within =
      posted (key_at some.pattern place) ticket
      ∙ ap (λ (who : Option Party). option_map_or (λ own. have_key (patterns_of side own) (key_at some.pattern place))
      who false) waits
      ∙ any_in (has_key (key_at some.pattern place)) (patterns_of side party) some.pattern some.among
      (has_place some.pattern place (suc (length some.pattern.terms)) (omega (arith, within)))

  key_as : (place : ℕ) (term : Option Value) → get_or some.pattern.terms place None ≡ term
      → key_at some.pattern place ≡ key sought.relation (length sought.terms) place term
  key_as place term is =
      ap (λ (name : Name). key name (length some.pattern.terms) place (get_or some.pattern.terms place None))
      (sym some.matches.relation)
      ∙ ap (λ (size : ℕ). key sought.relation size place (get_or some.pattern.terms place None)) (sym some.matches.size)
      ∙ ap (key sought.relation (length sought.terms) place) is

  pub agrees : Agrees postings sought ticket
  unfolding IsLike
  agrees = record {
    at = λ place known.
        let low = known_within sought.terms place known in
        let there = stands place (let size = some.matches.size in omega arith) in
        ⊎_elim (λ same.
        or_left (has postings (key_at sought place) ticket) (has postings (unknown_at sought place) ticket)
        (subst (λ (k : ℕ). has postings k ticket ≡ true) (key_as place (get_or sought.terms place None) same) there))
        (λ unknown.
        or_right (has postings (key_at sought place) ticket) (has postings (unknown_at sought place) ticket)
        (subst (λ (k : ℕ). has postings k ticket ≡ true) (key_as place None unknown) there))
        (some.matches.terms place known);
    behind =
        let place = length sought.terms in
        let there = stands place (let size = some.matches.size in omega arith) in
        or_right (has postings (key_at sought place) ticket) (has postings (unknown_at sought place) ticket)
        (subst (λ (k : ℕ). has postings k ticket ≡ true)
        (key_as place None (get_or_past some.pattern.terms place None
        (let size = some.matches.size in omega arith))) there);
  }

-- who fits agrees with what is sought
pub fitting_agrees : (side : SoughtSide) (waiting : Waiting) (postings : Postings) (sought : Pattern) (ticket : ℕ)
    → IsPosted (patterns_of side) waiting postings → fits_at side waiting sought ticket ≡ true
    → Agrees postings sought ticket
fitting_agrees side waiting postings sought ticket posted is = by (party_at waiting ticket) refl is
  where
    by : (who : Option Party) → party_at waiting ticket ≡ who → option_map_or (fits side sought) who false ≡ true
        → Agrees postings sought ticket
    by None at is' = cc
    by (Some party) at is' = agrees side waiting postings sought ticket posted party at (fitting side sought party is')

-- who fits waits, so the ticket is a number of the index
pub fitting_waits : (side : SoughtSide) (waiting : Waiting) (sought : Pattern) (P : ℕ → Type 0)
    → All P (keys_of waiting) → (ticket : ℕ) → fits_at side waiting sought ticket ≡ true → P ticket
fitting_waits side waiting sought P all ticket is = by (party_at waiting ticket) refl is
  where
    by : (who : Option Party) → party_at waiting ticket ≡ who → option_map_or (fits side sought) who false ≡ true
        → P ticket
    by None at is' = cc
    by (Some party) at is' =
        All-contains P (keys_of waiting) ticket all
        (Contains-keys_from_lookup (tells_apart exact_unsigned) ticket waiting (subst IsSome (sym at) refl))
