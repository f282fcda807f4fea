-- Members take their seats.
use Rattle.std.proofs.Common.{◌≡◌, ℕ, Bool, true, false, ◌&&◌, ◌==◌, cond, List, [], ◌∷◌, ◌++◌, refl, sym, ap}
use Rattle.std.proofs.Common.{subst, ◌∙◌, arith, Option, Some, None, is_some}
use Rattle.std.specs.BTreeMap.{BTreeMap, get}
use Rattle.std.specs.Option.{option_map, option_or}
use Rattle.std.specs.Ordering.{is_eq, nat_cmp}
use Rattle.std.proofs.lemmas.List.Folds.{find-append}
use Rattle.ent_lists.specs.Elements.{and_both}
use Rattle.ent_lists.proofs.Numbers.{cmp_equal}
use Rattle.ent_lists.proofs.Orders.{is_eq-then}
use Rattle.ent_semantics.specs.declared.book.Member.{Member}
use Rattle.ent_history.specs.Placed.{Placed, member_at, stands_at}
use Rattle.ent_check.specs.Seats.{AreSeatsOf, place_cmp, seat_of}

-- the order of places tells a member's own
at_place : (a b tx place : ℕ) → is_eq (place_cmp (a, b) (tx, place)) ≡ ((a == tx) && (b == place))
at_place a b tx place =
    is_eq-then (nat_cmp a tx) (nat_cmp b place)
    ∙ ap (λ x. x && is_eq (nat_cmp b place)) (cmp_equal a tx)
    ∙ ap (λ y. (a == tx) && y) (cmp_equal b place)

some_mapped : (o : Option Placed) → is_some (option_map seat_of o) ≡ true → is_some o ≡ true
some_mapped (Some one) is = refl
some_mapped None is = is

none_mapped : (o : Option Placed) → is_some (option_map seat_of o) ≡ false → o ≡ None
none_mapped (Some one) is = cc (is)
none_mapped None is = refl

module _ (members : List Placed) (joint number : ℕ) (member : Member) where
  abbrev own : Placed
  own = record { joint = joint; number = number; member = member }

  after : (tx place : ℕ) → member_at (members ++ own ∷ []) tx place
      ≡ option_or (member_at members tx place) (cond (stands_at tx place member) (Some own) None)
  after tx place = find-append (λ (one : Placed). stands_at tx place one.member) members (own ∷ [])

  -- one more of a place that is taken changes nothing
  taken : (first : Option Placed) (b : Bool) → (b ≡ true → is_some first ≡ true)
      → option_map seat_of (option_or first (cond b (Some own) None)) ≡ option_map seat_of first
  taken (Some one) b is = refl
  taken None true is = cc (is refl)
  taken None false is = refl

  -- one more of a free place stands there
  free : (first : Option Placed) (b : Bool) → (b ≡ true → first ≡ None)
      → option_map seat_of (option_or first (cond b (Some own) None))
      ≡ cond b (Some (joint, number)) (option_map seat_of first)
  free (Some one) true is = cc (is refl)
  free (Some one) false is = refl
  free None true is = refl
  free None false is = refl

-- ---- all places

module _ (members : List Placed) (joint number : ℕ) (member : Member) where
  abbrev one_more : List Placed
  one_more = members ++ record { joint = joint; number = number; member = member } ∷ []

  its_place : (tx place : ℕ) (P : ℕ → ℕ → Type 0) → stands_at tx place member ≡ true → P member.tx member.place
      → P tx place
  its_place tx place P is own =
      let split = and_both (member.tx == tx) (member.place == place) is in
      let first : member.tx ≡ tx = grind (arith, split.0) in
      let second : member.place ≡ place = grind (arith, split.1) in
      subst (λ n. P n place) first (subst (λ n. P member.tx n) second own)

  pub seated : (seats : BTreeMap (ℕ × ℕ) (ℕ × ℕ)) → AreSeatsOf members seats
      → is_some (get place_cmp seats (member.tx, member.place)) ≡ true → AreSeatsOf one_more seats
  seated seats are there tx place =
      are tx place
      ∙ sym (ap (option_map seat_of) (after members joint number member tx place)
      ∙ taken members joint number member (member_at members tx place) (stands_at tx place member)
      (λ is. its_place tx place (λ t p. is_some (member_at members t p) ≡ true) is
      (some_mapped (member_at members member.tx member.place)
      (ap is_some (sym (are member.tx member.place)) ∙ there))))

  pub newly_seated : (seats more : BTreeMap (ℕ × ℕ) (ℕ × ℕ)) → AreSeatsOf members seats
      → is_some (get place_cmp seats (member.tx, member.place)) ≡ false
      → ((q : ℕ × ℕ) → get place_cmp more q
      ≡ cond (is_eq (place_cmp (member.tx, member.place) q)) (Some (joint, number)) (get place_cmp seats q))
      → AreSeatsOf one_more more
  newly_seated seats more are nobody updates tx place =
      updates (tx, place)
      ∙ ap (λ b. cond b (Some (joint, number)) (get place_cmp seats (tx, place)))
      (at_place member.tx member.place tx place)
      ∙ ap (λ o. cond (stands_at tx place member) (Some (joint, number)) o) (are tx place)
      ∙ sym (ap (option_map seat_of) (after members joint number member tx place)
      ∙ free members joint number member (member_at members tx place) (stands_at tx place member)
      (λ is. its_place tx place (λ t p. member_at members t p ≡ None) is
      (none_mapped (member_at members member.tx member.place)
      (ap is_some (sym (are member.tx member.place)) ∙ nobody))))
