-- Offers that are put down, and the offers of a pool.
use Rattle.std.proofs.Common.{◌≡◌, ◌≢◌, ◌⊎◌, ◌∙◌, ℕ, ◌+◌, ◌<◌, ◌≤◌, true, not, List, [], ◌∷◌, ◌++◌}
use Rattle.std.proofs.Common.{filter, take, length, get_or, refl, sym, ap, subst, arith, inl, inr}
use Rattle.std.proofs.Common.{Option, Some, None}
use Rattle.std.specs.Prelude.{◌==◌, Contains, MatchOption}
use Rattle.std.proofs.lemmas.Bool.{cases_Bool, cases_lt, eq-eqb}
use Rattle.std.proofs.lemmas.List.Elements.{Contains-push_cases, Contains-push, Contains-append_left, Contains-get_or}
use Rattle.std.proofs.lemmas.Option.{slice_get_within}
use Rattle.ent_lists.specs.Elements.{clash, turned, or_first, or_second, or_cases, not_so, same_number}
use Rattle.ent_lists.specs.Elements.{other_number, differ}
use Rattle.ent_lists.proofs.Contained.{to_filtered, of_filtered}
use Rattle.ent_semantics.specs.Pool.{Posted, CanMeet, IsSafe}
use Rattle.ent_match.specs.declared.offers.Offer.{Offer}
use Rattle.ent_match.specs.Fault.{HasNoOwner, IsByNumber, IsSafeBut}
use Rattle.ent_match.specs.Offers.{AreOffers, AreOffersBut, GrowBy, IsBetween, IsContested, IsMetBy}
use Rattle.ent_match.specs.Offers.{IsOfPair, IsOffered, NoneIsFor, is_of, is_of_others}
use Rattle.ent_match.specs.Place.{HasNoneOf, IsPlaceOf}
use Rattle.ent_match.specs.Posting.{Adds, HasNone, is_of_other}
use Rattle.ent_match.specs.Remainder.{IsOwnerAt}
use Rattle.ent_match.proofs.Marks.{same_or_not}
use Rattle.ent_match.proofs.Numbered.{front_cases, front_all, same_member}

abbrev pub offer_of : ℕ → ℕ → ℕ → Offer
offer_of asker index owner = record { asker = asker; index = index; owner = owner }

-- ---- lists that grow

pub grow_push : (IsNew : Offer → Type 0) (first old new : List Offer) (made : Offer) → new ≡ old ++ made ∷ []
    → IsNew made → GrowBy first old IsNew → GrowBy first new IsNew
grow_push IsNew first old new made pushed is grow =
    record {
      kept = λ offer inside. subst (λ xs. Contains xs offer) (sym pushed)
          (Contains-append_left old (made ∷ []) offer (grow.kept offer inside));
      sound = λ offer inside.
          elim (Contains-push_cases old made offer (subst (λ xs. Contains xs offer) pushed inside)) [
            | inl before ↦ grow.sound offer before
            | inr last ↦ inr (subst IsNew last is)
          ];
    }

pub grow_then : (IsNew IsNext : Offer → Type 0) (first old new : List Offer)
    → ((offer : Offer) → IsNext offer → IsNew offer) → GrowBy first old IsNew → GrowBy old new IsNext
    → GrowBy first new IsNew
grow_then IsNew IsNext first old new into before after =
    record {
      kept = λ offer inside. after.kept offer (before.kept offer inside);
      sound = λ offer inside. elim (after.sound offer inside) [
        | inl earlier ↦ before.sound offer earlier
        | inr made ↦ inr (into offer made)
      ];
    }

-- what is put down of the first so many posts of a statement
pub record MetSoFar (first new : List Offer) (asker owner : Posted) (n : ℕ) : Type 0 where
  pub grow : GrowBy first new (IsMetBy asker owner)
  pub so_far : (index : ℕ) → index < n → CanMeet asker index owner
      → Contains new (offer_of asker.tx index owner.tx)

pub met_more : (first old new : List Offer) (asker owner : Posted) (i a b : ℕ) → a ≡ asker.tx → b ≡ owner.tx
    → new ≡ old ++ offer_of a i b ∷ [] → CanMeet asker i owner → MetSoFar first old asker owner i
    → MetSoFar first new asker owner (i + 1)
met_more first old new asker owner i a b is_a is_b pushed meets before =
    record {
      grow = grow_push (IsMetBy asker owner) first old new (offer_of a i b) pushed (is_a, is_b, meets) before.grow;
      so_far = λ index below met. elim (cases_lt index i) [
        | inl less ↦ subst (λ xs. Contains xs (offer_of asker.tx index owner.tx)) (sym pushed)
            (Contains-append_left old (offer_of a i b ∷ []) (offer_of asker.tx index owner.tx)
            (before.so_far index less met))
        | inr not_less ↦
            let here : i ≡ index = omega arith in
            subst (λ k. Contains new (offer_of asker.tx k owner.tx)) here last
      ];
    }
  where
    last : Contains new (offer_of asker.tx i owner.tx)
    last =
        subst (λ t. Contains new (offer_of t i owner.tx)) is_a
        (subst (λ t. Contains new (offer_of a i t)) is_b
        (subst (λ xs. Contains xs (offer_of a i b)) (sym pushed) (Contains-push old (offer_of a i b))))

pub met_same : (first old : List Offer) (asker owner : Posted) (i : ℕ) → (CanMeet asker i owner → ⊥)
    → MetSoFar first old asker owner i → MetSoFar first old asker owner (i + 1)
met_same first old asker owner i none before =
    record {
      grow = before.grow;
      so_far = λ index below met. elim (cases_lt index i) [
        | inl less ↦ before.so_far index less met
        | inr not_less ↦
            let here : index ≡ i = omega arith in absurd (none (subst (λ k. CanMeet asker k owner) here met))
      ];
    }

pub met_all : (first new : List Offer) (asker owner : Posted) (n : ℕ) → length asker.statement.posts ≤ n
    → MetSoFar first new asker owner n → (offer : Offer) → IsMetBy asker owner offer → Contains new offer
met_all first new asker owner n all are offer (is_asker, is_owner, meets) =
    let within = slice_get_within asker.statement.posts offer.index meets.post meets.is_post in
    let listed = are.so_far offer.index (omega arith) meets in
    subst (λ t. Contains new (offer_of t offer.index offer.owner)) (sym is_asker)
    (subst (λ t. Contains new (offer_of asker.tx offer.index t)) (sym is_owner) listed)

-- ---- statement by statement

-- what is put down of the first so many statements of a pool
pub record BetweenSoFar (first new : List Offer) (pool : List Posted) (one : Posted) (n : ℕ) : Type 0 where
  pub grow : GrowBy first new (IsBetween pool one)
  pub so_far : (offer : Offer) → IsBetween (take n pool) one offer → Contains new offer

pub between_grow : (first old new : List Offer) (pool : List Posted) (one : Posted) (n : ℕ) (o : Posted)
    → n < length pool → o ≡ get_or pool n o → GrowBy old new (IsOfPair o one)
    → BetweenSoFar first old pool one n → GrowBy first new (IsBetween pool one)
between_grow first old new pool one n o below is grow before =
    grow_then (IsBetween pool one) (IsOfPair o one) first old new (λ offer pair. (o, (n, below, sym is), pair))
    before.grow grow

pub between_more : (first old new : List Offer) (pool : List Posted) (one : Posted) (n : ℕ) (o : Posted)
    → n < length pool → o ≡ get_or pool n o → GrowBy old new (IsOfPair o one)
    → ((offer : Offer) → IsOfPair o one offer → Contains new offer)
    → BetweenSoFar first old pool one n → BetweenSoFar first new pool one (n + 1)
between_more first old new pool one n o below is grow all before =
    record {
      grow = between_grow first old new pool one n o below is grow before;
      so_far = λ offer between. elim (front_cases pool n o between.0 below is between.1) [
        | inl front ↦ grow.kept offer (before.so_far offer (between.0, front, between.2))
        | inr last ↦ all offer (subst (λ z. IsOfPair z one offer) (sym last) between.2)
      ];
    }

pub between_all : (first new : List Offer) (pool : List Posted) (one : Posted) (n : ℕ) → length pool ≤ n
    → BetweenSoFar first new pool one n → (offer : Offer) → IsBetween pool one offer → Contains new offer
between_all first new pool one n all are offer between =
    are.so_far offer (between.0, front_all pool n between.0 all between.1, between.2)

-- ---- offers by a transaction, and to it

pub own_cases : (tx : ℕ) (offer : Offer) → is_of tx offer ≡ true → (offer.asker ≡ tx) ⊎ (offer.owner ≡ tx)
own_cases tx offer is =
    elim (or_cases (offer.asker == tx) (offer.owner == tx) is) [
      | inl one ↦ inl (same_number offer.asker tx one)
      | inr one ↦ inr (same_number offer.owner tx one)
    ]

pub own_asker : (tx : ℕ) (offer : Offer) → offer.asker ≡ tx → is_of tx offer ≡ true
own_asker tx offer same = or_first (offer.asker == tx) (offer.owner == tx) (eq-eqb offer.asker tx same)

pub own_owner : (tx : ℕ) (offer : Offer) → offer.owner ≡ tx → is_of tx offer ≡ true
own_owner tx offer same = or_second (offer.asker == tx) (offer.owner == tx) (eq-eqb offer.owner tx same)

own_or_other : (tx : ℕ) (offer : Offer) → (is_of tx offer ≡ true) ⊎ (is_of_others tx offer ≡ true)
own_or_other tx offer = elim (cases_Bool (is_of tx offer)) [ inl own ↦ inl own | inr other ↦ inr (ap not other) ]

-- an offer is of a transaction, or it isn't
one_way : {A : Type 0} (tx : ℕ) (offer : Offer) → is_of_others tx offer ≡ true → is_of tx offer ≡ true → A
one_way tx offer others own = clash (is_of tx offer) own (turned (is_of tx offer) others)

of_others : (tx : ℕ) (offer : Offer) → offer.asker ≢ tx → offer.owner ≢ tx → is_of_others tx offer ≡ true
of_others tx offer asker owner =
    ap not (not_so (is_of tx offer)
    (λ is. elim (own_cases tx offer is) [ inl same ↦ asker same | inr same ↦ owner same ]))

-- ---- a new statement

module _ (pool : List Posted) (one : Posted) where
  between_own : (offer : Offer) → IsBetween pool one offer → is_of one.tx offer ≡ true
  between_own offer (member, inside, inl met) = own_owner one.tx offer met.1
  between_own offer (member, inside, inr met) = own_asker one.tx offer met.0

  between_offered : Contains pool one → (offer : Offer) → IsBetween pool one offer → IsOffered pool offer
  between_offered is_in offer (member, inside, inl met) =
      record {
        asker = member;
        asks = inside;
        asker_is = sym met.0;
        partner = one;
        offers = is_in;
        partner_is = sym met.1;
        meets = met.2;
      }
  between_offered is_in offer (member, inside, inr met) =
      record {
        asker = one;
        asks = is_in;
        asker_is = sym met.0;
        partner = member;
        offers = inside;
        partner_is = sym met.1;
        meets = met.2;
      }

  -- the offers that are left once those of the one are taken out
  pub left_offers : (old new : List Offer) → AreOffersBut pool one.tx old → GrowBy old new (IsBetween pool one)
      → AreOffersBut pool one.tx (filter (is_of_others one.tx) new)
  left_offers old new are grow offer = (
    (λ inside.
        let kept = of_filtered (is_of_others one.tx) new offer inside in
        elim (grow.sound offer kept.0) [
          | inl before ↦ (are offer).0 before
          | inr between ↦ one_way one.tx offer kept.1 (between_own offer between)
        ]),
    (λ both. to_filtered (is_of_others one.tx) new offer (grow.kept offer ((are offer).1 both)) both.1),
  )

  module _ (ordered : IsByNumber pool) (is_in : Contains pool one) where
    own_between : (offer : Offer) → IsOffered pool offer → is_of one.tx offer ≡ true → IsBetween pool one offer
    own_between offer h own =
        elim (own_cases one.tx offer own) [
          | inl same ↦
              let is = same_member pool ordered h.asker one h.asks is_in (h.asker_is ∙ same) in (
                h.partner,
                h.offers,
                inr (same, sym h.partner_is, subst (λ z. CanMeet z offer.index h.partner) is h.meets),
              )
          | inr same ↦
              let is = same_member pool ordered h.partner one h.offers is_in (h.partner_is ∙ same) in
              (h.asker, h.asks, inl (sym h.asker_is, same, subst (λ z. CanMeet h.asker offer.index z) is h.meets))
        ]

    -- the offers of all, with those between the one and each
    pub all_offers : (old new : List Offer) → AreOffersBut pool one.tx old → GrowBy old new (IsBetween pool one)
        → ((offer : Offer) → IsBetween pool one offer → Contains new offer) → AreOffers pool new
    all_offers old new are grow all offer = (
      (λ inside. elim (grow.sound offer inside) [
        | inl before ↦ ((are offer).0 before).0
        | inr between ↦ between_offered is_in offer between
      ]),
      (λ offered. elim (own_or_other one.tx offer) [
        | inl own ↦ all offer (own_between offer offered own)
        | inr other ↦ grow.kept offer ((are offer).1 (offered, other))
      ]),
    )

    -- a pool is safe that is safe without the one, where no two offer for a post, and the one has a part in it
    pub safe_uncontested : (offers : List Offer) → AreOffers pool offers → IsSafeBut pool one
        → (IsContested offers one.tx → ⊥) → IsSafe pool
    safe_uncontested offers are safe none asker first second index asks a b meets met =
        let left = offer_of asker.tx index first.tx in
        let right = offer_of asker.tx index second.tx in
        let in_left : Contains offers left = (are left).1 (record {
          asker = asker;
          asks = asks;
          asker_is = refl;
          partner = first;
          offers = a;
          partner_is = refl;
          meets = meets;
        }) in
        let in_right : Contains offers right = (are right).1 (record {
          asker = asker;
          asks = asks;
          asker_is = refl;
          partner = second;
          offers = b;
          partner_is = refl;
          meets = met;
        }) in
        elim (same_or_not first.tx second.tx) [
          | inl same ↦ same
          | inr differ ↦ elim (own_or_other one.tx left) [
            | inl own ↦ absurd (none (record {
              offer = left;
              listed = in_left;
              is_own = own;
              rival = record { other = right; listed = in_right; rivals = (refl, refl, λ e. differ (sym e)) };
            }))
            | inr other ↦ elim (own_or_other one.tx right) [
              | inl own ↦ absurd (none (record {
                offer = right;
                listed = in_right;
                is_own = own;
                rival = record { other = left; listed = in_left; rivals = (refl, refl, differ) };
              }))
              | inr other_right ↦
                  safe asker first second index asks a b (λ e. one_way one.tx left other (own_asker one.tx left e))
                  (λ e. one_way one.tx left other (own_owner one.tx left e))
                  (λ e. one_way one.tx right other_right (own_owner one.tx right e)) meets met
            ]
          ]
        ]

-- ---- a pool with a statement, and without it

module _ (old new : List Posted) (member : Posted) (adds : Adds old new member) (none : HasNone old member) where
  old_offered : (offer : Offer) → IsOffered old offer → IsOffered new offer × (is_of_others member.tx offer ≡ true)
  old_offered offer h = (
    record {
      asker = h.asker;
      asks = (adds h.asker).1 (inl h.asks);
      asker_is = h.asker_is;
      partner = h.partner;
      offers = (adds h.partner).1 (inl h.offers);
      partner_is = h.partner_is;
      meets = h.meets;
    },
    of_others member.tx offer (λ e. none h.asker h.asks (h.asker_is ∙ e))
        (λ e. none h.partner h.offers (h.partner_is ∙ e)),
  )

  still_old : (offer : Offer) → IsOffered new offer → is_of_others member.tx offer ≡ true → IsOffered old offer
  still_old offer h others =
      record {
        asker = h.asker;
        asks = elim ((adds h.asker).0 h.asks) [
          | inl before ↦ before
          | inr own ↦ one_way member.tx offer others
              (own_asker member.tx offer (sym h.asker_is ∙ sym (ap (λ z. z.tx) own)))
        ];
        asker_is = h.asker_is;
        partner = h.partner;
        offers = elim ((adds h.partner).0 h.offers) [
          | inl before ↦ before
          | inr own ↦ one_way member.tx offer others
              (own_owner member.tx offer (sym h.partner_is ∙ sym (ap (λ z. z.tx) own)))
        ];
        partner_is = h.partner_is;
        meets = h.meets;
      }

  pub but_new : (offers : List Offer) → AreOffers old offers → AreOffersBut new member.tx offers
  but_new offers are offer = (
    (λ inside. old_offered offer ((are offer).0 inside)),
    (λ both. (are offer).1 (still_old offer both.0 both.1)),
  )

  pub of_old : (offers : List Offer) → AreOffersBut new member.tx offers → AreOffers old offers
  of_old offers are offer = (
    (λ inside. let both = (are offer).0 inside in still_old offer both.0 both.1),
    (λ offered. (are offer).1 (old_offered offer offered)),
  )

pub left_over : (pool : List Posted) (tx : ℕ) (offers : List Offer) → AreOffers pool offers
    → AreOffers (filter (is_of_other tx) pool) (filter (is_of_others tx) offers)
left_over pool tx offers are offer = (
  (λ inside.
      let kept = of_filtered (is_of_others tx) offers offer inside in
      let h = (are offer).0 kept.0 in
      record {
        asker = h.asker;
        asks = stays h.asker h.asks (λ e. one_way tx offer kept.1 (own_asker tx offer (sym h.asker_is ∙ e)));
        asker_is = h.asker_is;
        partner = h.partner;
        offers = stays h.partner h.offers (λ e. one_way tx offer kept.1 (own_owner tx offer (sym h.partner_is ∙ e)));
        partner_is = h.partner_is;
        meets = h.meets;
      }),
  (λ h.
      let asks = of_filtered (is_of_other tx) pool h.asker h.asks in
      let offers_it = of_filtered (is_of_other tx) pool h.partner h.offers in
      let whole : IsOffered pool offer = record {
        asker = h.asker;
        asks = asks.0;
        asker_is = h.asker_is;
        partner = h.partner;
        offers = offers_it.0;
        partner_is = h.partner_is;
        meets = h.meets;
      } in
      to_filtered (is_of_others tx) offers offer ((are offer).1 whole)
      (of_others tx offer
      (λ e. differ h.asker.tx tx (turned (h.asker.tx == tx) asks.1) (h.asker_is ∙ e))
      (λ e. differ h.partner.tx tx (turned (h.partner.tx == tx) offers_it.1) (h.partner_is ∙ e)))),
)
  where
    stays : (member : Posted) → Contains pool member → member.tx ≢ tx → Contains (filter (is_of_other tx) pool) member
    stays member inside other =
        to_filtered (is_of_other tx) pool member inside (ap not (other_number member.tx tx other))

-- ---- the owner of a head

pub owner_at : (pool : List Posted) (offers : List Offer) (asker : Posted) (index : ℕ) → IsByNumber pool
    → AreOffers pool offers → Contains pool asker → (o : Offer) → Contains offers o → o.asker ≡ asker.tx
    → o.index ≡ index → (r : Option ℕ) → MatchOption r (HasNoneOf pool o.owner) (IsPlaceOf pool o.owner)
    → MatchOption r (HasNoOwner pool asker index) (IsOwnerAt pool asker index)
owner_at pool offers asker index ordered are asks o inside is_asker is_index None none =
    let h = (are o).0 inside in absurd (none h.partner h.offers h.partner_is)
owner_at pool offers asker index ordered are asks o inside is_asker is_index (Some place) found =
    let h = (are o).0 inside in
    let own = same_member pool ordered h.asker asker h.asks asks (h.asker_is ∙ is_asker) in
    let there = Contains-get_or pool place h.partner found.0 in
    let same = same_member pool ordered (get_or pool place h.partner) h.partner there h.offers
    (found.1 h.partner ∙ sym h.partner_is) in
    record {
      owner = h.partner;
      offers = (found.0, same);
      meets = subst (λ i. CanMeet asker i h.partner) is_index (subst (λ z. CanMeet z o.index h.partner) own h.meets);
    }

pub no_owner : (pool : List Posted) (offers : List Offer) (asker : Posted) (index : ℕ) → AreOffers pool offers
    → Contains pool asker → NoneIsFor offers asker.tx index 0 (length offers) → HasNoOwner pool asker index
no_owner pool offers asker index are asks none owner inside meets =
    let made = offer_of asker.tx index owner.tx in
    let listed : Contains offers made = (are made).1 (record {
      asker = asker;
      asks = asks;
      asker_is = refl;
      partner = owner;
      offers = inside;
      partner_is = refl;
      meets = meets;
    }) in
    none listed.0 made (omega arith) listed.1
    (ap (λ (x : Offer). x.asker) listed.2, ap (λ (x : Offer). x.index) listed.2)
