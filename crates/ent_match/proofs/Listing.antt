-- What a pool's links say of its remainder.
use Rattle.std.proofs.Common.{◌≡◌, ℕ, zero, suc, ◌<◌, Bool, true, false, not, cond, List, [], ◌∷◌}
use Rattle.std.proofs.Common.{length, get_or, sym, ◌∙◌, ap, subst, arith, inl, inr, true≢false}
use Rattle.std.specs.Prelude.{Contains, ◌==◌, if◌then◌else◌}
use Rattle.std.proofs.lemmas.Bool.{cases_lt, cases_Bool, eq-eqb, eqb-true, not_from_false}
use Rattle.std.proofs.lemmas.Option.{slice_get_within}
use Rattle.ent_lists.specs.Elements.{turned}
use Rattle.ent_semantics.specs.Component.{IsInRemainder, IsSupported}
use Rattle.ent_semantics.specs.Component.{SetOfTransactions}
use Rattle.ent_semantics.specs.Pool.{Posted, CanMeet, IsSafe}
use Rattle.ent_match.specs.declared.link.Link.{Link}
use Rattle.ent_match.specs.Fault.{IsByNumber}
use Rattle.ent_match.specs.Links.{IsMarked, PathIn, Closes}
use Rattle.ent_match.specs.Remainder.{At, HasLinks, IsAsked, IsStart}
use Rattle.ent_match.specs.Components.{flipped, AreJoinsOf, AreLinkedBy}
use Rattle.ent_match.proofs.Numbered.{same_member}
use Rattle.ent_match.proofs.Linked.{one_place}

not_marked : (marks : List Bool) (k : ℕ) → (IsMarked marks k → ⊥) → get_or marks k false ≡ false
not_marked marks k h =
    elim (cases_Bool (get_or marks k false)) [ inl marked ↦ absurd (h marked) | inr unmarked ↦ unmarked ]

-- ---- the remainder

at_unique : (pool : List Posted) → IsByNumber pool → (k j : ℕ) (x : Posted) → At pool k x → At pool j x → k ≡ j
at_unique pool ordered k j x (below_k, is_k) (below_j, is_j) =
    elim (cases_lt k j) [
      | inl less ↦ absurd (let l : x.tx < x.tx =
          subst (λ z. z.tx < x.tx) is_k (subst (λ z. (get_or pool k x).tx < z.tx) is_j (ordered k j x less below_j))
          in omega arith)
      | inr not_less ↦ elim (cases_lt j k) [
        | inl more ↦ absurd (let l : x.tx < x.tx =
            subst (λ z. z.tx < x.tx) is_j
            (subst (λ z. (get_or pool j x).tx < z.tx) is_k (ordered j k x more below_k)) in omega arith)
        | inr not_more ↦ omega arith
      ]
    ]

-- the transactions of places that aren't marked
remaining : List Bool → List Posted → SetOfTransactions
remaining removed [] tx = false
remaining [] (m ∷ pool) tx = if m.tx == tx then true else remaining [] pool tx
remaining (b ∷ removed) (m ∷ pool) tx = if m.tx == tx then not b else remaining removed pool tx

remaining_at : (removed : List Bool) (pool : List Posted) → IsByNumber pool → (k : ℕ) (x : Posted) → At pool k x
    → remaining removed pool x.tx ≡ not (get_or removed k false)
unfolding remaining
remaining_at removed [] ordered k x (below, is) = absurd (omega arith)
remaining_at [] (m ∷ pool) ordered zero x (below, is) =
    ap (λ t. cond t true (remaining [] pool x.tx)) (eq-eqb m.tx x.tx (ap (λ (z : Posted). z.tx) is))
remaining_at (b ∷ removed) (m ∷ pool) ordered zero x (below, is) =
    ap (λ t. cond t (not b) (remaining removed pool x.tx)) (eq-eqb m.tx x.tx (ap (λ (z : Posted). z.tx) is))
remaining_at [] (m ∷ pool) ordered (suc k) x (below, is) =
    let less : m.tx < x.tx = subst (λ z. m.tx < z.tx) is (ordered 0 (suc k) x (omega arith) below) in
    elim (cases_Bool (m.tx == x.tx)) [
      | inl same ↦ absurd (let e = eqb-true m.tx x.tx same in omega arith)
      | inr other ↦ ap (λ t. cond t true (remaining [] pool x.tx)) other
          ∙ remaining_at [] pool (λ i j d l w. ordered (suc i) (suc j) d (omega arith) (omega arith)) k x
          (omega arith, is)
    ]
remaining_at (b ∷ removed) (m ∷ pool) ordered (suc k) x (below, is) =
    let less : m.tx < x.tx = subst (λ z. m.tx < z.tx) is (ordered 0 (suc k) x (omega arith) below) in
    elim (cases_Bool (m.tx == x.tx)) [
      | inl same ↦ absurd (let e = eqb-true m.tx x.tx same in omega arith)
      | inr other ↦ ap (λ t. cond t (not b) (remaining removed pool x.tx)) other
          ∙ remaining_at removed pool (λ i j d l w. ordered (suc i) (suc j) d (omega arith) (omega arith)) k x
          (omega arith, is)
    ]

module _ (pool : List Posted) (ordered : IsByNumber pool) (safe : IsSafe pool) (links : List Link)
    (start removed : List Bool)
    (s : IsStart pool links start) (c : Closes links start removed) where
  inside_at : (k : ℕ) (x : Posted) → At pool k x → Contains pool x
  inside_at k x (below, is) = (k, below, is)

  -- a link between statements, one of which is met by the other
  from_remains : (link : Link) → Contains links link → get_or removed link.to false ≡ false
      → get_or removed link.from false ≡ false
  from_remains link inside remains =
      not_marked removed link.from (λ gone. true≢false (sym (c.closed link inside gone) ∙ remains))

  gone_along : (n first last : ℕ) (m : Posted) → PathIn links n first last → IsMarked start first → At pool last m
      → IsInRemainder pool m → ⊥
  gone_along zero first last m same marked at remains =
      let at_first : At pool first m = subst (λ k. At pool k m) (sym same) at in
      let asked = subst (λ b. IsAsked pool links first b) marked (s.asked first at_first.0) in
      asked m at_first remains
  gone_along (suc n) first last m (link, inside, to, path) marked at r =
      let offer = s.sound link inside in
      let same : offer.asker ≡ m =
      one_place pool link.to offer.asker m offer.asks (subst (λ k. At pool k m) (sym to) at) in
      let rest = subst (IsInRemainder pool) (sym same) r in
      let met = rest.supported offer.asker offer.index offer.owner.meets.post rest.is_in offer.owner.meets.is_post in
      let owner = offer.owner.owner in
      let inside_owner = inside_at link.from owner offer.owner.offers in
      let one = safe offer.asker met.0 owner offer.index rest.is_in.0 met.1.0 inside_owner met.2 offer.owner.meets in
      let is_met : met.0 ≡ owner = same_member pool ordered met.0 owner met.1.0 inside_owner one in
      let in_rest : IsInRemainder pool owner =
      record {
        among = rest.among;
        supported = rest.supported;
        is_in =
            (inside_owner, subst (λ (z : Posted). rest.among z.tx ≡ true) is_met met.1.1);
      } in
      gone_along n first link.from owner path marked offer.owner.offers in_rest

  start_remains : (k : ℕ) → get_or removed k false ≡ false → get_or start k false ≡ false
  start_remains k remains = not_marked start k (λ gone. true≢false (sym (c.grows.kept k gone) ∙ remains))

  offers_at : (k : ℕ) → k < length pool → get_or removed k false ≡ false → HasLinks pool links k
  offers_at k below remains = subst (λ b. IsAsked pool links k b) (start_remains k remains) (s.asked k below)

  supported : IsSupported pool (remaining removed pool)
  supported asker index post (contains, in_set) is_post =
      let at : At pool contains.0 asker = (contains.1, contains.2) in
      let remains = turned _ (sym (remaining_at removed pool ordered contains.0 asker at) ∙ in_set) in
      let offer = offers_at contains.0 contains.1 remains asker index at
      (slice_get_within asker.statement.posts index post is_post) in
      let owner_remains = from_remains _ offer.listed remains in (
        offer.owner.owner,
        (
          inside_at offer.from offer.owner.owner offer.owner.offers,
          remaining_at removed pool ordered offer.from offer.owner.owner offer.owner.offers
              ∙ not_from_false _ owner_remains,
        ),
        offer.owner.meets,
      )

  pub linked_by : (joins : List Link) → AreJoinsOf links removed joins → AreLinkedBy pool joins removed
  linked_by joins are =
      record {
        by_number = ordered;
        room = c.grows.room ∙ s.room;
        remain = λ place member at remains. record {
          among = remaining removed pool;
          supported = supported;
          is_in = (
            inside_at place member at,
            remaining_at removed pool ordered place member at
                ∙ not_from_false _ remains,
          );
        };
        gone = λ place member at marked. let r = c.grows.reached place marked in
            gone_along r.steps r.first place member r.path r.marked at;
        joined = λ join a b inside from to. elim (are.sound join inside) [
          | inl kept ↦
              let offer = s.sound join kept.0 in
              let is_b : offer.asker ≡ b = one_place pool join.to offer.asker b offer.asks to in
              let is_a : offer.owner.owner ≡ a = one_place pool join.from offer.owner.owner a
              offer.owner.offers from in (
                (
                  offer.index,
                  inr (subst (λ z. CanMeet b offer.index z) is_a
                      (subst (λ z. CanMeet z offer.index offer.owner.owner) is_b offer.owner.meets)),
                ),
                from_remains join kept.0 kept.1,
                kept.1,
              )
          | inr kept ↦
              let offer = s.sound (flipped join) kept.0 in
              let is_a : offer.asker ≡ a = one_place pool join.from offer.asker a offer.asks from in
              let is_b : offer.owner.owner ≡ b = one_place pool join.to offer.owner.owner b offer.owner.offers to in (
                (
                  offer.index,
                  inl (subst (λ z. CanMeet a offer.index z) is_b
                      (subst (λ z. CanMeet z offer.index offer.owner.owner) is_a offer.owner.meets)),
                ),
                kept.1,
                from_remains (flipped join) kept.0 kept.1,
              )
        ];
        within = λ join inside. elim (are.sound join inside) [
          | inl kept ↦ (let offer = s.sound join kept.0 in (offer.owner.offers.0, offer.asks.0))
          | inr kept ↦ (let offer = s.sound (flipped join) kept.0 in (offer.asks.0, offer.owner.offers.0))
        ];
        complete = λ p q a b at_p at_q joined remains_p remains_q. elim joined.1 [
          | inl meets ↦ are.back _ (listed a b joined.0 p q at_p at_q meets remains_p, remains_p)
          | inr meets ↦ are.there _ (listed b a joined.0 q p at_q at_p meets remains_q, remains_q)
        ];
      }
    where
      -- the link from the owner at q to the asker at p
      listed : (asker owner : Posted) (index p q : ℕ) → At pool p asker → At pool q owner → CanMeet asker index owner
          → get_or removed p false ≡ false → Contains links (record { from = q; to = p })
      listed asker owner index p q at_p at_q meets remains =
          let offer = offers_at p at_p.0 remains asker index at_p
          (slice_get_within asker.statement.posts index meets.post meets.is_post) in
          let one = safe asker offer.owner.owner owner index (inside_at p asker at_p)
          (inside_at offer.from offer.owner.owner offer.owner.offers) (inside_at q owner at_q) offer.owner.meets
          meets in
          let same : offer.owner.owner ≡ owner =
          same_member pool ordered offer.owner.owner owner
          (inside_at offer.from offer.owner.owner offer.owner.offers) (inside_at q owner at_q) one in
          let place : offer.from ≡ q =
          at_unique pool ordered offer.from q owner (subst (At pool offer.from) same offer.owner.offers) at_q in
          subst (λ k. Contains {X = Link} links (record { from = k; to = p })) place offer.listed
