-- A component that is answered leaves the pool: what is asked then.
use Rattle.std.proofs.Common.{◌≡◌, ◌⊎◌, inl, inr, ℕ, Bool, true, false, cond, not, ◌||◌, ◌==◌, List, [], ◌∷◌}
use Rattle.std.proofs.Common.{map, length, refl, sym, ap, subst, ◌∙◌, arith, Contains}
use Rattle.std.specs.List.{list_any}
use Rattle.ent_protocol_laws.proofs.ByNumber.{posted_tx}
use Rattle.ent_protocol_laws.specs.Numbered.{Below}
use Rattle.ent_semantics.specs.Entangled.{Valuation}
use Rattle.ent_semantics.specs.Serial.{numbered}
use Rattle.ent_semantics.specs.Component.{IsInRemainder, AreJoined}
use Rattle.ent_semantics.specs.Pool.{Posted}
use Rattle.ent_protocol.specs.Job.{Job}
use Rattle.ent_protocol.specs.Member.{next_of, pool}
use Rattle.ent_protocol.specs.PoolEvents.{IsPresentComponent, answered_among, answered_by, answered_groups}
use Rattle.ent_protocol.specs.PoolEvents.{in_joined_group, joining}
use Rattle.ent_protocol.specs.PostedBy.{IsPostedBy, in_pool, to_pool, next_same}
use Rattle.ent_protocol.specs.State.{State, Member}
use Rattle.ent_protocol_laws.proofs.PostedQueries.{AreAsked, pool_distinct}
use Rattle.ent_protocol_laws.proofs.PostedQueries.{present_in_all}
use Rattle.ent_lists.specs.Elements.{In, Pairs, any_in, any_some, clash, contains_in, in_contains, number_itself}
use Rattle.ent_lists.specs.Elements.{of_map, same_number, to_map, turned}
use Rattle.ent_semantics.proofs.Linked.{joined_back}
use Rattle.ent_protocol_laws.proofs.Pools.{joined_in}

-- a number is that of one of these statements
abbrev pub is_asked : List Posted → ℕ → Bool
is_asked asked n = list_any (λ a. n == a.tx) asked

abbrev pub is_left : List Posted → ℕ → Bool
is_left asked n = not (list_any (λ a. n == a.tx) asked)

-- a member is answered, and isn't posted any more, or it is as it was
abbrev IsAnswered : List Posted → List Valuation → Member → Type 0
IsAnswered asked given m =
    (is_asked asked m.tx ≡ true) × ((answered_among asked given m).posted ≡ false)
    ⊎ (is_asked asked m.tx ≡ false) × (answered_among asked given m ≡ m)

answered : (asked : List Posted) (given : List Valuation) (m : Member) → length given ≡ length asked
    → IsAnswered asked given m
answered [] given m enough = inr (refl, refl)
answered (query ∷ asked) [] m enough = absurd (omega (arith, enough))
answered (query ∷ asked) (values ∷ more) m enough =
    by (m.tx == query.tx) (answered asked more m (let e = enough in omega (arith, e)))
  where
    by : (b : Bool) → IsAnswered asked more m
        → ((b || is_asked asked m.tx) ≡ true)
        × ((cond b (answered_by query values m) (answered_among asked more m)).posted ≡ false)
        ⊎ ((b || is_asked asked m.tx) ≡ false)
        × (cond b (answered_by query values m) (answered_among asked more m) ≡ m)
    by true rest = inl (refl, refl)
    by false rest = rest

module _ (s : State) (left : List Job) (asked : List Posted) (given : List Valuation)
    (enough : length given ≡ length asked) where
  grouped : (g : List ℕ) (m : Member) → next_of s (in_joined_group g m) ≡ next_of s m
  grouped g m = next_same (numbered s.submitted m.tx) (in_joined_group g m) m refl refl

  pub left_asked : AreAsked (is_left asked) s (joining (record s { lent = left }) asked given)
  left_asked =
      record {
        down = λ a at.
            let r = in_pool (joining (record s { lent = left }) asked given) a at in
            let q = of_map
            (λ m. in_joined_group (answered_groups (record s { lent = left }) asked) (answered_among asked given m))
            s.active r.member r.at in
            down a r.member r.by r.own q.0 q.1 (answered asked given q.0 enough) q.2;
        up = λ a at kept.
            let r = in_pool s a at in up a kept r.member r.at r.by r.own (answered asked given r.member enough);
      }
    where
      down : (a : Posted) (x : Member) → IsPostedBy (joining (record s { lent = left }) asked given) x a → a.tx ≡ x.tx
          → (m : Member) → In m s.active → IsAnswered asked given m
          → x ≡ in_joined_group (answered_groups (record s { lent = left }) asked) (answered_among asked given m)
          → In a (pool s) × (is_left asked a.tx ≡ true)
      down a x asks own m there (inl away) is =
          clash x.posted asks.posted (ap (λ (y : Member). y.posted) is ∙ away.1)
      down a x asks own m there (inr stays) is =
          let g = answered_groups (record s { lent = left }) asked in
          let same : x ≡ in_joined_group g m = is ∙ ap (in_joined_group g) stays.1 in
          let now : IsPostedBy (joining (record s { lent = left }) asked given) (in_joined_group g m) a =
          subst (λ (y : Member). IsPostedBy (joining (record s { lent = left }) asked given) y a) same asks in (
            to_pool s a m there
                (record { posted = now.posted; next = sym (grouped g m) ∙ now.next; is = now.is }),
            ap (is_left asked) (own ∙ ap (λ (y : Member). y.tx) same) ∙ ap not stays.0,
          )

      up : (a : Posted) → is_left asked a.tx ≡ true → (m : Member) → In m s.active → IsPostedBy s m a → a.tx ≡ m.tx
          → IsAnswered asked given m → In a (pool (joining (record s { lent = left }) asked given))
      up a kept m there asks own (inl away) =
          clash (is_asked asked a.tx) (ap (is_asked asked) own ∙ away.0) (turned (is_asked asked a.tx) kept)
      up a kept m there asks own (inr stays) =
          let g = answered_groups (record s { lent = left }) asked in
          to_pool (joining (record s { lent = left }) asked given) a (in_joined_group g m)
          (subst (λ (y : Member). In (in_joined_group g y)
          (map (λ m. in_joined_group g (answered_among asked given m)) s.active)) stays.1
          (to_map (λ m. in_joined_group g (answered_among asked given m)) s.active m there))
          (record { posted = asks.posted; next = grouped g m ∙ asks.next; is = asks.is })

  -- the components that are left were components before
  pub left_components : Pairs (Below posted_tx) (pool s) → IsPresentComponent s asked → (others : List Posted)
      → IsPresentComponent (joining (record s { lent = left }) asked given) others → IsPresentComponent s others
  left_components ascend component others there =
      present_in_all (is_left asked) s (joining (record s { lent = left }) asked given) left_asked closed others there
    where
      closed : (one other : Posted) → IsInRemainder (pool s) one → IsInRemainder (pool s) other → AreJoined one other
          → is_left asked one.tx ≡ true → is_left asked other.tx ≡ true
      closed one other first second joined kept = by (is_asked asked other.tx) refl
        where
          by : (b : Bool) → is_asked asked other.tx ≡ b → not b ≡ true
          by false is = refl
          by true is =
              let some = any_some (λ (a : Posted). other.tx == a.tx) asked is in
              let at = some.1 in
              let of_pool : Contains (pool s) some.0 =
              ((component.class some.0).0
              (in_contains asked some.0 at)).0.is_in.0 in
              let same : some.0 ≡ other =
              pool_distinct s ascend some.0 other of_pool second.is_in.0
              (sym (same_number other.tx some.0.tx some.2)) in
              let there : Contains asked other =
              subst (Contains asked) same (in_contains asked some.0 at) in
              let other_there : Contains asked one =
              joined_in (pool s) asked other one component there (joined_back one other joined)
              first in
              clash (is_asked asked one.tx)
              (any_in (λ (a : Posted). one.tx == a.tx) asked one (contains_in asked one other_there)
              (number_itself one.tx))
              (turned (is_asked asked one.tx) kept)
