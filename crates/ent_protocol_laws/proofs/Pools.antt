-- Components of a pool, and of a part of it.
use Rattle.std.proofs.Common.{◌≡◌, inl, ℕ, zero, suc, true, ◌&&◌, ◌==◌, List, refl, sym, subst}
use Rattle.std.proofs.Common.{Contains}
use Rattle.std.specs.List.{list_any}
use Rattle.ent_semantics.specs.Component.{SetOfTransactions, IsIn, IsSupported, IsInRemainder, AreJoined}
use Rattle.ent_semantics.specs.Component.{AreLinkedIn, IsComponent}
use Rattle.ent_semantics.specs.Pool.{Posted}
use Rattle.ent_lists.specs.Elements.{and_both, both_and, same_number, number_itself, any_some, any_in, contains_in}
use Rattle.ent_lists.specs.Elements.{in_contains}
use Rattle.ent_semantics.proofs.Linked.{itself_supported}

-- one step more
linked_behind : (n : ℕ) (pool : List Posted) (first middle last : Posted) → AreLinkedIn n pool first middle
    → AreJoined middle last → IsInRemainder pool last → AreLinkedIn (suc n) pool first last
linked_behind zero pool first middle last h joined there =
    (last, subst (λ x. AreJoined x last) (sym h) joined, there, refl)
linked_behind (suc n) pool first middle last h joined there =
    (h.0, h.1, h.2, linked_behind n pool h.0 middle last h.3 joined there)

-- who is joined with a statement of a component is in it
pub joined_in : (pool members : List Posted) (one other : Posted) → IsComponent pool members → Contains members one
    → AreJoined one other → IsInRemainder pool other → Contains members other
joined_in pool members one other component there joined within =
    let r = (component.class one).0 there in
    (component.class other).1
    (within, (suc r.1.0, linked_behind r.1.0 pool component.first one other r.1.1 joined within))

-- the statements of a pool whose transactions are kept
pub record IsPart (keep : SetOfTransactions) (all part : List Posted) : Type 0 where
  pub down : (x : Posted) → Contains part x → Contains all x × (keep x.tx ≡ true)
  pub up : (x : Posted) → Contains all x → keep x.tx ≡ true → Contains part x

module _ (keep : SetOfTransactions) (all part : List Posted) (kept : IsPart keep all part) where
  within_all : (member : Posted) → IsInRemainder part member → IsInRemainder all member
  within_all member h =
      record {
        among = λ n. h.among n && keep n;
        supported = λ asker index post is_in is_post.
            let two = and_both (h.among asker.tx) (keep asker.tx) is_in.1 in
            let met = h.supported asker index post (kept.up asker is_in.0 two.1, two.0) is_post in
            let there = kept.down met.0 met.1.0 in
            (met.0, (there.0, both_and (h.among met.0.tx) (keep met.0.tx) met.1.1 there.1), met.2);
        is_in =
            let there = kept.down member h.is_in.0 in
            (there.0, both_and (h.among member.tx) (keep member.tx) h.is_in.1 there.1);
      }

  linked_all : (n : ℕ) (first last : Posted) → AreLinkedIn n part first last → AreLinkedIn n all first last
  linked_all zero first last h = h
  linked_all (suc n) first last h = (h.0, h.1, within_all h.0 h.2, linked_all n h.0 last h.3)

  -- where the part is closed under joining, its components are components of the pool
  module _ (closed : (one other : Posted) → IsInRemainder all one → IsInRemainder all other → AreJoined one other
      → keep one.tx ≡ true → keep other.tx ≡ true) where
    within_part : (member : Posted) → IsInRemainder all member → keep member.tx ≡ true → IsInRemainder part member
    within_part member h stays =
        record {
          among = h.among;
          supported = λ asker index post is_in is_post.
              let there = kept.down asker is_in.0 in
              let met = h.supported asker index post (there.0, is_in.1) is_post in
              let asks : IsInRemainder all asker =
              record { among = h.among; supported = h.supported; is_in = (there.0, is_in.1) } in
              let offers : IsInRemainder all met.0 =
              record { among = h.among; supported = h.supported; is_in = met.1 } in
              let on = closed asker met.0 asks offers (index, inl met.2) there.1 in
              (met.0, (kept.up met.0 met.1.0 on, met.1.1), met.2);
          is_in = (kept.up member h.is_in.0 stays, h.is_in.1);
        }

    linked_part : (n : ℕ) (first last : Posted) → IsInRemainder all first → keep first.tx ≡ true
        → AreLinkedIn n all first last → AreLinkedIn n part first last × (keep last.tx ≡ true)
    linked_part zero first last within stays h = (h, subst (λ (x : Posted). keep x.tx ≡ true) h stays)
    linked_part (suc n) first last within stays h =
        let on = closed first h.0 within h.2 h.1 stays in
        let rest = linked_part n h.0 last h.2 on h.3 in
        ((h.0, h.1, within_part h.0 h.2 on, rest.0), rest.1)

    pub component_of_all : (members : List Posted) → IsComponent part members → IsComponent all members
    component_of_all members c =
        record {
          first = c.first;
          in_remainder = within_all c.first c.in_remainder;
          class = λ member. (
            λ there.
                let r = (c.class member).0 there in
                (within_all member r.0, (r.1.0, linked_all r.1.0 c.first member r.1.1)),
            λ r.
                let stays = (kept.down c.first c.in_remainder.is_in.0).1 in
                let l = linked_part r.1.0 c.first member (within_all c.first c.in_remainder) stays r.1.1 in
                (c.class member).1 (within_part member r.0 l.1, (r.1.0, l.0)),
          );
          ascending = c.ascending;
        }

  -- a component of the pool that lies in the part is one of the part
  module _ (members : List Posted) (component : IsComponent all members)
      (stays : (x : Posted) → Contains members x → keep x.tx ≡ true)
      (distinct : (x y : Posted) → Contains all x → Contains all y → x.tx ≡ y.tx → x ≡ y) where
    alone : (x : Posted) → Contains members x → IsIn part (λ n. list_any (λ member. member.tx == n) members) x
    alone x there = (
      kept.up x ((component.class x).0 there).0.is_in.0 (stays x there),
      any_in (λ (member : Posted). member.tx == x.tx) members x (contains_in members x there) (number_itself x.tx),
    )

    supports_itself : IsSupported part (λ n. list_any (λ member. member.tx == n) members)
    supports_itself asker index post is_in is_post =
        let some = any_some (λ (member : Posted). member.tx == asker.tx) members is_in.1 in
        let there : Contains members some.0 = in_contains members some.0 some.1 in
        let same : some.0 ≡ asker =
        distinct some.0 asker ((component.class some.0).0 there).0.is_in.0 (kept.down asker is_in.0).0
        (same_number some.0.tx asker.tx some.2) in
        let asks : Contains members asker = subst (Contains members) same there in
        let met = itself_supported all asker index post ((component.class asker).0 asks).0 is_post in
        let offers : Contains members met.0 =
        joined_in all members asker met.0 component asks (index, inl met.2) met.1 in
        (met.0, alone met.0 offers, met.2)

    within_alone : (x : Posted) → Contains members x → IsInRemainder part x
    within_alone x there =
        record {
          among = λ n. list_any (λ member. member.tx == n) members;
          supported = supports_itself;
          is_in = alone x there;
        }

    linked_alone : (n : ℕ) (first last : Posted) → Contains members first → AreLinkedIn n all first last
        → AreLinkedIn n part first last
    linked_alone zero first last at h = h
    linked_alone (suc n) first last at h =
        let there = joined_in all members first h.0 component at h.1 h.2 in
        (h.0, h.1, within_alone h.0 there, linked_alone n h.0 last there h.3)

    pub component_of_part : IsComponent part members
    component_of_part =
        let at = (component.class component.first).1 (component.in_remainder, (zero, refl)) in
        record {
          first = component.first;
          in_remainder = within_alone component.first at;
          class = λ member. (
            λ there.
                let r = (component.class member).0 there in
                (within_alone member there, (r.1.0, linked_alone r.1.0 component.first member at r.1.1)),
            λ r.
                (component.class member).1
                (within_all member r.0, (r.1.0, linked_all r.1.0 component.first member r.1.1)),
          );
          ascending = component.ascending;
        }
