-- Posted statements of a state, and how its components compare with those of another state.
use Rattle.std.proofs.Common.{◌≡◌, ◌<◌, zero, true, List, [], refl, sym}
use Rattle.std.proofs.Common.{subst, Contains}
use Rattle.std.specs.Prelude.{◌↔◌}
use Rattle.ent_protocol_laws.proofs.ByNumber.{posted_tx}
use Rattle.ent_protocol_laws.specs.Numbered.{Below, one_of, same_lists, below_apart}
use Rattle.ent_semantics.specs.Closing.{closed}
use Rattle.ent_semantics.specs.Component.{SetOfTransactions, IsComponent, IsInRemainder, AreJoined}
use Rattle.ent_semantics.specs.Pool.{Posted}
use Rattle.ent_protocol.specs.Member.{pool}
use Rattle.ent_protocol.specs.PoolEvents.{IsPresentComponent}
use Rattle.ent_protocol.specs.PostedBy.{is_present}
use Rattle.ent_protocol.specs.State.{State}
use Rattle.ent_lists.specs.Elements.{In, Pairs, contains_in, in_contains}
use Rattle.ent_lists.specs.Elements.{index_pairs}
use Rattle.ent_protocol_laws.proofs.Pools.{IsPart, component_of_all, component_of_part}

-- ---- present components

-- the statements of a component are asked
pub asked_there : (s : State) (asked : List Posted) → IsPresentComponent s asked → (a : Posted) → In a asked
    → In a (pool s)
asked_there s asked component a at = is_present (pool s) asked component a at

-- there is one at least
pub some_asked : (s : State) (asked : List Posted) → IsPresentComponent s asked → (a : Posted) × In a asked
some_asked s asked component =
    let c = component in
    (c.first, contains_in asked c.first ((c.class c.first).1 (c.in_remainder, (zero, refl))))

module _ (classes : (pool members others : List Posted) (shared member : Posted) → IsComponent pool members
    → IsComponent pool others → Contains members shared → Contains others shared
    → Contains members member ↔ Contains others member)
    (s : State) (ascend : Pairs (Below posted_tx) (pool s)) where
  in_order : (asked : List Posted) → IsPresentComponent s asked → Pairs (Below posted_tx) asked
  in_order asked component =
      index_pairs (λ (x y : Posted). x.tx < y.tx) asked component.ascending

  in_other : (one other : List Posted) → IsPresentComponent s one → IsPresentComponent s other
      → ((member : Posted) → Contains one member → Contains other member)
      → (z : Posted) → In z one → In z other
  in_other one other first second over z at =
      contains_in other z (over z (in_contains one z at))

  -- two that have statements of one transaction are the same
  pub one_component : (one other : List Posted) → IsPresentComponent s one → IsPresentComponent s other
      → (a b : Posted) → In a one → In b other → a.tx ≡ b.tx → one ≡ other
  one_component one other first second a b at bt own =
      let same : a ≡ b =
      one_of posted_tx (pool s) a b (below_apart posted_tx (pool s) ascend) (asked_there s one first a at)
      (asked_there s other second b bt) own in
      let here = in_contains one a at in
      let there : Contains other a = in_contains other a (subst (λ (x : Posted). In x other) (sym same) bt) in
      let over = λ (member : Posted).
      classes (pool s) one other a member first second here there in
      same_lists posted_tx one other (in_order one first) (in_order other second)
      (in_other one other first second (λ member. (over member).0))
      (in_other other one second first (λ member. (over member).1))

-- statements in the pool are told by their transactions
pub pool_distinct : (s : State) → Pairs (Below posted_tx) (pool s) → (x y : Posted) → Contains (pool s) x
    → Contains (pool s) y → x.tx ≡ y.tx → x ≡ y
pool_distinct s ascend x y at bt same =
    one_of posted_tx (pool s) x y (below_apart posted_tx (pool s) ascend) (contains_in (pool s) x at)
    (contains_in (pool s) y bt) same

-- ---- the components of two states

-- a part of the posted statements of one state is what is posted in the other: those of the transactions that are kept
pub record AreAsked (keep : SetOfTransactions) (all part : State) : Type 0 where
  pub down : (a : Posted) → In a (pool part) → In a (pool all) × (keep a.tx ≡ true)
  pub up : (a : Posted) → In a (pool all) → keep a.tx ≡ true → In a (pool part)

module _ (keep : SetOfTransactions) (all part : State) (asks : AreAsked keep all part) where
  part_of_pool : IsPart keep (pool all) (pool part)
  part_of_pool =
      record {
        down = λ x there.
            let d = asks.down x (contains_in (pool part) x there) in
            (in_contains (pool all) x d.0, d.1);
        up = λ x there stays.
            in_contains (pool part) x (asks.up x (contains_in (pool all) x there) stays);
      }

  -- where who is joined with one that is kept is kept
  pub present_in_all : ((one other : Posted) → IsInRemainder (pool all) one → IsInRemainder (pool all) other
      → AreJoined one other → keep one.tx ≡ true → keep other.tx ≡ true) → (asked : List Posted)
      → IsPresentComponent part asked → IsPresentComponent all asked
  present_in_all closed asked component =
      component_of_all keep (pool all) (pool part) part_of_pool closed asked component

  -- where all its statements are kept
  pub present_in_part : Pairs (Below posted_tx) (pool all) → (asked : List Posted) → IsPresentComponent all asked
      → ((a : Posted) → In a asked → keep a.tx ≡ true) → IsPresentComponent part asked
  present_in_part ascend asked component stays =
      component_of_part keep (pool all) (pool part) part_of_pool asked component stay (pool_distinct all ascend)
    where
      stay : (x : Posted) → Contains asked x → keep x.tx ≡ true
      stay x there = stays x (contains_in asked x there)

-- the same statements are posted
pub record AskTheSame (one other : State) : Type 0 where
  pub there : (a : Posted) → In a (pool one) → In a (pool other)
  pub back : (a : Posted) → In a (pool other) → In a (pool one)

pub present_in_other : (one other : State) → AskTheSame one other → (asked : List Posted)
    → IsPresentComponent one asked → IsPresentComponent other asked
present_in_other one other same asked component =
    present_in_all (λ n. true) other one
    (record { down = λ a at. (same.there a at, refl); up = λ a at kept. same.back a at })
    (λ x y a b joined kept. refl) asked component
