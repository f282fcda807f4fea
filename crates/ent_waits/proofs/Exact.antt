-- The components of what is posted.
use Rattle.std.proofs.Common.{◌≡◌, ℕ, List, Option, refl, sym, subst}
use Rattle.std.specs.Prelude.{◌↔◌, Contains}
use Rattle.ent_semantics.specs.Component.{IsComponent}
use Rattle.ent_semantics.specs.Pool.{Posted}
use Rattle.ent_match.specs.Components.{AreFirstPlaces, FirstIs, component_at}
use Rattle.ent_protocol.specs.Member.{pool}
use Rattle.ent_protocol.specs.PoolEvents.{IsPresentComponent}
use Rattle.ent_protocol.specs.State.{State}
use Rattle.ent_waits.proofs.Numbered.{same_statements}

-- ---- what the crates below say

abbrev pub AreClasses : Type 0
AreClasses = (pool members others : List Posted) (shared member : Posted) → IsComponent pool members
    → IsComponent pool others → Contains members shared → Contains others shared
    → Contains members member ↔ Contains others member

-- ---- the statements of a component

-- the statement that a component is the class of
pub has_first : (posted asked : List Posted) (component : IsComponent posted asked) → Contains asked component.first
has_first posted asked component = (component.class component.first).1 (component.in_remainder, (0, refl))

pub is_posted : (posted asked : List Posted) (member : Posted) → IsComponent posted asked → Contains asked member
    → Contains posted member
is_posted posted asked member component there = ((component.class member).0 there).0.is_in.0

-- in a state

pub present_in : (s : State) (posted asked : List Posted) → pool s ≡ posted → IsComponent posted asked
    → IsPresentComponent s asked
present_in s posted asked is component = subst (λ (xs : List Posted). IsComponent xs asked) (sym is) component

pub component_in : (s : State) (posted asked : List Posted) → pool s ≡ posted → IsPresentComponent s asked
    → IsComponent posted asked
component_in s posted asked is present = subst (λ (xs : List Posted). IsComponent xs asked) is present

-- ---- the components by the places at which they begin

module _ (classes : AreClasses) (posted : List Posted) where
  -- two components that share a statement
  pub same_components : (one other : List Posted) (shared : Posted) → IsComponent posted one
      → IsComponent posted other → Contains one shared → Contains other shared → one ≡ other
  same_components one other shared is is_too there there_too =
      let class = λ (member : Posted). classes posted one other shared member is is_too there there_too in
      same_statements one other is.ascending is_too.ascending (λ member. (class member).0) (λ member. (class member).1)

  pub begins_somewhere : (firsts : List (Option ℕ)) → AreFirstPlaces posted firsts → (asked : List Posted)
      → IsComponent posted asked
      → (place : ℕ) × FirstIs firsts place place × (component_at firsts place posted ≡ asked)
  begins_somewhere firsts are asked component =
      let first = component.first in
      let inside = component.in_remainder.is_in.0 in
      let own = are.covers inside.0 first (inside.1, inside.2) component.in_remainder in
      let begins = (are.first inside.0 own.0 own.1).1 in (
        own.0,
        begins,
        same_components (component_at firsts own.0 posted) asked first (are.exact own.0 begins) component own.2
            (has_first posted asked component),
      )
