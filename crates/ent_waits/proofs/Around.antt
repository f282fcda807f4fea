-- Whether some statements are a component, by the place of the first of them.
use Rattle.std.proofs.Common.{◌≡◌, ℕ, ◌<◌, List, [], ◌∷◌, length, get_or, refl, sym, ap, subst, ◌∙◌, arith, inl, inr}
use Rattle.std.proofs.Common.{Option, Some, None}
use Rattle.std.specs.Prelude.{Contains, slice_get}
use Rattle.std.proofs.lemmas.Bool.{cases_lt}
use Rattle.ent_lists.proofs.Contained.{contains_none, contains_first}
use Rattle.ent_semantics.specs.Component.{IsComponent}
use Rattle.ent_semantics.specs.Pool.{Posted, first_tx}
use Rattle.ent_match.specs.Components.{AreFirstPlaces, FirstIs, component_at}
use Rattle.ent_match.specs.Fault.{IsByNumber}
use Rattle.ent_protocol.specs.Member.{pool}
use Rattle.ent_protocol.specs.PoolEvents.{IsPresentComponent}
use Rattle.ent_protocol.specs.State.{State}
use Rattle.ent_match.specs.Place.{HasNoneOf, IsPlaceOf}
use Rattle.ent_match.proofs.Beginning.{some_within}
use Rattle.ent_waits.proofs.Exact.{AreClasses, begins_somewhere, component_in, has_first, is_posted, present_in}
use Rattle.ent_waits.proofs.Picked.{first_at}

abbrev tx_of : Posted → ℕ
tx_of member = member.tx

first_member : (asked : List Posted) (first : Posted) → Some first ≡ slice_get asked 0 → Contains asked first
first_member [] first is = cc
first_member (own ∷ more) first is =
    let same : own ≡ first = cc in
    contains_first own more first same

-- no statements are no component
pub of_none : (posted asked : List Posted) → None ≡ slice_get asked 0 → IsComponent posted asked → ⊥
of_none posted [] none component = contains_none component.first (has_first posted [] component)
of_none posted (own ∷ more) none component = cc

pub not_posted : (posted asked : List Posted) (first : Posted) → Some first ≡ slice_get asked 0
    → HasNoneOf posted first.tx → IsComponent posted asked → ⊥
not_posted posted asked first is none component =
    none first (is_posted posted asked first component (first_member asked first is)) refl

first_tx_is : (asked : List Posted) (first : Posted) → Some first ≡ slice_get asked 0 → first_tx asked ≡ first.tx
first_tx_is [] first is = cc
first_tx_is (own ∷ more) first is = let same : first ≡ own = cc in ap tx_of (sym same)

-- statements of one transaction stand at one place
one_place : (posted : List Posted) → IsByNumber posted → (d : Posted) (k j : ℕ) → k < length posted
    → j < length posted → (get_or posted k d).tx ≡ d.tx → (get_or posted j d).tx ≡ d.tx → k ≡ j
one_place posted ascends d k j below_k below_j is_k is_j =
    elim (cases_lt k j) [
      | inl less ↦ (let l = ascends k j d less below_j in absurd (omega arith))
      | inr not_less ↦ elim (cases_lt j k) [
        | inl more ↦ (let l = ascends j k d more below_k in absurd (omega arith))
        | inr not_more ↦ omega arith
      ]
    ]

module _ (classes : AreClasses) (posted asked : List Posted) (ascends : IsByNumber posted) (first : Posted)
    (is : Some first ≡ slice_get asked 0) (place : ℕ) (at : IsPlaceOf posted first.tx place)
    (firsts : List (Option ℕ)) (are : AreFirstPlaces posted firsts) where
  -- where a component begins with the first of them
  pub begins_here : IsComponent posted asked
      → FirstIs firsts place place × (component_at firsts place posted ≡ asked)
  begins_here component =
      let own = begins_somewhere classes posted firsts are asked component in
      let tx : (get_or posted own.0 first).tx ≡ first.tx =
      sym (first_at posted ascends firsts are own.0 first own.1) ∙ (ap first_tx own.2 ∙ first_tx_is asked first is) in
      let room = are.room in
      let below : own.0 < length posted = (let l = some_within firsts own.0 own.0 own.1 in omega arith) in
      let same : own.0 ≡ place = one_place posted ascends first own.0 place below at.0 tx (at.1 first) in (
        subst (λ k. FirstIs firsts k k) same own.1,
        subst (λ k. component_at firsts k posted ≡ asked) same own.2,
      )

  pub is_whole : (FirstIs firsts place place × (component_at firsts place posted ≡ asked) → IsComponent posted asked)
      × (IsComponent posted asked → FirstIs firsts place place × (component_at firsts place posted ≡ asked))
  is_whole = (λ whole. subst (IsComponent posted) whole.1 (are.exact place whole.0), begins_here)

-- in a state

pub in_state : (s : State) (posted asked : List Posted) (P : Type 0) → pool s ≡ posted
    → (P → IsComponent posted asked) × (IsComponent posted asked → P)
    → (P → IsPresentComponent s asked) × (IsPresentComponent s asked → P)
in_state s posted asked P is told =
    (λ p. present_in s posted asked is (told.0 p), λ h. told.1 (component_in s posted asked is h))
