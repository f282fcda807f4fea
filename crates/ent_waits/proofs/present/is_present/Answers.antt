use Rattle.std.proofs.Common.{◌≡◌, ℕ, List, Option, false, length, arith, sym, ap, subst, true≢false}
use Rattle.std.specs.Prelude.{IsTrue}
use Rattle.ent_semantics.specs.Pool.{Posted}
use Rattle.ent_match.specs.Components.{AreFirstPlaces, FirstIs, component_at}
use Rattle.ent_match.specs.Place.{HasNoneOf, IsPlaceOf}
use Rattle.ent_waits.proofs.Around.{in_state, is_whole, not_posted, of_none}
use Rattle.ent_waits.proofs.present.is_present.Goals as goal

pub returns-in_default : goal.returns-in_default
returns-in_default c = λ s posted_is.
    let posted = c.args.pool.now in
    let asked = c.args.asked.now in
    in_state s posted asked (IsTrue false) posted_is
    (λ is. absurd (true≢false (sym is)), λ whole. absurd (of_none posted asked c.in_default.ensures.value whole))

pub returns-in_default-place_of : goal.returns-in_default-place_of
returns-in_default-place_of c = λ s posted_is.
    let posted = c.args.pool.now in
    let asked = c.args.asked.now in
    let pool_is = c.members-members.ensures.members in
    let none = subst (λ (tx : ℕ). HasNoneOf c.members-members.result.now tx) c.tx.ensures
    c.in_default-place_of.ensures in
    in_state s posted asked (IsTrue false) posted_is (
      λ is. absurd (true≢false (sym is)),
      λ component. absurd (not_posted posted asked c.in-Some.first.now c.in-Some.ensures.value
          (subst (λ (pool : List Posted). HasNoneOf pool c.in-Some.first.now.tx) pool_is none) component),
    )

pub is_whole_at-requires-clause-firsts : goal.is_whole_at-requires-clause-firsts
is_whole_at-requires-clause-firsts c =
    subst (AreFirstPlaces c.members-members.result.now) (sym c.as_slice.ensures.value)
    (subst (λ (pool : List Posted). AreFirstPlaces pool c.in_ok-firsts.firsts.items)
    (sym c.members-members.ensures.members)
    c.in_ok-firsts.ensures)

pub is_whole_at-requires-clause-within : goal.is_whole_at-requires-clause-within
is_whole_at-requires-clause-within c =
    let place = c.in-Some-place_of.place in
    let at = subst (λ (tx : ℕ). IsPlaceOf c.members-members.result.now tx place) c.tx.ensures
    c.in-Some-place_of.ensures in
    let below = at.0 in
    let room = c.in_ok-firsts.ensures.room in
    let same = ap (λ (xs : List Posted). length xs) c.members-members.ensures.members in
    let slice = ap (λ (fs : List (Option ℕ)). length fs) c.as_slice.ensures.value in
    omega arith

pub returns : goal.returns
returns c = λ s posted_is.
    let posted = c.args.pool.now in
    let asked = c.args.asked.now in
    let first = c.in-Some.first.now in
    let place = c.in-Some-place_of.place in
    let pool_is = c.members-members.ensures.members in
    let at = subst (λ (pool : List Posted). IsPlaceOf pool first.tx place) pool_is
    (subst (λ (tx : ℕ). IsPlaceOf c.members-members.result.now tx place) c.tx.ensures c.in-Some-place_of.ensures) in
    let firsts = c.in_ok-firsts.firsts.items in
    let told = is_whole c.components_are_classes.ensures posted asked c.members-members.ensures.by_number first
    c.in-Some.ensures.value place at firsts c.in_ok-firsts.ensures in
    let whole : List (Option ℕ) → List Posted → Type 0 = λ fs xs.
    FirstIs fs place place × (component_at fs place xs ≡ asked) in
    let to : whole c.as_slice.result.now c.members-members.result.now → whole firsts posted = λ is.
    subst (whole firsts) pool_is
    (subst (λ (fs : List (Option ℕ)). whole fs c.members-members.result.now) c.as_slice.ensures.value is) in
    let from : whole firsts posted → whole c.as_slice.result.now c.members-members.result.now = λ is.
    subst (λ (fs : List (Option ℕ)). whole fs c.members-members.result.now) (sym c.as_slice.ensures.value)
    (subst (whole firsts) (sym pool_is) is) in
    in_state s posted asked (IsTrue c.is_whole_at.result) posted_is
    (λ is. told.0 (to (c.is_whole_at.ensures.0 is)), λ component. c.is_whole_at.ensures.1 (from (told.1 component)))
