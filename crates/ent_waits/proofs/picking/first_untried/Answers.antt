use Rattle.std.proofs.Common.{◌≡◌, ◌∙◌, ℕ, [], List, Option, length, get_or, arith, sym, ap, subst}
use Rattle.ent_lock.specs.Use.{IsLeast}
use Rattle.ent_semantics.specs.Pool.{Posted, first_tx}
use Rattle.ent_match.specs.Components.{AreFirstPlaces, component_at}
use Rattle.ent_match.proofs.Beginning.{some_within}
use Rattle.ent_protocol.specs.Quiet.{IsUntried}
use Rattle.ent_waits.specs.Open.{IsFirstOpen, NoneIsOpen}
use Rattle.ent_waits.proofs.Picked.{first_at, least_untried, no_untried, picked_at, picked_none}
use Rattle.ent_waits.proofs.picking.first_untried.Goals as goal

pub first_open-requires : goal.first_open-requires
first_open-requires c =
    subst (AreFirstPlaces c.members-members.result.now) (sym c.as_slice.ensures.value)
    (subst (λ (pool : List Posted). AreFirstPlaces pool c.in_ok-firsts.firsts.items)
    (sym c.members-members.ensures.members)
    c.in_ok-firsts.ensures)

pub bounds-members-place : goal.bounds-members-place
bounds-members-place c =
    let place = c.in-Some.place in
    let firsts = c.in_ok-firsts.firsts.items in
    let begins = subst (λ (fs : List (Option ℕ)). IsFirstOpen c.members-members.result.now fs c.args.tried.now [] place)
    c.as_slice.ensures.value c.in-Some.ensures in
    let below = some_within firsts place place begins.is_open.begins in
    let room = c.in_ok-firsts.ensures.room in
    let same = ap (λ (xs : List Posted). length xs) c.members-members.ensures.members in
    omega arith

pub returns-in-Some : goal.returns-in-Some
returns-in-Some c = λ s posted_is tried_is.
    let pool = c.args.pool.now in
    let tried = c.args.tried.now in
    let firsts = c.in_ok-firsts.firsts.items in
    let are = c.in_ok-firsts.ensures in
    let ascends = c.members-members.ensures.by_number in
    let place = c.in-Some.place in
    let own = c.index-members-place.result in
    let first = subst (λ (xs : List Posted). IsFirstOpen xs firsts tried [] place) c.members-members.ensures.members
    (subst (λ (fs : List (Option ℕ)). IsFirstOpen c.members-members.result.now fs tried [] place)
    c.as_slice.ensures.value
    c.in-Some.ensures) in
    let tx : first_tx (component_at firsts place pool) ≡ c.tx.result =
    first_at pool ascends firsts are place own first.is_open.begins
    ∙ (ap (λ (xs : List Posted). (get_or xs place own).tx) (sym c.members-members.ensures.members)
    ∙ (ap (λ (m : Posted). m.tx) (sym c.index-members-place.is) ∙ sym c.tx.ensures)) in
    subst (IsLeast (IsUntried s)) tx
    (least_untried pool tried (component_at firsts place pool)
    (picked_at c.components_are_classes.ensures pool ascends firsts are tried [] place first) s posted_is tried_is)

pub returns : goal.returns
returns c =
    let pool = c.args.pool.now in
    let tried = c.args.tried.now in
    let firsts = c.in_ok-firsts.firsts.items in
    let none = subst (λ (xs : List Posted). NoneIsOpen xs firsts tried []) c.members-members.ensures.members
    (subst (λ (fs : List (Option ℕ)). NoneIsOpen c.members-members.result.now fs tried []) c.as_slice.ensures.value
    c.in-None.ensures) in
    no_untried pool tried
    (picked_none c.components_are_classes.ensures pool c.members-members.ensures.by_number firsts
    c.in_ok-firsts.ensures tried
    [] none)
