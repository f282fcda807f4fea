use Rattle.std.proofs.Common.{◌≡◌, List, ℕ, length, arith, sym, subst, ◌∙◌}
use Rattle.std.proofs.lemmas.List.{with_items_is}
use Rattle.std.proofs.lemmas.Result.{IfOk-weaker}
use Rattle.ent_match.specs.Components.{AreFirstPlaces, joins_of}
use Rattle.ent_match.specs.Labels.{AreOwnLabels, AreShown}
use Rattle.ent_match.proofs.Beginning.{are_first_places}
use Rattle.ent_match.proofs.Joins.{are_joins}
use Rattle.ent_match.proofs.Listing.{linked_by}
use Rattle.ent_match.proofs.components.first_places_from.Goals as goal

pub mark_all-requires : goal.mark_all-requires
mark_all-requires c =
    let room = c.requires.start.room in
    λ link inside. let offer = c.requires.start.sound link inside in
    (let a = offer.owner.offers.0 in omega arith, let b = offer.asks.0 in omega arith)

pub lower_all-requires-clause-within : goal.lower_all-requires-clause-within
lower_all-requires-clause-within c =
    let room = c.requires.start.room in
    let own = subst (AreOwnLabels (length c.args.members.now)) (sym c.as_mut_slice.ensures.value)
    c.in_ok-labels.ensures in
    let labels = own.room in
    λ link inside. let offer = c.requires.start.sound link inside in
    (let a = offer.owner.offers.0 in omega arith, let b = offer.asks.0 in omega arith)

pub lower_all-requires-clause-room : goal.lower_all-requires-clause-room
lower_all-requires-clause-room c =
    let room = c.requires.start.room in
    let grown = c.mark_all.ensures.grows.room in
    let own = subst (AreOwnLabels (length c.args.members.now)) (sym c.as_mut_slice.ensures.value)
    c.in_ok-labels.ensures in
    let labels = own.room in
    omega arith

pub returns : goal.returns
returns c =
    let pool = c.args.members.now in
    let links = c.args.links.now in
    let removed = c.mark_all.new.marks in
    let joins = joins_of links removed in
    let labels = c.lower_all.new.labels in
    let s = linked_by pool c.requires.by_number c.requires.safe links c.args.removed.now removed c.requires.start
    c.mark_all.ensures joins (are_joins links removed) in
    let own = subst (AreOwnLabels (length pool)) (sym c.as_mut_slice.ensures.value) c.in_ok-labels.ensures in
    let same : c.as_slice.result.now ≡ labels =
    c.as_slice.ensures.value
    ∙ with_items_is c.in_ok-labels.labels labels (c.lower_all.ensures.lowers.room ∙ c.as_mut_slice.ensures.len) in
    IfOk-weaker c.shown_labels.result (λ v. AreShown c.as_slice.result.now removed v.items)
    (λ v. AreFirstPlaces pool v.items)
    (λ v shown. are_first_places pool joins removed s c.as_mut_slice.result.now labels own c.lower_all.ensures.lowers
    c.lower_all.ensures.level v.items (subst (λ (xs : List ℕ). AreShown xs removed v.items) same shown))
    c.shown_labels.ensures
