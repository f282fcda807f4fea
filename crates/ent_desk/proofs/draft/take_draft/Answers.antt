use Rattle.std.proofs.Common.{◌≡◌, Some, arith, rules, slice_get}
use Rattle.ent_desk.specs.Drafts.{draft_among}
use Rattle.ent_desk.proofs.Drafting.{found_of, got_at, others_stay}
use Rattle.ent_desk.proofs.draft.take_draft.Goals as goal

pub returns-clause-others : goal.returns-clause-others
returns-clause-others c =
    let items = c.args.drafts.now.items in
    let own = c.remove.result in
    let there : slice_get items c.place_of-place.result ≡ Some own =
    got_at items c.place_of-place.result own (omega arith) c.remove.ensures.value in
    let taken : draft_among items c.args.tx ≡ Some own = search rules in
    others_stay items c.remove.new.self.items c.args.tx c.place_of-place.result own c.remove.ensures.items there
    (found_of items c.args.tx own taken)
