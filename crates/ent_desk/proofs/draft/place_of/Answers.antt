use Rattle.std.proofs.Common.{◌∙◌}
use Rattle.ent_desk.proofs.Drafting.{found_here}
use Rattle.ent_desk.proofs.draft.place_of.Goals as goal

pub returns-then-drafts-place-clause-draft : goal.returns-then-drafts-place-clause-draft
returns-then-drafts-place-clause-draft c =
    let own = c.index-drafts-place in
    found_here c.args.drafts.now c.args.tx c.loop-place.place own.result c.loop-place-test.true
    c.if-drafts-place.true ∙ c.loop-place.invariant
