use Rattle.std.proofs.Common.{◌∙◌, ap, map}
use Rattle.ent_plan.specs.Pairs.{seen, placed_at}
use Rattle.ent_plan.proofs.Pairing.{placed_step}
use Rattle.ent_plan.proofs.pair.posts_of.Goals as goal

pub loop-place-preserved : goal.loop-place-preserved
loop-place-preserved c =
    placed_step (λ member. member.statement.posts) c.args.members.now c.loop-place.place c.index-members-place.result
    (map seen c.loop-place.placed.items) (map seen c.push_atoms.new.placed.items)
    _ c.loop-place-test.true c.index-members-place.is c.loop-place.invariant c.in_ok-push_atoms.ensures
    (let kinds = c.as_slice-kinds.ensures ∙ ap (λ s. s.variables) c.statement-statement.ensures in
    let atoms = c.as_slice.ensures ∙ (c.deref.ensures ∙ ap (λ s. s.posts) c.statement-statement.ensures) in
    λ i. map (placed_at c.loop-place.place (kinds i)) (atoms i))
