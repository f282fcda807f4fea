use Rattle.std.proofs.Common.{◌≡◌, ◌∙◌, ◌+◌, ◌-◌, ℕ, ap, arith, sym}
use Rattle.ent_members.specs.TransactionOrder.{part_reversed}
use Rattle.ent_members.proofs.Behind.{none_reversed, reordered_again, swap_reversed}
use Rattle.ent_members.proofs.order.reverse_part.Goals as goal

pub loop-step-preserved : goal.loop-step-preserved
loop-step-preserved c =
    let old = c.args.order.now in
    let mid = c.loop-step.order in
    let new = c.swap_indices.new.self in
    let low : ℕ = c.args.start + c.loop-step.step in
    let last : ℕ = c.args.end - 1 - c.loop-step.step in
    let next : c.args.start + (c.loop-step.step + 1) ≡ low + 1 = omega arith in
    let before : c.args.end - (c.loop-step.step + 1) ≡ last = omega arith in
    let end : last + 1 ≡ c.args.end - c.loop-step.step = omega (arith, c.loop-step-test.true) in (
      reordered_again old mid new c.loop-step.invariant.0 c.swap_indices.ensures.reordered,
      (λ i. part_reversed (next i) (before i) (c.swap_indices.ensures.entries i))
          ∙ swap_reversed mid.entries (0, 0) low last (omega (arith, c.loop-step-test.true))
          (omega (arith, c.loop-step.invariant.0.1, c.requires.within))
          ∙ ap (λ (n : ℕ). part_reversed low n mid.entries) end
          ∙ c.loop-step.invariant.1,
    )

pub returns-clause-entries : goal.returns-clause-entries
returns-clause-entries c =
    let low : ℕ = c.args.start + c.loop-step.step in
    let high : ℕ = c.args.end - c.loop-step.step in
    sym (none_reversed c.loop-step.order.entries low high (omega (arith, c.loop-step-test.false))
    (omega (arith, c.loop-step-test.false)))
    ∙ c.loop-step.invariant.1
