use Rattle.std.proofs.Common.{ap, sym, ◌∙◌, cond, Some, arith}
use Rattle.std.specs.Option.{option_copied}
use Rattle.ent_closing.proofs.Bindings.{bound_more}
use Rattle.ent_closing.proofs.environment.last_value.Goals as goal
use Rattle.ent_closing.proofs.environment.last_value.Goals.{then-eq, else-eq}

pub loop-binding-preserved : goal.loop-binding-preserved
loop-binding-preserved c =
    let binding = c.binding-item.result in
    bound_more c.args.bindings.now c.loop-binding.binding-index binding c.args.variable.now
    (option_copied c.loop-binding.found) (option_copied c.if-eq.found)
    (omega arith) c.binding-item.is c.loop-binding.invariant
    (elim c.if-eq.branch [
      | then-eq w ↦ ap option_copied w.found-is ∙ ap (λ b. cond b (Some binding.1)
          (option_copied c.loop-binding.found)) (sym w.if-eq.true ∙ c.eq.ensures)
      | else-eq w ↦ ap option_copied w.found-is ∙ ap (λ b. cond b (Some binding.1)
          (option_copied c.loop-binding.found)) (sym w.if-eq.false ∙ c.eq.ensures)
    ])
