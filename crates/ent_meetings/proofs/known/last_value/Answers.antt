use Rattle.std.proofs.Common.{ap, sym, ◌∙◌, cond, arith}
use Rattle.std.specs.Option.{option_copied}
use Rattle.ent_meetings.proofs.Bindings.{said_more}
use Rattle.ent_meetings.proofs.known.last_value.Goals as goal
use Rattle.ent_meetings.proofs.known.last_value.Goals.{then-eq, else-eq}

pub loop-binding-preserved : goal.loop-binding-preserved
loop-binding-preserved c =
    let binding = c.binding-item.result in
    said_more c.args.bindings.now c.loop-binding.binding-index binding c.args.variable.now
    (option_copied c.loop-binding.found) (option_copied c.if-eq.found)
    (omega arith) c.binding-item.is c.loop-binding.invariant
    (elim c.if-eq.branch [
      | then-eq w ↦ ap option_copied w.found-is ∙ ap (λ b. cond b (option_copied binding.value)
          (option_copied c.loop-binding.found)) (sym w.if-eq.true ∙ c.eq.ensures)
      | else-eq w ↦ ap option_copied w.found-is ∙ ap (λ b. cond b (option_copied binding.value)
          (option_copied c.loop-binding.found)) (sym w.if-eq.false ∙ c.eq.ensures)
    ])
