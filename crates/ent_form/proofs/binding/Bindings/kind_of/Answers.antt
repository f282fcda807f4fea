use Rattle.std.proofs.Common.{Bool, Option, Some, ap, sym, ◌∙◌}
use Rattle.std.specs.Prelude.{if◌then◌else◌}
use Rattle.ent_value.specs.declared.value.Kind.{Kind}
use Rattle.ent_form.proofs.Steps.{bound_more}
use Rattle.ent_form.proofs.binding.Bindings.kind_of.Goals as goal
use Rattle.ent_form.proofs.binding.Bindings.kind_of.Goals.{then-eq, else-eq}

pub loop-binding-preserved : goal.loop-binding-preserved
loop-binding-preserved c =
    let binding = c.binding-item.result in
    let more = bound_more c.as_slice-binding-items.result.now c.args.name.now c.loop-binding.found
    c.loop-binding.binding-index binding c.loop-binding-test.true c.binding-item.is c.loop-binding.invariant in
    let chosen : Bool → Option Kind = λ b. if b then Some binding.kind else c.loop-binding.found in
    elim c.if-eq.branch [
      | then-eq w ↦ w.found-is ∙ ap chosen (sym w.if-eq.true ∙ c.eq.ensures) ∙ more
      | else-eq w ↦ w.found-is ∙ ap chosen (sym w.if-eq.false ∙ c.eq.ensures) ∙ more
    ]
