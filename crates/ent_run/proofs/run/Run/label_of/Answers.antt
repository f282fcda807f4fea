use Rattle.std.proofs.Common.{◌≡◌, ◌++◌, subst, sym, ◌∙◌}
use Rattle.std.specs.Prelude.{◌↔◌, Some}
use Rattle.ent_run.specs.Grouped.{IsLabelled}
use Rattle.ent_run.specs.Run.{Run}
use Rattle.ent_run.proofs.run.Run.label_of.Goals as goal

pub returns : goal.returns
returns c = λ group.
    let tx = c.args.tx in
    let labels = c.self.invariant.0.1.labels tx group in
    subst (λ (run : Run). (c.group_of.result ≡ Some group) ↔ IsLabelled (run.prepared ++ run.active) tx group)
    c.self.view_is
    (λ is. labels.0 (sym c.group_of.ensures ∙ is), λ labelled. c.group_of.ensures ∙ labels.1 labelled)
