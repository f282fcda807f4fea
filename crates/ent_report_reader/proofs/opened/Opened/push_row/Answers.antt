use Rattle.std.proofs.Common.{◌∷◌, [], ◌++◌, ◌∙◌, List, Some, ap, subst, sym}
use Rattle.ent_tree.specs.declared.declaration.OpeningRow.{OpeningRow}
use Rattle.ent_history.specs.Draft.{last_of}
use Rattle.ent_report_reader.specs.Opened.{IsInOrder}
use Rattle.ent_report_reader.proofs.OpeningSteps.{grown}
use Rattle.ent_report_reader.proofs.opened.Opened.push_row.Goals as goal

pub invariant_of-self-2 : goal.invariant_of-self-2
invariant_of-self-2 c =
    let there = sym (c.in-Some.ensures ∙ ap last_of (c.as_slice.ensures ∙ c.deref.ensures)) in
    let rows = c.in_ok-push.ensures.ok
    ∙ ap (λ (o : OpeningRow). c.self.inside.rows ++ o ∷ []) c.in_ok-opened.ensures in (
      subst (λ (rs : List OpeningRow). IsInOrder c.self.inside.tables rs (Some c.args.row)) (sym rows)
          (grown c.self.inside.tables c.self.inside.rows c.self.inside.last_row c.in-Some.create.now c.args.row there
          c.self.invariant.0),
      c.self.invariant.1,
    )
