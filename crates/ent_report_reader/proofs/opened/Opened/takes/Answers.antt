use Rattle.std.proofs.Common.{◌∙◌, ap, map, refl, subst, sym}
use Rattle.ent_value.specs.Value.{kinds_of}
use Rattle.ent_tree.specs.declared.declaration.Column.{Column}
use Rattle.ent_tree.specs.declared.declaration.Opening.{Opening}
use Rattle.ent_history.specs.Draft.{last_of}
use Rattle.ent_report_reader.specs.Opened.{OpeningTakes}
use Rattle.ent_report_reader.proofs.OpeningSteps.{is_below, takes}
use Rattle.ent_report_reader.proofs.opened.Opened.takes.Goals as goal

pub returns-then-is_of_kinds : goal.returns-then-is_of_kinds
returns-then-is_of_kinds c =
    let there = sym (c.in-Some.ensures ∙ ap last_of (c.as_slice.ensures ∙ c.deref.ensures)) in
    let kinds = ap kinds_of (sym c.values.ensures) ∙ c.if-is_of_kinds.ensures.0 refl
    ∙ ap (map (λ (column : Column). column.kind)) (c.as_slice-2.ensures ∙ c.deref-2.ensures) in (
      λ t. subst (λ (o : Opening). OpeningTakes o c.args.row.now) c.self.view_is
          (takes c.self.inside.tables c.self.inside.rows c.self.inside.last_row c.in-Some.create.now c.args.row.now
          c.self.invariant.0 there kinds (c.is_behind.ensures.0 t)),
      λ can. c.is_behind.ensures.1
          (is_below c.self.inside.tables c.self.inside.rows c.self.inside.last_row c.in-Some.create.now c.args.row.now
          c.self.invariant.0 there (subst (λ (o : Opening). OpeningTakes o c.args.row.now) (sym c.self.view_is) can)),
    )
