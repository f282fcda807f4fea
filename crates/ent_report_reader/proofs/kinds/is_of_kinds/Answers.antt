use Rattle.std.proofs.Common.{◌∙◌, ap, sym, true, false}
use Rattle.ent_tree.specs.declared.declaration.Column.{Column}
use Rattle.ent_report_reader.proofs.OpeningSteps.{kinds_at, never}
use Rattle.ent_report_reader.proofs.kinds.is_of_kinds.Goals as goal

pub returns-then-not-is_same : goal.returns-then-not-is_same
returns-then-not-is_same c = (
  λ t. absurd (never t),
  λ same. absurd (never (sym c.if-not-is_same.true ∙ c.is_same.ensures.1 (c.kind.ensures
      ∙ kinds_at c.args.row.now c.args.columns.now c.loop-index.index c.index-row-index.result
      c.index-columns-index.result c.loop-index-test.true c.if-row-columns.false c.index-row-index.is
      c.index-columns-index.is same ∙ ap (λ (x : Column). x.kind) c.index-columns-index.is))),
)
