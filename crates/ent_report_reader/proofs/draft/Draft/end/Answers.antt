use Rattle.std.proofs.Common.{◌∙◌, refl, sym}
use Rattle.ent_report_reader.proofs.FrameLines.{end_is, other_bytes}
use Rattle.ent_report_reader.proofs.draft.Draft.end.Goals as goal

pub returns-then-ne : goal.returns-then-ne
returns-then-ne c = (
  λ next stands. other_bytes c.args.text.now c.as_slice.result.now c.if-ne.ensures
      (end_is c.args.self.now c.args.text.now next stands ∙ sym c.as_slice.ensures),
  refl,
)
