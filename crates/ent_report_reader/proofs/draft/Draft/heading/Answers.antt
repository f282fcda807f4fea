use Rattle.std.proofs.Common.{◌∙◌, refl, sym}
use Rattle.ent_report_reader.proofs.FrameLines.{heading_is, other_bytes}
use Rattle.ent_report_reader.proofs.draft.Draft.heading.Goals as goal

pub returns-then-ne : goal.returns-then-ne
returns-then-ne c = (
  λ next stands. other_bytes c.args.text.now c.as_slice.result.now c.if-ne.ensures
      (heading_is c.args.self.now c.args.text.now next stands ∙ sym c.as_slice.ensures),
  refl,
)
