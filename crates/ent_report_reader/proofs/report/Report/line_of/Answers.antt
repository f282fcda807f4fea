use Rattle.std.proofs.Common.{List, subst, sym}
use Rattle.ent_report_reader.specs.Located.{AreLinesOf}
use Rattle.ent_report_reader.specs.declared.located.Located.{Located}
use Rattle.ent_report_reader.proofs.ThingLines.{line_found}
use Rattle.ent_report_reader.proofs.report.Report.line_of.Goals as goal

pub returns : goal.returns
returns c text are told =
    line_found text c.args.self.now.history c.as_slice.result.now c.args.thing c.line_in.result
    (subst (λ (all : List Located). AreLinesOf text c.args.self.now.history all) (sym c.as_slice.ensures) are) told
    c.line_in.ensures.some c.line_in.ensures.none
