use Rattle.std.proofs.Common.{◌∙◌, ap}
use Rattle.ent_history.specs.Openings.{opening_at}
use Rattle.ent_report_reader.specs.Reading.{IsOpeningLine}
use Rattle.ent_report_reader.proofs.LinesRead.{reads}
use Rattle.ent_report_reader.proofs.reading.opening_line.Goals as goal

pub returns : goal.returns
returns c =
    let known = c.openings_are_read_as_written.ensures in
    reads (IsOpeningLine c.args.text.now) (opening_at c.args.text.now) c.opening.result
    (λ x h. known.found c.args.text.now x.0 x.1 h)
    (λ x is. ap opening_at is.0 ∙ known.only x.0 x.1 is.1 is.2) c.opening.ensures
