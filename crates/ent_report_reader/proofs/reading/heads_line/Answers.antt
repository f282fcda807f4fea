use Rattle.std.proofs.Common.{◌∙◌, ap}
use Rattle.ent_history.specs.Heads.{heads_at}
use Rattle.ent_report_reader.specs.Reading.{IsHeadsLine}
use Rattle.ent_report_reader.proofs.LinesRead.{reads}
use Rattle.ent_report_reader.proofs.reading.heads_line.Goals as goal

pub returns : goal.returns
returns c =
    let known = c.heads_are_read_as_written.ensures in
    reads (IsHeadsLine c.args.text.now) (heads_at c.args.text.now) c.heads.result
    (λ x h. known.found c.args.text.now x.0 x.1 h)
    (λ x is. ap heads_at is.0 ∙ known.only x.0 x.1 is.1 is.2 is.3) c.heads.ensures
