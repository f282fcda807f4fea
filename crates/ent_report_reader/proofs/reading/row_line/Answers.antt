use Rattle.ent_report_reader.specs.Reading.{IsRowLine, whole_row_at}
use Rattle.ent_report_reader.proofs.LinesRead.{RowParts, reads, whole_row_found, whole_row_only}
use Rattle.ent_report_reader.proofs.reading.row_line.Goals as goal

pub returns : goal.returns
returns c =
    let known : RowParts = record {
      found = c.rows_are_read_as_written.ensures.found;
      only = c.rows_are_read_as_written.ensures.only;
    } in
    reads (IsRowLine c.args.text.now) (whole_row_at c.args.text.now) c.whole_row.result
    (whole_row_found known c.args.text.now) (whole_row_only known c.args.text.now) c.whole_row.ensures
