use Rattle.std.proofs.Common.{◌≡◌, ◌-◌, length, refl, take}
use Rattle.ent_book.specs.Report2.{line_count}
use Rattle.ent_report_reader.proofs.ThingLines.{counted_above}
use Rattle.ent_report_reader.proofs.located.lines_above.Goals as goal

pub returns : goal.returns
returns c =
    let cut = length c.args.text.now - length c.args.rest.now in
    let counted = c.line_count.ensures in
    let same = c.as_bytes.ensures.value in
    let above : c.line_count.result ≡ line_count (take cut c.args.text.now) = cc in
    counted_above c.args.text.now c.requires.0 c.args.rest.now c.args.text.now cut c.line_count.result c.requires.1
    refl refl above
