use Rattle.std.proofs.Common.{arith, ap, length, length-append, subst, sym}
use Rattle.std.specs.Str.{IsUtf8}
use Rattle.ent_report_reader.proofs.Fronts.{front_boundary, front_cut}
use Rattle.ent_report_reader.proofs.lines.front_lines.Goals as goal

pub split_at-requires : goal.split_at-requires
split_at-requires c =
    let are = c.behind_lines.ensures.1 in
    let same = c.as_bytes-behind.ensures.value in
    let whole = ap length are.parts in
    let parts = length-append c.behind_lines.ensures.0 c.behind_lines.result.now in
    front_boundary c.args.text.now c.behind_lines.ensures.0 c.behind_lines.result.now _ are.parts
    (omega (arith, whole, parts, ap length same)) (subst IsUtf8 same c.as_bytes-behind.ensures.utf8)
