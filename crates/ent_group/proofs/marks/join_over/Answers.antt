use Rattle.std.proofs.Common.{◌<◌, length, get_or, arith}
use Rattle.std.specs.Prelude.{slice_index}
use Rattle.ent_group.specs.Marks.{joined}
use Rattle.std.proofs.lemmas.List.Edits.{map_over_more}
use Rattle.std.proofs.lemmas.List.{get_or_default}
use Rattle.ent_group.proofs.marks.join_over.Goals as goal

pub loop-row-preserved : goal.loop-row-preserved
loop-row-preserved c =
    let rows = c.loop-row.rows in
    let old = c.args.rows.now in
    let i = c.loop-row.row-index in
    let read = get_or rows i 0 in
    let within : i < length rows = omega (arith, c.loop-row.auto.rows, c.loop-row-test.true) in
    rw c.joined.ensures
    (map_over_more (joined c.args.middle (slice_index old c.args.middle)) old rows i read c.loop-row-test.true
    c.loop-row.invariant (get_or_default rows i 0 read within))
