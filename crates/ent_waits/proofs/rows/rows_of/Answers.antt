use Rattle.std.proofs.Common.{◌<◌, length, sym, ◌∙◌, arith}
use Rattle.std.proofs.lemmas.List.{length-set}
use Rattle.ent_waits.proofs.Marked.{rows_more}
use Rattle.ent_waits.proofs.rows.rows_of.Goals as goal

pub loop-place-preserved : goal.loop-place-preserved
loop-place-preserved c =
    let at = c.loop-place.place in
    let row = c.row_while_waiting.result in
    let room : at < length c.loop-place.rows = omega arith in
    record {
      upto = rows_more c.args.run.now c.args.submitted.now c.args.lent.now c.loop-place.rows at row
          c.at-asker.result (λ d. sym (c.at-asker.ensures d)) room c.row_while_waiting.ensures.row
          c.loop-place.invariant.upto;
      known = c.row_while_waiting.ensures.known;
      room = length-set c.loop-place.rows at row ∙ c.loop-place.invariant.room;
    }

pub returns : goal.returns
returns c = λ place asker stands.
    c.loop-place.invariant.upto place asker (omega (arith, stands.0)) stands
