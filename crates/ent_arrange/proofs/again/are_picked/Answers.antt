use Rattle.std.proofs.Common.{rules, ◌≡◌, length, ◌<◌, arith, sym, get_or, slice_get, Some}
use Rattle.std.proofs.lemmas.Grind.{common_steps}
use Rattle.ent_print.specs.Printing.{script_text}
use Rattle.ent_arrange.proofs.Picked.{picked_more}
use Rattle.ent_arrange.proofs.again.are_picked.Goals as goal

pub loop-place-preserved : goal.loop-place-preserved
loop-place-preserved c =
    let low : c.loop-place.place < length c.args.indices.now = grind (arith, rules) in
    let short : c.loop-place.place < length c.args.picked.now = grind (arith, rules) in
    let at : slice_get c.args.scripts.now (get_or c.args.indices.now c.loop-place.place 0) ≡ Some c.in-Some.script.now =
    grind (arith, common_steps) in
    let alike : script_text c.in-Some.script.now ≡ script_text c.index-picked-place.result = grind (arith, rules) in
    picked_more script_text c.args.scripts.now c.args.indices.now c.args.picked.now c.loop-place.place
    c.in-Some.script.now c.index-picked-place.result low short at (sym c.index-picked-place.is) alike
    c.loop-place.invariant
