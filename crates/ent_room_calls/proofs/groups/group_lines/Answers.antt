use Rattle.std.proofs.Common.{◌≡◌, ◌∙◌, ◌+◌, ◌<◌, ◌∷◌, ◌++◌, ap, append_assoc, arith, drop, length, suc, sym}
use Rattle.std.proofs.Math.Seq.{drop-cons}
use Rattle.ent_feed.specs.Line.{group_line}
use Rattle.ent_room_calls.specs.Groups.{group_lines}
use Rattle.ent_room_calls.proofs.groups.group_lines.Goals as goal

pub loop-group-preserved : goal.loop-group-preserved
loop-group-preserved c =
    let groups = c.groups-groups.result.now in
    let place = c.loop-group.group-index in
    let group = c.group-item.result in
    let lines = c.loop-group.lines.items in
    let within : place < length groups = omega (arith, c.loop-group-test.true) in
    let step : suc place ≡ place + 1 = omega arith in
    let next : drop place groups ≡ group ∷ drop (place + 1) groups =
    drop-cons groups place group within
    ∙ ap (λ first. first ∷ drop (suc place) groups) (sym c.group-item.is)
    ∙ ap (λ n. group ∷ drop n groups) step in
    let rest = group_lines (drop (place + 1) groups) in
    ap (λ out. out ++ rest) c.in_ok-append_line.ensures.ok
    ∙ append_assoc lines (group_line group) rest
    ∙ ap (λ more. lines ++ group_lines more) (sym next)
    ∙ c.loop-group.invariant
