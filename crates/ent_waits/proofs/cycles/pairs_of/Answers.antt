use Rattle.std.proofs.Common.{◌≡◌, ◌≤◌, List, length, arith, subst, sym, ap, ◌∙◌}
use Rattle.std.specs.List.{flat_map}
use Rattle.std.proofs.lemmas.Grind.{common_steps}
use Rattle.std.proofs.lemmas.List.{take_all}
use Rattle.ent_group.specs.Cycle.{NamesAtMost}
use Rattle.ent_protocol.specs.State.{Member}
use Rattle.ent_waits.specs.Waits.{gathered, pairs_while_waiting}
use Rattle.ent_waits.proofs.Gathered.{few_names}
use Rattle.ent_waits.proofs.cycles.pairs_of.Goals as goal

pub loop-place-preserved : goal.loop-place-preserved
loop-place-preserved c =
    let is = c.at-asker.ensures c.at-asker.result in
    grind (arith, common_steps)

pub returns-clause-names : goal.returns-clause-names
returns-clause-names c =
    let run = c.args.run.now in
    let submitted = c.args.submitted.now in
    let lent = c.args.lent.now in
    let gone : length run.active ≤ c.loop-place.place = omega arith in
    let same : c.loop-place.pairs ≡ gathered run submitted lent =
    c.loop-place.invariant.so_far
    ∙ ap (λ (askers : List Member). flat_map (pairs_while_waiting run submitted lent) askers)
    (take_all c.loop-place.place run.active gone) in
    subst (NamesAtMost 64) (sym same) (few_names run submitted lent 64 c.active_len-place-end.ensures.bound)
