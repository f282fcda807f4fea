use Rattle.std.proofs.Common.{◌≡◌, ◌<◌, true, length, sym, ◌∙◌, arith, rules, is_some, slice_index_or}
use Rattle.std.proofs.lemmas.Grind.{get_or_default_zero}
use Rattle.ent_history.specs.Account.{accounts_from}
use Rattle.ent_check.specs.Alone.{IsSeatedWhole}
use Rattle.ent_check.proofs.Next.{none_there}
use Rattle.ent_check.proofs.Turns.{turn_seated, turns_off, turns_on}
use Rattle.ent_check.proofs.serial.turns_finding.Goals as goal

pub turn_finding-requires-clause-seated : goal.turn_finding-requires-clause-seated
turn_finding-requires-clause-seated c =
    let all = accounts_from 1 c.args.scripts.now c.args.transactions.now in
    let order = c.args.order.now in
    let i = c.loop-place.place in
    let index = slice_index_or order i 0 in
    let low : i < length order = grind (arith, rules) in
    turn_seated all order i index low (sym (get_or_default_zero order i index low))
    (IsSeatedWhole c.args.groundings.now) c.requires.seated

pub returns-then-is_some-clause-replayed : goal.returns-then-is_some-clause-replayed
returns-then-is_some-clause-replayed c =
    let all = accounts_from 1 c.args.scripts.now c.args.transactions.now in
    let order = c.args.order.now in
    let i = c.loop-place.place in
    let index = slice_index_or order i 0 in
    let low : i < length order = grind (arith, rules) in
    let some : is_some c.in_ok-finding.finding ≡ true = sym c.is_some.ensures ∙ c.if-is_some.true in
    turns_off c.args.declared.now c.args.groundings.now all order i
    index low (sym (get_or_default_zero order i index low)) _ _ _ c.in_ok-finding.finding _ _ _
    c.loop-place.invariant.replayed c.in_ok-finding.ensures.replayed some

pub loop-place-preserved : goal.loop-place-preserved
loop-place-preserved c =
    let all = accounts_from 1 c.args.scripts.now c.args.transactions.now in
    let order = c.args.order.now in
    let i = c.loop-place.place in
    let index = slice_index_or order i 0 in
    let low : i < length order = grind (arith, rules) in
    let none = none_there c.in_ok-finding.finding (sym c.is_some.ensures ∙ c.if-is_some.false) in
    record {
      stand = c.in_ok-finding.ensures.declared none;
      replayed = turns_on c.args.declared.now c.args.groundings.now all order i
          index low (sym (get_or_default_zero order i index low)) _ _ _ c.in_ok-finding.finding _ _ _
          c.loop-place.invariant.replayed c.in_ok-finding.ensures.replayed none;
    }
