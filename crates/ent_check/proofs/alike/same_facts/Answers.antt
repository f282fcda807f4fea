use Rattle.std.proofs.Common.{◌≡◌, ◌<◌, true, false, length, subst, arith, rules}
use Rattle.ent_lists.specs.Elements.{FitBefore, fit_off, fit_on, fit_whole}
use Rattle.ent_history.specs.Alike.{same_fact}
use Rattle.ent_check.proofs.alike.same_facts.Goals as goal

pub returns-then-not-alike : goal.returns-then-not-alike
returns-then-not-alike c =
    let low : c.loop-index.index < length c.args.first.now = grind (arith, rules) in
    let same : length c.args.first.now ≡ length c.args.second.now = grind (arith, rules) in
    let is : same_fact c.index-first-index.result c.index-second-index.result ≡ false = grind (arith, rules) in
    fit_off same_fact c.args.first.now c.args.second.now c.loop-index.index c.index-first-index.result
    c.index-second-index.result low same c.index-first-index.is c.index-second-index.is is c.loop-index.invariant

pub loop-index-preserved : goal.loop-index-preserved
loop-index-preserved c =
    let low : c.loop-index.index < length c.args.first.now = grind (arith, rules) in
    let same : length c.args.first.now ≡ length c.args.second.now = grind (arith, rules) in
    let is : same_fact c.index-first-index.result c.index-second-index.result ≡ true = grind (arith, rules) in
    fit_on same_fact c.args.first.now c.args.second.now c.loop-index.index c.index-first-index.result
    c.index-second-index.result low same c.index-first-index.is c.index-second-index.is is c.loop-index.invariant

pub returns : goal.returns
returns c =
    let same : length c.args.first.now ≡ length c.args.second.now = grind (arith, rules) in
    let whole : c.loop-index.index ≡ length c.args.first.now = grind (arith, rules) in
    fit_whole same_fact c.args.first.now c.args.second.now same
    (subst (FitBefore same_fact c.args.first.now c.args.second.now) whole c.loop-index.invariant)
