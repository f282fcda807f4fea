use Rattle.std.proofs.Common.{◌≡◌, ◌<◌, true, false, length, subst, arith, rules}
use Rattle.ent_lists.specs.Elements.{FitBefore, fit_off, fit_on, fit_whole}
use Rattle.ent_meetings.specs.Pattern.{may_be_one}
use Rattle.ent_meetings.proofs.pattern.may_be_row.Goals as goal

pub returns-then-not-may_be_one : goal.returns-then-not-may_be_one
returns-then-not-may_be_one c =
    let low : c.loop-index.index < length c.args.demanded.now = grind (arith, rules) in
    let same : length c.args.demanded.now ≡ length c.args.offered.now = grind (arith, rules) in
    let is : may_be_one c.index-demanded-index.result c.index-offered-index.result ≡ false = grind (arith, rules) in
    fit_off may_be_one c.args.demanded.now c.args.offered.now c.loop-index.index c.index-demanded-index.result
    c.index-offered-index.result low same c.index-demanded-index.is c.index-offered-index.is is c.loop-index.invariant

pub loop-index-preserved : goal.loop-index-preserved
loop-index-preserved c =
    let low : c.loop-index.index < length c.args.demanded.now = grind (arith, rules) in
    let same : length c.args.demanded.now ≡ length c.args.offered.now = grind (arith, rules) in
    let is : may_be_one c.index-demanded-index.result c.index-offered-index.result ≡ true = grind (arith, rules) in
    fit_on may_be_one c.args.demanded.now c.args.offered.now c.loop-index.index c.index-demanded-index.result
    c.index-offered-index.result low same c.index-demanded-index.is c.index-offered-index.is is c.loop-index.invariant

pub returns : goal.returns
returns c =
    let same : length c.args.demanded.now ≡ length c.args.offered.now = grind (arith, rules) in
    let whole : c.loop-index.index ≡ length c.args.demanded.now = grind (arith, rules) in
    fit_whole may_be_one c.args.demanded.now c.args.offered.now same
    (subst (FitBefore may_be_one c.args.demanded.now c.args.offered.now) whole c.loop-index.invariant)
