use Rattle.std.proofs.Common.{◌≡◌, ◌<◌, ◌≤◌, true, false, length, refl, sym, ◌∙◌, arith, rules}
use Rattle.ent_check.proofs.Joints.{members_in}
use Rattle.ent_check.proofs.LeftOut.{stand_all, stands_more, stands_not}
use Rattle.ent_check.proofs.joint.all_stand.Goals as goal

pub loop-index-init : goal.loop-index-init
loop-index-init c = λ members are. refl

pub returns-then-not-standing : goal.returns-then-not-standing
returns-then-not-standing c =
    let low : c.loop-index.index < length c.args.statements.now = grind (arith, rules) in
    let is : c.stands-standing.result ≡ false = grind (arith, rules) in
    λ members are. sym (stands_not members c.args.seats.now are c.args.tx c.args.statements.now c.loop-index.index
    c.index-statements-index.result low c.index-statements-index.is (sym c.stands-standing.ensures ∙ is)
    (c.loop-index.invariant members are))

pub loop-index-preserved : goal.loop-index-preserved
loop-index-preserved c =
    let low : c.loop-index.index < length c.args.statements.now = grind (arith, rules) in
    let is : c.stands-standing.result ≡ true = grind (arith, rules) in
    λ members are. stands_more members c.args.seats.now are c.args.tx c.args.statements.now c.loop-index.index
    c.index-statements-index.result low c.index-statements-index.is (sym c.stands-standing.ensures ∙ is)
    (c.loop-index.invariant members are)

pub returns : goal.returns
returns c =
    let over : length c.args.statements.now ≤ c.loop-index.index = grind (arith, rules) in
    λ members are. sym (stand_all (members_in members) c.args.tx c.args.statements.now c.loop-index.index over
    (c.loop-index.invariant members are))
