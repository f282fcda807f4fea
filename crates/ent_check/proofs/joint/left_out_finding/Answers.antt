use Rattle.std.proofs.Common.{◌≡◌, ◌<◌, ◌≤◌, true, false, length, refl, sym, ◌∙◌, arith, rules, is_some, min}
use Rattle.ent_check.proofs.Joints.{members_in}
use Rattle.ent_check.proofs.LeftOut.{left_all, left_here, left_more}
use Rattle.ent_check.proofs.joint.left_out_finding.Goals as goal

pub loop-index-init : goal.loop-index-init
loop-index-init c = λ members are. refl

pub returns-then-is_some : goal.returns-then-is_some
returns-then-is_some c =
    let scripts = c.args.scripts.now in
    let told = c.args.transactions.now in
    let i = c.loop-index.index in
    let low : i < length scripts = grind (arith, rules) in
    let low_told : i < length told = grind (arith, rules) in
    let is : is_some c.left_out-finding.result ≡ true = sym c.is_some.ensures ∙ c.if-is_some.true in
    λ members are. left_here (members_in members) scripts told i c.index-scripts-index.result
    c.index-transactions-index.result low low_told c.index-scripts-index.is c.index-transactions-index.is
    (c.loop-index.invariant members are) c.left_out-finding.result (c.left_out-finding.ensures members are) is

pub loop-index-preserved : goal.loop-index-preserved
loop-index-preserved c =
    let scripts = c.args.scripts.now in
    let told = c.args.transactions.now in
    let i = c.loop-index.index in
    let low : i < length scripts = grind (arith, rules) in
    let low_told : i < length told = grind (arith, rules) in
    let is : is_some c.left_out-finding.result ≡ false = sym c.is_some.ensures ∙ c.if-is_some.false in
    λ members are. left_more (members_in members) scripts told i c.index-scripts-index.result
    c.index-transactions-index.result low low_told c.index-scripts-index.is c.index-transactions-index.is
    (c.loop-index.invariant members are) c.left_out-finding.result (c.left_out-finding.ensures members are) is

pub returns : goal.returns
returns c =
    let scripts = c.args.scripts.now in
    let told = c.args.transactions.now in
    let over : min (length scripts) (length told) ≤ c.loop-index.index = grind (arith, rules) in
    λ members are. sym (left_all (members_in members) scripts told c.loop-index.index over
    (c.loop-index.invariant members are))
