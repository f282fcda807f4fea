use Rattle.std.proofs.Common.{◌≡◌, ◌<◌, ◌≤◌, true, false, length, sym, ◌∙◌, arith, rules}
use Rattle.ent_history.specs.Account.{accounts_from}
use Rattle.ent_check.proofs.Joints.{judged_all, judged_begun, judged_more, judged_off}
use Rattle.ent_check.proofs.joint.members_finding.Goals as goal

pub loop-index-init : goal.loop-index-init
loop-index-init c =
    judged_begun (accounts_from 1 c.args.scripts.now c.args.transactions.now) c.args.joints.now

pub returns-then-not-right : goal.returns-then-not-right
returns-then-not-right c =
    let all = accounts_from 1 c.args.scripts.now c.args.transactions.now in
    let low : c.loop-index.index < length c.args.joints.now = grind (arith, rules) in
    let is : c.are_right-right.result ≡ false = grind (arith, rules) in
    sym (judged_off all c.args.joints.now c.loop-index.index c.index-joints-index.result c.as_slice-members.result.now
    c.args.seats.now low c.index-joints-index.is c.as_slice-members.ensures c.requires c.loop-index.invariant
    (sym c.are_right-right.ensures ∙ is))

pub loop-index-preserved : goal.loop-index-preserved
loop-index-preserved c =
    let all = accounts_from 1 c.args.scripts.now c.args.transactions.now in
    let low : c.loop-index.index < length c.args.joints.now = grind (arith, rules) in
    let is : c.are_right-right.result ≡ true = grind (arith, rules) in
    judged_more all c.args.joints.now c.loop-index.index c.index-joints-index.result c.as_slice-members.result.now
    c.args.seats.now low c.index-joints-index.is c.as_slice-members.ensures c.requires c.loop-index.invariant
    (sym c.are_right-right.ensures ∙ is)

pub returns : goal.returns
returns c =
    let all = accounts_from 1 c.args.scripts.now c.args.transactions.now in
    let over : length c.args.joints.now ≤ c.loop-index.index = grind (arith, rules) in
    sym (judged_all all c.args.joints.now c.loop-index.index over c.loop-index.invariant)
