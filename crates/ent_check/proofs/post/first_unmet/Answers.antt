use Rattle.std.proofs.Common.{◌≡◌, ◌+◌, ◌<◌, ◌≤◌, true, false, length, map, sym, ◌∙◌, arith, rules}
use Rattle.ent_check.specs.Offers.{joint_in, offer_of}
use Rattle.ent_check.proofs.Demands.{member_here, met_all, met_begun, met_more, met_not}
use Rattle.ent_check.proofs.Posts.{met_over_offers, some_there}
use Rattle.ent_check.proofs.Taken.{members_told}
use Rattle.ent_check.proofs.post.first_unmet.Goals as goal

pub loop-index-init : goal.loop-index-init
loop-index-init c = λ all run seats seated none are. met_begun all run c.args.joint_answers.now none

pub returns-then-not-met : goal.returns-then-not-met
returns-then-not-met c =
    let answers = c.args.joint_answers.now in
    let i = c.loop-index.index in
    let low : i < length answers = grind (arith, rules) in
    let is : c.in_ok-met.met ≡ false = grind (arith, rules) in
    let some = some_there answers i low in
    λ all run seats seated none are.
    let behind = c.loop-index.invariant all run seats seated none are in
    sym (met_not all run answers i some.0 low some.1 behind
    (met_over_offers run (joint_in seats) (i + 1) (members_told some.0.members)
    (member_here all run answers i some.0 low some.1 behind seats seated)
    ∙ sym (c.in_ok-met.ensures (joint_in seats) (map offer_of run) are)
    ∙ is))

pub loop-index-preserved : goal.loop-index-preserved
loop-index-preserved c =
    let answers = c.args.joint_answers.now in
    let i = c.loop-index.index in
    let low : i < length answers = grind (arith, rules) in
    let is : c.in_ok-met.met ≡ true = grind (arith, rules) in
    let some = some_there answers i low in
    λ all run seats seated none are.
    let behind = c.loop-index.invariant all run seats seated none are in
    met_more all run answers i some.0 low some.1 behind
    (met_over_offers run (joint_in seats) (i + 1) (members_told some.0.members)
    (member_here all run answers i some.0 low some.1 behind seats seated)
    ∙ sym (c.in_ok-met.ensures (joint_in seats) (map offer_of run) are)
    ∙ is)

pub returns : goal.returns
returns c =
    let answers = c.args.joint_answers.now in
    let over : length answers ≤ c.loop-index.index = grind (arith, rules) in
    λ all run seats seated none are. sym (met_all all run answers c.loop-index.index over
    (c.loop-index.invariant all run seats seated none are))
