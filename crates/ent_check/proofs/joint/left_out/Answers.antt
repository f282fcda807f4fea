use Rattle.std.proofs.Common.{◌≡◌, true, false, sym, ap, ◌∙◌, arith, rules, is_some}
use Rattle.ent_history.specs.Joint.{all_stand}
use Rattle.ent_check.proofs.Accounts.{account_of}
use Rattle.ent_check.proofs.Joints.{members_in}
use Rattle.ent_check.proofs.LeftOut.{none_left_out, out_of_none, some_left_out}
use Rattle.ent_check.proofs.joint.left_out.Goals as goal

pub returns-then-not-committed : goal.returns-then-not-committed
returns-then-not-committed c =
    let off : c.is_some-committed.result ≡ false = grind (arith, rules) in
    let own = ap is_some (sym c.commit_number.ensures) ∙ sym c.is_some-committed.ensures ∙ off in
    λ members are. sym (out_of_none (members_in members)
    (account_of c.args.tx c.args.script.now c.args.told.now) own)

pub returns-then-complete : goal.returns-then-complete
returns-then-complete c =
    let whole : c.as_slice.result.now ≡ c.args.script.now.statements = grind (arith, rules) in
    let is : c.all_stand-complete.result ≡ true = grind (arith, rules) in
    λ members are. sym (none_left_out (members_in members) (account_of c.args.tx c.args.script.now c.args.told.now)
    (ap (all_stand (members_in members) c.args.tx 1) (sym whole)
    ∙ sym (c.all_stand-complete.ensures members are)
    ∙ is))

pub returns : goal.returns
returns c =
    let on : c.is_some-committed.result ≡ true = grind (arith, rules) in
    let own = ap is_some (sym c.commit_number.ensures) ∙ sym c.is_some-committed.ensures ∙ on in
    let whole : c.as_slice.result.now ≡ c.args.script.now.statements = grind (arith, rules) in
    let is : c.all_stand-complete.result ≡ false = grind (arith, rules) in
    λ members are. sym (some_left_out (members_in members) (account_of c.args.tx c.args.script.now c.args.told.now) own
    (ap (all_stand (members_in members) c.args.tx 1) (sym whole)
    ∙ sym (c.all_stand-complete.ensures members are)
    ∙ is))
