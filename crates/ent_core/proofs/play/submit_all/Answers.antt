use Rattle.std.proofs.Common.{◌≡◌, ◌<◌, ◌∷◌, [], ◌++◌, ◌∙◌, length, ap, sym, arith, Some, None}
use Rattle.std.proofs.lemmas.List.{append_assoc, length-append}
use Rattle.ent_tree.specs.declared.limits.TheConstants.{MOST_SCRIPTS}
use Rattle.ent_form.specs.InputFault.{scripts_fault}
use Rattle.ent_core.specs.Play.{fault_in}
use Rattle.ent_core.specs.Reply.{reply_seen}
use Rattle.ent_core.proofs.Playing.{first_fault, one_clean, one_submitted}
use Rattle.ent_core.proofs.play.submit_all.Goals as goal

pub returns-in-Some-fault_of-clause-fault : goal.returns-in-Some-fault_of-clause-fault
returns-in-Some-fault_of-clause-fault c fault is =
    let now = c.loop-script in
    let same : c.in-Some-fault_of.fault ≡ fault = cc in
    let told : fault_in (reply_seen c.in_ok-submit.field-0) ≡ Some fault =
    sym c.fault_of.ensures ∙ c.in-Some-fault_of.is ∙ ap Some same in
    let all = ap (λ rest. now.yielded ++ rest) (sym c.in-Some.ensures.steps.0) ∙ now.invariant.all in
    ap (scripts_fault c.args.core.now.opening) (sym all)
    ∙ first_fault c.args.core.now.opening now.yielded c.in-Some.script c.next.new.self.rest.items now.core
    c.submit.new.self (reply_seen c.in_ok-submit.field-0) fault now.invariant.submitted now.invariant.clean
    c.in_ok-submit.ensures.ok told

pub loop-script-preserved : goal.loop-script-preserved
loop-script-preserved c =
    let now = c.loop-script in
    let opening = c.args.core.now.opening in
    let reply = reply_seen c.in_ok-submit.field-0 in
    let none : fault_in reply ≡ None = sym c.fault_of.ensures ∙ c.in_default.is in
    let all = ap (λ rest. now.yielded ++ rest) (sym c.in-Some.ensures.steps.0) ∙ now.invariant.all in
    let room : length now.yielded < MOST_SCRIPTS =
    let long = length-append now.yielded (c.in-Some.script ∷ c.next.new.self.rest.items) in
    let same = ap length (all ∙ sym c.into_vec-script-items.ensures.items) in
    let limit = c.into_vec-script-items.ensures.limit in
    omega (arith, long, same, limit) in
    record {
      submitted = one_submitted opening now.yielded c.in-Some.script now.core c.submit.new.self reply
          now.invariant.submitted room c.in_ok-submit.ensures.ok none;
      clean = one_clean opening now.yielded c.in-Some.script now.core c.submit.new.self reply
          now.invariant.submitted room c.in_ok-submit.ensures.ok none now.invariant.clean;
      legal = c.submit.ensures.legal;
      all = append_assoc now.yielded (c.in-Some.script ∷ []) c.next.new.self.rest.items ∙ all;
    }
