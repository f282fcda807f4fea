use Rattle.std.proofs.Common.{◌∙◌, ap, sym}
use Rattle.std.specs.Map.{set_value}
use Rattle.std.specs.BTreeMap.{is_at}
use Rattle.std.specs.Ordering.{nat_cmp}
use Rattle.std.proofs.lemmas.Map.Steps.{set_value_same}
use Rattle.ent_waiting.specs.declared.waiter.Waiter.{Waiter}
use Rattle.ent_waiting.proofs.Keeping.{errs}
use Rattle.ent_waiting.proofs.waiting_list.write_back.Goals as goal

pub returns-in_err-come_back-in-Some-clause-err : goal.returns-in_err-come_back-in-Some-clause-err
returns-in_err-come_back-in-Some-clause-err c =
    let test = is_at (nat_cmp c.args.ticket) in
    let old = c.args.waiters.now.entries in
    errs c.from_residual.result
    ((c.get_mut.follows.holds c.come_back.new.self).0
    ∙ ap (λ (w : Waiter). set_value test old w) c.in_err-come_back-in-Some.ensures.err
    ∙ set_value_same test old c.in-Some.waiter.now (sym c.in-Some.ensures.value))
