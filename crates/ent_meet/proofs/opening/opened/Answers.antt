use Rattle.std.proofs.lemmas.Result.{err_from_is_err_and}
use Rattle.ent_meet.proofs.Stopped.{stopped_is_not_met}
use Rattle.ent_meet.proofs.opening.opened.Goals as goal

pub returns-in_err-put_all-clause-refused : goal.returns-in_err-put_all-clause-refused
returns-in_err-put_all-clause-refused c =
    let p = err_from_is_err_and c.from_residual-in_err-put_all.result c.from_residual-in_err-put_all.ensures.1 in
    rw (p.1, p.2)
    (stopped_is_not_met c.args.bytes.now c.in_err-put_all.field-0.0 c.in_err-put_all.ensures.refused)
