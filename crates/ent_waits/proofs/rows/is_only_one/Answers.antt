use Rattle.std.proofs.Common.{◌∙◌}
use Rattle.ent_waits.proofs.Holders.{other_one}
use Rattle.ent_waits.proofs.rows.is_only_one.Goals as goal

pub returns-then-group-askers : goal.returns-then-group-askers
returns-then-group-askers c = λ run holder unpassed own label.
    c.eq.ensures ∙ other_one run c.args.askers holder c.args.tx (label ∙ c.if-group-askers.true) unpassed own
