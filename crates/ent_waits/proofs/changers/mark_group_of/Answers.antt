use Rattle.std.proofs.Common.{ℕ, sym, subst}
use Rattle.ent_waits.specs.Rows.{MarksGroup}
use Rattle.ent_waits.proofs.Holders.{label_is, no_label}
use Rattle.ent_waits.proofs.changers.mark_group_of.Goals as goal

pub returns-in-Some-clause-marked : goal.returns-in-Some-clause-marked
returns-in-Some-clause-marked c = λ member there own.
    let run = c.args.run.now in
    subst (λ (group : ℕ). MarksGroup run group c.mark_next_group.result.row)
    (sym (label_is run c.args.tx c.in-Some.group c.label_of.result c.label_of.ensures c.in-Some.is member there own))
    c.mark_next_group.ensures.marked

pub returns-in-None-clause-marked : goal.returns-in-None-clause-marked
returns-in-None-clause-marked c = λ member there own.
    absurd (no_label c.args.run.now c.args.tx c.label_of.result c.label_of.ensures c.in-None.is member there own)
