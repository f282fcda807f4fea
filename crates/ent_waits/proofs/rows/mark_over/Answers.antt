use Rattle.std.proofs.Common.{sym, ◌∙◌, true≢false}
use Rattle.ent_waits.proofs.Holders.{label_is, no_label, over_marked, unpassed_member}
use Rattle.ent_waits.proofs.rows.mark_over.Goals as goal

pub returns-in-Some-clause-marked : goal.returns-in-Some-clause-marked
returns-in-Some-clause-marked c = λ holder own unpassed.
    let run = c.args.run.now in
    let label = label_is run c.args.tx c.in-Some.group c.label_of.result c.label_of.ensures c.in-Some.is holder
    (unpassed_member run c.args.askers holder unpassed) own in
    over_marked run c.args.askers c.args.tx c.in-Some.group c.mark_awaited.result.row holder label own
    c.mark_awaited.ensures.marked

pub returns-in_default-clause-marked : goal.returns-in_default-clause-marked
returns-in_default-clause-marked c = λ holder own unpassed.
    let run = c.args.run.now in
    let label = label_is run c.args.tx c.in-Some.group c.label_of.result c.label_of.ensures c.in-Some.is holder
    (unpassed_member run c.args.askers holder unpassed) own in
    absurd (true≢false (sym c.if-not-is_only_one.false ∙ c.is_only_one.ensures run holder unpassed own label))

pub returns-in_default-2-clause-marked : goal.returns-in_default-2-clause-marked
returns-in_default-2-clause-marked c = λ holder own unpassed.
    let run = c.args.run.now in
    absurd (no_label run c.args.tx c.label_of.result c.label_of.ensures c.in_default.is holder
    (unpassed_member run c.args.askers holder unpassed) own)
