use Rattle.std.proofs.Common.{◌∙◌, ap, sym}
use Rattle.ent_job.specs.Work.{work_seen}
use Rattle.ent_job.specs.declared.work.Work.{Work}
use Rattle.ent_core.proofs.Outstanding.{joint_not_single, not_lent}
use Rattle.ent_core.proofs.finish.outstanding.Goals as goal

pub returns-in-One-clause-none : goal.returns-in-One-clause-none
returns-in-One-clause-none c = λ none s done all same o.
    not_lent c.args.lent.now c.args.job.now (c.find.ensures.not_taken none) s done all same o

pub returns-in-Joint-clause-none : goal.returns-in-Joint-clause-none
returns-in-Joint-clause-none c = λ none s done all same o.
    joint_not_single c.args.job.now c.in-Joint.field-0
    (sym (ap (λ (own : Work). work_seen own) c.in-Joint.is) ∙ c.work.ensures.work) s done same o
