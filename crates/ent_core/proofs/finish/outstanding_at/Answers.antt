use Rattle.std.proofs.Common.{◌∙◌, ap, sym}
use Rattle.ent_job.specs.Work.{work_seen}
use Rattle.ent_job.specs.declared.work.Work.{Work}
use Rattle.ent_core.proofs.Outstanding.{joint_not_single}
use Rattle.ent_core.proofs.finish.outstanding_at.Goals as goal

pub returns-in-Joint-clause-none : goal.returns-in-Joint-clause-none
returns-in-Joint-clause-none c = λ none s done all same o.
    joint_not_single c.args.job.now c.in-Joint.field-0
    (sym (ap (λ (own : Work). work_seen own) c.in-Joint.is) ∙ c.work.ensures.work) s done same o
