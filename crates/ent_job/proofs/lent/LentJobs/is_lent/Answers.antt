use Rattle.std.proofs.Common.{◌∙◌, ap, sym}
use Rattle.std.specs.List.{list_any}
use Rattle.ent_protocol.specs.Member.{is_single_of}
use Rattle.ent_job.proofs.lent.LentJobs.is_lent.Goals as goal

pub returns-clause-state : goal.returns-clause-state
returns-clause-state c = λ s same.
    c.is_lent.ensures ∙ ap (list_any (is_single_of c.args.tx)) (c.as_slice.ensures.value ∙ c.self.view_is ∙ sym same)
