use Rattle.ent_job.proofs.Taken.{taken_at}
use Rattle.ent_job.proofs.list.take.Goals as goal

pub returns : goal.returns
returns c = λ job there.
    taken_at c.args.jobs.now.items c.remove.new.self.items c.args.index job there c.remove.ensures.by_index.2
