use Rattle.ent_stamp.proofs.Knowing.{none_behind}
use Rattle.ent_stamp.proofs.lent.LentStamps.forget.Goals as goal

pub returns : goal.returns
returns g c = λ jobs long. none_behind c.args.count c.truncate.new.self.items jobs c.truncate.ensures.items long
