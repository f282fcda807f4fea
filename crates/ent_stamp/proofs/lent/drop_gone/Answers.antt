use Rattle.std.proofs.Common.{not, rules}
use Rattle.std.proofs.lemmas.Fn.{filter_same}
use Rattle.ent_stamp.specs.Stamps.{LentStamp, goes_along}
use Rattle.ent_stamp.proofs.lent.drop_gone.Goals as goal

pub returns : goal.returns
returns g c =
    filter_same _ (λ (lent : LentStamp). not (goes_along c.args.gone.now lent.1)) _ (λ x b f' k. search rules) _ _
    c.retain.ensures.filtered
