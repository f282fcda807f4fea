use Rattle.std.proofs.Common.{rules}
use Rattle.ent_lock.specs.Holders.{is_no_holder}
use Rattle.std.proofs.lemmas.Fn.{filter_same}
use Rattle.ent_lock.proofs.holders.remove_holder.Goals as goal

pub returns : goal.returns
returns c = filter_same _ (is_no_holder c.args.tx c.args.mode) _ (λ x b f' k. search rules) _ _
    c.retain.ensures.filtered
