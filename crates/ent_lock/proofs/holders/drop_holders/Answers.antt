use Rattle.std.proofs.Common.{rules}
use Rattle.ent_lock.specs.Holders.{is_not_of}
use Rattle.std.proofs.lemmas.Fn.{filter_same}
use Rattle.ent_lock.proofs.holders.drop_holders.Goals as goal

pub returns : goal.returns
returns c = filter_same _ (is_not_of c.args.members.now) _ (λ x b f' k. search rules) _ _ c.retain.ensures.filtered
