use Rattle.std.proofs.Common.{rules}
use Rattle.std.proofs.lemmas.Fn.{filter_same}
use Rattle.ent_match.specs.Posting.{is_of_other}
use Rattle.ent_match.proofs.pool.withdraw_from.Goals as goal

pub returns : goal.returns
returns c = filter_same _ (is_of_other c.args.tx) _ (λ x b f' k. search rules) _ _ c.retain.ensures.filtered
