use Rattle.std.proofs.Common.{rules}
use Rattle.std.proofs.lemmas.Fn.{filter_same}
use Rattle.ent_match.specs.Offers.{is_of_others}
use Rattle.ent_match.proofs.offers.forget.Goals as goal

pub returns : goal.returns
returns c = filter_same _ (is_of_others c.args.tx) _ (λ x b f' k. search rules) _ _ c.retain.ensures.filtered
