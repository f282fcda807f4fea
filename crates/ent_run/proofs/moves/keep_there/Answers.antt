use Rattle.std.proofs.Common.{ℕ, is_some, rules}
use Rattle.std.proofs.lemmas.Fn.{filter_same}
use Rattle.slab.specs.Slab.{get as value_at}
use Rattle.ent_run.proofs.moves.keep_there.Goals as goal

pub returns : goal.returns
returns c =
    filter_same _ (λ (key : ℕ). is_some (value_at c.args.live.now key)) _ (λ x b f' k. search rules) _ _
    c.retain.ensures.filtered
