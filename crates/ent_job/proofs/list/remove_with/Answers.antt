use Rattle.std.proofs.Common.{not, rules}
use Rattle.std.proofs.lemmas.Fn.{filter_same}
use Rattle.ent_job.specs.Lent.{goes_with_any}
use Rattle.ent_job.proofs.list.remove_with.Goals as goal

pub returns : goal.returns
returns c =
    filter_same _ (λ job. not (goes_with_any c.args.numbers.now job)) _ (λ x b f' k. search rules) _ _
    c.retain.ensures.filtered
