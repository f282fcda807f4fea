use Rattle.std.proofs.Common.{rules}
use Rattle.std.proofs.lemmas.Fn.{always_returns_same}
use Rattle.ent_value.specs.Value.{value_cmp}
use Rattle.ent_join.proofs.Learnt.{found_by}
use Rattle.ent_join.proofs.dead.place_of.Goals as goal

pub returns-clause-found : goal.returns-clause-found
returns-clause-found c =
    found_by c.binary_search_by.result c.args.values.now c.args.value.now c.binary_search_by.ensures.bound
    (c.binary_search_by.ensures.position (λ other. value_cmp other c.args.value.now)
    (always_returns_same _ _ _ (λ a r f called. search rules)))
