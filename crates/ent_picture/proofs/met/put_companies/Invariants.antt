use Rattle.std.proofs.Common.{◌≡◌, ◌++◌, take}
use Rattle.std.specs.List.{flat_map}
use Rattle.ent_picture.specs.Members.{companies_of, if_met}
use Rattle.ent_picture.proofs.met.put_companies.Given as goal

abbrev pub invariant-loop-exchange : goal.invariant-loop-exchange
invariant-loop-exchange l = l.found.items ≡ l.fn.found.items
    ++ flat_map (λ exchange. flat_map (if_met l.picked) (companies_of exchange.event exchange.reply))
    (take l.exchange-index l.trace)
