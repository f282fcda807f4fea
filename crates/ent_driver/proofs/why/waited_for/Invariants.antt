use Rattle.std.proofs.Common.{◌≡◌, ◌++◌, drop}
use Rattle.std.specs.List.{filter}
use Rattle.ent_protocol.specs.Lookup.{standing}
use Rattle.ent_driver.specs.Why.{isnt_prepared, waited_for}
use Rattle.ent_driver.proofs.why.waited_for.Given as goal

-- who is found, and who of what is left will be
abbrev pub invariant-loop-other : goal.invariant-loop-other
invariant-loop-other l =
    l.waited.items ++ filter (λ tx. isnt_prepared (standing l.core tx)) (drop l.other-index l.other-items)
    ≡ waited_for l.core l.tx
