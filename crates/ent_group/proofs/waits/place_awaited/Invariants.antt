use Rattle.std.proofs.Common.{◌≡◌, take}
use Rattle.std.specs.Prelude.{All, Contains}
use Rattle.ent_group.proofs.waits.place_awaited.Given as goal

abbrev pub invariant-loop-from : goal.invariant-loop-from
invariant-loop-from l = All (λ p. p.0 ≡ l.waiter → ¬ Contains l.reached p.1) (take l.from-index l.pairs)
