use Rattle.std.proofs.Common.{◌≡◌, drop, map}
use Rattle.std.specs.Prelude.{filter}
use Rattle.ent_lock.specs.Holders.{lesser}
use Rattle.ent_protocol.specs.Uses.{least}
use Rattle.ent_run.specs.Passing.{is_in_the_way}
use Rattle.ent_run.proofs.locks.least_in_the_way.Given as goal

-- the least of those so far and of the others
abbrev pub invariant-loop-held : goal.invariant-loop-held
invariant-loop-held l =
    lesser l.least (least (map (λ held. held.holder) (filter (is_in_the_way l.mode l.asker)
    (drop l.held-index l.holders))))
    ≡ least (map (λ held. held.holder) (filter (is_in_the_way l.mode l.asker) l.holders))
