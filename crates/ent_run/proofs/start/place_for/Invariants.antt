use Rattle.std.proofs.Common.{◌≡◌, ◌+◌, drop}
use Rattle.ent_members.specs.Order.{tx_of, place_in}
use Rattle.ent_run.proofs.start.place_for.Given as goal

-- nothing so far is greater
abbrev pub invariant-loop-place : goal.invariant-loop-place
invariant-loop-place l = place_in tx_of l.members l.tx ≡ l.place + place_in tx_of (drop l.place l.members) l.tx
