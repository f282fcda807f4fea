use Rattle.std.proofs.Common.{◌≡◌, drop}
use Rattle.std.specs.List.{filter}
use Rattle.ent_protocol.specs.Member.{is_tx}
use Rattle.ent_protocol.specs.State.{first_of}
use Rattle.ent_run.proofs.search.place_of.Given as goal

-- nobody so far is of the number
abbrev pub invariant-loop-place : goal.invariant-loop-place
invariant-loop-place l =
    first_of (filter (is_tx l.tx) (drop l.place l.members)) ≡ first_of (filter (is_tx l.tx) l.members)
