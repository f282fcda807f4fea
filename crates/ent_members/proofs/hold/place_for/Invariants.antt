use Rattle.std.proofs.Common.{◌≡◌, ◌+◌, drop}
use Rattle.ent_protocol.specs.Begin.{use_rank}
use Rattle.ent_members.specs.Order.{place_in}
use Rattle.ent_members.proofs.hold.place_for.Given as goal

-- nothing so far is behind it
abbrev pub invariant-loop-i : goal.invariant-loop-i
invariant-loop-i l = place_in use_rank l.uses (use_rank l.own)
    ≡ l.i + place_in use_rank (drop l.i l.uses) (use_rank l.own)
