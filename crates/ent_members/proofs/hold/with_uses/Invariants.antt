use Rattle.std.proofs.Common.{◌≡◌, drop}
use Rattle.ent_protocol.specs.Begin.{with_uses}
use Rattle.ent_members.proofs.hold.with_uses.Given as goal

-- the rest is still to be added
abbrev pub invariant-loop-own : goal.invariant-loop-own
invariant-loop-own l = with_uses (drop l.own-index l.asked) l.uses.items ≡ with_uses l.asked l.held
