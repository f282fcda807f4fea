use Rattle.std.proofs.Common.{◌≡◌, map, take}
use Rattle.ent_run.specs.Locks.{lock_of}
use Rattle.ent_run.proofs.locks.locks_of.Given as goal

abbrev pub invariant-loop-own : goal.invariant-loop-own
invariant-loop-own l = l.uses.items ≡ map lock_of (take l.own-index l.asked)
