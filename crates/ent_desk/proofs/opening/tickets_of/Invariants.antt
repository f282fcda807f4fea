use Rattle.std.proofs.Common.{◌≡◌, take}
use Rattle.ent_desk.specs.Opened.{tickets_from}
use Rattle.ent_desk.proofs.opening.tickets_of.Given as goal

abbrev pub invariant-loop-index : goal.invariant-loop-index
invariant-loop-index l = l.tickets.items ≡ tickets_from 1 (take l.index l.scripts)
