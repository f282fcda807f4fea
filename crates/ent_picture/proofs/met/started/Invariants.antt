use Rattle.std.proofs.Common.{◌≡◌, take}
use Rattle.ent_picture.specs.Members.{started}
use Rattle.ent_picture.proofs.met.started.Given as goal

abbrev pub invariant-loop-exchange : goal.invariant-loop-exchange
invariant-loop-exchange l = l.members.items ≡ started (take l.exchange-index l.trace)
