use Rattle.std.proofs.Common.{◌≡◌, ◌++◌, take}
use Rattle.std.specs.Prelude.{filter}
use Rattle.ent_picture.specs.Members.{is_picked}
use Rattle.ent_picture.proofs.met.put_picked.Given as goal

abbrev pub invariant-loop-tx : goal.invariant-loop-tx
invariant-loop-tx l = l.found.items ≡ l.fn.found.items ++ filter (is_picked l.picked) (take l.tx-index l.members)
