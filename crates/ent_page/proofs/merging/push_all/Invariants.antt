use Rattle.std.proofs.Common.{◌≡◌, ◌++◌, take}
use Rattle.ent_page.proofs.merging.push_all.Given as goal

abbrev pub invariant-loop-key : goal.invariant-loop-key
invariant-loop-key l = l.out ≡ l.fn.out ++ take l.key-index l.keys
