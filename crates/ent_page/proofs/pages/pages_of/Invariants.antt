use Rattle.std.proofs.Common.{◌≡◌, take}
use Rattle.ent_page.proofs.pages.pages_of.Given as goal

abbrev pub invariant-loop-key : goal.invariant-loop-key
invariant-loop-key l = l.out ≡ take l.key-index l.keys
