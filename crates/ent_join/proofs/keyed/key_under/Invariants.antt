use Rattle.std.proofs.Common.{◌≡◌, take}
use Rattle.ent_join.specs.Keyed.{key_under}
use Rattle.ent_join.proofs.keyed.key_under.Given as goal

abbrev pub invariant-loop-class : goal.invariant-loop-class
invariant-loop-class l = l.key.items ≡ key_under l.columns l.row (take l.class-index l.classes)
