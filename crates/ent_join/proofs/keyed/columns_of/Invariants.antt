use Rattle.std.proofs.Common.{◌≡◌, map, take}
use Rattle.ent_join.specs.Keyed.{term_slot}
use Rattle.ent_join.proofs.keyed.columns_of.Given as goal

abbrev pub invariant-loop-term : goal.invariant-loop-term
invariant-loop-term l = l.columns ≡ map (term_slot l.slots) (take l.term-index l.terms)
