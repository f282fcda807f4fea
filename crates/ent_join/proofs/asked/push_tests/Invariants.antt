use Rattle.std.proofs.Common.{◌≡◌, ◌++◌, map, take}
use Rattle.ent_join.specs.Asked.{slot_test}
use Rattle.ent_join.proofs.asked.push_tests.Given as goal

abbrev pub invariant-loop-test : goal.invariant-loop-test
invariant-loop-test l = l.made.items ≡ l.fn.made.items ++ map (slot_test l.slots) (take l.test-index l.tests)
