use Rattle.std.proofs.Common.{◌≡◌, ◌++◌, drop}
use Rattle.std.specs.List.{filter}
use Rattle.ent_join.specs.Alone.{is_test_of}
use Rattle.ent_join.proofs.alone.tests_of.Given as goal

abbrev pub invariant-loop-test : goal.invariant-loop-test
invariant-loop-test l =
    l.own.items ++ filter (is_test_of l.columns) (drop l.test-index l.tests) ≡ filter (is_test_of l.columns) l.tests
