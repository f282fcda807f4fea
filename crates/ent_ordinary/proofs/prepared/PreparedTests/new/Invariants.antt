use Rattle.std.proofs.Common.{◌≡◌, List, ◌++◌, take}
use Rattle.std.specs.List.{list_all}
use Rattle.ent_value.specs.declared.value.Value.{Value}
use Rattle.ent_semantics.specs.Selection.{holds}
use Rattle.ent_semantics.specs.Term.{no_value}
use Rattle.ent_ordinary.specs.Early.{may_hold}
use Rattle.ent_ordinary.specs.Prepared.{prepared_holds, prepared_may_hold}
use Rattle.ent_ordinary.specs.Worth.{worth_over}
use Rattle.ent_ordinary.proofs.prepared.PreparedTests.new.Given as goal

-- the tests so far
abbrev pub invariant-loop-test : goal.invariant-loop-test
invariant-loop-test l = record {
  same : (row : List Value) → list_all (prepared_holds no_value row) l.prepared
      ≡ list_all (holds (worth_over (l.front ++ row))) (take l.test-index l.tests);
  same_early : (row : List Value) → list_all (prepared_may_hold row) l.prepared
      ≡ list_all (may_hold (l.front ++ row)) (take l.test-index l.tests);
}
