use Rattle.std.proofs.Common.{◌≡◌, true, take}
use Rattle.std.specs.List.{list_all}
use Rattle.ent_semantics.specs.Form.{term_worth}
use Rattle.ent_semantics.specs.Selection.{holds}
use Rattle.ent_ordinary.specs.Worth.{itself}
use Rattle.ent_check.proofs.ground.failing_test.Given as goal

-- those so far are true
abbrev pub invariant-loop-test : goal.invariant-loop-test
invariant-loop-test l = list_all (holds (term_worth itself l.grounding)) (take l.test-index l.tests) ≡ true
