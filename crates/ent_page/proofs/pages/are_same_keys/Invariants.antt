use Rattle.std.proofs.Common.{◌≡◌, ◌-◌, ◌≤◌, length, drop}
use Rattle.std.specs.Prelude.{◌↔◌}
use Rattle.std.specs.List.{flat_map}
use Rattle.std.specs.Arc.{arc_value}
use Rattle.ent_page.proofs.pages.are_same_keys.Given as goal

-- the pages that are left hold the same where all do
abbrev pub invariant-loop-same : goal.invariant-loop-same
invariant-loop-same l = record {
  range : l.same ≤ l.both;
  left : l.both ≤ length l.left;
  right : l.both ≤ length l.right;
  rest : (flat_map arc_value (drop l.same l.left) ≡ flat_map arc_value (drop l.same l.right)) ↔
      (flat_map arc_value l.left ≡ flat_map arc_value l.right);
}

abbrev pub decreases-loop-same : goal.decreases-loop-same
decreases-loop-same l = l.both - l.same
