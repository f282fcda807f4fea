use Rattle.std.proofs.Common.{◌≡◌, length}
use Rattle.std.specs.Prelude.{◌↔◌}
use Rattle.std.specs.List.{flat_map}
use Rattle.std.specs.Arc.{arc_value}
use Rattle.ent_page.proofs.pages.are_same_walks.Given as goal

abbrev pub invariant-loop-key : goal.invariant-loop-key
invariant-loop-key l = (l.mine ≡ l.others) ↔ (flat_map arc_value l.left ≡ flat_map arc_value l.right)

abbrev pub decreases-loop-key : goal.decreases-loop-key
decreases-loop-key l = length l.mine
