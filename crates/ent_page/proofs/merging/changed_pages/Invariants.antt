use Rattle.std.proofs.Common.{drop, []}
use Rattle.std.specs.List.{flat_map}
use Rattle.std.specs.Arc.{arc_value}
use Rattle.ent_page.proofs.Changes.{IsUnderWay}
use Rattle.ent_page.proofs.merging.changed_pages.Given as goal

abbrev pub invariant-loop-at : goal.invariant-loop-at
invariant-loop-at l =
    IsUnderWay (flat_map arc_value l.pages) l.removed-2 l.added-2 [] l.out (flat_map arc_value (drop l.at l.pages))
    l.removed l.added
