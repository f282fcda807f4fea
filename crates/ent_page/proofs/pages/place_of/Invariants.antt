use Rattle.std.proofs.Common.{◌-◌, ◌<◌, ◌≤◌, length, take, drop}
use Rattle.std.specs.List.{flat_map}
use Rattle.std.specs.Arc.{arc_value}
use Rattle.ent_page.specs.Paged.{AllBelow, AllAbove}
use Rattle.ent_page.proofs.pages.place_of.Given as goal

-- the page is not before the last of low, and before high
abbrev pub invariant-loop-low : goal.invariant-loop-low
invariant-loop-low g l = record {
  order : l.low ≤ l.high;
  range : l.high ≤ length l.pages;
  below : 0 < l.low → AllBelow (flat_map arc_value (take (l.low - 1) l.pages)) (g.P.Probe.bytes l.key);
  above : AllAbove (flat_map arc_value (drop l.high l.pages)) (g.P.Probe.bytes l.key);
}

abbrev pub decreases-loop-low : goal.decreases-loop-low
decreases-loop-low g l = l.high - l.low
