use Rattle.std.proofs.Common.{◌-◌, ◌≤◌, length}
use Rattle.ent_page.specs.Layout.{Ascends, AreBelow, AreAbove}
use Rattle.ent_page.proofs.page.Page.search.Given as goal

abbrev pub invariant-loop-low : goal.invariant-loop-low
invariant-loop-low g l =
    (l.low ≤ l.high) × (l.high ≤ length l.self) × (Ascends l.self → AreBelow l.self (g.P.Probe.bytes l.key) l.low) ×
    (Ascends l.self → AreAbove l.self (g.P.Probe.bytes l.key) l.high)

abbrev pub decreases-loop-low : goal.decreases-loop-low
decreases-loop-low g l = l.high - l.low
