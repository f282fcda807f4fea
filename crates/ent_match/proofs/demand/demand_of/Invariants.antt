use Rattle.std.proofs.Common.{◌≡◌, length}
use Rattle.ent_match.specs.Demand.{AreOwners}
use Rattle.ent_match.proofs.demand.demand_of.Given as goal

-- each post so far has its owner
abbrev pub invariant-loop-index : goal.invariant-loop-index
invariant-loop-index l = record {
  one_each : length l.owners ≡ l.index;
  owners : AreOwners l.members l.asker l.owners;
}
