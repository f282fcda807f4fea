use Rattle.std.proofs.Common.{◌≤◌, All, take}
use Rattle.ent_meetings.specs.Lack.{IsOffered}
use Rattle.ent_meetings.proofs.lack.unoffered.Given as goal

-- the demands before may be met
abbrev pub invariant-loop-place : goal.invariant-loop-place
invariant-loop-place l = record {
  offered : All (IsOffered l.index) (take l.place l.party.demands);
  fewer : l.looks ≤ l.fn.looks;
}
