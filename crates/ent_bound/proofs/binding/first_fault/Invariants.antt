use Rattle.std.proofs.Common.{◌≡◌, take, drop}
use Rattle.ent_bound.specs.Refused.{fault_behind, first_fault}
use Rattle.ent_bound.proofs.binding.first_fault.Given as goal

-- the first fault of the rest, behind those before, is the first of all
abbrev pub invariant-loop-number : goal.invariant-loop-number
invariant-loop-number l = fault_behind l.script (take l.number l.variables) (drop l.number l.variables)
    ≡ first_fault l.variables l.script
