use Rattle.std.proofs.Common.{◌≡◌}
use Rattle.ent_report_reader.specs.Bindings.{values_of, variables_of}
use Rattle.ent_report_reader.proofs.bindings.parted.Given as goal

-- those so far are parted
abbrev pub invariant-loop-bound : goal.invariant-loop-bound
invariant-loop-bound l = record {
  names : l.variables ≡ variables_of l.yielded;
  worth : l.values ≡ values_of l.yielded;
}
