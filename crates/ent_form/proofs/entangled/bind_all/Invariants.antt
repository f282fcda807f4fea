use Rattle.std.proofs.Common.{◌≡◌}
use Rattle.ent_form.specs.Bindings.{bound_in, bound_from}
use Rattle.ent_form.proofs.entangled.bind_all.Given as goal

abbrev pub invariant-loop-binding : goal.invariant-loop-binding
invariant-loop-binding l = bound_in l.bindings ≡ bound_from (bound_in l.fn.bindings) l.yielded
