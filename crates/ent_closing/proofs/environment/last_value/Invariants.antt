use Rattle.std.proofs.Common.{◌≡◌, take}
use Rattle.std.specs.Option.{option_copied}
use Rattle.ent_closing.specs.Environment.{environment_of}
use Rattle.ent_closing.proofs.environment.last_value.Given as goal

-- what the bindings so far bind it to
abbrev pub invariant-loop-binding : goal.invariant-loop-binding
invariant-loop-binding l = option_copied l.found ≡ environment_of (take l.binding-index l.bindings) l.variable
