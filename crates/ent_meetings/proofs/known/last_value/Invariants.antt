use Rattle.std.proofs.Common.{◌≡◌, take}
use Rattle.std.specs.Option.{option_copied}
use Rattle.ent_semantics.specs.Database.{nothing_bound}
use Rattle.ent_meetings.specs.Bindings.{with_bindings}
use Rattle.ent_meetings.proofs.known.last_value.Given as goal

-- what the bindings so far say of it
abbrev pub invariant-loop-binding : goal.invariant-loop-binding
invariant-loop-binding l =
    option_copied l.found ≡ with_bindings nothing_bound (take l.binding-index l.bindings) l.variable
