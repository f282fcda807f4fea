use Rattle.std.proofs.Common.{◌≡◌, ℕ, ◌∷◌, take}
use Rattle.std.specs.List.{filter_map}
use Rattle.std.specs.Option.{option_map}
use Rattle.ent_group.specs.Groups.{group_of}
use Rattle.ent_protocol.specs.PoolEvents.{joined_label}
use Rattle.ent_run.proofs.groups.merge_into.Given as goal

abbrev pub invariant-loop-other : goal.invariant-loop-other
invariant-loop-other l =
    (x : ℕ) → group_of l.groups x
    ≡ option_map (joined_label (filter_map (group_of l.fn.groups) (l.first ∷ take l.other-index l.others)))
    (group_of l.fn.groups x)
