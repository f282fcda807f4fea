-- Members as they are in a run: their numbers stay what they are.
use Rattle.std.proofs.Common.{◌≡◌, List, [], ◌∷◌, map, refl, ap}
use Rattle.ent_group.specs.declared.groups.Membership.{Membership}
use Rattle.ent_lock.specs.Use.{Uses}
use Rattle.ent_protocol.specs.State.{Member}
use Rattle.ent_members.specs.InRun.{in_run}
use Rattle.ent_members.specs.Order.{tx_of}

pub numbers_in_run : (locks : Uses) (groups : List Membership) (xs : List Member)
    → map tx_of (map (in_run locks groups) xs) ≡ map tx_of xs
numbers_in_run locks groups [] = refl
numbers_in_run locks groups (x ∷ xs) = ap (λ ns. x.tx ∷ ns) (numbers_in_run locks groups xs)
