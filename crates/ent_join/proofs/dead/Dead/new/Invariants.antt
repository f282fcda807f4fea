use Rattle.std.proofs.Common.{◌≡◌, [], map}
use Rattle.std.specs.List.{AllByRecursion}
use Rattle.ent_join.proofs.dead.Dead.new.Given as goal

abbrev pub invariant-loop-place : goal.invariant-loop-place
invariant-loop-place l = AllByRecursion (λ values. values ≡ []) (map (λ values. values.items) l.places.items)
