use Rattle.std.proofs.lemmas.List.Filters.{FiltersInPlace}
use Rattle.ent_group.specs.Groups.{is_of_another}
use Rattle.ent_group.proofs.groups.keep_others.Given as goal

abbrev pub invariant-loop-i : goal.invariant-loop-i
invariant-loop-i l = FiltersInPlace (is_of_another l.group) l.fn.memberships l.memberships l.kept l.i
