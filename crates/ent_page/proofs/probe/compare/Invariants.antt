use Rattle.std.proofs.Common.{◌≡◌, drop}
use Rattle.ent_page.specs.Key.{key_of, key_cmp}
use Rattle.ent_page.proofs.probe.compare.Given as goal

-- what is left compares with the key of what is left
abbrev pub invariant-loop-value : goal.invariant-loop-value
invariant-loop-value l = key_cmp l.left (key_of (drop l.value-index l.values)) ≡ key_cmp l.key (key_of l.values)
