use Rattle.std.proofs.Common.{◌≡◌, ◌++◌, drop}
use Rattle.ent_page.specs.Key.{key_of, AreStorable}
use Rattle.ent_page.proofs.writing.append_values.Given as goal

-- what is out, and the key of what is left; all is storable where what is left is
abbrev pub invariant-loop-value : goal.invariant-loop-value
invariant-loop-value l = (l.out.items ++ key_of (drop l.value-index l.values) ≡ l.fn.out.items ++ key_of l.values) ×
    (AreStorable (drop l.value-index l.values) → AreStorable l.values)
