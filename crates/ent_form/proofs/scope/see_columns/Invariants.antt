use Rattle.std.proofs.Common.{◌≡◌, ◌++◌, map, take}
use Rattle.ent_form.specs.Scope.{visible}
use Rattle.ent_form.specs.Seen.{seen}
use Rattle.ent_form.proofs.scope.see_columns.Given as goal

abbrev pub invariant-loop-schema : goal.invariant-loop-schema
invariant-loop-schema l = map seen l.columns.items ≡ map seen l.fn.columns.items ++ map (visible l.source)
    (take l.schema-index l.schema-items)
