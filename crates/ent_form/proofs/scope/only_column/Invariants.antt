use Rattle.std.proofs.Common.{◌≡◌, ◌++◌, map, drop}
use Rattle.ent_form.specs.Scope.{referred_from}
use Rattle.ent_form.specs.Seen.{seen}
use Rattle.ent_form.proofs.Steps.{found_list}
use Rattle.ent_form.proofs.scope.only_column.Given as goal

-- what was found so far and what is found among the rest are all that is found
abbrev pub invariant-loop-number : goal.invariant-loop-number
invariant-loop-number l = found_list l.found ++ referred_from l.number (map seen (drop l.number l.columns)) l.reference
    ≡ referred_from 0 (map seen l.columns) l.reference
