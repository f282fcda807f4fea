-- What a check of a history finds first: nothing, or the first rule that is broken and the thing that breaks it.
use Rattle.std.specs.Prelude.{List, [], ◌∷◌, Option, Some, None}
use Rattle.ent_history.specs.declared.history.History.{History}
use Rattle.ent_history.specs.Findings.{findings}
use Rattle.ent_history.specs.declared.finding.Finding.{Finding}

abbrev pub first_of : List Finding → Option Finding
first_of [] = None
first_of (finding ∷ more) = Some finding

abbrev pub first_finding : History → Option Finding
first_finding history = first_of (findings history)
