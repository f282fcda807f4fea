use Rattle.std.proofs.Common.{◌+◌, drop, map}
use Rattle.std.specs.Arc.{arc_value}
use Rattle.ent_closing.specs.Environment.{environment_of}
use Rattle.ent_form.specs.Tables.{database_of}
use Rattle.ent_ordinary.specs.Tables.{rows_in}
use Rattle.ent_check.proofs.Along.{Midway}
use Rattle.ent_check.proofs.transaction.transaction_finding.Given as goal

-- nothing is found of the statements so far, and the tables, the environment and the offers are as they leave them
abbrev pub invariant-loop-index : goal.invariant-loop-index
invariant-loop-index l =
    Midway l.declared l.groundings l.tx l.script.statements l.told.answers
    (database_of l.declared (rows_in (map arc_value l.initial.stage.tables.items))) l.initial.stage.offers.items
    (l.index + 1) (drop l.index l.script.statements) (drop l.index l.forms) (drop l.index l.told.answers)
    (map arc_value l.stage.tables.items) (environment_of l.environment) l.stage.offers.items
