use Rattle.std.proofs.Common.{None, map, take}
use Rattle.std.specs.Arc.{arc_value}
use Rattle.ent_check.specs.Order.{accounts_at}
use Rattle.ent_form.specs.Tables.{database_of}
use Rattle.ent_history.specs.Account.{accounts_from}
use Rattle.ent_ordinary.specs.Tables.{rows_in}
use Rattle.ent_check.specs.Alone.{AreReplayed, StandAsDeclared}
use Rattle.ent_check.proofs.serial.turns_finding.Given as goal

-- nothing is found of the turns so far, and the tables and the offers are as they leave them
abbrev pub invariant-loop-place : goal.invariant-loop-place
invariant-loop-place l = record {
  stand : StandAsDeclared l.declared (map arc_value l.stage.tables.items);
  replayed : AreReplayed l.declared l.groundings
      (accounts_at (accounts_from 1 l.scripts l.transactions) (take l.place l.order))
      (database_of l.declared (rows_in (map arc_value l.initial.stage.tables.items))) None
      (database_of l.declared (rows_in (map arc_value l.stage.tables.items))) l.initial.stage.offers.items
      l.stage.offers.items;
}
