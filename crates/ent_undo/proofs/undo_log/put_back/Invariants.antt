use Rattle.std.proofs.Common.{◌≡◌, take, drop, map}
use Rattle.std.specs.Arc.{arc_value}
use Rattle.ent_undo.specs.Change.{of_others, rolled_back}
use Rattle.ent_undo.specs.Records.{changes_in}
use Rattle.ent_undo.proofs.undo_log.put_back.Given as goal

abbrev pub invariant-loop-index : goal.invariant-loop-index
invariant-loop-index l = record {
  tables : map arc_value l.tables ≡ rolled_back l.members (changes_in (drop l.index l.fn.records))
      (map arc_value l.fn.tables);
  rest : take l.index l.records ≡ take l.index l.fn.records;
  others : of_others l.members (changes_in l.records) ≡ of_others l.members (changes_in l.fn.records);
}
