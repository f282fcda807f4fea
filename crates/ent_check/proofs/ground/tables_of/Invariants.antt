use Rattle.std.proofs.Common.{◌≡◌, take, map, slice_index_or}
use Rattle.std.specs.Arc.{arc_value}
use Rattle.ent_rel.specs.Numbered.{Numbered, relation_of}
use Rattle.ent_ordinary.specs.Tables.{no_table}
use Rattle.ent_check.proofs.ground.tables_of.Given as goal

-- the tables so far
abbrev pub invariant-loop-number : goal.invariant-loop-number
invariant-loop-number l = record {
  numbers : map (λ (table : Numbered). table.table) l.named.items ≡ take l.number-index l.numbers;
  tables : map relation_of l.named.items
      ≡ map (λ number. slice_index_or (map arc_value l.tables) number no_table) (take l.number-index l.numbers);
}
