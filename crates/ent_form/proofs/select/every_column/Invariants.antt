use Rattle.std.proofs.Common.{◌≡◌, ◌++◌, map, drop}
use Rattle.ent_form.specs.Ordinary.{columns_from}
use Rattle.ent_form.specs.Seen.{seen}
use Rattle.ent_form.proofs.select.every_column.Given as goal

-- the columns before and those that are left are all columns
abbrev pub invariant-loop-number : goal.invariant-loop-number
invariant-loop-number l = record {
  items : l.items ++ columns_from l.number (map seen (drop l.number l.sources.columns.items))
      ≡ columns_from 0 (map seen l.sources.columns.items);
  kinds : l.kinds ++ map (λ column. column.kind) (map seen (drop l.number l.sources.columns.items))
      ≡ map (λ column. column.kind) (map seen l.sources.columns.items);
}
