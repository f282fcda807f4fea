use Rattle.std.proofs.Common.{◌≡◌, map, take}
use Rattle.std.specs.Arc.{arc_value}
use Rattle.ent_form.specs.Catalogue.{names_of}
use Rattle.ent_core.proofs.closing.named.Given as goal

-- the tables so far, under their names
abbrev pub invariant-loop-number : goal.invariant-loop-number
invariant-loop-number l = record {
  names : map (λ entry. entry.name) l.named ≡ names_of (take l.number l.catalogue.tables);
  tables : map (λ entry. arc_value entry.table) l.named ≡ map arc_value (take l.number l.tables);
}
