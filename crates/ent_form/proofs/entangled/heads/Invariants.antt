use Rattle.std.proofs.Common.{◌≡◌, [], length, map, drop}
use Rattle.ent_form.specs.Entangled.{heads_from}
use Rattle.ent_form.proofs.entangled.heads.Given as goal

-- behind those before, the relations that are left give what all of them give
abbrev pub invariant-loop-relation : goal.invariant-loop-relation
invariant-loop-relation l = record {
  rest : heads_from l.terms (map (λ name. name.now) l.earlier.items) l.heads (drop l.relation-index l.relation-items)
      ≡ heads_from l.terms [] [] l.relation-items;
  count : length l.heads ≡ l.relation-index;
}
