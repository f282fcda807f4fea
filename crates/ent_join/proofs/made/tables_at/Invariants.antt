use Rattle.std.proofs.Common.{◌≡◌, ◌++◌, drop}
use Rattle.ent_join.specs.Asked.{tables_at}
use Rattle.ent_join.proofs.made.tables_at.Given as goal

abbrev pub invariant-loop-source : goal.invariant-loop-source
invariant-loop-source l =
    l.found.items ++ tables_at l.tables (drop l.source-index l.sources) ≡ tables_at l.tables l.sources
