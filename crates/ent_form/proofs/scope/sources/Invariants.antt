use Rattle.std.proofs.Common.{◌≡◌, length, drop}
use Rattle.ent_form.specs.Scope.{no_source, sources_from}
use Rattle.ent_form.specs.Seen.{scope_of}
use Rattle.ent_form.proofs.scope.sources.Given as goal

-- behind those before, the sources that are left give what all of them give
abbrev pub invariant-loop-source : goal.invariant-loop-source
invariant-loop-source l = record {
  rest : sources_from l.catalogue.tables (scope_of l.sources) (drop l.source-index l.source-items)
      ≡ sources_from l.catalogue.tables no_source l.source-items;
  count : length l.sources.tables ≡ l.source-index;
}
