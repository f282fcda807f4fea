-- SeenSources and columns that were looked up, without references.
use Rattle.std.specs.Prelude.{map}
use Rattle.ent_form.specs.declared.entangled.SeenOffer.{SeenOffer}
use Rattle.ent_form.specs.declared.scope.SeenColumn.{SeenColumn}
use Rattle.ent_form.specs.declared.scope.SeenSources.{SeenSources}
use Rattle.ent_form.specs.declared.select.Shown.{Shown as SeenShown}
use Rattle.ent_form.specs.Entangled.{Offer}
use Rattle.ent_form.specs.Ordinary.{Shown}
use Rattle.ent_form.specs.Scope.{Scope, Visible, visible}

abbrev pub seen : SeenColumn → Visible
seen column = visible column.source.now column.schema.now

abbrev pub scope_of : SeenSources → Scope
scope_of sources =
    record {
      tables = sources.tables;
      names = map (λ name. name.now) sources.names.items;
      columns = map seen sources.columns.items;
    }

abbrev pub shown_of : SeenShown → Shown
shown_of shown = (shown.items, shown.kinds)

abbrev pub offer_of : SeenOffer → Offer
offer_of offer = record { terms = offer.terms; binds = offer.binds; bound = offer.bound }
