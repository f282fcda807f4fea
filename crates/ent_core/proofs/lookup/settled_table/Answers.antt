use Rattle.std.proofs.Common.{◌∙◌, ap, slice_get, List}
use Rattle.ent_value.specs.declared.value.Kind.{Kind}
use Rattle.ent_protocol.specs.Reached.{settled}
use Rattle.ent_protocol.specs.State.{State}
use Rattle.ent_tables.specs.Stored.{kinds_declared}
use Rattle.ent_core.proofs.lookup.settled_table.Goals as goal

pub returns-clause-rows : goal.returns-clause-rows
returns-clause-rows c =
    c.settled.ensures.rows ∙ ap (λ (s : State). slice_get (settled s) c.args.number) c.store.view_is

pub returns-clause-kinds : goal.returns-clause-kinds
returns-clause-kinds c =
    c.settled.ensures.kinds
    ∙ ap (λ (kinds : List (List Kind)). slice_get kinds c.args.number) c.store.invariant.0.kinds
    ∙ ap (λ (s : State). slice_get (kinds_declared s.opening.tables) c.args.number) c.store.view_is
