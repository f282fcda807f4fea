use Rattle.std.proofs.Common.{◌∙◌, ap}
use Rattle.ent_protocol.specs.Lookup.{running_members}
use Rattle.ent_core.specs.contracts.store.Store.{the_view}
use Rattle.ent_core.proofs.lookup.members.Goals as goal

pub returns : goal.returns
returns c = c.numbers.ensures (the_view c.store.inside) ∙ ap running_members c.store.view_is
