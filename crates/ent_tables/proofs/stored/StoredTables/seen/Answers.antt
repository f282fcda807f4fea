use Rattle.std.proofs.Common.{◌∙◌, ap, sym, List, map}
use Rattle.std.specs.Arc.{arc_value}
use Rattle.std.proofs.lemmas.Result.{IfOk-weaker}
use Rattle.ent_protocol.specs.Member.{seen_now}
use Rattle.ent_tables.specs.AtNumber.{seen_in}
use Rattle.ent_tables.specs.Stored.{Stored}
use Rattle.ent_tables.proofs.Places.{seen_is}
use Rattle.ent_tables.proofs.stored.StoredTables.seen.Goals as goal

pub returns : goal.returns
returns c = IfOk-weaker c.tables_seen.result _ _ (λ seen are. λ declared is.
    let tables = map arc_value c.self.inside.tables.items in
    are
    ∙ ap (λ (arcs : List _). seen_in (map arc_value arcs) c.args.uses.now) c.as_slice.ensures.value
    ∙ seen_is declared tables c.args.uses.now (is ∙ ap (λ (s : Stored). s.kinds) (sym c.self.view_is))
    ∙ ap (λ (s : Stored). seen_now declared s.tables c.args.uses.now) c.self.view_is)
    c.tables_seen.ensures
