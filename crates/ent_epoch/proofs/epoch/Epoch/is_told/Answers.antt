use Rattle.std.proofs.Common.{◌≡◌, List, length, sym, ap, subst, arith, ◌∙◌}
use Rattle.ent_epoch.specs.Telling.{KeepsUp}
use Rattle.ent_protocol.specs.Reached.{settled}
use Rattle.ent_protocol.specs.State.{State}
use Rattle.ent_semantics.specs.declared.book.Entry.{Entry}
use Rattle.ent_epoch.specs.Epoch.{Epoch, core_in}
use Rattle.ent_epoch.proofs.epoch.Epoch.is_told.Goals as goal

pub returns-clause-tables : goal.returns-clause-tables
returns-clause-tables c = λ same.
    let telling = c.self.inside.telling in
    let s = c.core_of-core.result.now in
    let core : core_in c.self.inside.core ≡ s = ap core_in c.core_of-core.ensures in
    let equal : c.entries.result ≡ length c.journal.result.now = grind arith in
    let all : telling.entries ≡ length s.journal =
    sym c.entries.ensures ∙ equal ∙ ap (λ (entries : List Entry). length entries) c.journal.ensures in
    let told : telling.tables ≡ settled s =
    c.told_tables_are_settled.ensures telling s c.is_reached.ensures.formed
    (subst (λ (t : State). KeepsUp telling t) core c.self.invariant.1.keeps_up) all in
    subst (λ (e : Epoch). e.telling.tables ≡ settled e.core) c.self.view_is (told ∙ ap settled (sym core))
