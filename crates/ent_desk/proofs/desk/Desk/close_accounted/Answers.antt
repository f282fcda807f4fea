use Rattle.std.proofs.Common.{◌∙◌, subst, sym}
use Rattle.ent_book.specs.Tables.{book_seen}
use Rattle.ent_protocol.specs.Reached.{CanClose, scripts_of}
use Rattle.ent_core.specs.Passed.{resolved_forms}
use Rattle.ent_desk.specs.Accounted.{IsAccounted}
use Rattle.ent_desk.specs.Seen.{DeskState}
use Rattle.ent_desk.proofs.Closed.{closed}
use Rattle.ent_desk.proofs.desk.Desk.close_accounted.Goals as goal

pub returns-in-Ok-clause-book : goal.returns-in-Ok-clause-book
returns-in-Ok-clause-book g c =
    let i = c.self.inside in
    let sessions = c.args.sessions.now in
    let book = book_seen c.in-Ok.book in
    let accounted = subst (λ (d : DeskState). IsAccounted d.core d.count sessions) (sym c.self.view_is)
    c.requires.accounted in
    let done = subst (λ (d : DeskState). CanClose d.core) (sym c.self.view_is) c.requires.done in
    closed i.core i.count sessions book accounted c.self.invariant.0.gathered c.is_reached.ensures.reached done
    c.in-Ok.ensures.book
    (c.finished_scripts_have_fates.ensures.finished resolved_forms i.core.opening (scripts_of i.core) book
    c.in-Ok.ensures.finished)
    c.in-Ok.ensures.legal (sym c.self.invariant.0.scripts ∙ c.audit_all.ensures.scripts)
    (sym c.self.invariant.0.entries ∙ c.audit_all.ensures.entries)
