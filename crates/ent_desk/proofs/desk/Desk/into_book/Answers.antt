use Rattle.ent_protocol.specs.Reached.{scripts_of}
use Rattle.ent_core.specs.Passed.{resolved_forms}
use Rattle.ent_book.specs.Tables.{book_seen}
use Rattle.ent_desk.proofs.Closed.{whole}
use Rattle.ent_desk.proofs.desk.Desk.into_book.Goals as goal

pub returns-in-Ok-clause-book : goal.returns-in-Ok-clause-book
returns-in-Ok-clause-book g c =
    let i = c.self.inside in
    let book = book_seen c.in-Ok.book in
    whole i.core i.count book c.self.invariant.0.gathered c.is_reached.ensures.reached c.in-Ok.ensures.done
    c.in-Ok.ensures.book
    (c.finished_scripts_have_fates.ensures.finished resolved_forms i.core.opening (scripts_of i.core) book
    c.in-Ok.ensures.finished)
    c.in-Ok.ensures.legal
