use Rattle.std.proofs.Common.{◌+◌, refl}
use Rattle.std.specs.Prelude.{Contains}
use Rattle.std.specs.List.{AllByRecursion}
use Rattle.ent_protocol.specs.Reached.{scripts_of}
use Rattle.ent_desk.specs.Closed.{all_tickets}
use Rattle.ent_desk.specs.Opened.{tickets_from}
use Rattle.ent_desk.proofs.Accounting.{tickets_more}
use Rattle.ent_desk.proofs.account.have_tickets.Goals as goal

pub loop-index-preserved : goal.loop-index-preserved
loop-index-preserved g c =
    let scripts = scripts_of c.args.core.now in
    let all = all_tickets c.args.sessions.now in
    tickets_more all scripts c.loop-index.index (c.loop-index.index + 1) c.in-Some.script.now
    (AllByRecursion (Contains all) (tickets_from 1 scripts)) refl c.in-Some.ensures
    (c.have_ticket.ensures c.if-not-have_ticket.false) c.loop-index.invariant
