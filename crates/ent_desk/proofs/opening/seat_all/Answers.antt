use Rattle.std.proofs.Common.{◌∙◌, ap, arith, List}
use Rattle.std.specs.Prelude.{None, []}
use Rattle.ent_desk.specs.declared.ticket.Ticket.{Ticket}
use Rattle.ent_desk.specs.Seen.{SessionState}
use Rattle.ent_desk.proofs.Opened.{seats_more}
use Rattle.ent_desk.proofs.opening.seat_all.Goals as goal

pub loop-i-preserved : goal.loop-i-preserved
loop-i-preserved g c =
    let i = c.loop-i.invariant in
    let empty : List Ticket → SessionState = λ tickets. record { tickets = tickets; receipts = []; first = None } in
    record {
      some = omega arith;
      submitted = omega (arith, i.submitted, c.split_off-mine.ensures.parts_left);
      committed = omega (arith, i.committed, c.split_off-also.ensures.parts_left);
      none_submitted = omega (arith, i.none_submitted, c.split_off-mine.ensures.amount_left);
      none_committed = omega (arith, i.none_committed, c.split_off-also.ensures.amount_left);
      sessions = seats_more c.args.first c.new-in-loop-i.result c.loop-i.sessions.items
          c.push-in-loop-i.new.self.items c.loop-i._i i.some i.sessions c.in_ok-push-2.ensures.items
          (c.new-in-loop-i.ensures ∙ ap empty c.new.ensures.items);
    }
