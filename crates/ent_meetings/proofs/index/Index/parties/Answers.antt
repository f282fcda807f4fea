use Rattle.std.proofs.Common.{◌++◌, ◌∷◌, [], List, Option, take, sym, ap, ◌∙◌, arith}
use Rattle.std.specs.Borrow.{Bor}
use Rattle.std.specs.Global.{Vec}
use Rattle.std.specs.List.{cons_option}
use Rattle.std.proofs.lemmas.List.{append-nil}
use Rattle.ent_meetings.specs.declared.party.Party.{Party}
use Rattle.ent_meetings.specs.Group.{seen}
use Rattle.ent_meetings.specs.Waiting.{named, party_at}
use Rattle.ent_meetings.proofs.Seeing.{seen_more}
use Rattle.ent_meetings.proofs.Waiters.{named_more}
use Rattle.ent_meetings.proofs.index.Index.parties.Goals as goal
use Rattle.ent_meetings.proofs.index.Index.parties.Goals.{in-Some+in_ok-push, in_default}

pub loop-ticket-preserved : goal.loop-ticket-preserved
loop-ticket-preserved c =
    let waiting = c.args.self.now in
    let front = named waiting (take c.loop-ticket.ticket-index c.args.tickets.now) in
    let more = named_more (party_at waiting) c.args.tickets.now c.loop-ticket.ticket-index 0 (omega arith) in
    elim c.match-party.branch [
      | in-Some+in_ok-push w ↦
          ap (λ (refs : Vec (Bor Party)). seen refs.items) w.parties-is
          ∙ seen_more c.loop-ticket.parties.items w.push.new.self.items w.in-Some.party w.in_ok-push.ensures.items
          ∙ ap (λ (xs : List Party). xs ++ w.in-Some.party.now ∷ []) c.loop-ticket.invariant
          ∙ ap (λ (who : Option Party). front ++ cons_option who []) w.in-Some.ensures
          ∙ sym more
      | in_default w ↦
          ap (λ (refs : Vec (Bor Party)). seen refs.items) w.parties-is ∙ c.loop-ticket.invariant
          ∙ sym (append-nil front)
          ∙ ap (λ (who : Option Party). front ++ cons_option who []) w.in_default.ensures
          ∙ sym more
    ]
