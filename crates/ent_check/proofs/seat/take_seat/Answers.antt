use Rattle.std.proofs.Common.{sym, ◌∙◌}
use Rattle.ent_check.proofs.Seats.{newly_seated, seated}
use Rattle.ent_check.proofs.seat.take_seat.Goals as goal

pub returns-then-contains_key : goal.returns-then-contains_key
returns-then-contains_key c =
    λ members are. seated members c.args.joint c.args.number c.args.member.now c.args.seats.now are
    (sym c.contains_key.ensures ∙ c.if-contains_key.true)

pub returns : goal.returns
returns c =
    λ members are. newly_seated members c.args.joint c.args.number c.args.member.now c.args.seats.now
    c.insert.new.self are (sym c.contains_key.ensures ∙ c.if-contains_key.false)
    (λ q. c.in_ok-insert.ensures.updates.0 q)
