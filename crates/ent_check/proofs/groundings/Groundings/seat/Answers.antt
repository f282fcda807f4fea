use Rattle.std.proofs.Common.{ℕ, ap, map, List, ◌∙◌, sym}
use Rattle.std.specs.Option.{option_and_then, option_map}
use Rattle.ent_history.specs.Told.{joint_answer_of}
use Rattle.ent_history.specs.Placed.{Placed, member_at}
use Rattle.ent_semantics.specs.Entangled.{Valuation}
use Rattle.ent_semantics.specs.declared.book.Member.{Member}
use Rattle.ent_check.specs.Told.{member_in, told_seat}
use Rattle.ent_check.proofs.Told.{told_there}
use Rattle.ent_check.proofs.groundings.Groundings.seat.Goals as goal

pub returns-in-Some : goal.returns-in-Some
returns-in-Some c =
    let joints = map joint_answer_of c.self.inside.joints.now in
    let at = c.in-Some.ensures.value ∙ c.self.invariant c.args.tx c.args.place in
    c.seat_in.ensures
    ∙ ap (option_and_then (λ (at : ℕ × ℕ).
    option_map {U = ℕ × ℕ × Valuation} (λ (member : Member). (at.0, at.1, member.grounding)) (member_in joints at))) at
    ∙ sym (told_there c.args.tx c.args.place joints)
    ∙ ap (λ (members : List Placed). option_map {U = ℕ × ℕ × Valuation} told_seat
    (member_at members c.args.tx c.args.place)) c.self.view_is
