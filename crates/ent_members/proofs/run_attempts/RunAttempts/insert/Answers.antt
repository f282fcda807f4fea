use Rattle.std.proofs.Common.{◌≡◌, List, take, insert, arith, sym, ap, ◌∙◌, rules}
use Rattle.std.proofs.lemmas.List.{length-take-le}
use Rattle.ent_protocol.specs.State.{inserted}
use Rattle.ent_members.specs.declared.run_attempts.RunAttempt.{RunAttempt}
use Rattle.ent_members.specs.RunAttempts.{number_of}
use Rattle.ent_members.specs.Order.{place_in}
use Rattle.ent_members.proofs.ByNumber.{inserted_at, place_bound}
use Rattle.ent_members.proofs.run_attempts.RunAttempts.insert.Goals as goal

pub put_at-requires-clause-place : goal.put_at-requires-clause-place
put_at-requires-clause-place c =
    let held = take c.self.inside.len c.self.inside.run_attempts in
    let at : c.place_for-at.result ≡ place_in number_of held c.args.run_attempt.tx = c.place_for-at.ensures
    ∙ ap (λ (ls : List RunAttempt). place_in number_of ls c.args.run_attempt.tx)
    (c.as_slice.ensures.list ∙ sym c.self.view_is) in
    omega (
      arith,
      at,
      place_bound number_of held c.args.run_attempt.tx,
      length-take-le c.self.inside.len c.self.inside.run_attempts (search rules),
    )

pub returns : goal.returns
returns c =
    let held = take c.self.inside.len c.self.inside.run_attempts in
    c.put_at.ensures
    ∙ ap (λ i. insert held i c.args.run_attempt) (c.place_for-at.ensures
    ∙ ap (λ (ls : List RunAttempt). place_in number_of ls c.args.run_attempt.tx)
    (c.as_slice.ensures.list ∙ sym c.self.view_is))
    ∙ sym (inserted_at number_of c.args.run_attempt held)
    ∙ ap (inserted number_of c.args.run_attempt) c.self.view_is
