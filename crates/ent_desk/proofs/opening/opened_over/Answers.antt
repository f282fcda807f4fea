use Rattle.std.proofs.Common.{◌≡◌, ◌∙◌, ap, arith, length, subst, sym}
use Rattle.ent_protocol.specs.Reached.{IsGatheredState}
use Rattle.ent_core.specs.Passed.{resolved_forms}
use Rattle.ent_core.proofs.Playing.{as_many_submitted}
use Rattle.ent_desk.specs.Opened.{tickets_from}
use Rattle.ent_desk.proofs.Closed.{length_tickets}
use Rattle.ent_desk.proofs.Opened.{none_committed}
use Rattle.ent_desk.proofs.opening.opened_over.Goals as goal

pub returns-clause-made : goal.returns-clause-made
returns-clause-made c =
    let scripts = c.args.input.scripts in
    let items = c.in_ok-tickets.ensures ∙ ap (tickets_from 1) (c.as_slice.ensures ∙ c.deref.ensures) in
    let own : c.len.result ≡ length c.in_ok-tickets.tickets.items = omega arith in
    let count = own ∙ ap length items ∙ length_tickets 1 scripts in
    subst (λ k. IsGatheredState resolved_forms k c.in_ok-core.core) (sym count)
    c.in_ok-core.ensures.submitted.gathered

pub returns-clause-counted : goal.returns-clause-counted
returns-clause-counted c =
    let scripts = c.args.input.scripts in
    let items = c.in_ok-tickets.ensures ∙ ap (tickets_from 1) (c.as_slice.ensures ∙ c.deref.ensures) in
    let own : c.len.result ≡ length c.in_ok-tickets.tickets.items = omega arith in
    let many = as_many_submitted c.args.input.opening scripts c.in_ok-core.core c.in_ok-core.ensures.submitted in
    own ∙ ap length items ∙ length_tickets 1 scripts ∙ sym many

pub returns-clause-committed : goal.returns-clause-committed
returns-clause-committed c =
    none_committed resolved_forms (length c.args.input.scripts) c.in_ok-core.core
    c.in_ok-core.ensures.submitted.gathered

pub returns-clause-first : goal.returns-clause-first
returns-clause-first c =
    let scripts = c.args.input.scripts in
    let items = c.in_ok-tickets.ensures ∙ ap (tickets_from 1) (c.as_slice.ensures ∙ c.deref.ensures) in
    let own : c.len.result ≡ length c.in_ok-tickets.tickets.items = omega arith in
    let count = own ∙ ap length items ∙ length_tickets 1 scripts in
    let opening = c.in_ok-copy.ensures in
    λ j. record { opening = opening j; count = count j }
