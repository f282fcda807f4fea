use Rattle.std.proofs.Common.{◌≡◌, ◌∙◌, ℕ, Some, ap, subst, sym}
use Rattle.std.specs.Arc.{arc_value}
use Rattle.ent_headline.specs.Resolved.{resolved_forms}
use Rattle.ent_members.specs.Next.{next_seen}
use Rattle.ent_protocol.specs.Member.{Asks, Commits, Next, Ordinary, active_member, next_of}
use Rattle.ent_protocol.specs.Uses.{blocker}
use Rattle.ent_protocol.specs.Waits.{next_uses}
use Rattle.ent_core.specs.Begin.{IsUnposted}
use Rattle.ent_core.proofs.Begun.{begun_next, unposted_at_turn}
use Rattle.ent_core.proofs.Posting.{to_post}
use Rattle.ent_core.proofs.begin.begin_free.Goals as goal

pub job_of-requires-clause-next : goal.job_of-requires-clause-next
job_of-requires-clause-next c =
    let now = c.args.store.now in
    let member = c.member-member.result in
    let there = subst (λ (n : ℕ). active_member now n ≡ Some member) (sym c.member-member.ensures.number)
    c.member-member.ensures.there in
    begun_next now member.tx member (Ordinary c.in-Ordinary.statement) there c.member-member.ensures.free
    (sym (ap next_seen c.in-Ordinary.is) ∙ c.in_ok-statement.ensures.next)

pub job_of-requires-clause-unblocked : goal.job_of-requires-clause-unblocked
job_of-requires-clause-unblocked c =
    let now = c.args.store.now in
    let member = c.member-member.result in
    let next : Ordinary c.in-Ordinary.statement ≡ next_of now member =
    sym (ap next_seen c.in-Ordinary.is) ∙ c.in_ok-statement.ensures.next in
    ap (λ (n : Next). blocker now member (next_uses n)) next ∙ c.member-member.ensures.free.unblocked

pub lend-requires-clause-unposted : goal.lend-requires-clause-unposted
lend-requires-clause-unposted c =
    subst (λ (n : ℕ). IsUnposted c.args.store.now n) c.member-member.ensures.number
    c.in_ok-job-in-Ordinary.ensures.unposted

pub post-requires-clause-asks : goal.post-requires-clause-asks
post-requires-clause-asks c =
    let now = c.args.store.now in
    let member = c.member-member.result in
    let asks : Asks (arc_value c.in-Asks.statement) ≡ next_of now member =
    sym (ap next_seen c.in-Asks.is) ∙ c.in_ok-statement.ensures.next in
    to_post now c.args.found.tx member c.query_of-query.result (arc_value c.in-Asks.statement)
    c.member-member.ensures.there c.member-member.ensures.free (sym asks) c.query_of-query.ensures

pub commit-requires-clause-unposted : goal.commit-requires-clause-unposted
commit-requires-clause-unposted c =
    let now = c.args.store.now in
    let tx = c.args.found.tx in
    let member = c.member-member.result in
    unposted_at_turn now tx member Commits
    (c.members_stand_by_number.ensures resolved_forms now c.requires.kept.reached)
    (begun_next now tx member Commits c.member-member.ensures.there c.member-member.ensures.free
    (sym (ap next_seen c.in-Commits.is) ∙ c.in_ok-statement.ensures.next))

pub commit-requires-clause-counted : goal.commit-requires-clause-counted
commit-requires-clause-counted c =
    c.transactions_are_counted.ensures resolved_forms c.args.store.now c.requires.kept.reached

pub commit-requires-clause-within : goal.commit-requires-clause-within
commit-requires-clause-within c =
    c.attempts_stay_within.ensures.own resolved_forms c.args.store.now c.requires.kept.reached c.asks_for_runs.ensures

pub roll_back-requires-clause-counted : goal.roll_back-requires-clause-counted
roll_back-requires-clause-counted c =
    c.transactions_are_counted.ensures resolved_forms c.args.store.now c.requires.kept.reached

pub roll_back-requires-clause-within : goal.roll_back-requires-clause-within
roll_back-requires-clause-within c =
    c.attempts_stay_within.ensures.own resolved_forms c.args.store.now c.requires.kept.reached c.asks_for_runs.ensures

pub roll_back-requires-clause-once : goal.roll_back-requires-clause-once
roll_back-requires-clause-once c =
    c.transactions_stand_once.ensures.once resolved_forms c.args.store.now c.requires.kept.reached

pub commit-requires-clause-few : goal.commit-requires-clause-few
commit-requires-clause-few c = c.scripts_are_few.ensures resolved_forms c.args.store.now c.requires.kept.reached

pub roll_back-requires-clause-few : goal.roll_back-requires-clause-few
roll_back-requires-clause-few c = c.scripts_are_few.ensures resolved_forms c.args.store.now c.requires.kept.reached
