use Rattle.std.proofs.Common.{◌≡◌, ◌∙◌, ◌++◌, ℕ, Bool, List, None, Some, false, ap, subst}
use Rattle.std.specs.BTreeSet.{contains}
use Rattle.std.specs.Ordering.{nat_cmp}
use Rattle.ent_meetings.specs.Waiting.{ChangesAt}
use Rattle.ent_waiting.specs.WaitingList.{UpdatesAt, back, back_or_gone, waiter_of}
use Rattle.ent_admission.specs.Admission.{Admission}
use Rattle.ent_admission.specs.Again.{counts_for}
use Rattle.ent_admission.specs.contracts.admission.Admission.{the_view}
use Rattle.ent_admission.specs.Moves.{WaitsAgain, ended_with, news_of}
use Rattle.ent_feed.specs.declared.group.EndedTicket.{EndedTicket}
use Rattle.ent_waiting.specs.declared.ended.Ending.TheVariants.{GaveUp}
use Rattle.ent_admission.proofs.Calls.{is_some_by, kept_again, kept_news, news_again}
use Rattle.ent_admission.proofs.admission.Admission.wait_again.Goals as goal

pub invariant_of-self-2 : goal.invariant_of-self-2
invariant_of-self-2 c =
    let a = the_view c.self.inside in
    let again = c.self.inside.again in
    let stands = c.requires.submitted.1 in
    let waits : waiter_of a.list c.args.ticket ≡ Some stands.waiter =
    ap (λ (x : Admission). waiter_of x.list c.args.ticket) c.self.view_is ∙ stands.waits in
    let waits_own : waiter_of a.list c.new-own.result ≡ Some stands.waiter =
    ap (λ (k : ℕ). waiter_of a.list k) c.new-own.ensures ∙ waits in
    let none : contains nat_cmp a.coming c.args.ticket ≡ false =
    ap (λ (x : Admission). contains nat_cmp x.coming c.args.ticket) c.self.view_is ∙ c.requires.all_in c.args.ticket in
    let updates = subst
    (λ (b : Bool). UpdatesAt c.args.ticket (back_or_gone again.rank b false stands.waiter) a.list.waiters
    c.wait_again.new.self.waiters)
    c.counts_for-counts.ensures
    (subst
    (λ (k : ℕ). UpdatesAt k (back_or_gone again.rank c.counts_for-counts.result false stands.waiter) a.list.waiters
    c.wait_again.new.self.waiters)
    c.new-own.ensures (c.in_ok-wait_again.ensures.updates stands.waiter waits_own)) in
    kept_news (record a { list = c.wait_again.new.self }) c.keep_up.new.index c.keep_up.new.news.items
    (kept_again a c.self.inside.index c.self.invariant c.wait_again.new.self c.args.ticket stands.waiter waits none
    again.rank
    (counts_for again c.args.ticket) false c.keep_up.new.index updates
    (λ gone. subst (λ (k : ℕ). ChangesAt k None c.self.inside.index c.keep_up.new.index) c.new-own.ensures
    (c.keep_up.ensures.gone (ap (λ (k : ℕ). waiter_of c.wait_again.new.self k) c.new-own.ensures ∙ gone)))
    (λ own here. c.keep_up.ensures.stays
    (is_some_by (waiter_of c.wait_again.new.self c.new-own.result) own
    (ap (λ (k : ℕ). waiter_of c.wait_again.new.self k) c.new-own.ensures ∙ here))))

pub returns-clause-ok : goal.returns-clause-ok
returns-clause-ok c = λ waiter waits.
    let a = the_view c.self.inside in
    let again = c.self.inside.again in
    let waits_own : waiter_of a.list c.new-own.result ≡ Some waiter =
    ap (λ (k : ℕ). waiter_of a.list k) c.new-own.ensures
    ∙ ap (λ (x : Admission). waiter_of x.list c.args.ticket) c.self.view_is ∙ waits in
    subst (λ (x : Admission). WaitsAgain x.again c.args.ticket waiter x.list c.wait_again.new.self) c.self.view_is
    (record {
      list = subst
          (λ (b : Bool). c.wait_again.new.self ≡ back c.args.ticket again.rank b false waiter a.list) c.counts_for-counts.ensures
          (subst
          (λ (k : ℕ). c.wait_again.new.self ≡ back k again.rank c.counts_for-counts.result false waiter a.list)
          c.new-own.ensures (c.in_ok-wait_again.ensures.ok waiter waits_own));
      updates = subst
          (λ (b : Bool). UpdatesAt c.args.ticket (back_or_gone again.rank b false waiter) a.list.waiters
          c.wait_again.new.self.waiters)
          c.counts_for-counts.ensures
          (subst
          (λ (k : ℕ). UpdatesAt k (back_or_gone again.rank c.counts_for-counts.result false waiter) a.list.waiters
          c.wait_again.new.self.waiters)
          c.new-own.ensures (c.in_ok-wait_again.ensures.updates waiter waits_own));
    })

pub returns-clause-news : goal.returns-clause-news
returns-clause-news c = λ waiter waits.
    let a = the_view c.self.inside in
    let again = c.self.inside.again in
    let waits_own : waiter_of a.list c.new-own.result ≡ Some waiter =
    ap (λ (k : ℕ). waiter_of a.list k) c.new-own.ensures
    ∙ ap (λ (x : Admission). waiter_of x.list c.args.ticket) c.self.view_is ∙ waits in
    subst
    (λ (x : Admission). c.keep_up.new.news.items ≡ x.news ++ news_of c.args.ticket (ended_with None x.again c.args.ticket waiter))
    c.self.view_is
    (news_again a.list c.wait_again.new.self c.args.ticket again waiter a.news c.keep_up.new.news.items
    (subst
    (λ (b : Bool). UpdatesAt c.args.ticket (back_or_gone again.rank b false waiter) a.list.waiters
    c.wait_again.new.self.waiters)
    c.counts_for-counts.ensures
    (subst
    (λ (k : ℕ). UpdatesAt k (back_or_gone again.rank c.counts_for-counts.result false waiter) a.list.waiters
    c.wait_again.new.self.waiters)
    c.new-own.ensures (c.in_ok-wait_again.ensures.updates waiter waits_own)))
    (λ gone. subst (λ (k : ℕ). c.keep_up.new.news.items ≡ a.news ++ news_of k (Some GaveUp)) c.new-own.ensures
    (c.keep_up.ensures.noted (ap (λ (k : ℕ). waiter_of c.wait_again.new.self k) c.new-own.ensures ∙ gone)
    ∙ ap (λ (ns : List EndedTicket). ns ++ news_of c.new-own.result (Some GaveUp)) c.reserve.ensures.items))
    (λ own here. c.keep_up.ensures.not_noted
    (is_some_by (waiter_of c.wait_again.new.self c.new-own.result) own
    (ap (λ (k : ℕ). waiter_of c.wait_again.new.self k) c.new-own.ensures ∙ here))
    ∙ c.reserve.ensures.items))
