use Rattle.std.proofs.Common.{◌≡◌, ◌∙◌, ◌++◌, ℕ, None, Some, false, ap, subst}
use Rattle.std.specs.BTreeSet.{contains}
use Rattle.std.specs.Ordering.{nat_cmp}
use Rattle.ent_waiting.specs.WaitingList.{UpdatesAt, waiter_of}
use Rattle.ent_admission.specs.Admission.{Admission}
use Rattle.ent_admission.specs.contracts.admission.Admission.{the_view}
use Rattle.ent_admission.specs.Moves.{news_of}
use Rattle.ent_admission.proofs.Calls.{kept_ended, kept_news}
use Rattle.ent_admission.proofs.admission.Admission.end.Goals as goal

pub invariant_of-self-2 : goal.invariant_of-self-2
invariant_of-self-2 c =
    let a = the_view c.self.inside in
    let stands = c.requires.submitted.1 in
    let waits : waiter_of a.list c.args.ticket ≡ Some stands.waiter =
    ap (λ (x : Admission). waiter_of x.list c.args.ticket) c.self.view_is ∙ stands.waits in
    let none : contains nat_cmp a.coming c.args.ticket ≡ false =
    ap (λ (x : Admission). contains nat_cmp x.coming c.args.ticket) c.self.view_is ∙ c.requires.all_in c.args.ticket in
    let updates = subst (λ (k : ℕ). UpdatesAt k None a.list.waiters c.end.new.self.waiters) c.new-own.ensures
    c.in_ok-end.ensures.updates in
    kept_news (record a { list = c.end.new.self }) c.remove.new.self c.note.new.news.items
    (kept_ended a c.self.inside.index c.self.invariant c.end.new.self c.args.ticket stands.waiter waits none
    c.remove.new.self updates c.remove.ensures.updates)

pub returns-clause-news : goal.returns-clause-news
returns-clause-news c =
    let ending = c.args.ending in
    c.note.ensures ∙ (λ i. c.reserve.ensures.items i ++ news_of (c.new-own.ensures i) (Some ending))
    ∙ ap (λ (x : Admission). x.news ++ news_of c.args.ticket (Some ending)) c.self.view_is
