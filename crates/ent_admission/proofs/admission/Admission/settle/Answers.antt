use Rattle.std.proofs.Common.{◌≡◌, ◌∙◌, ◌++◌, ℕ, Option, Some, false, true, sym, ap, subst}
use Rattle.std.specs.BTreeSet.{contains}
use Rattle.std.specs.Ordering.{nat_cmp}
use Rattle.std.proofs.lemmas.Option.{same_Some}
use Rattle.ent_waiting.specs.WaitingList.{StandsAt, is_stationed, waiter_of}
use Rattle.ent_waiting.specs.declared.queues.Station.TheVariants.{Batch}
use Rattle.ent_waiting.specs.declared.waiter.WaitingPlace.TheVariants.{Submitted}
use Rattle.ent_waiting.specs.declared.waiter.Submission.{Submission}
use Rattle.ent_epoch.specs.Epoch.{fate_at}
use Rattle.ent_protocol.specs.Lookup.{standing}
use Rattle.ent_waiting.specs.declared.ended.Ending.{Ending}
use Rattle.ent_admission.specs.Moves.{SettlesAs, ended_with, ending_with, news_of, submission_at}
use Rattle.ent_admission.specs.Admission.{Admission}
use Rattle.ent_admission.specs.contracts.admission.Admission.{the_view}
use Rattle.ent_admission.proofs.Calls.{back_others, back_settled, batch_submitted, submission_of}
use Rattle.ent_admission.proofs.admission.Admission.settle.Goals as goal

pub unreachable-requires : goal.unreachable-requires
unreachable-requires c =
    let a = the_view c.self.inside in
    let none : (t : ℕ) → contains nat_cmp a.coming t ≡ false =
    λ t. ap (λ (x : Admission). contains nat_cmp x.coming t) c.self.view_is ∙ c.requires.all_in t in
    let batch : is_stationed Batch (waiter_of a.list c.args.ticket) ≡ true =
    ap (λ (x : Admission). is_stationed Batch (waiter_of x.list c.args.ticket)) c.self.view_is ∙ c.requires.batch in
    let own = batch_submitted a c.self.inside.index c.self.invariant none c.args.ticket batch in
    let found : submission_at (waiter_of c.args.self.now.list c.new-own.result) ≡ Some own.0 =
    ap (λ (k : ℕ). submission_at (waiter_of c.args.self.now.list k)) c.new-own.ensures
    ∙ ap (λ (x : Admission). submission_at (waiter_of x.list c.args.ticket)) (sym c.self.view_is)
    ∙ submission_of a.list c.args.ticket own.0 own.1 in
    c.in_default.not-Some own.0 (c.submission.ensures ∙ found)

pub returns-in_ok-end-in-Some-ending_of-clause-ok : goal.returns-in_ok-end-in-Some-ending_of-clause-ok
returns-in_ok-end-in-Some-ending_of-clause-ok c =
    let a = the_view c.self.inside in
    let none : (t : ℕ) → contains nat_cmp a.coming t ≡ false =
    λ t. ap (λ (x : Admission). contains nat_cmp x.coming t) c.self.view_is ∙ c.requires.all_in t in
    let batch : is_stationed Batch (waiter_of a.list c.args.ticket) ≡ true =
    ap (λ (x : Admission). is_stationed Batch (waiter_of x.list c.args.ticket)) c.self.view_is ∙ c.requires.batch in
    let own = batch_submitted a c.self.inside.index c.self.invariant none c.args.ticket batch in
    let stands : StandsAt c.args.self.now.list c.args.ticket (Submitted own.0) =
    subst (λ (x : Admission). StandsAt x.list c.args.ticket (Submitted own.0)) c.self.view_is own.1 in
    let found : c.submission.result ≡ Some own.0 =
    c.submission.ensures
    ∙ ap (λ (k : ℕ). submission_at (waiter_of c.args.self.now.list k)) c.new-own.ensures
    ∙ submission_of c.args.self.now.list c.args.ticket own.0 stands in
    let s = c.in-Some.submission in
    let same : own.0 ≡ s = same_Some own.0 s (sym found ∙ c.in-Some.is) in
    let there = subst (λ (x : Submission). StandsAt c.args.self.now.list c.args.ticket (Submitted x)) same stands in
    let told : ending_with s.epoch (fate_at (standing c.args.self.now.epoch.core s.tx)) ≡ c.ending_of.result =
    sym (c.ending_of.ensures ∙ ap (ending_with s.epoch) (c.fate.ensures
    ∙ ap (λ (x : Admission). fate_at (standing x.epoch.core s.tx)) c.self.view_is)) in
    record {
      ticket = c.args.ticket;
      submission = s;
      stands = there;
      over = c.requires.over;
      list = subst
          (λ (o : Option Ending). SettlesAs o c.args.self.now.again c.args.ticket there.waiter c.args.self.now.list
          c.end.new.self.list)
          (sym (told ∙ c.in-Some-ending_of.is))
          (c.in_ok-end-in-Some-ending_of.ensures.ok there.waiter there.waits);
      epoch = c.in_ok-end-in-Some-ending_of.ensures.epoch;
      coming = c.in_ok-end-in-Some-ending_of.ensures.coming;
      again = c.in_ok-end-in-Some-ending_of.ensures.again;
      feed = c.in_ok-end-in-Some-ending_of.ensures.feed;
      news = subst
          (λ (o : Option Ending). c.end.new.self.news
          ≡ c.args.self.now.news ++ news_of c.args.ticket (ended_with o c.args.self.now.again c.args.ticket there.waiter))
          (sym (told ∙ c.in-Some-ending_of.is)) c.in_ok-end-in-Some-ending_of.ensures.news;
    }

pub returns-in_ok-wait_again-in-None-clause-ok : goal.returns-in_ok-wait_again-in-None-clause-ok
returns-in_ok-wait_again-in-None-clause-ok c =
    let a = the_view c.self.inside in
    let none : (t : ℕ) → contains nat_cmp a.coming t ≡ false =
    λ t. ap (λ (x : Admission). contains nat_cmp x.coming t) c.self.view_is ∙ c.requires.all_in t in
    let batch : is_stationed Batch (waiter_of a.list c.args.ticket) ≡ true =
    ap (λ (x : Admission). is_stationed Batch (waiter_of x.list c.args.ticket)) c.self.view_is ∙ c.requires.batch in
    let own = batch_submitted a c.self.inside.index c.self.invariant none c.args.ticket batch in
    let stands : StandsAt c.args.self.now.list c.args.ticket (Submitted own.0) =
    subst (λ (x : Admission). StandsAt x.list c.args.ticket (Submitted own.0)) c.self.view_is own.1 in
    let found : c.submission.result ≡ Some own.0 =
    c.submission.ensures
    ∙ ap (λ (k : ℕ). submission_at (waiter_of c.args.self.now.list k)) c.new-own.ensures
    ∙ submission_of c.args.self.now.list c.args.ticket own.0 stands in
    let s = c.in-Some.submission in
    let same : own.0 ≡ s = same_Some own.0 s (sym found ∙ c.in-Some.is) in
    let there = subst (λ (x : Submission). StandsAt c.args.self.now.list c.args.ticket (Submitted x)) same stands in
    let told : ending_with s.epoch (fate_at (standing c.args.self.now.epoch.core s.tx)) ≡ c.ending_of.result =
    sym (c.ending_of.ensures ∙ ap (ending_with s.epoch) (c.fate.ensures
    ∙ ap (λ (x : Admission). fate_at (standing x.epoch.core s.tx)) c.self.view_is)) in
    record {
      ticket = c.args.ticket;
      submission = s;
      stands = there;
      over = c.requires.over;
      list = subst
          (λ (o : Option Ending). SettlesAs o c.args.self.now.again c.args.ticket there.waiter c.args.self.now.list
          c.wait_again.new.self.list)
          (sym (told ∙ c.in-None.is))
          (c.in_ok-wait_again-in-None.ensures.ok there.waiter there.waits);
      epoch = c.in_ok-wait_again-in-None.ensures.epoch;
      coming = c.in_ok-wait_again-in-None.ensures.coming;
      again = c.in_ok-wait_again-in-None.ensures.again;
      feed = c.in_ok-wait_again-in-None.ensures.feed;
      news = subst
          (λ (o : Option Ending). c.wait_again.new.self.news
          ≡ c.args.self.now.news ++ news_of c.args.ticket (ended_with o c.args.self.now.again c.args.ticket there.waiter))
          (sym (told ∙ c.in-None.is)) (c.in_ok-wait_again-in-None.ensures.news there.waiter there.waits);
    }

pub returns-in_ok-wait_again-in-None-clause-settled : goal.returns-in_ok-wait_again-in-None-clause-settled
returns-in_ok-wait_again-in-None-clause-settled c =
    let a = the_view c.self.inside in
    let none : (t : ℕ) → contains nat_cmp a.coming t ≡ false =
    λ t. ap (λ (x : Admission). contains nat_cmp x.coming t) c.self.view_is ∙ c.requires.all_in t in
    let batch : is_stationed Batch (waiter_of a.list c.args.ticket) ≡ true =
    ap (λ (x : Admission). is_stationed Batch (waiter_of x.list c.args.ticket)) c.self.view_is ∙ c.requires.batch in
    let own = batch_submitted a c.self.inside.index c.self.invariant none c.args.ticket batch in
    let waits = ap (λ (x : Admission). waiter_of x.list c.args.ticket) (sym c.self.view_is) ∙ own.1.waits in
    back_settled c.args.self.now.again c.args.self.now.list c.wait_again.new.self.list c.args.ticket own.1.waiter
    (c.in_ok-wait_again-in-None.ensures.ok own.1.waiter waits)

pub returns-in_ok-wait_again-in-None-clause-others : goal.returns-in_ok-wait_again-in-None-clause-others
returns-in_ok-wait_again-in-None-clause-others c =
    let a = the_view c.self.inside in
    let none : (t : ℕ) → contains nat_cmp a.coming t ≡ false =
    λ t. ap (λ (x : Admission). contains nat_cmp x.coming t) c.self.view_is ∙ c.requires.all_in t in
    let batch : is_stationed Batch (waiter_of a.list c.args.ticket) ≡ true =
    ap (λ (x : Admission). is_stationed Batch (waiter_of x.list c.args.ticket)) c.self.view_is ∙ c.requires.batch in
    let own = batch_submitted a c.self.inside.index c.self.invariant none c.args.ticket batch in
    let waits = ap (λ (x : Admission). waiter_of x.list c.args.ticket) (sym c.self.view_is) ∙ own.1.waits in
    back_others c.args.self.now.again c.args.self.now.list c.wait_again.new.self.list c.args.ticket own.1.waiter
    (c.in_ok-wait_again-in-None.ensures.ok own.1.waiter waits)
