use Rattle.std.proofs.Common.{◌≡◌, ◌∙◌, ◌+◌, ℕ, Bool, Some, true, length, refl, sym, ap, subst}
use Rattle.std.specs.Prelude.{if◌then◌else◌}
use Rattle.std.specs.BTreeSet.{contains}
use Rattle.std.specs.Ordering.{nat_cmp}
use Rattle.std.proofs.lemmas.Option.{same_Some}
use Rattle.ent_epoch.specs.Epoch.{Takes}
use Rattle.ent_waiting.specs.WaitingList.{StandsAt, UpdatesAt, changed, waiter_of}
use Rattle.ent_waiting.specs.declared.waiter.WaitingPlace.TheVariants.{Chosen, Submitted}
use Rattle.ent_waiting.specs.declared.waiter.Waiter.{Waiter}
use Rattle.ent_admission.specs.Moves.{Enters}
use Rattle.ent_admission.specs.Admission.{Admission}
use Rattle.ent_admission.specs.contracts.admission.Admission.{the_view}
use Rattle.ent_admission.proofs.Calls.{kept_submitted}
use Rattle.ent_admission.proofs.admission.Admission.submit.Goals as goal

pub invariant_of-self-2 : goal.invariant_of-self-2
invariant_of-self-2 c =
    let a = the_view c.self.inside in
    let ticket = c.args.ticket in
    let submission = c.in_ok-submission.submission in
    let new : Admission = record a {
      epoch = c.submit_to.new.epoch;
      list = c.submitted.new.self;
      coming = c.remove.new.self;
    } in
    let waiter = c.requires.stands.waiter in
    let waits : waiter_of a.list ticket ≡ Some waiter =
    ap (λ (x : Admission). waiter_of x.list ticket) c.self.view_is ∙ c.requires.stands.waits in
    let waits_own : waiter_of a.list c.new-own.result ≡ Some waiter =
    ap (λ (k : ℕ). waiter_of a.list k) c.new-own.ensures ∙ waits in
    let comes : contains nat_cmp a.coming ticket ≡ true =
    ap (λ (x : Admission). contains nat_cmp x.coming ticket) c.self.view_is ∙ c.requires.comes in
    let same : c.in-Some.waiter.now ≡ waiter = same_Some c.in-Some.waiter.now waiter (c.in-Some.ensures ∙ waits_own) in
    let takes = subst (λ (w : Waiter). Takes a.epoch ticket w.script submission new.epoch) same
    (subst (λ (k : ℕ). Takes a.epoch k c.in-Some.waiter.now.script submission new.epoch) c.new-own.ensures
    c.in_ok-submission.ensures.ok) in
    let updates = subst
    (λ (k : ℕ). UpdatesAt k (Some (record waiter { place = Submitted submission })) a.list.waiters new.list.waiters)
    c.new-own.ensures (c.submitted.ensures.updates waiter waits_own) in
    let fewer : length new.coming.keys + 1 ≡ length a.coming.keys =
    ap (λ (b : Bool). length new.coming.keys + (if b then 1 else 0)) (sym (c.remove.ensures.test ∙ comes))
    ∙ c.remove.ensures.len in
    kept_submitted a c.self.inside.index c.self.invariant new ticket waiter submission waits comes takes
    c.in_ok-submission.ensures.adds c.in_ok-submission.ensures.next updates c.remove.ensures.updates fewer

pub returns-clause-ok : goal.returns-clause-ok
returns-clause-ok c =
    let a = the_view c.self.inside in
    let ticket = c.args.ticket in
    let submission = c.in_ok-submission.submission in
    let new : Admission = record a {
      epoch = c.submit_to.new.epoch;
      list = c.submitted.new.self;
      coming = c.remove.new.self;
    } in
    let stands = subst (λ (x : Admission). StandsAt x.list ticket Chosen) (sym c.self.view_is) c.requires.stands in
    let waiter = stands.waiter in
    let waits_own : waiter_of a.list c.new-own.result ≡ Some waiter =
    ap (λ (k : ℕ). waiter_of a.list k) c.new-own.ensures ∙ stands.waits in
    let same : c.in-Some.waiter.now ≡ waiter = same_Some c.in-Some.waiter.now waiter (c.in-Some.ensures ∙ waits_own) in
    subst (λ (x : Admission). Enters x new) c.self.view_is
    (record {
      ticket = ticket;
      waiter = waiter;
      submission = submission;
      comes = ap (λ (x : Admission). contains nat_cmp x.coming ticket) c.self.view_is ∙ c.requires.comes;
      stands = stands;
      waits = refl;
      takes = subst (λ (w : Waiter). Takes a.epoch ticket w.script submission new.epoch) same
          (subst (λ (k : ℕ). Takes a.epoch k c.in-Some.waiter.now.script submission new.epoch) c.new-own.ensures
          c.in_ok-submission.ensures.ok);
      list = subst
          (λ (k : ℕ). new.list ≡ changed k (record waiter { place = Submitted submission }) a.list)
          c.new-own.ensures (c.submitted.ensures.ok waiter waits_own);
      gone = c.remove.ensures.updates.1;
      others = c.remove.ensures.updates.2;
      again = refl;
      feed = refl;
      news = refl;
    })
