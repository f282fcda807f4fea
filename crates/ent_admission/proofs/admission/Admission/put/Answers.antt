use Rattle.std.proofs.Common.{◌≡◌, ◌∙◌, ℕ, None, Some, sym, ap, subst}
use Rattle.ent_meetings.specs.Waiting.{ChangesAt}
use Rattle.ent_meetings.specs.declared.party.Party.{Party}
use Rattle.ent_meetings.specs.Party.{party_of}
use Rattle.ent_waiting.specs.WaitingList.{WaitingList, waiter_of}
use Rattle.ent_admission.specs.Admission.{Admission, IsFormed, IsKept}
use Rattle.ent_admission.specs.contracts.admission.Admission.{the_view}
use Rattle.ent_admission.proofs.Calls.{kept_put, kept_unput}
use Rattle.ent_admission.proofs.admission.Admission.put.Goals as goal

pub invariant_of-self-in-Ok : goal.invariant_of-self-in-Ok
invariant_of-self-in-Ok c =
    let a = the_view c.self.inside in
    let n = c.self.inside.list.next in
    let absent : waiter_of a.list n ≡ None =
    ap (λ (k : ℕ). waiter_of a.list k) (sym c.next-next.ensures.next) ∙ c.next-next.ensures.unused in
    let formed = subst (λ (x : Admission). IsFormed x.epoch.core.opening c.args.script) (sym c.self.view_is)
    c.requires.formed in
    let number : c.number.result ≡ n = c.number.ensures ∙ c.next-next.ensures.next in
    let changes = subst (λ (k : ℕ). ChangesAt k (Some (party_of c.args.script)) c.self.inside.index c.insert.new.self)
    number
    (subst (λ (p : Party). ChangesAt c.number.result (Some p) c.self.inside.index c.insert.new.self)
    c.in_ok-party.ensures c.in_ok-insert.ensures.updates) in
    kept_put a c.self.inside.index c.self.invariant c.put.new.self n c.args.script c.args.patience 0 c.args.rank formed
    absent c.in-Ok.ensures.updates c.insert.new.self changes

pub invariant_of-self-in-Err : goal.invariant_of-self-in-Err
invariant_of-self-in-Err c =
    let a = the_view c.self.inside in
    let n = c.self.inside.list.next in
    let absent : waiter_of a.list n ≡ None =
    ap (λ (k : ℕ). waiter_of a.list k) (sym c.next-next.ensures.next) ∙ c.next-next.ensures.unused in
    let one = subst (λ (k : ℕ). ChangesAt k (Some c.in_ok-party.party) c.self.inside.index c.insert.new.self)
    (c.number.ensures ∙ c.next-next.ensures.next) c.in_ok-insert.ensures.updates in
    let two = subst (λ (k : ℕ). ChangesAt k None c.insert.new.self c.remove.new.self)
    (c.number-in-Err.ensures ∙ c.next-next.ensures.next) c.remove.ensures.updates in
    subst (λ (l : WaitingList). IsKept (record a { list = l }) c.remove.new.self) (sym c.in-Err.ensures.err)
    (kept_unput a c.self.inside.index c.insert.new.self c.remove.new.self n c.in_ok-party.party c.self.invariant absent
    one two)
