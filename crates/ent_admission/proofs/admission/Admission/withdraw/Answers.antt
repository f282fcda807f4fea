use Rattle.std.proofs.Common.{◌≡◌, ◌∙◌, ℕ, None, false, sym, ap, subst}
use Rattle.std.specs.BTreeSet.{contains}
use Rattle.std.specs.Ordering.{nat_cmp}
use Rattle.ent_meetings.specs.Waiting.{ChangesAt}
use Rattle.ent_admission.specs.contracts.admission.Admission.{the_view}
use Rattle.ent_admission.proofs.Calls.{kept_ended}
use Rattle.ent_admission.proofs.admission.Admission.withdraw.Goals as goal

pub invariant_of-self-2 : goal.invariant_of-self-2
invariant_of-self-2 c =
    let a = the_view c.self.inside in
    let idle = c.in_ok-withdraw.ensures.idle in
    let none : contains nat_cmp a.coming c.args.ticket ≡ false =
    ap (λ (k : ℕ). contains nat_cmp a.coming k) (sym c.number.ensures) ∙ sym c.contains.ensures ∙ c.if-contains.false in
    kept_ended a c.self.inside.index c.self.invariant c.withdraw.new.self c.args.ticket idle.waiter idle.waits none
    c.remove.new.self c.in_ok-withdraw.ensures.updates
    (subst (λ (k : ℕ). ChangesAt k None c.self.inside.index c.remove.new.self) c.number-2.ensures
    c.remove.ensures.updates)
