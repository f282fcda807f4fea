use Rattle.std.proofs.Common.{◌≡◌, ◌∙◌, ℕ, true, refl, ap, subst}
use Rattle.std.specs.BTreeSet.{contains}
use Rattle.std.specs.Ordering.{nat_cmp}
use Rattle.ent_waiting.specs.WaitingList.{StandsAt}
use Rattle.ent_waiting.specs.declared.waiter.WaitingPlace.TheVariants.{Chosen}
use Rattle.ent_admission.specs.Admission.{Admission}
use Rattle.ent_admission.specs.contracts.admission.Admission.{the_view}
use Rattle.ent_admission.proofs.Calls.{kept_moved, stands_ready}
use Rattle.ent_admission.proofs.admission.Admission.ready.Goals as goal

pub invariant_of-self-2 : goal.invariant_of-self-2
invariant_of-self-2 c =
    let a = the_view c.self.inside in
    let comes : contains nat_cmp a.coming c.new.result ≡ true =
    ap (λ (k : ℕ). contains nat_cmp a.coming k) c.new.ensures
    ∙ ap (λ (x : Admission). contains nat_cmp x.coming c.args.ticket) c.self.view_is ∙ c.requires.comes in
    kept_moved a c.self.inside.index c.self.invariant c.choose.new.self c.new.result Chosen refl
    c.in_ok-choose.ensures.ok c.in_ok-choose.ensures.updates (λ e. comes)

pub returns-clause-stands : goal.returns-clause-stands
returns-clause-stands c =
    let a = the_view c.self.inside in
    let comes : contains nat_cmp a.coming c.new.result ≡ true =
    ap (λ (k : ℕ). contains nat_cmp a.coming k) c.new.ensures
    ∙ ap (λ (x : Admission). contains nat_cmp x.coming c.args.ticket) c.self.view_is ∙ c.requires.comes in
    subst (λ (k : ℕ). StandsAt c.choose.new.self k Chosen) c.new.ensures
    (stands_ready a c.self.inside.index c.self.invariant c.choose.new.self c.new.result comes c.in_ok-choose.ensures.ok
    c.in_ok-choose.ensures.updates)
