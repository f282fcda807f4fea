use Rattle.std.proofs.Common.{◌≡◌, ◌∙◌, ℕ, false, sym, ap, subst}
use Rattle.std.specs.BTreeSet.{contains}
use Rattle.std.specs.Ordering.{nat_cmp}
use Rattle.ent_epoch.specs.Epoch.{Epoch}
use Rattle.ent_admission.specs.Admission.{Admission, IsKept}
use Rattle.ent_admission.specs.contracts.admission.Admission.{the_view}
use Rattle.ent_admission.proofs.Calls.{kept_run}
use Rattle.ent_admission.proofs.admission.Admission.run.Goals as goal

pub invariant_of-self : goal.invariant_of-self
invariant_of-self c =
    let a = the_view c.self.inside in
    let none : (t : ℕ) → contains nat_cmp a.coming t ≡ false =
    λ t. ap (λ (x : Admission). contains nat_cmp x.coming t) c.self.view_is ∙ c.requires.all_in t in
    subst (λ (e : Epoch). IsKept (record a { epoch = e }) c.self.inside.index) (sym c.run.ensures.same)
    (kept_run a c.self.inside.index c.run.new.self.core c.run.new.self.telling c.self.invariant
    c.run.ensures.opening none)

pub invariant_of-self-2 : goal.invariant_of-self-2
invariant_of-self-2 c =
    let a = the_view c.self.inside in
    let none : (t : ℕ) → contains nat_cmp a.coming t ≡ false =
    λ t. ap (λ (x : Admission). contains nat_cmp x.coming t) c.self.view_is ∙ c.requires.all_in t in
    subst (λ (e : Epoch). IsKept (record a { epoch = e }) c.self.inside.index) (sym c.run.ensures.same)
    (kept_run a c.self.inside.index c.run.new.self.core c.run.new.self.telling c.self.invariant
    c.run.ensures.opening none)
