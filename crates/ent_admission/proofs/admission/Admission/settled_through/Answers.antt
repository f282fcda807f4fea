use Rattle.std.proofs.Common.{◌∙◌, ◌++◌, List, refl, ap, subst}
use Rattle.ent_feed.specs.declared.group.Group.{Group}
use Rattle.ent_admission.specs.Acts.{Asks}
use Rattle.ent_admission.specs.Admission.{Admission}
use Rattle.ent_admission.specs.contracts.admission.Admission.{the_view}
use Rattle.ent_admission.proofs.Acting.{first_settled}
use Rattle.ent_admission.proofs.Calls.{kept_told}
use Rattle.ent_admission.proofs.admission.Admission.settled_through.Goals as goal

pub invariant_of-self : goal.invariant_of-self
invariant_of-self c =
    let a = the_view c.self.inside in
    kept_told a c.self.inside.index a.epoch.telling c.settled_through.new.self a.news c.self.invariant

pub returns-clause-asks : goal.returns-clause-asks
returns-clause-asks c =
    let a = the_view c.self.inside in
    let feed = c.settled_through.new.self in
    let new : Admission = record a { feed = feed } in
    let some = first_settled c.args.number a.feed.first a.feed.next a.feed.groups c.from-kept.ensures.numbered in
    subst (λ (x : Admission). Asks x new) c.self.view_is
    (record {
      epoch = refl;
      coming = refl;
      again = refl;
      next = c.settled_through.ensures.next;
      settled = some.0;
      kept = ap (λ (gs : List Group). some.0 ++ gs) c.settled_through.ensures.groups ∙ some.1;
      news = refl;
    })
