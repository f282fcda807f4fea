use Rattle.std.proofs.Common.{sym, subst, refl}
use Rattle.ent_epoch.specs.Telling.{telling_at}
use Rattle.ent_epoch.specs.Epoch.{Epoch}
use Rattle.ent_admission.specs.Admission.{Admission, IsKept}
use Rattle.ent_admission.specs.Moves.{TellsCommits}
use Rattle.ent_admission.specs.contracts.admission.Admission.{the_view}
use Rattle.ent_admission.proofs.Calls.{kept_told}
use Rattle.ent_admission.proofs.admission.Admission.tell_commits.Goals as goal

pub invariant_of-self-2 : goal.invariant_of-self-2
invariant_of-self-2 c =
    let a = the_view c.self.inside in
    let feed = c.publish.new.feed in
    subst (λ (e : Epoch). IsKept (record a { epoch = e; feed = feed }) c.self.inside.index)
    (sym c.in_ok-publish.ensures.ok.all_told)
    (kept_told a c.self.inside.index (telling_at a.epoch.core) feed a.news c.self.invariant)

pub returns-clause-tells : goal.returns-clause-tells
returns-clause-tells c =
    let a = the_view c.self.inside in
    let new : Admission = record a { epoch = c.publish.new.self; feed = c.publish.new.feed } in
    subst (λ (x : Admission). TellsCommits x new) c.self.view_is
    (record { publishes = c.in_ok-publish.ensures.ok; is = refl })
