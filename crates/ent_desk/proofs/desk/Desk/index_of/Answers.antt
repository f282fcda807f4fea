use Rattle.std.proofs.Common.{◌≡◌, ◌∙◌, Some, ap, slice_get, subst}
use Rattle.std.specs.Prelude.{Contains, IfSome, IsNone}
use Rattle.ent_protocol.specs.Job.{Done, Job}
use Rattle.ent_desk.specs.Seen.{DeskState}
use Rattle.ent_desk.proofs.desk.Desk.index_of.Goals as goal

pub returns-in-Some-clause-some : goal.returns-in-Some-clause-some
returns-in-Some-clause-some g c =
    let i = c.self.inside in
    let job = c.args.done.now.job in
    subst (λ (d : DeskState). slice_get d.core.lent c.in-Some.index ≡ Some job) c.self.view_is
    (c.in-Some.ensures i.core.lent job c.stamp.ensures c.self.invariant.1)

pub returns-in-None-clause-some : goal.returns-in-None-clause-some
returns-in-None-clause-some g c =
    let is : c.job.result.now ≡ c.args.done.now.job =
    c.job.ensures ∙ ap (λ (d : Done). d.job) c.done.ensures in
    subst
    (λ (d : DeskState). IfSome c.lent_index.result (λ index. slice_get d.core.lent index ≡ Some c.args.done.now.job))
    c.self.view_is
    (subst (λ (j : Job). IfSome c.lent_index.result (λ index. slice_get c.self.inside.core.lent index ≡ Some j)) is
    c.lent_index.ensures.some)

pub returns-in-None-clause-none : goal.returns-in-None-clause-none
returns-in-None-clause-none g c =
    let is : c.job.result.now ≡ c.args.done.now.job =
    c.job.ensures ∙ ap (λ (d : Done). d.job) c.done.ensures in
    subst (λ (d : DeskState). IsNone c.lent_index.result → Contains d.core.lent c.args.done.now.job → ⊥)
    c.self.view_is
    (subst (λ (j : Job). IsNone c.lent_index.result → Contains c.self.inside.core.lent j → ⊥) is
    c.lent_index.ensures.none)
