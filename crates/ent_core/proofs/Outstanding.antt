-- Results that aren't outstanding.
use Rattle.std.proofs.Common.{◌≡◌, ◌∙◌, ℕ, List, Option, Some, None, ap, refl, subst, sym, slice_get}
use Rattle.std.specs.Prelude.{IfSome, IsNone}
use Rattle.ent_semantics.specs.Pool.{Posted}
use Rattle.ent_protocol.specs.Finish.{IsOutstandingSingle, IsTaken}
use Rattle.ent_core.specs.Finish.{StandsAt}
use Rattle.ent_protocol.specs.Job.{Job, Done, One, Joint, Single}
use Rattle.ent_protocol.specs.State.{State}

pub joint_not_single : (job : Job) (asked : List Posted) → Joint asked ≡ job.work → (s : State) (done : Done)
    → done.job ≡ job → IsOutstandingSingle s done → ⊥
joint_not_single job asked is s done same o =
    let apart : Joint asked ≡ One o.0 = is ∙ ap (λ (own : Job). own.work) (sym same) ∙ o.2 in
    cc

pub not_lent : (lent : List Job) (job : Job) → ((left : List Job) → IsTaken job lent left → ⊥) → (s : State)
    (done : Done) → s.lent ≡ lent → done.job ≡ job → IsOutstandingSingle s done → ⊥
not_lent lent job none s done all same o =
    none o.1 (subst (λ (own : Job). IsTaken own lent o.1) same
    (subst (λ (jobs : List Job). IsTaken done.job jobs o.1) all o.3))

-- where a job was found, the result of it stands; where it wasn't, the result isn't outstanding
pub stands_at : (s : State) (done : Done) (place : Option ℕ)
    → IfSome place (λ index. slice_get s.lent index ≡ Some done.job)
    → IfSome place (λ index. (single : Single) × (done.job.work ≡ One single))
    → (IsNone place → IsOutstandingSingle s done → ⊥)
    → StandsAt s done place
stands_at s done (Some index) there single none = (there, single)
stands_at s done None there single none = none refl
