-- What is picked, and the job that is made of it.
use Rattle.std.proofs.Common.{◌≡◌, List, Option, Some, None, sym, subst, ap, ◌∙◌}
use Rattle.ent_waits.specs.Component.{IsFirstToPick, IsPick, IsPickIn}
use Rattle.ent_job.specs.Work.{IsJoint}
use Rattle.ent_semantics.specs.Pool.{Posted}
use Rattle.ent_protocol.specs.Job.{Job, Numbered}
use Rattle.ent_protocol.specs.Member.{seen_now, pool}
use Rattle.ent_protocol.specs.PoolEvents.{joint_job, joint_uses}
use Rattle.ent_protocol.specs.State.{State, Use}
use Rattle.ent_core.specs.Pick.{NoneCanBePicked}

-- the tables that were seen are those of the component's job
tables_are : (s now : State) (asked : List Posted) (tables : List Numbered) (uses : List Use) → s ≡ now
    → uses ≡ joint_uses asked → tables ≡ seen_now s.opening.tables s.tables uses
    → tables ≡ (joint_job now asked).tables
tables_are s now asked tables uses same used seen =
    seen ∙ ap (λ (all : List Use). seen_now s.opening.tables s.tables all) used
    ∙ ap (λ (w : State). (joint_job w asked).tables) same

-- its statements make a job with them
pub makes_job : (s now : State) (asked : List Posted) (tables : List Numbered) (uses : List Use) → s ≡ now
    → uses ≡ joint_uses asked → tables ≡ seen_now s.opening.tables s.tables uses
    → IsJoint asked (joint_job now asked).tables → IsJoint asked tables
makes_job s now asked tables uses same used seen fits =
    subst (IsJoint asked) (sym (tables_are s now asked tables uses same used seen)) fits

-- what is picked of what is posted, tried and lent is picked in the state
pub picked_first : (s now : State) (posted : List Posted) (tried : List (List Posted)) (lent : List Job)
    (picked : Option (List Posted)) (asked : List Posted) → s ≡ now → pool s ≡ posted → s.tried ≡ tried
    → s.lent ≡ lent → picked ≡ Some asked → IsPick posted tried lent picked → IsFirstToPick now asked
picked_first s now posted tried lent picked asked same are_posted are_tried are_lent some pick =
    subst (λ (w : State). IsFirstToPick w asked) same
    (subst (λ (own : Option (List Posted)). IsPickIn s own) some (pick s are_posted are_tried are_lent))

-- where nothing is picked, nothing can be picked in the state
pub picked_none : (s now : State) (posted : List Posted) (tried : List (List Posted)) (lent : List Job)
    (picked : Option (List Posted)) → s ≡ now → pool s ≡ posted → s.tried ≡ tried → s.lent ≡ lent → picked ≡ None
    → IsPick posted tried lent picked → NoneCanBePicked now
picked_none s now posted tried lent picked same are_posted are_tried are_lent none pick =
    subst NoneCanBePicked same
    (subst (λ (own : Option (List Posted)). IsPickIn s own) none (pick s are_posted are_tried are_lent))
