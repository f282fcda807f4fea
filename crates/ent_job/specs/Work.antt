-- Jobs as they are kept: which tables work has.
use Rattle.std.specs.Prelude.{◌≡◌, List, map, slice_index_or}
use Rattle.ent_lists.specs.Sets as set
use Rattle.ent_semantics.specs.Component.{IsComponent}
use Rattle.ent_semantics.specs.Pool.{IsSafe, Posted}
use Rattle.ent_semantics.specs.FormKinds.{Fits}
use Rattle.ent_plan.specs.Plan.{HaveDistinctHeads}
use Rattle.ent_plan.specs.Ranged.{AreRanged}
use Rattle.ent_protocol.specs.Job.{Single, Numbered, tables_of}
use Rattle.ent_protocol.specs.Job as jobs
use Rattle.ent_protocol.specs.PoolEvents.{joint_uses}
use Rattle.ent_protocol.specs.State.{Use}
use Rattle.ent_protocol.specs.Uses.{statement_uses}
use Rattle.ent_job.specs.declared.work.Work.{Work}
use Rattle.ent_job.specs.declared.work.Work.TheVariants as works

abbrev pub work_seen : Work → jobs.Work
work_seen (works.One single) = jobs.One single
work_seen (works.Joint asked) = jobs.Joint asked

-- the tables are those that uses name, in order
abbrev pub AreUsed : List Use → List Numbered → Type 0
AreUsed uses tables = map (λ seen. seen.table) tables ≡ map (λ own. own.table) uses

-- Each table stands at its number in the tables that all of them make, so that those of one number are alike.
abbrev pub StandAtNumbers : List Numbered → Type 0
StandAtNumbers tables =
    map (λ seen. slice_index_or (tables_of tables) seen.table set.empty) tables ≡ map (λ seen. seen.rows) tables

-- the tables are those that an ordinary statement uses, and it fits them
pub record IsOne (single : Single) (tables : List Numbered) : Type 0 where
  pub used : AreUsed (statement_uses single.statement) tables
  pub fits : Fits (map (λ seen. seen.kinds) tables) single.statement
  pub stand : StandAtNumbers tables

-- The statements are one component of the pool that they make, which is safe; the heads of each are of distinct
-- relations, and each written variable stands in a sub-select's tuple. The tables are those that they use.
pub record IsJoint (asked : List Posted) (tables : List Numbered) : Type 0 where
  pub component : IsComponent asked asked
  pub safe : IsSafe asked
  pub heads : HaveDistinctHeads asked
  pub ranged : AreRanged asked
  pub used : AreUsed (joint_uses asked) tables
  pub stand : StandAtNumbers tables

abbrev pub IsWork : jobs.Work → List Numbered → Type 0
IsWork (jobs.One single) tables = IsOne single tables
IsWork (jobs.Joint asked) tables = IsJoint asked tables
