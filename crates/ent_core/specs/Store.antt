-- What a core's store keeps of its parts.
use Rattle.std.specs.Prelude.{◌≡◌, ◌≤◌, Bool, false, List, [], map, length, None, nat_eq}
use Rattle.std.specs.List.{AllByRecursion, IsDistinct}
use Rattle.ent_tree.specs.declared.declaration.Opening.{Opening}
use Rattle.ent_form.specs.declared.catalogue.TableSchema.{TableSchema}
use Rattle.ent_form.specs.Catalogue.{schemas_of}
use Rattle.ent_form.specs.OpeningFault.{opening_fault}
use Rattle.ent_semantics.specs.Pool.{Posted}
use Rattle.ent_waits.specs.Pooled.{IsPoolOf}
use Rattle.ent_protocol.specs.State.{Submitted}
use Rattle.ent_run.specs.Run.{Run}
use Rattle.ent_members.specs.TransactionTable.{TransactionTable}
use Rattle.ent_protocol_laws.specs.Attempts.{AsksForRun}
use Rattle.ent_tables.specs.Stored.{Stored, kinds_declared}

pub record IsKept (schemas : List TableSchema) (opening : Opening) (submitted : List Submitted)
    (transaction_table : TransactionTable) (running : Bool) (run : Run) (stored : Stored) (pool : List Posted)
    : Type 0 where
  -- the catalogue is the opening's, which has no fault, and so are the kinds of the tables' columns
  pub declared : schemas ≡ schemas_of opening.tables
  pub formed : opening_fault opening ≡ None
  pub kinds : stored.kinds ≡ kinds_declared opening.tables
  -- each script asks for a run, and there is room for each one that was submitted
  pub asks : AllByRecursion AsksForRun submitted
  pub known : transaction_table.known ≡ length submitted
  -- who is dormant was submitted, and stands once in the list
  pub arrived : AllByRecursion (λ own. own.tx ≤ length submitted) transaction_table.dormant
  pub distinct : IsDistinct nat_eq (map (λ own. own.tx) transaction_table.dormant)
  -- where no run is on nobody is a member
  pub idle_prepared : running ≡ false → run.prepared ≡ []
  pub idle_active : running ≡ false → run.active ≡ []
  -- the pool that is kept is that of the members
  pub posted : IsPoolOf submitted run.active pool
