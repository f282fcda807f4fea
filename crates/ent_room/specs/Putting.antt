-- Scripts that come to wait.
use Rattle.std.specs.Prelude.{◌≡◌, ◌+◌, ℕ, Bool, not, List, Some, if◌then◌else◌}
use Rattle.std.specs.List.{list_all}
use Rattle.ent_bound.specs.declared.variable.BoundVariable.{BoundVariable}
use Rattle.ent_form.specs.Catalogue.{schemas_of}
use Rattle.ent_form.specs.declared.catalogue.TableSchema.{TableSchema}
use Rattle.ent_prepare.specs.Prepared.{IsPrepared}
use Rattle.ent_semantics.specs.Serial.{is_entangled}
use Rattle.ent_tree.specs.declared.script.Script.{Script}
use Rattle.ent_admission.specs.Admission.{Admission}
use Rattle.ent_waiting.specs.Waiter.{newcomer}
use Rattle.ent_waiting.specs.WaitingList.{WaitingList, admitted, waiter_of}
use Rattle.ent_waiting.specs.declared.queues.Rank.{Rank}
use Rattle.ent_waiting.specs.declared.queues.Rank.TheVariants.{Newcomer, Ordinary}
use Rattle.ent_waiting.specs.declared.waiter.Patience.{Patience}
use Rattle.ent_waiting.specs.declared.waiter.Patience.TheVariants as patience
use Rattle.ent_waiting.specs.declared.waiter.Waiter.{Waiter}
use Rattle.ent_room.specs.declared.putting.Stay.{Stay}
use Rattle.ent_room.specs.declared.putting.Stay.TheVariants.{AsWritten, Batches, UntilWithdrawn}

-- in how many batches the script takes part before it gives up
abbrev pub patience_of : Stay → Script → Patience
patience_of AsWritten script = patience.Batches script.within
patience_of (Batches most) script = patience.Batches most
patience_of UntilWithdrawn script = patience.UntilWithdrawn

-- it has no entangled statement
abbrev pub is_ordinary : Script → Bool
is_ordinary script = list_all (λ statement. not (is_entangled statement)) script.statements

-- in which queue it stands at first
abbrev pub rank_of : Script → Rank
rank_of script = if is_ordinary script then Ordinary else Newcomer

-- a script that comes to wait, after so many batches that count
abbrev pub arrived : Script → Stay → ℕ → Waiter
arrived script stay batches = newcomer script (patience_of stay script) batches (rank_of script)

-- it waits under the next ticket
abbrev pub with_put : Script → Stay → WaitingList → WaitingList
with_put script stay list =
    record (admitted list.next (arrived script stay 0) list) { next = list.next + 1 }

-- it waits again under a ticket of an earlier process
abbrev pub with_restored : ℕ → Script → Stay → ℕ → WaitingList → WaitingList
with_restored ticket script stay batches list =
    record (admitted ticket (arrived script stay batches) list) { earlier = ticket + 1 }

-- the tables over which texts are prepared
abbrev pub tables_of : Admission → List TableSchema
tables_of a = schemas_of a.epoch.core.opening.tables

-- the text and the values are a script that may wait
abbrev pub HasScript : Admission → List ℕ → List BoundVariable → Type 0
HasScript a text variables = (script : Script) × IsPrepared (tables_of a) text variables script

-- the script that is prepared of the text and the values waits from now on, under the next ticket
pub record Puts (a : Admission) (text : List ℕ) (variables : List BoundVariable) (stay : Stay) (new : WaitingList)
    : Type 0 where
  pub script : Script
  pub prepared : IsPrepared (tables_of a) text variables script
  pub list : new ≡ with_put script stay a.list
  pub waits : waiter_of new a.list.next ≡ Some (arrived script stay 0)

-- it waits again, under its own ticket, after so many batches that count
pub record Restores (a : Admission) (ticket : ℕ) (text : List ℕ) (variables : List BoundVariable) (stay : Stay)
    (batches : ℕ) (new : WaitingList) : Type 0 where
  pub script : Script
  pub prepared : IsPrepared (tables_of a) text variables script
  pub list : new ≡ with_restored ticket script stay batches a.list
  pub waits : waiter_of new ticket ≡ Some (arrived script stay batches)
