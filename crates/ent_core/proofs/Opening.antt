-- A core that is opened.
use Rattle.std.proofs.Common.{◌≡◌, false, List, [], refl, sym, ap, ◌∙◌, Option, Some, None, Ok, flat_map}
use Rattle.std.specs.List.{IsDistinct}
use Rattle.ent_tree.specs.declared.declaration.Opening.{Opening}
use Rattle.ent_form.specs.declared.catalogue.TableSchema.{TableSchema}
use Rattle.ent_form.specs.declared.fault.FormFault.{FormFault}
use Rattle.ent_form.specs.Catalogue.{schemas_of}
use Rattle.ent_form.specs.OpeningFault.{opening_fault, unless}
use Rattle.ent_protocol.specs.Reached.{opened}
use Rattle.ent_protocol.specs.Member.{posted_by}
use Rattle.ent_protocol.specs.State.{State, Submitted, Member}
use Rattle.ent_run.specs.Run.{Run}
use Rattle.ent_members.specs.TransactionTable.{TransactionTable}
use Rattle.ent_semantics.specs.Pool.{Posted}
use Rattle.ent_tables.specs.Stored.{Stored, kinds_declared}
use Rattle.ent_core.specs.Store.{IsKept}

-- what an opening's catalogue tells
pub catalogued : (check : Option FormFault) (schemas tables : List TableSchema) → unless check schemas ≡ Ok tables
    → (check ≡ None) × (tables ≡ schemas)
catalogued None schemas tables e = (refl, let same : schemas ≡ tables = cc in sym same)
catalogued (Some fault) schemas tables e = absurd cc

-- nobody waits for a run, and nobody is finished
abbrev pub nobody : TransactionTable
nobody = record { dormant = []; fates = []; known = 0 }

pub kept_opened_store : (opening : Opening) (schemas : List TableSchema) (submitted : List Submitted)
    (transaction_table : TransactionTable)
    (run : Run) (stored : Stored) (posted : List Posted)
    → unless (opening_fault opening) (schemas_of opening.tables) ≡ Ok schemas → submitted ≡ []
    → transaction_table ≡ nobody
    → run.prepared ≡ [] → run.active ≡ [] → stored.kinds ≡ kinds_declared opening.tables
    → posted ≡ [] → IsKept schemas opening submitted transaction_table false run stored posted
unfolding IsDistinct
kept_opened_store opening schemas submitted transaction_table run stored posted e none empty no_prepared no_active kinds
    no_posts =
    let h = catalogued (opening_fault opening) (schemas_of opening.tables) schemas e in
    let first : IsKept schemas opening [] nobody false run stored posted =
    record {
      declared = h.1;
      formed = h.0;
      kinds = kinds;
      asks = tt;
      known = refl;
      arrived = tt;
      distinct = tt;
      idle_prepared = λ off. no_prepared;
      idle_active = λ off. no_active;
      posted = λ s of_submitted of_active.
          ap (λ (ms : List Member). flat_map (posted_by s) ms) (of_active ∙ no_active) ∙ sym no_posts;
    } in
    rw (none, empty) first

-- the first state, or the first fault
pub opened_store : (opening : Opening) (schemas : List TableSchema) (s : State)
    → unless (opening_fault opening) (schemas_of opening.tables) ≡ Ok schemas → s ≡ opened opening
    → unless (opening_fault opening) (opened opening) ≡ Ok s
opened_store opening schemas s e is =
    let h = catalogued (opening_fault opening) (schemas_of opening.tables) schemas e in
    ap (λ check. unless check (opened opening)) h.0 ∙ ap (λ (x : State). Ok x) (sym is)
