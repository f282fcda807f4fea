use Rattle.std.proofs.Common.{List, subst, sym}
use Rattle.ent_semantics.specs.declared.book.JointAnswer.{JointAnswer}
use Rattle.ent_protocol.specs.Reached.{opened}
use Rattle.ent_core.specs.Settled.{AreSettled}
use Rattle.ent_core.proofs.Settled.{none_settled}
use Rattle.ent_core.proofs.Opening.{catalogued, kept_opened_store, opened_store}
use Rattle.ent_form.specs.Catalogue.{schemas_of}
use Rattle.ent_form.specs.OpeningFault.{opening_fault}
use Rattle.ent_core.proofs.open.open.Goals as goal

pub open-requires-clause-tables : goal.open-requires-clause-tables
open-requires-clause-tables c =
    (catalogued (opening_fault c.args.opening) (schemas_of c.args.opening.tables) c.in_ok-catalogue.catalogue.tables
    c.in_ok-catalogue.ensures.tables).1

pub open-requires-clause-formed : goal.open-requires-clause-formed
open-requires-clause-formed c =
    (catalogued (opening_fault c.args.opening) (schemas_of c.args.opening.tables) c.in_ok-catalogue.catalogue.tables
    c.in_ok-catalogue.ensures.tables).0

pub invariant_of-result : goal.invariant_of-result
invariant_of-result c = (
  kept_opened_store c.args.opening c.in_ok-catalogue.catalogue.tables c.new.result.items c.new-2.result
      c.new-3.result c.in_ok-tables.tables c.new-4.result c.in_ok-catalogue.ensures.tables c.new.ensures.items
      c.new-2.ensures c.new-3.ensures.prepared c.new-3.ensures.active c.in_ok-tables.ensures.kinds
      c.new-4.ensures,
  subst (λ (joints : List JointAnswer). AreSettled 0 joints c.new-2.result.fates) (sym c.new-5.ensures.items)
      (none_settled c.new-2.result.fates),
)

pub returns : goal.returns
returns c =
    opened_store c.args.opening c.in_ok-catalogue.catalogue.tables _ c.in_ok-catalogue.ensures.tables
    (λ i. record (opened c.args.opening) {
      submitted = c.new.ensures.items i;
      dormant = (c.new-2.ensures i).dormant;
      prepared = c.new-3.ensures.prepared i;
      active = c.new-3.ensures.active i;
      joints = c.new-5.ensures.items i;
      tables = c.in_ok-tables.ensures.tables i;
      changes = c.in_ok-tables.ensures.changes i;
      journal = c.new-8.ensures.items i;
      fates = (c.new-2.ensures i).fates;
      tried = c.new-6.ensures.items i;
      lent = c.new-7.ensures i;
    })
