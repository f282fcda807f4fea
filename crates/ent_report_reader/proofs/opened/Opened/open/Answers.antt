use Rattle.std.proofs.Common.{◌∙◌, subst, sym}
use Rattle.ent_tree.specs.declared.declaration.Opening.{Opening}
use Rattle.ent_history.specs.Opening.{NamesAscend}
use Rattle.ent_report_reader.proofs.OpeningSteps.{opened}
use Rattle.ent_report_reader.proofs.Schemas.{one_schema, taken_back}
use Rattle.ent_report_reader.proofs.opened.Opened.open.Goals as goal

pub invariant_of-self-in-Ok : goal.invariant_of-self-in-Ok
invariant_of-self-in-Ok c =
    rw c.in-Ok.ensures.ok (
      opened c.self.inside.tables c.self.inside.rows c.self.inside.last_row c.args.create c.self.invariant.0
          (subst (λ (o : Opening). NamesAscend o.tables c.args.create) (sym c.self.view_is) c.requires.ascends),
      one_schema c.self.inside.tables c.args.create c.self.inside.catalogue.tables c.push.new.self
          c.in_ok-table_schema.field-0 c.self.invariant.1 c.in_ok-table_schema.ensures c.in_ok-push.ensures.ok,
    )

pub invariant_of-self-in-Err : goal.invariant_of-self-in-Err
invariant_of-self-in-Err c =
    rw c.in-Err.ensures.err (
      c.self.invariant.0,
      taken_back c.self.inside.catalogue.tables c.push.new.self c.take_last.new.list c.in_ok-table_schema.field-0
          c.take_last.result c.in_ok-push.ensures.ok c.take_last.ensures.list c.take_last.ensures.none
          ∙ c.self.invariant.1,
    )
