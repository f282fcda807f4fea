use Rattle.ent_headline.proofs.Declared.{changed_declared, joint_declared, next_declared}
use Rattle.ent_headline.proofs.work.used_tables_are_declared.Goals as goal

pub returns-clause-next : goal.returns-clause-next
returns-clause-next c s member reached =
    next_declared (record {
      declared = c.resolved_statements_fit.ensures.declared;
      closes = c.resolved_statements_fit.ensures.closed;
    }) s reached member

pub returns-clause-changed : goal.returns-clause-changed
returns-clause-changed c s member statement reached next =
    changed_declared (record {
      declared = c.resolved_statements_fit.ensures.declared;
      closes = c.resolved_statements_fit.ensures.closed;
    }) s reached member statement next

pub returns-clause-joint : goal.returns-clause-joint
returns-clause-joint c s asked reached present =
    joint_declared (record {
      declared = c.resolved_statements_fit.ensures.declared;
      closes = c.resolved_statements_fit.ensures.closed;
    }) s reached asked present
