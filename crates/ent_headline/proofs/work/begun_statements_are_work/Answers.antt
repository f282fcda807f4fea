use Rattle.ent_protocol.specs.Uses.{statement_uses}
use Rattle.ent_headline.proofs.Lent.{lent_used}
use Rattle.ent_headline.proofs.work.begun_statements_are_work.Goals as goal

pub returns : goal.returns
returns c s member statement e reached there next =
    record {
      used = lent_used s.opening.tables s.tables (statement_uses statement);
      fits = c.next_statements_fit.ensures.lent s member statement e reached there next;
      stand = c.lent_tables_stand.ensures s.opening.tables s.tables (statement_uses statement);
    }
