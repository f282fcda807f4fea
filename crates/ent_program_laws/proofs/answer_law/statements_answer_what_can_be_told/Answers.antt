use Rattle.ent_program_laws.proofs.Stepping.{steps_on}
use Rattle.ent_program_laws.proofs.Stored.{holds_stored, stored_held}
use Rattle.ent_program_laws.proofs.answer_law.statements_answer_what_can_be_told.Goals as goal

pub returns : goal.returns
returns c declared bound after statement form valuation database environment effect none is can fits answers rows held
    e =
    let behind = steps_on declared c.forms_run_as_statements.ensures none bound after statement form is can fits
    valuation answers database (stored_held declared database rows) environment held effect e in
    record {
      rows = holds_stored declared effect.database none behind.stored;
      bound = behind.held;
      sort = behind.sort;
      told = behind.told;
    }
