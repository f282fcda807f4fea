use Rattle.ent_history.proofs.Steps.{Parts}
use Rattle.ent_history.proofs.Counts.{table_found, table_again, placed_found, placed_again, set_found, set_again}
use Rattle.ent_history.proofs.line_laws.counts_are_read_as_written.Goals as goal

parts : goal.After-words_stand_in_front → Parts
parts c = record {
  number_found = c.numbers_are_read_as_written.ensures.found;
  number_again = c.numbers_are_read_as_written.ensures.only;
  behind_found = c.words_stand_in_front.ensures.found;
  behind_again = c.words_stand_in_front.ensures.only;
}

pub returns-clause-table_found : goal.returns-clause-table_found
returns-clause-table_found c =
    table_found (parts c) c.values_are_read_as_written.ensures.found c.values_are_read_as_written.ensures.only

pub returns-clause-table_again : goal.returns-clause-table_again
returns-clause-table_again c =
    table_again (parts c) c.values_are_read_as_written.ensures.found c.values_are_read_as_written.ensures.only

pub returns-clause-placed_found : goal.returns-clause-placed_found
returns-clause-placed_found c =
    placed_found (parts c) c.values_are_read_as_written.ensures.found c.values_are_read_as_written.ensures.only

pub returns-clause-placed_again : goal.returns-clause-placed_again
returns-clause-placed_again c =
    placed_again (parts c) c.values_are_read_as_written.ensures.found c.values_are_read_as_written.ensures.only

pub returns-clause-set_found : goal.returns-clause-set_found
returns-clause-set_found c =
    set_found (parts c) c.values_are_read_as_written.ensures.found c.values_are_read_as_written.ensures.only

pub returns-clause-set_again : goal.returns-clause-set_again
returns-clause-set_again c =
    set_again (parts c) c.values_are_read_as_written.ensures.found c.values_are_read_as_written.ensures.only
