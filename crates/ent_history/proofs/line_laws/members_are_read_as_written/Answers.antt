use Rattle.ent_history.proofs.Steps.{Parts}
use Rattle.ent_history.proofs.Bindings.{member_found, member_again}
use Rattle.ent_history.proofs.line_laws.members_are_read_as_written.Goals as goal

parts : goal.After-words_stand_in_front → Parts
parts c = record {
  number_found = c.numbers_are_read_as_written.ensures.found;
  number_again = c.numbers_are_read_as_written.ensures.only;
  behind_found = c.words_stand_in_front.ensures.found;
  behind_again = c.words_stand_in_front.ensures.only;
}

pub returns-clause-found : goal.returns-clause-found
returns-clause-found c =
    member_found (parts c) c.values_are_read_as_written.ensures.found c.values_are_read_as_written.ensures.only

pub returns-clause-only : goal.returns-clause-only
returns-clause-only c =
    member_again (parts c) c.values_are_read_as_written.ensures.found c.values_are_read_as_written.ensures.only
