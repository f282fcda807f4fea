use Rattle.ent_meetings.specs.Party.{view_demands, view_offers}
use Rattle.ent_program_laws.proofs.Places.{given_by_places}
use Rattle.ent_program_laws.proofs.meeting_law.parties_are_of_statements.Goals as goal

pub returns-clause-offers : goal.returns-clause-offers
returns-clause-offers c script offer = given_by_places view_offers script offer

pub returns-clause-demands : goal.returns-clause-demands
returns-clause-demands c script demand = given_by_places view_demands script demand
