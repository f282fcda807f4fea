use Rattle.ent_protocol_laws.proofs.Finished.{book_fates, finished_fates, state_fate}
use Rattle.ent_protocol_laws.proofs.endings_law.finished_scripts_have_fates.Goals as goal

pub returns-clause-state : goal.returns-clause-state
returns-clause-state g c forms s tx finished low high =
    state_fate forms s tx finished (c.transactions_stand_once.ensures.once forms s finished.reached)
    (c.reached_states_are_tidy.ensures.tidy forms s finished.reached) low high

pub returns-clause-book : goal.returns-clause-book
returns-clause-book g c forms s finished =
    book_fates forms s finished (c.transactions_stand_once.ensures.once forms s finished.reached)
    (c.reached_states_are_tidy.ensures.tidy forms s finished.reached)

pub returns-clause-finished : goal.returns-clause-finished
returns-clause-finished g c forms opening scripts book h =
    finished_fates forms book h.last h.is
    (book_fates forms h.last h.finished
    (c.transactions_stand_once.ensures.once forms h.last h.finished.reached)
    (c.reached_states_are_tidy.ensures.tidy forms h.last h.finished.reached))
