use Rattle.ent_program_laws.proofs.Grounding.{grounding_answers}
use Rattle.ent_program_laws.proofs.Stored.{stored_held}
use Rattle.ent_program_laws.proofs.answer_law.groundings_can_be_told.Goals as goal

pub returns : goal.returns
returns c declared script plain bound after entangled form database environment valuation made there resolved can fits
    rows held grounds =
    let answered = grounding_answers c.forms_run_as_statements.ensures declared script plain made bound after entangled
    form resolved there can fits database (stored_held declared database rows) environment held valuation grounds in
    record { many = answered.many; kinds = answered.kinds; values = answered.values }
