use Rattle.ent_program_laws.proofs.Covering.{demand_covers, head_covered, post_covered}
use Rattle.ent_program_laws.proofs.meeting_law.texts_cover_what_is_given.Goals as goal

pub returns-clause-heads : goal.returns-clause-heads
returns-clause-heads c view environment valuation head agrees has =
    head_covered view environment valuation agrees head has

pub returns-clause-posts : goal.returns-clause-posts
returns-clause-posts c view environment valuation post agrees has =
    post_covered view environment valuation agrees post has

pub returns-clause-demands : goal.returns-clause-demands
returns-clause-demands c view environment valuation demand agrees has =
    demand_covers view environment valuation agrees demand has
