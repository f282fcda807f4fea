use Rattle.ent_form.proofs.Whole.{heads_meant, posts_meant, bound_meant}
use Rattle.ent_form.proofs.entangled_law.resolved_offers_and_demands_the_same.Goals as goal

pub returns-clause-heads : goal.returns-clause-heads
returns-clause-heads c = λ tables bound after tree form environment valuation e l.
    heads_meant environment tree valuation tables bound after form e l

pub returns-clause-posts : goal.returns-clause-posts
returns-clause-posts c = λ tables bound after tree form environment valuation e l.
    posts_meant environment tree valuation tables bound after form e l

pub returns-clause-bound : goal.returns-clause-bound
returns-clause-bound c = λ tables bound after tree form environment valuation e l.
    bound_meant environment tree valuation tables bound after form e l
