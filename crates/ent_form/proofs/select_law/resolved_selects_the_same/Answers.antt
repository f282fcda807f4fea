use Rattle.ent_form.proofs.Selecting.{select_same}
use Rattle.ent_form.proofs.select_law.resolved_selects_the_same.Goals as goal

pub returns : goal.returns
returns c = λ creates tables environment bound select form kinds wide e.
    select_same creates tables wide environment bound select form kinds e
