use Rattle.std.proofs.lemmas.Result.{IfOk-at_ok}
use Rattle.ent_form.specs.TableKinds.{AreKinded}
use Rattle.ent_form.proofs.ResolvedBinding.{statement_leaves}
use Rattle.ent_form.proofs.Fitted.{statement_declared}
use Rattle.ent_form.proofs.Kept.{tables_kept}
use Rattle.ent_form.proofs.Leaving.{form_fits}
use Rattle.ent_form.proofs.statement_kinds_law.effects_keep_kinds.Goals as goal

pub returns-clause-tables : goal.returns-clause-tables
returns-clause-tables c = λ schemas bound after statement form valuation tables environment effect e kinded have is.
    IfOk-at_ok (λ effect. AreKinded schemas effect.database) is
    (tables_kept schemas tables environment kinded form valuation
    (statement_declared schemas bound statement form after e)
    (form_fits schemas bound tables environment kinded have statement form after e))

pub returns-clause-bound : goal.returns-clause-bound
returns-clause-bound c = λ schemas bound after statement form valuation tables environment effect e have answers is.
    statement_leaves schemas bound tables environment have statement form after valuation effect e answers is
