use Rattle.std.proofs.Common.{◌<◌, subst}
use Rattle.std.proofs.lemmas.Result.{err_from_is_err_and}
use Rattle.ent_admission.specs.Passed.{carried_over, rows_together}
use Rattle.ent_tree.specs.declared.limits.TheConstants.{MOST_OPENING_ROWS}
use Rattle.ent_room.specs.Room.{Room}
use Rattle.ent_room.proofs.room.Room.turn.Goals as goal

pub returns-in_err-book-clause-too_many : goal.returns-in_err-book-clause-too_many
returns-in_err-book-clause-too_many c =
    let p = err_from_is_err_and c.from_residual.result c.from_residual.ensures.1 in
    rw (p.1, p.2)
    (λ e. subst
    (λ (x : Room). MOST_OPENING_ROWS < rows_together x.admission.epoch.core.opening.tables
    (carried_over c.args.drained.now x.admission.epoch.core))
    c.self.view_is (c.in_err-book.ensures.too_many e))
