use Rattle.std.proofs.Common.{ap, sym, ◌∙◌, arith, Ok}
use Rattle.ent_rel.proofs.Meanings.{insertion_there, insertion_more, insertion_full, changed_none, changed_added}
use Rattle.ent_rel.proofs.Meanings.{fits_none, fits_added}
use Rattle.ent_rel.proofs.table.Table.insert.Goals as goal

pub returns-then-contains-clause-change : goal.returns-then-contains-clause-change
returns-then-contains-clause-change c =
    insertion_there _ _ (sym c.contains.ensures ∙ c.if-contains.true) (omega arith)
    ∙ ap (λ s. Ok (0, s)) (rw (c.new.ensures, c.new-added.ensures) (sym (changed_none _)))

pub returns-then-len-ge-MOST_ROWS-clause-change : goal.returns-then-len-ge-MOST_ROWS-clause-change
returns-then-len-ge-MOST_ROWS-clause-change c = insertion_full _ _ (sym c.contains.ensures
    ∙ c.if-contains.false) (omega arith)

pub returns-clause-change : goal.returns-clause-change
returns-clause-change c =
    insertion_more _ _ (sym c.contains.ensures ∙ c.if-contains.false) (omega arith)
    ∙ ap (λ s. Ok (1, s)) (rw (c.new-2.ensures, c.in_ok-push.ensures.ok, c.new-added.ensures, c.in_ok-copy.ensures)
    (sym (changed_added _ _)))

pub returns-then-contains-clause-fits : goal.returns-then-contains-clause-fits
returns-then-contains-clause-fits c = rw (c.new.ensures, c.new-added.ensures) (fits_none _ (omega arith))

pub returns-clause-fits : goal.returns-clause-fits
returns-clause-fits c =
    rw (c.new-2.ensures, c.in_ok-push.ensures.ok, c.new-added.ensures, c.in_ok-copy.ensures) (fits_added _ _
    (sym c.contains.ensures ∙ c.if-contains.false) (omega arith))
