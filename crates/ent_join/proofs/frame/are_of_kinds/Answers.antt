use Rattle.std.proofs.Common.{◌∙◌, sym, refl, arith}
use Rattle.std.proofs.lemmas.Option.{slice_get_read}
use Rattle.ent_join.proofs.Read.{kinds_pass, kinds_refuse, kinds_unfit}
use Rattle.ent_join.proofs.frame.are_of_kinds.Goals as goal

pub returns-then-fits-clause-passes : goal.returns-then-fits-clause-passes
returns-then-fits-clause-passes c =
    let values = c.args.values.now in
    let last = c.in-Some.last in
    let value = c.index-values-last.result in
    sym (kinds_pass c.args.kinds.now values last value (omega arith)
    (slice_get_read values _ last value refl (omega arith) c.index-values-last.is) c.requires.begun
    (sym c.fits.ensures ∙ c.if-fits.true))

pub returns-in-Some-clause-passes : goal.returns-in-Some-clause-passes
returns-in-Some-clause-passes c =
    let values = c.args.values.now in
    let last = c.in-Some.last in
    let value = c.index-values-last.result in
    sym (kinds_unfit c.args.kinds.now values last value
    (slice_get_read values _ last value refl (omega arith) c.index-values-last.is)
    (sym c.fits.ensures ∙ c.if-fits.false))

pub returns-in-Some-clause-refused : goal.returns-in-Some-clause-refused
returns-in-Some-clause-refused c = λ _.
    let values = c.args.values.now in
    let last = c.in-Some.last in
    let value = c.index-values-last.result in
    kinds_refuse c.args.kinds.now values last value c.mark.new.marks (omega arith)
    (slice_get_read values _ last value refl (omega arith) c.index-values-last.is)
    (sym c.fits.ensures ∙ c.if-fits.false) (c.mark.ensures.marked (omega arith))
