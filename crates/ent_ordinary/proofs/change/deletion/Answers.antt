use Rattle.std.proofs.Common.{rules, [], ap, sym, ◌∙◌, Ok, append-nil}
use Rattle.ent_rel.specs.First.{has_first}
use Rattle.ent_semantics.specs.Selection.{meets}
use Rattle.ent_ordinary.specs.Prepared.{prepared_meets}
use Rattle.ent_ordinary.specs.Worth.{worth_over}
use Rattle.ent_ordinary.proofs.ChangeNarrowed.{deletion_met}
use Rattle.ent_ordinary.proofs.change.deletion.Goals as goal

pub returns : goal.returns
returns c =
    let prepared = prepared_meets c.in_ok-prepared.prepared in
    let first = has_first c.as_slice.result.now in
    let met = meets worth_over c.args.tests.now in (
      ap (λ change. Ok change)
          (sym (c.in_ok-count.ensures.change prepared (λ row answer here k. search rules)
          ∙ deletion_met c.args.table.now.rows first prepared met c.in_ok-prepared.ensures.meets
          (λ row here so. rw c.as_slice.ensures.value (c.in_ok-first.ensures.first row []
          (c.kinds.ensures.rows row here ∙ sym c.kinds.ensures.kinds) (ap met (append-nil row) ∙ so))))),
      record { kinds = c.in_ok-count.ensures.kinds; fits = c.in_ok-count.ensures.fits },
    )
