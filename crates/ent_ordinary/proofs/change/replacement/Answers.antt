use Rattle.std.proofs.Common.{ℕ, rules, [], Result, ap, sym, subst, ◌∙◌, append-nil}
use Rattle.std.specs.Prelude.{IfOk}
use Rattle.ent_rel.specs.First.{has_first}
use Rattle.ent_rel.specs.Relation.{RowSet, bounded}
use Rattle.ent_semantics.specs.Selection.{meets}
use Rattle.ent_semantics.specs.declared.answer.Failure.{Failure}
use Rattle.ent_value.specs.Refusal.{◌>>=◌}
use Rattle.ent_ordinary.specs.Prepared.{prepared_meets}
use Rattle.ent_ordinary.specs.Worth.{worth_over}
use Rattle.ent_ordinary.specs.Change.{Changes, image_or_overflow, or_full}
use Rattle.ent_ordinary.specs.ExpressionWorth.{image_of}
use Rattle.ent_ordinary.proofs.Changes.{if_ok, replaced, refused_so}
use Rattle.ent_ordinary.proofs.Images.{image_of_kinds}
use Rattle.ent_ordinary.proofs.ChangeNarrowed.{replacement_met}
use Rattle.ent_ordinary.proofs.change.replacement.Goals as goal

pub replace_where-replaced-requires-clause-kinds : goal.replace_where-replaced-requires-clause-kinds
replace_where-replaced-requires-clause-kinds c = λ row answer here k.
    image_of_kinds c.args.image.now row c.args.table.now.kinds answer c.requires (c.kinds.ensures.rows row here)
    (search rules)

pub returns-in-Ok : goal.returns-in-Ok
returns-in-Ok c =
    let prepared = prepared_meets c.in_ok-prepared.prepared in
    let first = has_first c.as_slice.result.now in
    let met = meets worth_over c.args.tests.now in
    let image = image_or_overflow (image_of c.args.image.now) in (
      replaced _ _
          (sym (replacement_met c.args.table.now.rows first prepared met c.in_ok-prepared.ensures.meets
          (λ row here so. rw c.as_slice.ensures.value (c.in_ok-first.ensures.first row []
          (c.kinds.ensures.rows row here ∙ sym c.kinds.ensures.kinds) (ap met (append-nil row) ∙ so))) image)
          ∙ c.in-Ok.ensures.change prepared image (λ row answer here k. search rules)
          (λ row answer here k. search rules)) c.in-Ok.ensures.fits,
      record { kinds = c.in-Ok.ensures.kinds; fits = c.in-Ok.ensures.fits },
    )

pub returns : goal.returns
returns c =
    let table = c.args.table.now in
    let prepared = prepared_meets c.in_ok-prepared.prepared in
    let first = has_first c.as_slice.result.now in
    let met = meets worth_over c.args.tests.now in
    let image = image_or_overflow (image_of c.args.image.now) in
    let P : Result (ℕ × RowSet) Failure → Type 0 =
    λ meant. IfOk c.refused.result (λ outcome. Changes table (meant >>= λ change. or_full (bounded change.1 change))
    outcome) in
    subst P
    (replacement_met table.rows first prepared met c.in_ok-prepared.ensures.meets
    (λ row here so. rw c.as_slice.ensures.value (c.in_ok-first.ensures.first row []
    (c.kinds.ensures.rows row here ∙ sym c.kinds.ensures.kinds) (ap met (append-nil row) ∙ so))) image)
    (if_ok (λ outcome so. refused_so _ _ _ c.in-Err.refusal table outcome
    (c.replace_where-replaced.ensures.change prepared image (λ row answer here k. search rules)
    (λ row answer here k. search rules)) c.in-Err.is so) c.refused.result c.refused.ensures)
