use Rattle.std.proofs.Common.{◌≡◌, ap, sym, subst, ◌∙◌, length, arith, List, Bool}
use Rattle.std.specs.List.{filter}
use Rattle.std.specs.Prelude.{Ok, ◌&&◌}
use Rattle.std.proofs.lemmas.Result.{err_from_is_err_and}
use Rattle.ent_lists.specs.Sets as set
use Rattle.ent_value.specs.declared.value.Value.{Value}
use Rattle.ent_rel.specs.Relation.{RowSet}
use Rattle.ent_rel.specs.Change.{replacement}
use Rattle.ent_rel.specs.First.{has_first}
use Rattle.ent_rel.specs.Part.{IsPart}
use Rattle.ent_value.specs.Refusal.{Gives}
use Rattle.ent_rel.specs.Change.{images_of}
use Rattle.ent_rel.proofs.Flattened.{changes_answer, faulted, flat_ok, gives_flat, images_faulted, is_of_memory}
use Rattle.ent_rel.proofs.Lists.{part_there, taken_answers, taken_kinds}
use Rattle.ent_rel.proofs.Meanings.{replaced, replaced_so, not_replaced, fits_part}
use Rattle.ent_rel.proofs.Keyed.{rows_ascend}
use Rattle.ent_rel.proofs.Found.{ascending_all, ascending_distinct, ascending_len}
use Rattle.ent_rel.proofs.table.Table.replace_where.Goals as goal

pub returns-in_err-added-clause-change : goal.returns-in_err-added-clause-change
returns-in_err-added-clause-change g c = λ passes image computes changes.
    let s : RowSet = c.args.self.now.rows in
    let rows = set.ascending s in
    let matched = c.as_slice.result.now in
    let met : List Value → Bool = λ row. has_first c.args.values.now row && passes row in
    let P : List (List Value) → Type 0 = λ part. IsPart rows part in
    let removed : matched ≡ filter met rows = c.as_slice.ensures.value
    ∙ c.in_ok-matched.ensures.passing passes computes in
    let part = subst P (sym c.as_slice.ensures.value) c.in_ok-matched.ensures.part in
    let here = taken_answers g.G.Fn c.args.change rows matched s (ascending_all s)
    (part_there rows matched part) is_of_memory (λ row. faulted (image row))
    (changes_answer g.G.Fn c.args.change s image changes) in
    let told : Gives (λ images. images.items) c.flattened.result (images_of image matched) = rw c.flattened.ensures
    (gives_flat (λ images. images.items) c.images.result (images_of image matched)
    (rw (images_faulted image matched) at (c.images.ensures.images is_of_memory (λ row. faulted (image row)) here))) in
    let found = err_from_is_err_and c.from_residual-in_err-added.result c.from_residual-in_err-added.ensures.1 in
    rw (found.1, found.2) (not_replaced s matched image (replacement s met image) c.in_err-added.field-0.0
    (replaced s rows matched met image (ascending_all s) (rows_ascend s) removed)
    (rw c.in_err-added.was at told))

pub returns-clause-kinds : goal.returns-clause-kinds
returns-clause-kinds g c =
    let s : RowSet = c.args.self.now.rows in
    let rows = set.ascending s in
    let matched = c.as_slice.result.now in
    let P : List (List Value) → Type 0 = λ part. IsPart rows part in
    let part = subst P (sym c.as_slice.ensures.value) c.in_ok-matched.ensures.part in
    let is = flat_ok c.images.result c.in_ok-added.added (sym c.flattened.ensures ∙ c.in_ok-added.was) in
    rw c.from_vec-2.ensures (rw is at (c.images.ensures.kinds c.args.self.now.kinds
    (taken_kinds g.G.Fn c.args.change rows matched s (ascending_all s)
    (part_there rows matched part) c.args.self.now.kinds c.requires.kinds)))

pub returns-clause-fits : goal.returns-clause-fits
returns-clause-fits g c =
    let s : RowSet = c.args.self.now.rows in
    let rows = set.ascending s in
    let P : List (List Value) → Type 0 = λ part. IsPart rows part in
    let part = subst P (sym c.from_vec.ensures) c.in_ok-matched.ensures.part in
    let is = flat_ok c.images.result c.in_ok-added.added (sym c.flattened.ensures ∙ c.in_ok-added.was) in
    let counted = rw is at c.images.ensures.len in
    fits_part s rows c.from_vec.result c.from_vec-2.result (ascending_all s) (ascending_distinct s) (omega
    (arith, ascending_len s, c.in_ok-matched.ensures.limit)) part
    (omega (
      arith,
      ap length c.from_vec-2.ensures,
      ap length c.from_vec.ensures,
      ap length c.as_slice.ensures.value,
      counted,
    ))

pub returns-clause-change : goal.returns-clause-change
returns-clause-change g c = λ passes image computes changes.
    let s : RowSet = c.args.self.now.rows in
    let rows = set.ascending s in
    let matched = c.as_slice.result.now in
    let met : List Value → Bool = λ row. has_first c.args.values.now row && passes row in
    let P : List (List Value) → Type 0 = λ part. IsPart rows part in
    let part = subst P (sym c.as_slice.ensures.value) c.in_ok-matched.ensures.part in
    let here = taken_answers g.G.Fn c.args.change rows matched s (ascending_all s)
    (part_there rows matched part) is_of_memory (λ row. faulted (image row))
    (changes_answer g.G.Fn c.args.change s image changes) in
    let told : Gives (λ images. images.items) c.flattened.result (images_of image matched) = rw c.flattened.ensures
    (gives_flat (λ images. images.items) c.images.result (images_of image matched)
    (rw (images_faulted image matched) at (c.images.ensures.images is_of_memory (λ row. faulted (image row)) here))) in
    let removed : c.from_vec.result ≡ filter met rows = c.from_vec.ensures
    ∙ c.in_ok-matched.ensures.passing passes computes in
    let same : matched ≡ c.from_vec.result = c.as_slice.ensures.value ∙ sym c.from_vec.ensures in
    let count : length c.from_vec.result ≡ c.len-count.result = ap length c.from_vec.ensures
    ∙ sym c.in_ok-matched.matched.ok.0 ∙ sym c.len-count.ensures in
    let made = rw same at (rw c.in_ok-added.was at told) in
    replaced_so s c.from_vec.result c.from_vec-2.result c.len-count.result image (replacement s met image)
    (replaced s rows c.from_vec.result met image (ascending_all s) (rows_ascend s) removed)
    (made ∙ ap (λ xs. Ok xs) (sym c.from_vec-2.ensures)) count
