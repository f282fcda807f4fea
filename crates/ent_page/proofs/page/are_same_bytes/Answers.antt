use Rattle.std.proofs.Common.{◌*◌, ◌/◌, ◌∙◌, ℕ, List, length, drop, ap, sym}
use Rattle.std.proofs.lemmas.Slice.Eq.{slice_eq-Decides}
use Rattle.std.specs.Cmp.{unsigned_Decides}
use Rattle.ent_page.proofs.Chunks.{same_by_chunks}
use Rattle.ent_page.proofs.page.are_same_bytes.Goals as goal

pub returns-then-are_same_chunks : goal.returns-then-are_same_chunks
returns-then-are_same_chunks c =
    let left : List ℕ = c.args.left.now in
    let right : List ℕ = c.args.right.now in
    let cut = c.as_chunks.ensures in
    let other_cut = c.as_chunks-2.ensures in
    let rests = slice_eq-Decides unsigned_Decides c.as_chunks.result.1.now c.as_chunks-2.result.1.now c.eq.result
    c.eq.ensures in
    let chunks = c.are_same_chunks.ensures.0 c.if-are_same_chunks.true in (
      λ same. same_by_chunks 64 (length left / 64) (length right / 64) left right
          (sym cut.front ∙ chunks ∙ other_cut.front) (sym cut.back ∙ rests.0 same ∙ other_cut.back),
      λ same. rests.1 (cut.back ∙ ap (λ (xs : List ℕ). drop (length xs / 64 * 64) xs) same ∙ sym other_cut.back),
    )
