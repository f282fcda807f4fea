use Rattle.std.proofs.lemmas.Slice.Eq.{slice_eq-Decides}
use Rattle.std.specs.Cmp.{unsigned_Decides}
use Rattle.std.specs.Cmp.Lexicographic.{pointwise}
use Rattle.std.specs.Prelude.{nat_eq}
use Rattle.std.proofs.Common.{refl}
use Rattle.ent_page.proofs.page.are_same_chunks.Goals as goal

pub returns : goal.returns
returns c =
    slice_eq-Decides (λ one other. slice_eq-Decides unsigned_Decides one other (pointwise nat_eq one other) refl)
    c.args.left.now c.args.right.now c.eq.result c.eq.ensures
