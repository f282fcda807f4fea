use Rattle.std.proofs.Common.{◌≡◌, Bool, List, Result, Ok, All, length, take}
use Rattle.ent_lists.specs.Sets as set
use Rattle.ent_value.specs.Value.{row_cmp, kinds_of}
use Rattle.ent_rel.specs.Change.{images_of}
use Rattle.ent_rel.specs.Closure.{Answers, KeepsKinds}
use Rattle.ent_rel.proofs.copies.images.Given as goal

-- the images of the rows so far, which all have one, and their kinds
abbrev pub invariant-loop-row : goal.invariant-loop-row
invariant-loop-row g l = record {
  images : (excused : _ → Bool) (image : List _ → Result (List _) _)
      → Answers g.G.Fn l.change (set.from_list {R = row_cmp} l.rows) excused image
      → images_of image (take l.row-index l.rows) ≡ Ok l.images.items;
  kinds : (kinds : List _) → KeepsKinds g.G.Fn l.change (set.from_list {R = row_cmp} l.rows) kinds
      → All (λ row. kinds_of row ≡ kinds) l.images.items;
  count : length l.images.items ≡ l.row-index;
}
