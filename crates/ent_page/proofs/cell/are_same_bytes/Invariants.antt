use Rattle.std.proofs.Common.{◌≡◌, nat_eq, drop, length}
use Rattle.std.specs.Cmp.Lexicographic.{pointwise}
use Rattle.ent_page.proofs.cell.are_same_bytes.Given as goal

-- what is left decides
abbrev pub invariant-loop-index : goal.invariant-loop-index
invariant-loop-index l = record {
  lengths : length l.left ≡ length l.right;
  left : pointwise nat_eq (drop l.index l.left) (drop l.index l.right) ≡ pointwise nat_eq l.left l.right;
}
