use Rattle.std.proofs.Common.{◌≡◌, ◌+◌, ◌-◌, ◌≤◌, ◌++◌, drop, map, length, vec_len, vec_capacity}
use Rattle.ent_page.proofs.page.push_moved.Given as goal

-- what is out and what is left are all; there is room for what is left
abbrev pub invariant-loop-end : goal.invariant-loop-end
invariant-loop-end l = record {
  all : l.new.items ++ map (λ e. e - l.start + l.base) (drop l.end-index l.ends) ≡ l.fn.new.items ++ map
      (λ e. e - l.start + l.base) l.ends;
  room : vec_len l.new + (length l.ends - l.end-index) ≤ vec_capacity l.new;
}
