use Rattle.std.proofs.Common.{◌≡◌, ◌++◌, drop, length, take}
use Rattle.ent_value.specs.Print.{doubled}
use Rattle.ent_value.proofs.print.append_doubled.Given as goal

-- what is out, and what is left, doubled
abbrev pub invariant-loop-byte : goal.invariant-loop-byte
invariant-loop-byte l =
    record {
      text : l.out.items ++ doubled (drop l.byte-index l.text) ≡ l.fn.out.items ++ doubled l.text;
      kept : take (length l.fn.out.items) l.out.items ≡ l.fn.out.items;
    }
