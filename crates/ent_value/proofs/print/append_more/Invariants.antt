use Rattle.std.proofs.Common.{◌≡◌, ◌++◌, drop, length, take}
use Rattle.ent_value.specs.Print.{more_text}
use Rattle.ent_value.proofs.print.append_more.Given as goal

-- what is out, and the text of what is left
abbrev pub invariant-loop-value : goal.invariant-loop-value
invariant-loop-value l =
    record {
      text : l.out.items ++ more_text (drop l.value-index l.values) ≡ l.fn.out.items ++ more_text l.values;
      kept : take (length l.fn.out.items) l.out.items ≡ l.fn.out.items;
    }
