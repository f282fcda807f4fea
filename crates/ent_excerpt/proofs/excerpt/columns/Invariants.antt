use Rattle.std.proofs.Common.{◌≡◌, ◌<◌, ◌^◌, length, sum_by, take}
use Rattle.std.specs.Str.{chars}
use Rattle.ent_excerpt.specs.Part.{char_columns}
use Rattle.ent_excerpt.proofs.excerpt.columns.Given as goal

-- the columns of the characters so far, if 64 bits hold so many
abbrev pub invariant-loop-c : goal.invariant-loop-c
invariant-loop-c l =
    sum_by char_columns (take (length l.yielded) (chars l.text)) < 2 ^ 64
    → l.sum ≡ sum_by char_columns (take (length l.yielded) (chars l.text))
