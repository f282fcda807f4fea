use Rattle.std.proofs.Common.{◌≡◌, ◌++◌, drop}
use Rattle.std.specs.Option.{option_map}
use Rattle.ent_ordinary.specs.ExpressionWorth.{image_of}
use Rattle.ent_ordinary.proofs.changed_row.image_row.Given as goal

-- the values so far and those of what is left are the image
abbrev pub invariant-loop-expression : goal.invariant-loop-expression
invariant-loop-expression l =
    image_of l.image l.row ≡ option_map (λ rest. l.values.items ++ rest)
    (image_of (drop l.expression-index l.image) l.row)
