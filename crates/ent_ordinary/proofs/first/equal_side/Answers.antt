use Rattle.std.proofs.Common.{rules}
use Rattle.ent_ordinary.specs.Early.{value_there}
use Rattle.ent_ordinary.proofs.Wanted.{if_there, wanted_left, wanted_right}
use Rattle.ent_ordinary.proofs.first.equal_side.Goals as goal

pub returns-then-is_column_behind : goal.returns-then-is_column_behind
returns-then-is_column_behind c =
    if_there (value_there c.args.front.now c.args.test.now.right) _ c.operand_there.ensures (λ value is rest met.
    wanted_right c.args.front.now rest c.args.test.now (search rules) met c.args.column value (search rules) is)

pub returns-then-is_column_behind-2 : goal.returns-then-is_column_behind-2
returns-then-is_column_behind-2 c =
    if_there (value_there c.args.front.now c.args.test.now.left) _ c.operand_there-then-is_column_behind-2.ensures
    (λ value is rest met. wanted_left c.args.front.now rest c.args.test.now (search rules) met c.args.column value
    (search rules) is)
