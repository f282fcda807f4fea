use Rattle.std.proofs.Common.{ap, arith}
use Rattle.ent_text.specs.declared.token.TokenKind.TheVariants.{Literal}
use Rattle.ent_text.proofs.Enclosed.{all_but_left, stands_there}
use Rattle.ent_text.proofs.piece.literal_of.Goals as goal

pub overflow_sub-behind : goal.overflow_sub-behind
overflow_sub-behind c = omega (arith, all_but_left c.args.behind.now c.args.len c.args.left c.requires.text)

pub returns-then-behind-left-clause-kind : goal.returns-then-behind-left-clause-kind
returns-then-behind-left-clause-kind c =
    let least = all_but_left c.args.behind.now c.args.len c.args.left c.requires.text in
    ap Literal (stands_there c.args.behind.now c.split_at.result.0.now c.args.len c.args.left c.requires.text
    c.split_at.ensures.front (omega (arith, least, c.if-behind-left.true)))
