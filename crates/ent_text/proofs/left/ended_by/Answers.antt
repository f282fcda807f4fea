use Rattle.std.proofs.Common.{[], ◌∷◌, ◌+◌, ap, refl, List}
use Rattle.ent_text.specs.declared.token.Token.{Token}
use Rattle.ent_text.specs.declared.token.TokenKind.TheVariants.{Fault}
use Rattle.ent_text.proofs.UpTo.{left_nothing}
use Rattle.ent_text.proofs.left.ended_by.Goals as goal

pub returns : goal.returns
returns c =
    ap (λ (ts : List Token). let xs : List Token =
    record { kind = Fault c.args.fault; start = c.args.place; end = c.args.place + c.args.left } ∷ ts in xs)
    (left_nothing (c.args.place + c.args.left) [] refl)
