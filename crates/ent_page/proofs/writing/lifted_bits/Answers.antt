use Rattle.std.proofs.Common.{◌≡◌, ◌+◌, ◌%◌, ◌^◌, ◌∙◌, ap, arith}
use Rattle.std.specs.Int.{w64, cast_unsigned}
use Rattle.std.proofs.lemmas.Int.{to_z-of_z}
use Rattle.ent_page.specs.Written.{bits_lifted}
use Rattle.ent_page.proofs.writing.lifted_bits.Goals as goal

pub returns : goal.returns
returns c =
    let e : c.cast_unsigned.result ≡ cast_unsigned w64 c.args.number = grind (arith, to_z-of_z) in
    ap (λ m. (m + 2 ^ 63) % 2 ^ 64) e ∙ bits_lifted c.args.number c.ranges.number
