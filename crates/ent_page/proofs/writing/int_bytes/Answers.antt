use Rattle.std.proofs.Common.{◌∙◌, ap}
use Rattle.std.specs.Int.{w64, to_be_bytes}
use Rattle.std.proofs.lemmas.Int.{to_z-of_z}
use Rattle.ent_page.specs.Key.{lifted, int_key}
use Rattle.ent_page.proofs.writing.int_bytes.Goals as goal

pub returns : goal.returns
unfolding int_key
returns c = c.to_be_bytes.ensures ∙ ap (to_be_bytes w64) c.lifted_bits.ensures
    ∙ ap (λ n. to_be_bytes w64 (lifted n)) (to_z-of_z w64 c.args.number c.ranges.number)
