use Rattle.std.proofs.Common.{◌≡◌, ◌∙◌, ap, rules, arith, w64, to_z, of_z}
use Rattle.std.specs.Int.{from_be_bytes}
use Rattle.ent_page.specs.Read.{unlifted}
use Rattle.ent_page.specs.ReadBack.{number_long, number_short}
use Rattle.ent_page.proofs.reading.read_number.Goals as goal

pub returns-in-Some-clause-value : goal.returns-in-Some-clause-value
returns-in-Some-clause-value c =
    let f : to_z w64 (of_z w64 c.unlift.result) ≡ c.unlift.result = search rules in
    f ∙ c.unlift.ensures ∙ ap unlifted (c.from_be_bytes.ensures ∙ ap (from_be_bytes w64) c.in-Some.ensures.cases.0)
    ∙ number_long c.args.bytes.now (omega (arith, c.in-Some.ensures.cases.2))

pub returns-in-None-clause-value : goal.returns-in-None-clause-value
returns-in-None-clause-value c = number_short c.args.bytes.now c.in-None.ensures.cases
