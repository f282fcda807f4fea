use Rattle.std.proofs.Common.{None, Option, ap, ◌∙◌}
use Rattle.std.specs.Option.{unwrap_or}
use Rattle.std.proofs.lemmas.Option.{unwrap_or-slice_get}
use Rattle.ent_value.specs.declared.value.Value.{Value}
use Rattle.ent_meetings.proofs.key.known_at.Goals as goal

pub returns-in-Some : goal.returns-in-Some
returns-in-Some c =
    c.as_ref.ensures.value ∙ ap (λ (o : Option (Option Value)). unwrap_or o None) c.in-Some.ensures
    ∙ unwrap_or-slice_get c.args.pattern.now.terms c.args.place None

pub returns-in-None : goal.returns-in-None
returns-in-None c =
    ap (λ (o : Option (Option Value)). unwrap_or o None) c.in-None.ensures
    ∙ unwrap_or-slice_get c.args.pattern.now.terms c.args.place None
