use Rattle.std.proofs.Common.{sym, ◌∙◌, ◌∷◌, []}
use Rattle.ent_page.specs.Key.{text_key}
use Rattle.ent_page.specs.Written.{plain}
use Rattle.ent_page.proofs.Fronts.{past_more, past_none}
use Rattle.ent_page.proofs.probe.past_text.Goals as goal

pub returns-in-Ok : goal.returns-in-Ok
returns-in-Ok c =
    past_more (λ r. r.now) c.args.bytes.now c.args.text.now c.in-Ok.rest.now (0 ∷ 0 ∷ [])
    (text_key c.args.text.now) c.past-in-Ok.result c.in-Ok.ensures
    (plain c.args.text.now (sym c.contains.ensures.value ∙ c.if-contains.false)) c.past-in-Ok.ensures

pub returns-in-Err : goal.returns-in-Err
returns-in-Err c = past_none c.args.bytes.now c.args.text.now (0 ∷ 0 ∷ []) (text_key c.args.text.now) c.in-Err.order
    (plain c.args.text.now (sym c.contains.ensures.value ∙ c.if-contains.false)) c.in-Err.ensures
