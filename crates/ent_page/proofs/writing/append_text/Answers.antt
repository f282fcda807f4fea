use Rattle.std.proofs.Common.{◌≡◌, ◌++◌, ◌∷◌, [], sym, ◌∙◌, arith}
use Rattle.std.proofs.lemmas.Grind.{common_steps}
use Rattle.ent_page.specs.Key.{text_key}
use Rattle.ent_page.specs.Written.{plain}
use Rattle.ent_page.proofs.writing.append_text.Goals as goal

pub returns : goal.returns
returns c =
    let p : text_key c.args.text.now ≡ c.args.text.now ++ 0 ∷ 0 ∷ [] =
    plain c.args.text.now (sym c.contains.ensures.value ∙ c.if-contains.false) in
    grind (arith, common_steps)
