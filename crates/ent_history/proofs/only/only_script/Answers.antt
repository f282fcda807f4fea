use Rattle.std.proofs.Common.{◌≡◌, List, [], ◌∷◌, Some, refl, sym, subst, ◌∙◌, arith}
use Rattle.std.specs.List.{Contains}
use Rattle.ent_tree.specs.declared.script.Script.{Script}
use Rattle.ent_history.specs.Only.{IsOnlyOne}
use Rattle.ent_history.proofs.Alone.{alone, one}
use Rattle.ent_history.proofs.only.only_script.Goals as goal

pub returns-in-len1 : goal.returns-in-len1
returns-in-len1 c =
    let text = c.args.text.now in
    let input = c.in-Ok.input in
    let read = c.script-item.result in
    let same : c.as_slice.result.now ≡ input.scripts = c.as_slice.ensures ∙ c.deref.ensures in
    let is : input.scripts ≡ read ∷ [] =
    sym same ∙ alone c.as_slice.result.now read c.in-len1.len_at_least (omega arith) c.script-item.is in
    let held : Contains input.scripts read =
    subst (λ (l : List Script). Contains l read) (sym is) (0, omega arith, refl) in
    let kept = c.read_scripts_can_be_printed.ensures.each text input read c.in-Ok.ensures held in
    subst (λ (s : Script). IsOnlyOne text (Some s)) (sym c.in_ok-unplaced-in-len1.ensures)
    (one c.printed_text_is_itself.ensures c.places_do_not_show.ensures text input read c.in-Ok.ensures is
    kept.0 kept.1)
