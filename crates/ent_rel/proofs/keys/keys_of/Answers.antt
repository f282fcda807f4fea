use Rattle.std.proofs.Common.{◌≡◌, ◌++◌, ◌∷◌, [], ◌+◌, map, take, ap, sym, ◌∙◌, arith, All, subst}
use Rattle.std.proofs.lemmas.List.{take_more, map-append}
use Rattle.std.proofs.lemmas.List.Elements.{All-push}
use Rattle.ent_page.specs.Key.{key_of, AreStorable}
use Rattle.ent_rel.proofs.keys.keys_of.Goals as goal

pub loop-row-preserved : goal.loop-row-preserved
loop-row-preserved c =
    let rows = c.args.rows.now in
    let i = c.loop-row.row-index in
    let x = c.row-item.result in
    let more : take (c.loop-row.row-index + 1) c.args.rows.now ≡ take c.loop-row.row-index c.args.rows.now ++
    c.row-item.result ∷ [] = take_more rows i x (omega arith)
    ∙ ap (λ y. take i rows ++ y ∷ []) (sym c.row-item.is) in
    record {
      keys = c.in_ok-push.ensures.items ∙ (λ j. c.loop-row.invariant.keys j ++ (c.in_ok-of.ensures.key
          ∙ ap key_of c.values.ensures) j ∷ []) ∙ sym (ap (map key_of) more ∙ map-append key_of (take i rows) (x ∷ []));
      stored = subst (λ rs. All AreStorable rs) (sym more) (All-push AreStorable
          (take i rows) x c.loop-row.invariant.stored (subst AreStorable c.values.ensures c.in_ok-of.ensures.stored));
    }
