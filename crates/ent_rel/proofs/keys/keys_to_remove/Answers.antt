use Rattle.std.proofs.Common.{◌≡◌, ◌+◌, ◌∷◌, [], ◌++◌, take, ap, sym, subst, ◌∙◌, arith, false, true}
use Rattle.std.proofs.lemmas.List.{take_more}
use Rattle.ent_value.specs.Value.{kinds_of}
use Rattle.ent_page.specs.Key.{key_of, AreStorable}
use Rattle.ent_rel.proofs.Keyed.{removes_more, removes_other, removes_none}
use Rattle.ent_rel.proofs.keys.keys_to_remove.Goals as goal
use Rattle.ent_rel.proofs.keys.keys_to_remove.Goals.{then-have_kinds+in_ok-of+in_ok-push, else-have_kinds}

pub loop-row-init : goal.loop-row-init
loop-row-init c = rw c.in_ok-keys.ensures.items (removes_none c.args.kinds.now)

pub loop-row-preserved : goal.loop-row-preserved
loop-row-preserved c =
    let rows = c.args.rows.now in
    let i = c.loop-row.row-index in
    let x = c.row-item.result in
    let kinds = c.args.kinds.now in
    let keys = c.loop-row.keys.items in
    let more : take (c.loop-row.row-index + 1) c.args.rows.now ≡ take c.loop-row.row-index c.args.rows.now ++
    c.row-item.result ∷ [] = take_more rows i x (omega arith)
    ∙ ap (λ y. take i rows ++ y ∷ []) (sym c.row-item.is) in
    elim c.if-have_kinds.branch [
      | then-have_kinds+in_ok-of+in_ok-push w ↦
          let same : kinds_of c.row-item.result ≡ c.args.kinds.now = ap kinds_of (sym c.values.ensures)
          ∙ c.have_kinds.ensures.kinds.0 w.if-have_kinds.true in
          let fits = subst AreStorable w.values-then-have_kinds.ensures w.in_ok-of.ensures.stored in
          let made : c.if-have_kinds.keys.items ≡ c.loop-row.keys.items ++ key_of c.row-item.result ∷ [] = ap
          (λ v. v.items) w.keys-is ∙ w.in_ok-push.ensures.items
          ∙ ap (λ k. keys ++ k ∷ []) (w.in_ok-of.ensures.key ∙ ap key_of w.values-then-have_kinds.ensures) in
          rw (more, made) (removes_more kinds keys (take i rows) x same fits c.loop-row.invariant)
      | else-have_kinds w ↦
          let other : kinds_of c.row-item.result ≡ c.args.kinds.now → ⊥ = λ same.
          (let no' : false ≡ true = sym w.if-have_kinds.false
          ∙ c.have_kinds.ensures.kinds.1 (ap kinds_of c.values.ensures ∙ same) in cc) in
          let made : c.if-have_kinds.keys.items ≡ c.loop-row.keys.items = ap (λ v. v.items) w.keys-is in
          rw (more, made) (removes_other kinds keys (take i rows) x other c.loop-row.invariant)
    ]
