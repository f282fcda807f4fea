use Rattle.std.proofs.Common.{◌≡◌, ◌+◌, List, ◌++◌, [], ◌∷◌, arith, sym, ap, subst, ◌∙◌, Vec, Global}
use Rattle.ent_semantics.specs.Pool.{Posted}
use Rattle.ent_match.proofs.Beginning.{AreListed, all_listed, listed_more, listed_same, none_listed}
use Rattle.ent_match.specs.Components.{component_at}
use Rattle.ent_match.proofs.components.components_by.Goals as goal
use Rattle.ent_match.proofs.components.components_by.Goals.{then-begins_at+in_ok-component+in_ok-push, else-begins_at}

pub loop-place-init : goal.loop-place-init
loop-place-init c =
    subst (λ (lists : List (List Posted)). AreListed c.args.members.now c.args.firsts.now 0 lists)
    (sym c.new-components.ensures.items) (none_listed c.args.members.now c.args.firsts.now)

pub returns-clause-components : goal.returns-clause-components
returns-clause-components c =
    all_listed c.args.members.now c.args.firsts.now c.requires.by_number c.requires.firsts c.loop-place.place _
    (omega arith) c.loop-place.invariant

pub loop-place-preserved : goal.loop-place-preserved
loop-place-preserved c =
    let pool = c.args.members.now in
    let firsts = c.args.firsts.now in
    let n = c.loop-place.place in
    let lists = c.loop-place.components.items in
    let back = λ (v : Vec (List Posted) Global). v.items in
    let fresh = c.if-begins_at.components.items in
    elim c.if-begins_at.branch [
      | then-begins_at+in_ok-component+in_ok-push w ↦
          let pushed : fresh ≡ lists ++ component_at firsts n pool ∷ [] =
          ap back w.components-is
          ∙ (w.in_ok-push.ensures.items ∙ ap (λ (xs : List Posted). lists ++ xs ∷ []) w.in_ok-component.ensures) in
          listed_more pool firsts c.requires.by_number c.requires.firsts n lists fresh
          (sym c.begins_at.ensures ∙ w.if-begins_at.true) pushed c.loop-place.invariant
      | else-begins_at w ↦
          subst (AreListed pool firsts (n + 1)) (sym (ap back w.components-is))
          (listed_same pool firsts n lists (sym c.begins_at.ensures ∙ w.if-begins_at.false) c.loop-place.invariant)
    ]
