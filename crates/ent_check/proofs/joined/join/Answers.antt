use Rattle.std.proofs.Common.{◌≡◌, ◌++◌, ◌∷◌, [], cond, Some, sym, ap, ◌∙◌}
use Rattle.std.specs.BTreeMap.{get}
use Rattle.std.specs.Ordering.{is_eq, nat_cmp}
use Rattle.ent_check.specs.Offers.{offers_there}
use Rattle.ent_check.proofs.Gathered.{joined_more}
use Rattle.ent_check.proofs.joined.join.Goals.{in-Some, in-None}
use Rattle.ent_check.proofs.joined.join.Goals as goal

pub returns : goal.returns
returns c =
    let joint = c.args.joint in
    let old = c.args.joined.now in
    let before : c.match-remove.offers ≡ offers_there (get nat_cmp old joint) =
    elim c.match-remove.branch [
      | in-Some w ↦ w.offers-is ∙ sym (ap offers_there (sym c.remove.ensures.value ∙ w.in-Some.is))
      | in-None w ↦ w.offers-is ∙ w.new-offers.ensures ∙ sym (ap offers_there
          (sym c.remove.ensures.value ∙ w.in-None.is))
    ] in
    let behind = c.in_ok-push.ensures.ok ∙ ap (λ offers. offers ++ c.args.offer ∷ []) before in
    λ own offers is are. joined_more own offers c.args.offer joint is old c.remove.new.self c.insert.new.self are
    (λ q. c.remove.ensures.updates.0 q)
    (λ q. c.in_ok-insert.ensures.updates.0 q
    ∙ ap (λ offers. cond (is_eq (nat_cmp joint q)) (Some offers) (get nat_cmp c.remove.new.self q)) behind)
