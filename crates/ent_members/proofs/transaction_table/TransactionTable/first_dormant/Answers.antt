use Rattle.std.proofs.Common.{◌≡◌, ◌++◌, ◌∷◌, [], ◌∙◌, List, Some, ap, arith, slice_get, sym, take}
use Rattle.std.specs.Option.{option_copied}
use Rattle.std.proofs.lemmas.List.{take_more}
use Rattle.std.proofs.lemmas.Option.{get_or_from_slice_get, slice_get_within}
use Rattle.ent_protocol.specs.State.{Dormant}
use Rattle.ent_members.proofs.transaction_table.TransactionTable.first_dormant.Goals as goal

pub loop-place-preserved : goal.loop-place-preserved
loop-place-preserved c =
    let own : Dormant = c.unwrap.result.now in
    let dormant = c.args.self.now.dormant in
    let place = c.loop-place.place in
    let at : slice_get dormant place ≡ Some own = sym c.dormant_at.ensures ∙ ap option_copied c.unwrap.ensures in (
      c.push_reserved.ensures.items
          ∙ ap (λ (first : List Dormant). first ++ own ∷ []) c.loop-place.invariant.0
          ∙ sym (take_more dormant place own (slice_get_within dormant place own at)
          ∙ ap (λ (it : Dormant). take place dormant ++ it ∷ []) (get_or_from_slice_get dormant place own own at)),
      omega (arith, c.loop-place.invariant.1, c.push_reserved.ensures.capacity),
    )
