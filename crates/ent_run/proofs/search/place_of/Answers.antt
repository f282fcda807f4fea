use Rattle.std.proofs.Common.{◌≡◌, ◌+◌, ◌<◌, ◌==◌, ◌∷◌, ℕ, Bool, false, List, drop, length, if◌then◌else◌, sym, ap}
use Rattle.std.proofs.Common.{subst, ◌∙◌}
use Rattle.std.specs.Prelude.{filter}
use Rattle.std.proofs.lemmas.List.{drop_more}
use Rattle.ent_lists.specs.Elements.{other_number}
use Rattle.ent_protocol.specs.Member.{is_tx}
use Rattle.ent_protocol.specs.State.{Member, first_of}
use Rattle.ent_run.proofs.search.place_of.Goals as goal

pub loop-place-preserved : goal.loop-place-preserved
loop-place-preserved c =
    let members = c.args.members.now in
    let place = c.loop-place.place in
    let own = c.at.result.now in
    let rest = filter (is_tx c.args.tx) (drop (place + 1) members) in
    let within : place < length members = subst (λ (n : ℕ). place < n) c.len-place-end.ensures c.loop-place-test.true in
    let other : is_tx c.args.tx own ≡ false = ap (λ (n : ℕ). n == c.args.tx) (sym c.tx.ensures)
    ∙ other_number c.tx.result c.args.tx c.if-tx.false in
    let whole : drop place members ≡ own ∷ drop (place + 1) members = drop_more members place own within
    ∙ ap (λ (m : Member). m ∷ drop (place + 1) members) (sym (c.at.ensures own)) in
    sym (ap (λ (b : Bool). first_of (if b then own ∷ rest else rest)) other)
    ∙ ap (λ (ms : List Member). first_of (filter (is_tx c.args.tx) ms)) (sym whole)
    ∙ c.loop-place.invariant
