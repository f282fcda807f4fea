use Rattle.std.proofs.Common.{◌≡◌, ◌==◌, ◌&&◌, ◌∙◌, ℕ, Bool, true, false, not, List, Some, ap, arith, refl, slice_get}
use Rattle.std.proofs.Common.{sym}
use Rattle.std.specs.List.{list_any}
use Rattle.std.proofs.lemmas.List.Folds.{list_any_at}
use Rattle.std.proofs.lemmas.Option.{get_or_from_slice_get, slice_get_within}
use Rattle.ent_lock.specs.Mode.{in_conflict}
use Rattle.ent_lock.proofs.holders.is_conflicting_from.Goals as goal

passed_at : (pass : List ℕ) (place tx : ℕ) → slice_get pass place ≡ Some tx → list_any (λ m. m == tx) pass ≡ true
passed_at pass place tx is =
    let own = get_or_from_slice_get pass place tx tx is in
    list_any_at (λ m. m == tx) pass place tx (slice_get_within pass place tx is) (grind (arith, own))

passes : (a b c : Bool) → c ≡ true → false ≡ (a && (b && not c))
passes false b c is = refl
passes true false c is = refl
passes true true c is = ap not (sym is)

pub returns-then-eq-clause-value : goal.returns-then-eq-clause-value
returns-then-eq-clause-value c =
    let holder = c.args.holder.now in
    let pass = c.args.pass.now in
    let same : c.get.result ≡ Some holder.holder = grind (arith, c.eq.ensures, c.if-eq.true) in
    passes (not (holder.holder == c.args.asker)) (in_conflict holder.mode c.args.mode)
    (list_any (λ m. m == holder.holder) pass)
    (passed_at pass c.args.next.now holder.holder (sym c.get.ensures ∙ same))
