use Rattle.std.proofs.Common.{◌≡◌, ◌==◌, ℕ, true, List, [], ◌∷◌, length, refl, sym, ap, subst, ◌∙◌, arith}
use Rattle.std.specs.Prelude.{Option, None, Some}
use Rattle.ent_lists.specs.Elements.{same_number}
use Rattle.ent_lock.specs.declared.mode.Mode.{Mode}
use Rattle.ent_lock.specs.Holders.{lesser}
use Rattle.ent_lock.specs.Use.{IsLeastIfAny}
use Rattle.ent_protocol.specs.State.{Use}
use Rattle.ent_protocol.specs.Uses.{least}
use Rattle.ent_run.specs.Locks.{BlocksUses}
use Rattle.ent_run.specs.Passing.{passes}
use Rattle.ent_run.proofs.Blocked.{BlocksOne, least_of_more}
use Rattle.ent_run.proofs.InTheWay.{least_blocks, numbers_in_way}
use Rattle.ent_run.proofs.Lists.{contains_none}
use Rattle.ent_run.proofs.MadeToWait.{AreHolders}
use Rattle.ent_run.proofs.locks.+least_in_conflict.Goals as goal

-- a fact and no other
lesser_none : (a : Option ℕ) → lesser a None ≡ a
lesser_none None = refl
lesser_none (Some x) = refl

nothing_left : (rest : List Use) → (length rest == 0) ≡ true → rest ≡ []
nothing_left [] e = refl
nothing_left (own ∷ more) e = absurd (omega (arith, same_number (length (own ∷ more)) 0 e))

pub returns-then-is_empty : goal.returns-then-is_empty
returns-then-is_empty t c =
    let locks = c.args.locks.now in
    let asker = c.args.asker.now in
    let first = c.in-Some.first.now in
    let holders = c.holders-holders.result.now in
    let found = c.least_in_the_way-own.result in
    let are : AreHolders locks first holders =
    λ tx mode. rw (sym c.table.ensures) (c.holders-holders.ensures tx mode) in
    let one : IsLeastIfAny (BlocksOne locks first (passes asker)) found =
    subst (IsLeastIfAny (BlocksOne locks first (passes asker)))
    (sym (c.least_in_the_way-own.ensures
    ∙ ap (λ (mode : Mode). least (numbers_in_way mode asker holders)) c.mode.ensures))
    (least_blocks locks first holders asker are) in
    let alone : first ∷ [] ≡ c.args.asked.now =
    ap (λ (rest : List Use). first ∷ rest)
    (sym (nothing_left c.in-Some.rest.now (sym c.is_empty.ensures ∙ c.if-is_empty.true)))
    ∙ sym c.in-Some.ensures.cases.0 in
    subst (λ (asked : List Use). IsLeastIfAny (BlocksUses locks asked (passes asker)) found) alone
    (subst (IsLeastIfAny (BlocksUses locks (first ∷ []) (passes asker))) (lesser_none found)
    (least_of_more locks first [] (passes asker) found None one (λ v blocks. contains_none blocks.1.0 blocks.1.1)))

pub returns : goal.returns
returns t c =
    let locks = c.args.locks.now in
    let asker = c.args.asker.now in
    let first = c.in-Some.first.now in
    let rest = c.in-Some.rest.now in
    let holders = c.holders-holders.result.now in
    let found = c.least_in_the_way-own.result in
    let are : AreHolders locks first holders =
    λ tx mode. rw (sym c.table.ensures) (c.holders-holders.ensures tx mode) in
    let one : IsLeastIfAny (BlocksOne locks first (passes asker)) found =
    subst (IsLeastIfAny (BlocksOne locks first (passes asker)))
    (sym (c.least_in_the_way-own.ensures
    ∙ ap (λ (mode : Mode). least (numbers_in_way mode asker holders)) c.mode.ensures))
    (least_blocks locks first holders asker are) in
    subst (IsLeastIfAny (BlocksUses locks c.args.asked.now (passes asker))) (sym c.lesser.ensures)
    (subst (λ (asked : List Use). IsLeastIfAny (BlocksUses locks asked (passes asker))
    (lesser found c.least_in_conflict.result))
    (sym c.in-Some.ensures.cases.0)
    (least_of_more locks first rest (passes asker) found c.least_in_conflict.result one c.least_in_conflict.ensures))
