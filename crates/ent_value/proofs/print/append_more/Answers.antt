use Rattle.std.proofs.Common.{◌≡◌, ◌++◌, List, [], ◌∷◌, ℕ, ◌∙◌, length, take, drop, get_or, refl, ap, subst, arith}
use Rattle.ent_value.proofs.print.append_more.Goals as goal

-- what stands in front stays where more is put behind it, and then more behind that
kept_on : (front old more new : List ℕ) → take (length front) old ≡ front
    → take (length (old ++ more)) new ≡ old ++ more → take (length front) new ≡ front
kept_on [] old more new p q = refl
kept_on (b ∷ front) [] more new p q = absurd (omega (arith, ap length p))
kept_on (b ∷ front) (c ∷ old) more [] p q = absurd (omega (arith, ap length q))
kept_on (b ∷ front) (c ∷ old) more (d ∷ new) p q =
    let first : d ≡ b = ap (λ bs. get_or bs 0 0) q ∙ ap (λ bs. get_or bs 0 0) p in
    let rest : take (length front) new ≡ front = kept_on front old more new (ap (drop 1) p) (ap (drop 1) q) in
    λ i. first i ∷ rest i

pub returns-in_err-append_value-clause-kept : goal.returns-in_err-append_value-clause-kept
returns-in_err-append_value-clause-kept c =
    let put = c.in_ok-extend_from_slice.ensures.items in
    kept_on c.args.out.now.items c.loop-value.out.items (44 ∷ 32 ∷ []) c.append_value.new.out.items
    c.loop-value.invariant.kept
    (subst (λ (bs : List ℕ). take (length bs) c.append_value.new.out.items ≡ bs) put c.append_value.ensures.kept)
