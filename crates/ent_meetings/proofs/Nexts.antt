-- The next ticket that passes, where some up to a last one were looked at.
use Rattle.std.proofs.Common.{◌≡◌, ◌≤◌, ◌<◌, ◌↔◌, ℕ, Bool, true, false, ◌⊎◌, inl, Option, None, Some, ⊎_elim, arith}
use Rattle.std.proofs.Common.{subst}
use Rattle.std.proofs.lemmas.Bool.{cases_lt, false_from_ne_true}
use Rattle.ent_meetings.specs.Next.{IsAfter, IsUpTo}

pub after_or_up_to : (last : Option ℕ) (other : ℕ) → IsAfter last other ⊎ IsUpTo last other
after_or_up_to None other = inl tt
after_or_up_to (Some last) other = cases_lt last other

module _ (passes : ℕ → Bool) (after last : Option ℕ)
    (none : (other : ℕ) → IsAfter after other → IsUpTo last other → passes other ≡ false) where
  -- none after the last passes either
  pub nobody : ((other : ℕ) → IsAfter last other → passes other ≡ true → ⊥)
      → (other : ℕ) → IsAfter after other → passes other ≡ false
  nobody rest other behind =
      ⊎_elim (λ later. false_from_ne_true (passes other) (rest other later)) (none other behind)
      (after_or_up_to last other)

  module _ (from ticket : ℕ) (begins : (other : ℕ) → IsAfter last other ↔ (from ≤ other))
      (between : (other : ℕ) → from ≤ other → other < ticket → passes other ≡ true → ⊥) where
    pub none_before : (other : ℕ) → IsAfter after other → other < ticket → passes other ≡ false
    none_before other behind low =
        ⊎_elim (λ later. false_from_ne_true (passes other) (between other ((begins other).0 later) low))
        (none other behind)
        (after_or_up_to last other)

    pub none_up_to : passes ticket ≡ false → (other : ℕ) → IsAfter after other → other ≤ ticket → passes other ≡ false
    none_up_to fails other behind low =
        ⊎_elim (none_before other behind)
        (λ past. let same : ticket ≡ other = omega arith in subst (λ (n : ℕ). passes n ≡ false) same fails)
        (cases_lt other ticket)
