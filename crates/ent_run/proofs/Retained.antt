-- What a slab keeps that retains some of its values.
use Rattle.std.proofs.Common.{◌≡◌, ℕ, zero, suc, ◌+◌, Bool, if◌then◌else◌, List, [], ◌∷◌, map, get_or, refl}
use Rattle.std.proofs.Common.{ap, subst, ◌∙◌, MutBor}
use Rattle.std.specs.Prelude.{None, Option, Some}
use Rattle.slab.specs.Slab.{CalledAt, RetainsFrom}
use Rattle.ent_protocol.specs.State.{Member}
use Rattle.ent_run.specs.UnderKeys.{if_passing}

module _ {F : Type 0} (step : F → ℕ → MutBor Member → Bool → MutBor Member → F → Type 0) (passes : Member → Bool)
    (f : F) (same : (key : ℕ) (old : Member) (keep : Bool) (new : Member) (next : F)
    → CalledAt step f key old keep new next → (keep ≡ passes old) × (new ≡ old) × (next ≡ f)) where
  retained_from : (key : ℕ) (g : F) (old kept : List (Option Member)) → g ≡ f → RetainsFrom step g key old kept
      → kept ≡ map (if_passing passes) old
  retained_from key g [] kept is retains = retains
  retained_from key g (None ∷ rest) kept is retains =
      retains.1 ∙ ap (λ (slots : List (Option Member)). None ∷ slots)
      (retained_from (key + 1) g rest retains.0 is retains.2)
  retained_from key g (Some old ∷ rest) kept is retains =
      let one = same key old retains.0 retains.1 retains.2
      (subst (λ (h : F). CalledAt step h key old retains.0 retains.1 retains.2) is retains.3) in
      retains.5
      ∙ (λ i. (if one.0 i then Some (one.1 i) else None)
      ∷ retained_from (key + 1) retains.2 rest retains.4 one.2 retains.6 i)

  at_slot : (slots : List (Option Member)) (key : ℕ)
      → get_or (map (if_passing passes) slots) key None ≡ if_passing passes (get_or slots key None)
  at_slot [] key = refl
  at_slot (slot ∷ slots) zero = refl
  at_slot (slot ∷ slots) (suc key) = at_slot slots key

  pub retained : (old new : List (Option Member)) → RetainsFrom step f 0 old new → (key : ℕ)
      → get_or new key None ≡ if_passing passes (get_or old key None)
  retained old new retains key =
      ap (λ (slots : List (Option Member)). get_or slots key None) (retained_from 0 f old new refl retains)
      ∙ at_slot old key
