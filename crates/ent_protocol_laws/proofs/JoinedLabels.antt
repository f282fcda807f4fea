-- The label that groups have once they are joined.
use Rattle.std.proofs.Common.{◌≡◌, ◌∙◌, ◌==◌, ℕ, List, [], ◌∷◌, cond, sym, ap}
use Rattle.ent_lists.specs.Elements.{In, any_in, number_itself}
use Rattle.ent_protocol.specs.PoolEvents.{joined_label}

-- groups that are joined have one label
pub label_same : (groups : List ℕ) (one other : ℕ) → In one groups → In other groups
    → joined_label groups one ≡ joined_label groups other
label_same [] one other at bt = absurd at
label_same (first ∷ more) one other at bt = label_first one at ∙ sym (label_first other bt)
  where
    label_first : (group : ℕ) → In group (first ∷ more) → joined_label (first ∷ more) group ≡ first
    label_first group here =
        ap (λ b. cond b first group)
        (any_in (λ joined. joined == group) (first ∷ more) group here (number_itself group))
