-- There is one least choice at most.
use Rattle.std.proofs.Common.{◌≡◌, List, Option, Some, None, refl, ap, ◌∙◌}
use Rattle.std.specs.FinSet.{slice_cmp-IsAntisymmetric}
use Rattle.std.specs.Ordering.{ordering_reverse}
use Rattle.std.specs.declared.cmp.Ordering.{Ordering}
use Rattle.std.specs.declared.cmp.Ordering.TheVariants.{Less, Equal, Greater}
use Rattle.std.proofs.lemmas.Cmp.{lists_total}
use Rattle.ent_value.specs.Order.{rows_total, exact_rows}
use Rattle.ent_semantics.specs.Entangled.{Valuation}
use Rattle.ent_semantics.specs.Form.{Tables}
use Rattle.ent_semantics.specs.Choice.{choice_cmp, IsLeastChoiceIfAny}
use Rattle.ent_semantics.specs.Pool.{Posted}

tied : (order : Ordering) → (order ≡ Less → ⊥) → (ordering_reverse order ≡ Less → ⊥) → order ≡ Equal
tied Less h k = absurd (h refl)
tied Equal h k = refl
tied Greater h k = absurd (k refl)

same_choice : (one other : List Valuation) → (choice_cmp one other ≡ Less → ⊥)
    → (choice_cmp other one ≡ Less → ⊥) → one ≡ other
same_choice one other h k =
    slice_cmp-IsAntisymmetric exact_rows one other
    (tied (choice_cmp one other) h (λ e. k ((lists_total rows_total).antisymm other one ∙ e)))

pub one_least : (tables : Tables) (members : List Posted) (one other : Option (List Valuation))
    → IsLeastChoiceIfAny tables members one → IsLeastChoiceIfAny tables members other → one ≡ other
one_least tables members (Some one) (Some other) h k =
    ap (λ groundings. Some groundings)
    (same_choice one other (k.least one h.choice) (h.least other k.choice))
one_least tables members (Some one) None h k = absurd (k one h.choice)
one_least tables members None (Some other) h k = absurd (h other k.choice)
one_least tables members None None h k = refl
