-- Posted statements are answered together.
use Rattle.std.proofs.Common.{◌≡◌, List, length, map, sym, ap, subst, ◌∙◌, nat_eq}
use Rattle.std.specs.List.{IsDistinct}
use Rattle.ent_semantics.specs.Entangled.{Valuation}
use Rattle.ent_members.specs.Answered.{MemberAnswer, answer_tx}
use Rattle.ent_run.specs.Answered.{member_answers}
use Rattle.ent_run.proofs.Answered.{asked_numbers}
use Rattle.ent_semantics.specs.Pool.{Posted}

-- those who are answered are distinct
pub given_distinct : (given : List MemberAnswer) (asked : List Posted) (groundings : List Valuation)
    → given ≡ member_answers asked groundings → length groundings ≡ length asked
    → IsDistinct nat_eq (map (λ (query : Posted). query.tx) asked) → IsDistinct nat_eq (map answer_tx given)
given_distinct given asked groundings is long distinct =
    subst (IsDistinct nat_eq) (sym (ap (map answer_tx) is ∙ asked_numbers asked groundings long)) distinct
