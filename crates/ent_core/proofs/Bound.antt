-- A member binds the value of its statement.
use Rattle.std.proofs.Common.{◌≡◌, List, [], ◌∷◌, ◌++◌, refl, ap, ◌∙◌}
use Rattle.std.proofs.lemmas.List.{append-nil}
use Rattle.ent_value.specs.declared.value.Value.{Value}
use Rattle.ent_semantics.specs.declared.statement.Statement.{Statement}
use Rattle.ent_members.specs.Changes.{stepping}
use Rattle.ent_protocol.specs.Finish.{stepped, variable_of, with_bound}
use Rattle.ent_protocol.specs.State.{Member}
use Rattle.ent_semantics.specs.declared.answer.Answer.TheVariants as answers
use Rattle.ent_semantics.specs.Database.{Name}
use Rattle.ent_core.specs.Advance.{binding}

bound_on : (variables : List Name) (value : Value) (old : List (Name × Value))
    → old ++ with_bound variables value [] ≡ with_bound variables value old
bound_on [] value old = append-nil old
bound_on (variable ∷ more) value old = refl

pub bound_to : (statement own : Statement Value) (value copy : Value) (bound : List (Name × Value)) (member : Member)
    → bound ≡ with_bound (variable_of own) value [] → own ≡ statement → copy ≡ value
    → stepping (answers.Value copy) bound member ≡ binding statement value member
bound_to statement own value copy bound member is same copied =
    let all : member.bound ++ bound ≡ with_bound (variable_of statement) value member.bound =
    ap (λ (more : List (Name × Value)). member.bound ++ more) is ∙ bound_on (variable_of own) value member.bound
    ∙ ap (λ (st : Statement Value). with_bound (variable_of st) value member.bound) same in
    λ i. stepped (answers.Value (copied i)) (record member { bound = all i })
