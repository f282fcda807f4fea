-- One relation more in which a select list is offered.
use Rattle.std.proofs.Common.{◌≡◌, ℕ, ◌+◌, ◌<◌, List, [], ◌∷◌, ◌++◌, length, map, take, get_or, Option, sym, ap, ◌∙◌}
use Rattle.std.proofs.Common.{append_assoc}
use Rattle.std.proofs.lemmas.List.{take_more}
use Rattle.ent_lists.specs.Elements.{map_joined}
use Rattle.ent_value.specs.declared.value.Value.{Value}
use Rattle.ent_tree.specs.declared.operand.Identifier.{Identifier}
use Rattle.ent_semantics.specs.Database.{Name}
use Rattle.ent_meetings.specs.Known.{known_term}
use Rattle.ent_meetings.specs.Party.{TextView, offered_in}
use Rattle.ent_meetings.specs.declared.pattern.Pattern.{Pattern}

one_more : (f : Identifier → Pattern) (relations : List Identifier) (index : ℕ) (relation : Identifier)
    (own before after : List Pattern) → index < length relations → relation ≡ get_or relations index relation
    → before ≡ own ++ map f (take index relations) → after ≡ before ++ f relation ∷ []
    → after ≡ own ++ map f (take (index + 1) relations)
one_more f relations index relation own before after low at so_far put =
    put ∙ ap (λ b. b ++ f relation ∷ []) so_far
    ∙ append_assoc own (map f (take index relations)) (f relation ∷ [])
    ∙ ap (λ b. own ++ b) (sym (map_joined f (take index relations) (relation ∷ []))
    ∙ ap (map f) (ap (λ r. take index relations ++ r ∷ []) at ∙ sym (take_more relations index relation low)))

pub offered_more : (view : TextView) (relations : List Identifier) (index : ℕ) (relation : Identifier)
    (own before after : List Pattern) (name : Name) (terms : List (Option Value)) → index < length relations
    → relation ≡ get_or relations index relation → before ≡ own ++ map (offered_in view) (take index relations)
    → name ≡ relation.name → terms ≡ map (λ item. known_term view.known item.term) view.entangled.items
    → after ≡ before ++ record { relation = name; terms = terms } ∷ []
    → after ≡ own ++ map (offered_in view) (take (index + 1) relations)
offered_more view relations index relation own before after name terms low at so_far named known put =
    let is : Pattern → List Pattern = λ pattern. before ++ pattern ∷ [] in
    let same : record { relation = name; terms = terms } ≡ offered_in view relation =
    λ i. record { relation = named i; terms = known i } in
    one_more (offered_in view) relations index relation own before after low at so_far (put ∙ ap is same)
