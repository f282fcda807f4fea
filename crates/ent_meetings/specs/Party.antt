-- What a script offers and demands.
use Rattle.std.specs.Prelude.{List, [], ◌∷◌, ◌++◌, map}
use Rattle.std.specs.List.{flat_map}
use Rattle.ent_semantics.specs.Database.{Environment, nothing_bound}
use Rattle.ent_tree.specs.declared.entangled.Condition.{Condition}
use Rattle.ent_tree.specs.declared.entangled.Condition.TheVariants.{InAnswer}
use Rattle.ent_tree.specs.declared.entangled.Entangled.{Entangled}
use Rattle.ent_tree.specs.declared.operand.Identifier.{Identifier}
use Rattle.ent_tree.specs.declared.script.Script.{Script}
use Rattle.ent_tree.specs.declared.script.Statement.{Statement}
use Rattle.ent_tree.specs.declared.script.Statement.TheVariants as statements
use Rattle.ent_meetings.specs.Known.{known_term, known_after}
use Rattle.ent_meetings.specs.declared.party.Party.{Party}
use Rattle.ent_meetings.specs.declared.pattern.Pattern.{Pattern}

-- an entangled statement, and what is known of host variables before it: inside it they have their earlier values
pub record TextView : Type 0 where
  pub known : Environment
  pub entangled : Entangled

abbrev pub text_view : Environment → Statement → List TextView
text_view known (statements.Entangled asked) = record { known = known; entangled = asked } ∷ []
text_view known other = []

-- the entangled statements of a text, in order
abbrev pub text_views : Environment → List Statement → List TextView
text_views known [] = []
text_views known (statement ∷ more) = text_view known statement ++ text_views (known_after known statement) more

-- the select list as a row of a relation
abbrev pub offered_in : TextView → Identifier → Pattern
offered_in view relation =
    record { relation = relation.name; terms = map (λ item. known_term view.known item.term) view.entangled.items }

-- it is offered in each relation that is named
abbrev pub view_offers : TextView → List Pattern
view_offers view = map (offered_in view) view.entangled.relations

-- the postcondition that a condition is, where it is one
abbrev pub condition_demands : Environment → Condition → List Pattern
condition_demands known (InAnswer tuple relation) =
    record { relation = relation.name; terms = map (known_term known) tuple.terms } ∷ []
condition_demands known other = []

abbrev pub view_demands : TextView → List Pattern
view_demands view = flat_map (condition_demands view.known) view.entangled.conditions

-- what a script offers and demands: nothing is bound at its begin
abbrev pub party_of : Script → Party
party_of script = of_views (text_views nothing_bound script.statements)
  where
    of_views : List TextView → Party
    of_views views = record { offers = flat_map view_offers views; demands = flat_map view_demands views }
