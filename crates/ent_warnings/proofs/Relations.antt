-- The postconditions of a script, as they are written, name the relations of its demands.
use Rattle.std.proofs.Common.{◌≡◌, List, [], ◌∷◌, ◌++◌, map, refl, sym, ap, ◌∙◌}
use Rattle.std.specs.List.{flat_map}
use Rattle.ent_lists.specs.Elements.{map_joined}
use Rattle.ent_semantics.specs.Database.{Name, Environment, nothing_bound}
use Rattle.ent_tree.specs.declared.entangled.Condition.{Condition}
use Rattle.ent_tree.specs.declared.entangled.Condition.TheVariants.{InSelect, InAnswer, Test}
use Rattle.ent_tree.specs.declared.script.Statement.{Statement}
use Rattle.ent_tree.specs.declared.script.Statement.TheVariants as statements
use Rattle.ent_meetings.specs.Known.{known_after}
use Rattle.ent_meetings.specs.Party.{condition_demands, text_views, view_demands}
use Rattle.ent_meetings.specs.declared.pattern.Pattern.{Pattern}
use Rattle.ent_warnings.specs.Offered.{Written, condition_written, statement_written}
use Rattle.ent_warnings.specs.Seen.{written}
use Rattle.ent_warnings.specs.declared.postcondition.Postcondition.{Postcondition}

abbrev name_in : Written → Name
name_in post = post.1.name

abbrev relation_in : Pattern → Name
relation_in demand = demand.relation

abbrev AreAlike : List Written → List Pattern → Type 0
AreAlike posts demands = map name_in posts ≡ map relation_in demands

joined : (posts more : List Written) (demands others : List Pattern) → AreAlike posts demands → AreAlike more others
    → AreAlike (posts ++ more) (demands ++ others)
joined posts more demands others first second =
    map_joined name_in posts more
    ∙ ap (λ names. names ++ map name_in more) first
    ∙ ap (λ names. map relation_in demands ++ names) second
    ∙ sym (map_joined relation_in demands others)

condition_alike : (known : Environment) (condition : Condition)
    → AreAlike (condition_written condition) (condition_demands known condition)
condition_alike known (InSelect tuple select) = refl
condition_alike known (InAnswer tuple relation) = refl
condition_alike known (Test test) = refl

conditions_alike : (known : Environment) (conditions : List Condition)
    → AreAlike (flat_map condition_written conditions) (flat_map (condition_demands known) conditions)
conditions_alike known [] = refl
conditions_alike known (condition ∷ more) =
    joined (condition_written condition) (flat_map condition_written more) (condition_demands known condition)
    (flat_map (condition_demands known) more) (condition_alike known condition) (conditions_alike known more)

statements_alike : (known : Environment) (texts : List Statement)
    → AreAlike (flat_map statement_written texts) (flat_map view_demands (text_views known texts))
statements_alike known [] = refl
statements_alike known (statements.Entangled asked ∷ more) =
    joined (flat_map condition_written asked.conditions) (flat_map statement_written more)
    (flat_map (condition_demands known) asked.conditions)
    (flat_map view_demands (text_views (known_after known (statements.Entangled asked)) more))
    (conditions_alike known asked.conditions)
    (statements_alike (known_after known (statements.Entangled asked)) more)
statements_alike known (statements.Select select ∷ more) = statements_alike known more
statements_alike known (statements.Insert insert ∷ more) = statements_alike known more
statements_alike known (statements.Delete delete ∷ more) = statements_alike known more
statements_alike known (statements.Update update ∷ more) = statements_alike known more
statements_alike known (statements.Set set ∷ more) =
    statements_alike (known_after known (statements.Set set)) more

names_held : (all : List Postcondition)
    → map (λ (held : Postcondition). held.relation.now.name) all ≡ map name_in (map written all)
names_held [] = refl
names_held (held ∷ more) = ap (λ names. held.relation.now.name ∷ names) (names_held more)

pub same_relations : (texts : List Statement) (all : List Postcondition)
    → map written all ≡ flat_map statement_written texts
    → map (λ (held : Postcondition). held.relation.now.name) all
    ≡ map (λ (demand : Pattern). demand.relation) (flat_map view_demands (text_views nothing_bound texts))
same_relations texts all exact =
    names_held all ∙ ap (map name_in) exact ∙ statements_alike nothing_bound texts
