-- Friends who each ask for one of them: their least choice is flight 122 for all.
use Rattle.std.proofs.Common.{◌≡◌, ◌≢◌, ◌⊎◌, inl, inr, Bool, true, List, [], ◌∷◌, map, refl, sym, ap, subst, ◌∙◌}
use Rattle.std.specs.Prelude.{Contains}
use Rattle.std.specs.List.{list_all, list_any}
use Rattle.std.specs.declared.cmp.Ordering.TheVariants.{Less, Greater}
use Rattle.ent_value.specs.declared.value.Value.{Value}
use Rattle.ent_value.specs.declared.value.Value.TheVariants.{Text}
use Rattle.ent_semantics.specs.declared.answer.Fact.{Fact}
use Rattle.ent_semantics.specs.Database.{Name}
use Rattle.ent_semantics.specs.Entangled.{Valuation}
use Rattle.ent_semantics.specs.Names.{equal_names}
use Rattle.ent_semantics.specs.Choice.{IsLeastChoice, AreGroundings, all_heads, all_posts, choice_cmp}
use Rattle.ent_lists.specs.Elements.{and_both}
use Rattle.ent_lists.proofs.Contained.{of_mapped, to_mapped}
use Rattle.ent_examples.specs.Partners.{flight_122}
use Rattle.ent_examples.specs.Wish.{Friend, posted}
use Rattle.ent_examples.proofs.PartnersChoice.{seen, flight_123, grounds, one_value}
use Rattle.ent_examples.proofs.Listed.{each_passes, one_passes}
use Rattle.ent_examples.proofs.Meets.{meets}

-- ---- a choice

-- flight 122 for each
abbrev pub taken : List Friend → List Valuation
taken friends = map (λ friend. flight_122 ∷ []) friends

grounded : (friends : List Friend) → AreGroundings seen (map posted friends) (taken friends)
grounded [] = tt
grounded (friend ∷ friends) = (
  record {
    kinds = refl;
    grounds = grounds friend.tx (Text friend.wish.own) (Text friend.wish.partner) flight_122;
  },
  grounded friends,
)

-- relation(name, 122)
abbrev fact : Name → Name → Fact
fact relation name = record { relation = relation; values = Text name ∷ flight_122 ∷ [] }

abbrev head : Friend → Fact
head friend = fact friend.wish.relation friend.wish.own

abbrev post : Friend → Fact
post friend = fact friend.wish.relation friend.wish.partner

heads_are : (friends : List Friend) → all_heads (map posted friends) (taken friends) ≡ map head friends
heads_are [] = refl
heads_are (friend ∷ friends) = ap (λ facts. head friend ∷ facts) (heads_are friends)

posts_are : (friends : List Friend) → all_posts (map posted friends) (taken friends) ≡ map post friends
posts_are [] = refl
posts_are (friend ∷ friends) = ap (λ facts. post friend ∷ facts) (posts_are friends)

-- each asks for one of them
abbrev pub have_partners : List Friend → Bool
have_partners friends = list_all (λ friend. list_any (λ other. meets friend.wish other.wish) friends) friends

met : (friends : List Friend) → have_partners friends ≡ true → (demand : Fact)
    → Contains (all_posts (map posted friends) (taken friends)) demand
    → Contains (all_heads (map posted friends) (taken friends)) demand
met friends h demand there =
    let asker = of_mapped post friends demand (subst (λ facts. Contains facts demand) (posts_are friends) there) in
    let partner = one_passes _ friends (each_passes _ friends asker.0 h asker.1) in
    let same = and_both _ _ partner.2 in
    let relation = equal_names _ _ same.0 in
    let name = equal_names _ _ same.1 in
    subst (λ facts. Contains facts demand) (sym (heads_are friends))
    (subst (λ z. Contains (map head friends) z) (sym (asker.2 ∙ (λ i. fact (relation i) (name i))))
    (to_mapped head friends partner.0 partner.1))

-- ---- the least one

at_least : (x : Value) (more others : List Valuation) → (x ≡ flight_122) ⊎ (x ≡ flight_123)
    → choice_cmp more others ≢ Less → choice_cmp ((x ∷ []) ∷ more) ((flight_122 ∷ []) ∷ others) ≢ Less
at_least x more others (inl e) h less =
    h (sym (ap (λ z. choice_cmp ((z ∷ []) ∷ more) ((flight_122 ∷ []) ∷ others)) e) ∙ less)
at_least x more others (inr e) h less =
    greater (sym (ap (λ z. choice_cmp ((z ∷ []) ∷ more) ((flight_122 ∷ []) ∷ others)) e) ∙ less)
  where
    greater : Greater ≡ Less → ⊥
    greater z = cc

least : (friends : List Friend) (others : List Valuation) → AreGroundings seen (map posted friends) others
    → choice_cmp others (taken friends) ≢ Less
least [] [] h = λ less. cc
least [] (values ∷ others) h = absurd h
least (friend ∷ friends) [] h = absurd h
least (friend ∷ friends) (values ∷ others) h =
    let x = one_value friend.tx (Text friend.wish.own) (Text friend.wish.partner) values h.0.grounds in
    subst (λ v. choice_cmp (v ∷ others) (taken (friend ∷ friends)) ≢ Less) (sym x.1)
    (at_least x.0 others (taken friends) x.2 (least friends others h.1))

pub least_taken : (friends : List Friend) → have_partners friends ≡ true
    → IsLeastChoice seen (map posted friends) (taken friends)
least_taken friends h =
    record {
      choice = record { grounded = grounded friends; met = met friends h };
      least = λ others choice. least friends others choice.grounded;
    }
