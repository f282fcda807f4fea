-- The posts and heads of groundings are the facts of the atoms by their places.
use Rattle.std.proofs.Common.{◌≡◌, inl, inr, ℕ, zero, suc, ◌+◌, ◌<◌, List, [], ◌∷◌, ◌++◌, map, length, get_or}
use Rattle.std.proofs.Common.{refl, sym, ◌∙◌, ap, subst, arith}
use Rattle.std.specs.Prelude.{Contains}
use Rattle.std.proofs.lemmas.List.{length-map}
use Rattle.std.proofs.lemmas.List.Elements.{Contains-append_left, Contains-append_right, Contains-append_cases}
use Rattle.ent_lists.proofs.Contained.{to_mapped}
use Rattle.ent_value.specs.Value.{kinds_of}
use Rattle.ent_value.specs.declared.value.Value.{Value}
use Rattle.ent_semantics.specs.declared.answer.Fact.{Fact}
use Rattle.ent_semantics.specs.Entangled.{Valuation}
use Rattle.ent_semantics.specs.declared.entangled.Atom.{Atom}
use Rattle.ent_semantics.specs.Choice.{all_heads, all_posts}
use Rattle.ent_semantics.specs.Pool.{Posted, fact_under}
use Rattle.ent_unify.proofs.Pairs.{kinds_at}
use Rattle.ent_plan.specs.Agreement.{variables_of}
use Rattle.ent_plan.specs.Pairs.{Placed, placed_at, placed_from}
use Rattle.ent_plan.specs.Plan.{AreKindedFor}

-- ---- lists

pub mapped_from : {X Y : Type 0} (f : X → Y) (xs : List X) (y : Y) → Contains (map f xs) y
    → (x : X) × Contains xs x × (f x ≡ y)
mapped_from f [] y (k, below, is) = absurd (omega arith)
mapped_from f (x ∷ xs) y (zero, below, is) = (x, (0, omega arith, refl), is)
mapped_from f (x ∷ xs) y (suc k, below, is) =
    let r = mapped_from f xs y (k, omega arith, is) in
    (r.0, (suc r.1.0, (let l = r.1.1 in omega arith), r.1.2), r.2)

-- ---- facts of atoms

-- the facts of some atoms of each statement
abbrev pub facts : (Posted → List (Atom Value)) → List Posted → List Valuation → List Fact
facts atoms [] groundings = []
facts atoms (member ∷ members) [] = []
facts atoms (member ∷ members) (values ∷ more) = map (fact_under values) (atoms member) ++ facts atoms members more

pub posts_are : (members : List Posted) (groundings : List Valuation)
    → all_posts members groundings ≡ facts (λ member. member.statement.posts) members groundings
posts_are [] groundings = refl
posts_are (member ∷ members) [] = refl
posts_are (member ∷ members) (values ∷ more) =
    ap (λ rest. map (fact_under values) member.statement.posts ++ rest) (posts_are members more)

pub heads_are : (members : List Posted) (groundings : List Valuation)
    → all_heads members groundings ≡ facts (λ member. member.statement.heads) members groundings
heads_are [] groundings = refl
heads_are (member ∷ members) [] = refl
heads_are (member ∷ members) (values ∷ more) =
    ap (λ rest. map (fact_under values) member.statement.heads ++ rest) (heads_are members more)

-- a fact of an atom under the values of its place
abbrev pub fact_at : (ℕ → Valuation) → Placed → Fact
fact_at values placed = fact_under (values placed.place) placed.atom

-- the values of places are groundings, from a place on
abbrev pub AreValuesFrom : (ℕ → Valuation) → ℕ → List Valuation → Type 0
AreValuesFrom values n groundings = (k : ℕ) → values (n + k) ≡ get_or groundings k []

values_first : (values : ℕ → Valuation) (n : ℕ) (first : Valuation) (more : List Valuation)
    → AreValuesFrom values n (first ∷ more) → values n ≡ first
values_first values n first more are =
    let place : n ≡ n + 0 = omega arith in ap values place ∙ are 0

values_rest : (values : ℕ → Valuation) (n : ℕ) (first : Valuation) (more : List Valuation)
    → AreValuesFrom values n (first ∷ more) → AreValuesFrom values (suc n) more
values_rest values n first more are k =
    let place : suc n + k ≡ n + suc k = omega arith in ap values place ∙ are (suc k)

module _ (atoms : Posted → List (Atom Value)) (values : ℕ → Valuation) where
  pub fact_from : (n : ℕ) (members : List Posted) (groundings : List Valuation) → AreValuesFrom values n groundings
      → (fact : Fact) → Contains (facts atoms members groundings) fact
      → (placed : Placed) × Contains (placed_from atoms n members) placed × (fact_at values placed ≡ fact)
  fact_from n [] groundings are fact (k, below, is) = absurd (omega arith)
  fact_from n (member ∷ members) [] are fact (k, below, is) = absurd (omega arith)
  fact_from n (member ∷ members) (first ∷ more) are fact there =
      let here = map (placed_at n member.statement.variables) (atoms member) in
      elim (Contains-append_cases (map (fact_under first) (atoms member)) (facts atoms members more) fact there) [
        | inl mine ↦
            let found = mapped_from (fact_under first) (atoms member) fact mine in
            let placed = placed_at n member.statement.variables found.0 in (
              placed,
              Contains-append_left here (placed_from atoms (suc n) members) placed
                  (to_mapped (placed_at n member.statement.variables) (atoms member) found.0 found.1),
              ap (λ vs. fact_under vs found.0) (values_first values n first more are) ∙ found.2,
            )
        | inr others ↦
            let found = fact_from (suc n) members more (values_rest values n first more are) fact others in
            (found.0, Contains-append_right here (placed_from atoms (suc n) members) found.0 found.1, found.2)
      ]

  pub fact_there : (n : ℕ) (members : List Posted) (groundings : List Valuation) → AreValuesFrom values n groundings
      → length groundings ≡ length members → (placed : Placed) → Contains (placed_from atoms n members) placed
      → Contains (facts atoms members groundings) (fact_at values placed)
  fact_there n [] groundings are same placed (k, below, is) = absurd (omega arith)
  fact_there n (member ∷ members) [] are same placed there = absurd (omega arith)
  fact_there n (member ∷ members) (first ∷ more) are same placed there =
      let here = map (fact_under first) (atoms member) in
      elim (Contains-append_cases (map (placed_at n member.statement.variables) (atoms member))
      (placed_from atoms (suc n) members) placed there) [
        | inl mine ↦
            let found = mapped_from (placed_at n member.statement.variables) (atoms member) placed mine in
            let fact : fact_under first found.0 ≡ fact_at values placed =
            sym (ap (λ vs. fact_under vs found.0) (values_first values n first more are))
            ∙ ap (fact_at values) found.2 in
            subst (Contains (here ++ facts atoms members more)) fact
            (Contains-append_left here (facts atoms members more) (fact_under first found.0)
            (to_mapped (fact_under first) (atoms member) found.0 found.1))
        | inr others ↦
            Contains-append_right here (facts atoms members more) (fact_at values placed)
            (fact_there (suc n) members more (values_rest values n first more are) (omega arith) placed others)
      ]

-- ---- where atoms stand

-- the statement at an atom's place has the atom
pub record IsPlacedIn (atoms : Posted → List (Atom Value)) (n : ℕ) (members : List Posted) (placed : Placed) : Type 0
  where
    pub index : ℕ
    pub member : Posted
    pub place_is : placed.place ≡ n + index
    pub within : index < length members
    pub member_is : get_or members index member ≡ member
    pub kinds_are : placed.kinds ≡ member.statement.variables
    pub there : Contains (atoms member) placed.atom

pub placed_in : (atoms : Posted → List (Atom Value)) (n : ℕ) (members : List Posted) (placed : Placed)
    → Contains (placed_from atoms n members) placed → IsPlacedIn atoms n members placed
placed_in atoms n [] placed (k, below, is) = absurd (omega arith)
placed_in atoms n (member ∷ members) placed there =
    elim (Contains-append_cases (map (placed_at n member.statement.variables) (atoms member))
    (placed_from atoms (suc n) members) placed there) [
      | inl mine ↦
          let found = mapped_from (placed_at n member.statement.variables) (atoms member) placed mine in
          let place : n ≡ n + 0 = omega arith in
          record {
            index = 0;
            member = member;
            place_is = sym (ap (λ (p : Placed). p.place) found.2) ∙ place;
            within = omega arith;
            member_is = refl;
            kinds_are = sym (ap (λ (p : Placed). p.kinds) found.2);
            there = subst (Contains (atoms member)) (ap (λ (p : Placed). p.atom) found.2) found.1;
          }
      | inr others ↦
          let found = placed_in atoms (suc n) members placed others in
          let l = found.within in
          let p = found.place_is in
          record {
            index = suc found.index;
            member = found.member;
            place_is = omega arith;
            within = omega arith;
            member_is = found.member_is;
            kinds_are = found.kinds_are;
            there = found.there;
          }
    ]

-- ---- kinds of groundings

pub kinds_of_groundings : (members : List Posted) (groundings : List Valuation) → AreKindedFor members groundings
    → length groundings ≡ length members
kinds_of_groundings members groundings kinded =
    sym (length-map groundings kinds_of)
    ∙ (ap length kinded ∙ length-map members (λ (member : Posted). member.statement.variables))

variables_get : (members : List Posted) (m : ℕ) (member : Posted) → m < length members
    → get_or members m member ≡ member → get_or (variables_of members) m [] ≡ member.statement.variables
variables_get [] m member below is = absurd (omega arith)
variables_get (x ∷ members) zero member below is = ap (λ (p : Posted). p.statement.variables) is
variables_get (x ∷ members) (suc m) member below is = variables_get members m member (omega arith) is

-- the values of an atom's place are of its statement's kinds
pub placed_kinds : (atoms : Posted → List (Atom Value)) (members : List Posted) (groundings : List Valuation)
    (placed : Placed) → AreKindedFor members groundings → Contains (placed_from atoms 0 members) placed
    → kinds_of (get_or groundings placed.place []) ≡ placed.kinds
placed_kinds atoms members groundings placed kinded there =
    let found = placed_in atoms 0 members placed there in
    let place : placed.place ≡ found.index = (let p = found.place_is in omega arith) in
    sym (kinds_at groundings placed.place)
    ∙ (ap (λ ks. get_or ks placed.place []) kinded
    ∙ (ap (λ m. get_or (variables_of members) m []) place
    ∙ (variables_get members found.index found.member found.within found.member_is ∙ sym found.kinds_are)))
