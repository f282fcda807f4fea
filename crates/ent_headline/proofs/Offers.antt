-- The heads of resolved statements are of distinct relations.
use Rattle.std.proofs.Common.{◌≡◌, ◌≢◌, ◌<◌, ℕ, zero, suc, true, false, not, List, [], ◌∷◌, ◌++◌, map}
use Rattle.std.proofs.Common.{length, Ok, sym, ap, subst, arith}
use Rattle.std.specs.Prelude.{Contains, slice_index_or}
use Rattle.std.specs.List.{AllByRecursion}
use Rattle.std.proofs.lemmas.List.{map-append}
use Rattle.ent_lists.specs.Elements.{clash, neither, turned}
use Rattle.ent_value.specs.declared.value.Value.{Value}
use Rattle.ent_tree.specs.declared.operand.Identifier.{Identifier}
use Rattle.ent_tree.specs.declared.script.Script.{Script}
use Rattle.ent_semantics.specs.Database.{Environment, Name, same_name, is_among}
use Rattle.ent_semantics.specs.Names.{name_itself}
use Rattle.ent_semantics.specs.Closing.{atom_over, closed_entangled}
use Rattle.ent_semantics.specs.Form.{known_worth}
use Rattle.ent_semantics.specs.declared.entangled.Atom.{Atom}
use Rattle.ent_semantics.specs.declared.entangled.Entangled.{Entangled}
use Rattle.ent_semantics.specs.declared.entangled.Term.{Term}
use Rattle.ent_semantics.specs.declared.operand.Known.{Known}
use Rattle.ent_semantics.specs.declared.statement.Statement.TheVariants as statements
use Rattle.ent_form.specs.Entangled.{entangled_in, heads_from, memberships_from, offer_from, others_from, no_offer}
use Rattle.ent_form.specs.Entangled.{variables_of}
use Rattle.ent_form.specs.Form.{script_in}
use Rattle.ent_form.specs.Kinds.{Bound, none_bound}
use Rattle.ent_form.specs.declared.catalogue.TableSchema.{TableSchema}
use Rattle.ent_form.specs.declared.fault.FormFault.TheVariants.{Repeated}
use Rattle.ent_form.specs.declared.script.Plain.{Plain}
use Rattle.ent_form.proofs.Heads.{found_of}
use Rattle.ent_form.proofs.ResolvedSteps.{one_answer, demand_given}
use Rattle.ent_plan.specs.Plan.{HasDistinctHeads}
use Rattle.ent_headline.proofs.Statements.{OfResolved, script_each}

-- ---- heads

abbrev Differ : Atom Known → Atom Known → Type 0
Differ one other = one.relation ≢ other.relation

-- each of the others, of the first ones, differs from those behind it
abbrev AreApart : List (Atom Known) → Type 0
AreApart [] = Unit {0}
AreApart (head ∷ more) = AllByRecursion (Differ head) more × AreApart more

all_put : (P : Atom Known → Type 0) (made : List (Atom Known)) (head : Atom Known) → AllByRecursion P made → P head
    → AllByRecursion P (made ++ head ∷ [])
all_put P [] head all new = (new, tt)
all_put P (first ∷ made) head all new = (all.0, all_put P made head all.1 new)

apart_put : (made : List (Atom Known)) (head : Atom Known) → AreApart made
    → AllByRecursion (λ other. Differ other head) made → AreApart (made ++ head ∷ [])
apart_put [] head apart new = (tt, tt)
apart_put (first ∷ made) head apart new =
    (all_put (Differ first) made head apart.0 new.0, apart_put made head apart.1 new.1)

names_of : List (Atom Known) → List Name
names_of made = map (λ (head : Atom Known). head.relation) made

-- a name that isn't among those of some heads is another than each of theirs
others_differ : (made : List (Atom Known)) (head : Atom Known) → is_among (names_of made) head.relation ≡ false
    → AllByRecursion (λ other. Differ other head) made
unfolding names_of
others_differ [] head new = tt
others_differ (first ∷ made) head new =
    let parts = neither (same_name first.relation head.relation) (is_among (names_of made) head.relation) new in (
      λ same. clash (same_name first.relation head.relation)
          (subst (λ name. same_name first.relation name ≡ true) same (name_itself first.relation)) parts.0,
      others_differ made head parts.1,
    )

heads_apart : (terms : List (Term Known)) (relations : List Identifier) (made out : List (Atom Known))
    → AreApart made → heads_from terms (names_of made) made relations ≡ Ok out → AreApart out
unfolding names_of
heads_apart terms [] made out apart e = subst AreApart (one_answer made out e) apart
heads_apart terms (relation ∷ more) made out apart e =
    let head : Atom Known = record { relation = relation.name; terms = terms } in
    let kept = demand_given (not (is_among (names_of made) relation.name)) (Repeated relation.place) _ out e in
    heads_apart terms more (made ++ head ∷ []) out
    (apart_put made head apart (others_differ made head (turned (is_among (names_of made) relation.name) kept.0)))
    (subst (λ (names : List Name). heads_from terms names (made ++ head ∷ []) more ≡ Ok out)
    (sym (map-append (λ (head : Atom Known). head.relation) made (head ∷ []))) kept.1)

-- ---- statements

entangled_apart : OfResolved (λ entangled. AreApart entangled.heads)
unfolding entangled_in names_of
entangled_apart tables bound tree form e =
    let body = found_of (memberships_from tables bound (variables_of tree) [] none_bound tree.conditions) _ form e in
    let offer = found_of (offer_from (variables_of tree) body.0.1 bound no_offer tree.items) _ form body.2 in
    let heads = found_of (heads_from offer.0.terms [] [] tree.relations) _ form offer.2 in
    let others = found_of (others_from (variables_of tree) body.0.1 bound [] [] tree.conditions) _ form heads.2 in
    let made = ap (λ (both : Entangled Known × Bound). both.0.heads) (one_answer _ form others.2) in
    subst AreApart made (heads_apart offer.0.terms tree.relations [] heads.0 tt heads.1)

-- ---- closed

module _ (environment : Environment) where
  abbrev over : Atom Known → Atom Value
  over = atom_over (known_worth environment)

  differs_at : (head : Atom Known) (more : List (Atom Known)) → AllByRecursion (Differ head) more → (j : ℕ)
      (d : Atom Value) → j < length (map over more)
      → head.relation ≢ (slice_index_or (map over more) j d).relation
  differs_at head [] all j d low = absurd (omega (arith, low))
  differs_at head (first ∷ more) all zero d low = all.0
  differs_at head (first ∷ more) all (suc j) d low = differs_at head more all.1 j d (omega (arith, low))

  differ_at : (heads : List (Atom Known)) → AreApart heads → (i j : ℕ) (d : Atom Value) → i < j
      → j < length (map over heads)
      → (slice_index_or (map over heads) i d).relation ≢ (slice_index_or (map over heads) j d).relation
  differ_at [] apart i j d less low = absurd (omega (arith, low))
  differ_at (head ∷ more) apart zero zero d less low = absurd (omega (arith, less))
  differ_at (head ∷ more) apart zero (suc j) d less low = differs_at head more apart.0 j d (omega (arith, low))
  differ_at (head ∷ more) apart (suc i) zero d less low = absurd (omega (arith, less))
  differ_at (head ∷ more) apart (suc i) (suc j) d less low =
      differ_at more apart.1 i j d (omega (arith, less)) (omega (arith, low))

pub distinct_closed : (tables : List TableSchema) (script : Script) (plain : Plain) (entangled : Entangled Known)
    → script_in tables script ≡ Ok plain → Contains plain.statements (statements.Entangled entangled)
    → (tx attempt place : ℕ) (environment : Environment)
    → HasDistinctHeads (record {
      tx = tx;
      attempt = attempt;
      place = place;
      statement = closed_entangled environment entangled;
    })
distinct_closed tables script plain entangled e there tx attempt place environment =
    differ_at environment entangled.heads
    (script_each (λ entangled. AreApart entangled.heads) entangled_apart tables script plain entangled e there)
