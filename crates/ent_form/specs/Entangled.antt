-- An entangled statement resolved: the form, or the first fault. First come all IN (SELECT ..) conditions from left to
-- right, then all else in the order of the text: items, answer relations, postconditions and tests.
use Rattle.std.specs.Prelude.{not, List, [], ◌∷◌, ◌++◌, map, length, Option, Some, None, Result, Ok, unwrap_or}
use Rattle.std.specs.Prelude.{if◌then◌else◌, ◌==◌}
use Rattle.ent_value.specs.Refusal.{◌>>=◌}
use Rattle.ent_value.specs.declared.value.Kind.{Kind}
use Rattle.ent_value.specs.declared.value.Kind.TheVariants as kinds
use Rattle.ent_value.specs.Kinds.{same_kind}
use Rattle.ent_tree.specs.declared.entangled.Condition.{Condition}
use Rattle.ent_tree.specs.declared.entangled.Condition.TheVariants as conditions
use Rattle.ent_tree.specs.declared.entangled.Entangled.{Entangled as TreeEntangled}
use Rattle.ent_tree.specs.declared.entangled.EntangledItem.{EntangledItem}
use Rattle.ent_tree.specs.declared.entangled.Term.{Term as TreeTerm}
use Rattle.ent_tree.specs.declared.entangled.Term.TheVariants as terms
use Rattle.ent_tree.specs.declared.entangled.Tuple.{Tuple}
use Rattle.ent_tree.specs.declared.operand.Identifier.{Identifier}
use Rattle.ent_tree.specs.declared.operand.Test.{Test}
use Rattle.ent_tree.specs.declared.select.Select.{Select as TreeSelect}
use Rattle.ent_tree.specs.Places.{term_place}
use Rattle.ent_semantics.specs.Database.{Name, is_among, index_of}
use Rattle.ent_semantics.specs.declared.entangled.Atom.{Atom}
use Rattle.ent_semantics.specs.declared.entangled.Binding.{Binding as Bind}
use Rattle.ent_semantics.specs.declared.entangled.Entangled.{Entangled}
use Rattle.ent_semantics.specs.declared.entangled.Membership.{Membership}
use Rattle.ent_semantics.specs.declared.entangled.Term.{Term}
use Rattle.ent_semantics.specs.declared.entangled.Term.TheVariants as resolved
use Rattle.ent_semantics.specs.declared.operand.Known.{Known}
use Rattle.ent_form.specs.declared.binding.KindBinding.{KindBinding}
use Rattle.ent_form.specs.declared.catalogue.TableSchema.{TableSchema}
use Rattle.ent_form.specs.declared.fault.FormFault.{FormFault}
use Rattle.ent_form.specs.declared.fault.FormFault.TheVariants.{Arity, WrongKind, Unbound, Repeated}
use Rattle.ent_form.specs.Bindings.{bound_from}
use Rattle.ent_form.specs.Kinds.{Bound, none_bound, with_kind}
use Rattle.ent_form.specs.Lookup.{Lookup, value_in, values_in, kind_in, test_in}
use Rattle.ent_form.specs.Ordinary.{select_in}
use Rattle.ent_form.specs.Steps.{there, demand}

-- ---- written variables

-- the written variables of what was read, each where it came first, and those of one term more
abbrev pub noted : List Name → TreeTerm → List Name
noted names (terms.Value value) = names
noted names (terms.Variable variable) =
    if is_among names variable.name then names else (names ++ variable.name ∷ [])

abbrev pub noted_terms : List Name → List TreeTerm → List Name
noted_terms names [] = names
noted_terms names (term ∷ more) = noted_terms (noted names term) more

abbrev pub noted_items : List Name → List EntangledItem → List Name
noted_items names [] = names
noted_items names (item ∷ more) = noted_items (noted names item.term) more

abbrev pub noted_condition : List Name → Condition → List Name
noted_condition names (conditions.InSelect tuple select) = noted_terms names tuple.terms
noted_condition names (conditions.InAnswer tuple relation) = noted_terms names tuple.terms
noted_condition names (conditions.Test test) = noted (noted names test.left) test.right

abbrev pub noted_conditions : List Name → List Condition → List Name
noted_conditions names [] = names
noted_conditions names (condition ∷ more) = noted_conditions (noted_condition names condition) more

-- the written variables of a statement, in order of their first appearance: the select list comes first
abbrev pub variables_of : TreeEntangled → List Name
variables_of entangled = noted_conditions (noted_items [] entangled.items) entangled.conditions

-- ---- IN (SELECT ..)

-- A term of a tuple that is to be a row of a sub-select, the item there being of this kind: a value has it, and a
-- variable is demanded in it. Where it was demanded before, it was in the same kind.
abbrev pub demanded_in : List Name → Bound → Identifier → Kind → Option Kind → Result (Term Known × Bound) FormFault
demanded_in names demanded variable kind None =
    Ok (resolved.Variable (index_of names variable.name), with_kind demanded variable.name kind)
demanded_in names demanded variable kind (Some earlier) =
    demand (same_kind earlier kind) (WrongKind variable.place)
    (Ok (resolved.Variable (index_of names variable.name), demanded))

abbrev pub member_in : List Name → Bound → Bound → Kind → TreeTerm → Result (Term Known × Bound) FormFault
member_in names bound demanded kind (terms.Value value) =
    kind_in (values_in bound) kind value >>= λ known. Ok (resolved.Known known, demanded)
member_in names bound demanded kind (terms.Variable variable) =
    demanded_in names demanded variable kind (demanded variable.name)

-- terms and kinds side by side, behind the terms before
abbrev pub members_from : List Name → Bound → List (Term Known) → Bound → List Kind → List TreeTerm
    → Result (List (Term Known) × Bound) FormFault
members_from names bound made demanded [] terms = Ok (made, demanded)
members_from names bound made demanded (kind ∷ kinds) [] = Ok (made, demanded)
members_from names bound made demanded (kind ∷ kinds) (term ∷ more) =
    member_in names bound demanded kind term >>= λ found.
    members_from names bound (made ++ found.0 ∷ []) found.1 kinds more

-- the sub-select, then the number of its items, then the terms
unfoldable pub membership_in : List TableSchema → Bound → List Name → Bound → Tuple → TreeSelect
    → Result (Membership Known × Bound) FormFault
membership_in tables bound names demanded tuple select =
    select_in tables bound select >>= λ found.
    demand (length tuple.terms == length found.1) (Arity tuple.place)
    (members_from names bound [] demanded found.1 tuple.terms >>= λ members.
    Ok (record { terms = members.0; select = found.0 }, members.1))

-- what the conditions demand, behind what those before did
abbrev pub memberships_from : List TableSchema → Bound → List Name → List (Membership Known) → Bound → List Condition
    → Result (List (Membership Known) × Bound) FormFault
memberships_from tables bound names made demanded [] = Ok (made, demanded)
memberships_from tables bound names made demanded (conditions.InSelect tuple select ∷ more) =
    membership_in tables bound names demanded tuple select >>= λ found.
    memberships_from tables bound names (made ++ found.0 ∷ []) found.1 more
memberships_from tables bound names made demanded (conditions.InAnswer tuple relation ∷ more) =
    memberships_from tables bound names made demanded more
memberships_from tables bound names made demanded (conditions.Test test ∷ more) =
    memberships_from tables bound names made demanded more

-- ---- all other terms

-- a value, or a written variable that is demanded in some column
abbrev pub term_in : List Name → Bound → Bound → TreeTerm → Result (Term Known × Kind) FormFault
term_in names demanded bound (terms.Value value) =
    value_in bound value >>= λ value. Ok (resolved.Known value.0, value.1)
term_in names demanded bound (terms.Variable variable) =
    there (demanded variable.name) (Unbound variable.place) >>= λ kind.
    Ok (resolved.Variable (index_of names variable.name), kind)

abbrev pub terms_in : List Name → Bound → Bound → Lookup TreeTerm (Term Known)
terms_in names demanded bound = record { find = term_in names demanded bound; place = term_place }

-- the select list: its terms, what is bound to them after the answer, and the kinds of what is bound
pub record Offer : Type 0 where
  pub terms : List (Term Known)
  pub binds : List (Bind Known)
  pub bound : List KindBinding

abbrev pub no_offer : Offer
no_offer = record { terms = []; binds = []; bound = [] }

abbrev pub with_term : Offer → Term Known → Offer
with_term offer term = record { terms = offer.terms ++ term ∷ []; binds = offer.binds; bound = offer.bound }

abbrev pub with_bind : Offer → Name → (Term Known × Kind) → Offer
with_bind offer variable found =
    record {
      terms = offer.terms ++ found.0 ∷ [];
      binds = offer.binds ++ record { variable = variable; term = found.0 } ∷ [];
      bound = offer.bound ++ record { name = variable; kind = found.1 } ∷ [];
    }

-- a host variable is bound once
abbrev pub bind_in : Offer → Option Identifier → (Term Known × Kind) → Result Offer FormFault
bind_in offer None found = Ok (with_term offer found.0)
bind_in offer (Some variable) found =
    demand (not (is_among (map (λ binding. binding.name) offer.bound) variable.name)) (Repeated variable.place)
    (Ok (with_bind offer variable.name found))

unfoldable pub item_in : List Name → Bound → Bound → Offer → EntangledItem → Result Offer FormFault
item_in names demanded bound offer item =
    term_in names demanded bound item.term >>= λ found. bind_in offer item.binds found

abbrev pub offer_from : List Name → Bound → Bound → Offer → List EntangledItem → Result Offer FormFault
offer_from names demanded bound offer [] = Ok offer
offer_from names demanded bound offer (item ∷ more) =
    item_in names demanded bound offer item >>= λ offer. offer_from names demanded bound offer more

-- an answer relation is named once; each gets the select list's tuple
abbrev pub heads_from : List (Term Known) → List Name → List (Atom Known) → List Identifier
    → Result (List (Atom Known)) FormFault
heads_from terms earlier made [] = Ok made
heads_from terms earlier made (relation ∷ more) =
    demand (not (is_among earlier relation.name)) (Repeated relation.place)
    (heads_from terms (earlier ++ relation.name ∷ []) (made ++ record { relation = relation.name; terms = terms } ∷ [])
    more)

-- the terms of a postcondition, behind those before
abbrev pub atom_from : List Name → Bound → Bound → List (Term Known) → List TreeTerm
    → Result (List (Term Known)) FormFault
atom_from names demanded bound made [] = Ok made
atom_from names demanded bound made (term ∷ more) =
    term_in names demanded bound term >>= λ found. atom_from names demanded bound (made ++ found.0 ∷ []) more

unfoldable pub post_in : List Name → Bound → Bound → Tuple → Identifier → Result (Atom Known) FormFault
post_in names demanded bound tuple relation =
    atom_from names demanded bound [] tuple.terms >>= λ terms.
    Ok (record { relation = relation.name; terms = terms })

-- postconditions and tests, behind those before
abbrev pub others_from : List Name → Bound → Bound → List (Atom Known) → List (Test (Term Known)) → List Condition
    → Result (List (Atom Known) × List (Test (Term Known))) FormFault
others_from names demanded bound posts tests [] = Ok (posts, tests)
others_from names demanded bound posts tests (conditions.InSelect tuple select ∷ more) =
    others_from names demanded bound posts tests more
others_from names demanded bound posts tests (conditions.InAnswer tuple relation ∷ more) =
    post_in names demanded bound tuple relation >>= λ post.
    others_from names demanded bound (posts ++ post ∷ []) tests more
others_from names demanded bound posts tests (conditions.Test test ∷ more) =
    test_in (terms_in names demanded bound) test >>= λ form.
    others_from names demanded bound posts (tests ++ form ∷ []) more

-- ---- the statement

-- the kinds that variables are demanded in; one that is in none has a fault, and any kind will do
abbrev pub kinds_of : Bound → List Name → List Kind
kinds_of demanded names = map (λ name. unwrap_or (demanded name) kinds.Int) names

-- the form, and what is bound after it; inside the statement host variables have their earlier kinds
unfoldable pub entangled_in : List TableSchema → Bound → TreeEntangled → Result (Entangled Known × Bound) FormFault
entangled_in tables bound entangled =
    let names = variables_of entangled in
    memberships_from tables bound names [] none_bound entangled.conditions >>= λ body.
    offer_from names body.1 bound no_offer entangled.items >>= λ offer.
    heads_from offer.terms [] [] entangled.relations >>= λ heads.
    others_from names body.1 bound [] [] entangled.conditions >>= λ others.
    Ok (
      record {
        variables = kinds_of body.1 names;
        posts = others.0;
        heads = heads;
        atoms = body.0;
        tests = others.1;
        binds = offer.binds;
      },
      bound_from bound offer.bound,
    )
