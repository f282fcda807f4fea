-- What was noted of earlier terms are the variables that are written there.
use Rattle.std.proofs.Common.{◌≡◌, Bool, true, false, List, [], ◌∷◌, ◌++◌, Option, Some, None, ◌⊎◌, inl, inr, refl}
use Rattle.std.proofs.Common.{sym, ap}
use Rattle.std.proofs.Common.{subst, ◌∙◌}
use Rattle.std.specs.Prelude.{◌↔◌, if◌then◌else◌}
use Rattle.std.specs.List.{Contains, flat_map}
use Rattle.std.proofs.lemmas.List.{append-nil, append_assoc}
use Rattle.ent_lists.proofs.Truth.{in_turn}
use Rattle.ent_tree.specs.declared.entangled.Condition.{Condition}
use Rattle.ent_tree.specs.declared.entangled.Condition.TheVariants as conditions
use Rattle.ent_tree.specs.declared.entangled.EntangledItem.{EntangledItem}
use Rattle.ent_tree.specs.declared.entangled.Term.{Term}
use Rattle.ent_tree.specs.declared.entangled.Term.TheVariants as terms
use Rattle.ent_tree.specs.declared.operand.Identifier.{Identifier}
use Rattle.ent_semantics.specs.Database.{Name, is_among}
use Rattle.ent_semantics.specs.Entangled.{term_variables}
use Rattle.ent_form.specs.declared.fault.FormFault.{FormFault}
use Rattle.ent_form.specs.Entangled.{noted, noted_terms, noted_items}
use Rattle.ent_form.specs.Kinds.{Bound}
use Rattle.ent_form.specs.EntangledFaults.{taking}
use Rattle.ent_form.specs.EntangledStanding.{IsTermFault, IsTermsFault, item_variables, item_hosts, IsOtherFault}
use Rattle.ent_form.specs.EntangledStanding.{other_variables}
use Rattle.ent_form.proofs.StandsWhere.{among}
use Rattle.ent_form.proofs.ResolvedMembership.{turned, alike, either, contains_cons, contains_append, cut_same}
use Rattle.ent_form.proofs.ResolvedMembership.{none_there}

-- lists of the same names
abbrev pub Alike : List Name → List Name → Type 0
Alike earlier plain = (name : Name) → Contains earlier name ↔ Contains plain name

pub same_by : {A : Type 0} (P : A → Type 0) {x y : A} → x ≡ y → P x ↔ P y
same_by P e = (subst P e, subst P (sym e))

behind_both : (earlier plain more : List Name) → Alike earlier plain → Alike (earlier ++ more) (plain ++ more)
behind_both earlier plain more same name =
    in_turn (contains_append earlier more name)
    (in_turn (either (same name) alike) (turned (contains_append plain more name)))

-- a name more that is there already
already : (names : List Name) (name other : Name) → is_among names name ≡ true
    → Contains names other ⊎ Contains (name ∷ []) other → Contains names other
already names name other there (inl h) = h
already names name other there (inr h) = one ((contains_cons name [] other).0 h)
  where
    one : (name ≡ other) ⊎ Contains [] other → Contains names other
    one (inl is) = subst (Contains names) is ((among names name).0 there)
    one (inr none) = absurd (none_there none)

pub term_noted : (earlier plain : List Name) (term : Term) → Alike earlier plain
    → Alike (noted earlier term) (plain ++ term_variables term)
term_noted earlier plain (terms.Value value) same name =
    in_turn (same name) (same_by (λ names. Contains names name) (sym (append-nil plain)))
term_noted earlier plain (terms.Variable variable) same name =
    in_turn (by (is_among earlier variable.name) refl) (behind_both earlier plain (variable.name ∷ []) same name)
  where
    by : (b : Bool) → is_among earlier variable.name ≡ b
        → Contains (if b then earlier else (earlier ++ variable.name ∷ [])) name
        ↔ Contains (earlier ++ variable.name ∷ []) name
    by true there =
        in_turn (inl, already earlier variable.name name there)
        (turned (contains_append earlier (variable.name ∷ []) name))
    by false new = alike

pub terms_noted : (all : List Term) (earlier plain : List Name) → Alike earlier plain
    → Alike (noted_terms earlier all) (plain ++ flat_map term_variables all)
terms_noted [] earlier plain same name =
    in_turn (same name) (same_by (λ names. Contains names name) (sym (append-nil plain)))
terms_noted (term ∷ more) earlier plain same name =
    in_turn (terms_noted more (noted earlier term) (plain ++ term_variables term) (term_noted earlier plain term same)
    name)
    (same_by (λ names. Contains names name)
    (append_assoc plain (term_variables term) (flat_map term_variables more)))

pub items_noted : (all : List EntangledItem) (earlier plain : List Name) → Alike earlier plain
    → Alike (noted_items earlier all) (plain ++ flat_map item_variables all)
items_noted [] earlier plain same name =
    in_turn (same name) (same_by (λ names. Contains names name) (sym (append-nil plain)))
items_noted (item ∷ more) earlier plain same name =
    in_turn (items_noted more (noted earlier item.term) (plain ++ item_variables item)
    (term_noted earlier plain item.term same) name)
    (same_by (λ names. Contains names name)
    (append_assoc plain (item_variables item) (flat_map item_variables more)))

-- the variables of postconditions and tests, noted behind these
abbrev pub noted_others : List Name → List Condition → List Name
noted_others earlier [] = earlier
noted_others earlier (conditions.InSelect tuple select ∷ more) = noted_others earlier more
noted_others earlier (conditions.InAnswer tuple relation ∷ more) = noted_others (noted_terms earlier tuple.terms) more
noted_others earlier (conditions.Test test ∷ more) = noted_others (noted (noted earlier test.left) test.right) more

pub others_noted : (all : List Condition) (earlier plain : List Name) → Alike earlier plain
    → Alike (noted_others earlier all) (plain ++ flat_map other_variables all)
others_noted [] earlier plain same name =
    in_turn (same name) (same_by (λ names. Contains names name) (sym (append-nil plain)))
others_noted (conditions.InSelect tuple select ∷ more) earlier plain same name =
    others_noted more earlier plain same name
others_noted (conditions.InAnswer tuple relation ∷ more) earlier plain same name =
    let here = flat_map term_variables tuple.terms in
    in_turn (others_noted more (noted_terms earlier tuple.terms) (plain ++ here)
    (terms_noted tuple.terms earlier plain same) name)
    (same_by (λ names. Contains names name) (append_assoc plain here (flat_map other_variables more)))
others_noted (conditions.Test test ∷ more) earlier plain same name =
    let left = term_variables test.left in
    let right = term_variables test.right in
    in_turn (others_noted more (noted (noted earlier test.left) test.right) ((plain ++ left) ++ right)
    (term_noted (noted earlier test.left) (plain ++ left) test.right (term_noted earlier plain test.left same)) name)
    (same_by (λ names. Contains names name)
    (ap (λ names. names ++ flat_map other_variables more) (append_assoc plain left right)
    ∙ append_assoc plain (left ++ right) (flat_map other_variables more)))

-- ---- host variables that are bound

-- those that items bind, behind these
abbrev pub taking_all : List Name → List EntangledItem → List Name
taking_all taken [] = taken
taking_all taken (item ∷ more) = taking_all (taking taken item.binds) more

one_taken : (taken : List Name) (item : EntangledItem) → taking taken item.binds ≡ taken ++ item_hosts item
one_taken taken item =
    elim item.binds as (λ binds. taking taken binds ≡ taken ++ item_hosts (record item { binds = binds })) [
      | None ↦ sym (append-nil taken)
      | Some variable ↦ refl
    ]

pub all_taken : (all : List EntangledItem) (taken : List Name)
    → taking_all taken all ≡ taken ++ flat_map item_hosts all
all_taken [] taken = sym (append-nil taken)
all_taken (item ∷ more) taken =
    all_taken more (taking taken item.binds)
    ∙ ap (λ names. names ++ flat_map item_hosts more) (one_taken taken item)
    ∙ append_assoc taken (item_hosts item) (flat_map item_hosts more)

-- ---- faults behind the same names

beside : {A B P Q : Type 0} → A ↔ B → P ↔ Q → (A × P) ↔ (B × Q)
beside f g = (λ h. (f.0 h.0, g.0 h.1), λ h. (f.1 h.0, g.1 h.1))

unlike : {P Q : Type 0} → P ↔ Q → (¬ P) ↔ (¬ Q)
unlike f = (λ h q. h (f.1 q), λ h p. h (f.0 p))

module _ (body : List Name) (bound : Bound) (fault : FormFault) where
  pub term_alike : (earlier plain : List Name) (term : Term) → Alike earlier plain
      → IsTermFault body bound earlier term fault ↔ IsTermFault body bound plain term fault
  term_alike earlier plain (terms.Value value) same = alike
  term_alike earlier plain (terms.Variable variable) same =
      beside (beside alike (unlike (same variable.name))) alike

  terms_alike : (earlier plain : List Name) (all : List Term) → Alike earlier plain
      → IsTermsFault body bound earlier all fault ↔ IsTermsFault body bound plain all fault
  terms_alike earlier plain all same =
      cut_same (λ before term. IsTermFault body bound (earlier ++ flat_map term_variables before) term fault)
      (λ before term. IsTermFault body bound (plain ++ flat_map term_variables before) term fault)
      (λ before term. term_alike (earlier ++ flat_map term_variables before) (plain ++ flat_map term_variables before)
      term (behind_both earlier plain (flat_map term_variables before) same)) all

pub other_alike : (body : List Name) (demanded bound : Bound) (fault : FormFault) (earlier plain : List Name)
    (condition : Condition) → Alike earlier plain
    → IsOtherFault body demanded bound earlier condition fault ↔ IsOtherFault body demanded bound plain condition fault
other_alike body demanded bound fault earlier plain (conditions.InSelect tuple select) same = alike
other_alike body demanded bound fault earlier plain (conditions.InAnswer tuple relation) same =
    terms_alike body bound fault earlier plain tuple.terms same
other_alike body demanded bound fault earlier plain (conditions.Test test) same =
    let left = term_variables test.left in
    either (term_alike body bound fault earlier plain test.left same)
    (either (term_alike body bound fault (earlier ++ left) (plain ++ left) test.right
    (behind_both earlier plain left same)) alike)
