-- What `joining` gives is joined, and nothing else is, but for the labels of groups.
use Rattle.std.proofs.Common.{◌≡◌, ◌⊎◌, inl, inr, ℕ, ◌==◌, Bool, true, false, cond, if◌then◌else◌, List, [], ◌∷◌}
use Rattle.std.proofs.Common.{◌++◌, map, refl, sym, ap, subst, ◌∙◌, Some, Contains, zip}
use Rattle.std.specs.List.{AllZip, filter, list_any}
use Rattle.ent_protocol_laws.proofs.JoinedLabels.{label_same}
use Rattle.ent_semantics.specs.Entangled.{Valuation}
use Rattle.ent_semantics.specs.Pool.{Posted}
use Rattle.ent_protocol.specs.Member.{is_tx}
use Rattle.ent_protocol.specs.PoolEvents.{answered_by, answered_among, answered_groups, joined_label}
use Rattle.ent_protocol.specs.PoolEvents.{in_joined_group, joining}
use Rattle.ent_protocol.specs.State.{State, Member, members}
use Rattle.ent_lists.specs.Elements.{In, of_filter, to_filter, of_map, to_map, in_contains}
use Rattle.ent_lists.specs.Elements.{contains_in, any_some, any_in, any_none, clash, same_number, number_itself}
use Rattle.ent_lists.specs.Elements.{not_so}
use Rattle.ent_examples.specs.Joining.{own_pair, IsAsBefore, BecomesBy, Passage, before_and_after}
use Rattle.ent_examples.specs.Joining.{IsOfAsked, WereTogether, IsJoined}

-- ---- labels

all_labelled : (first : ℕ) (more : List ℕ) (group : ℕ) → In group (first ∷ more)
    → joined_label (first ∷ more) group ≡ first
all_labelled first more group at =
    ap (λ b. if b then first else group)
    (any_in (λ joined. joined == group) (first ∷ more) group at (number_itself group))

keeps_label : (groups : List ℕ) (group : ℕ) → (In group groups → ⊥) → joined_label groups group ≡ group
keeps_label [] group out = refl
keeps_label (first ∷ more) group out =
    ap (λ b. if b then first else group)
    (not_so (list_any (λ joined. joined == group) (first ∷ more)) (λ is.
    let r = any_some (λ joined. joined == group) (first ∷ more) is in
    out (subst (λ n. In n (first ∷ more)) (same_number r.0 group r.2) r.1)))

-- a label is one of the groups that are joined, or none of them
labelled : (groups : List ℕ) (group : ℕ) → In group groups ⊎ (In group groups → ⊥)
labelled groups group = by (list_any (λ joined. joined == group) groups) refl
  where
    by : (b : Bool) → list_any (λ joined. joined == group) groups ≡ b → In group groups ⊎ (In group groups → ⊥)
    by true is =
        let r = any_some (λ joined. joined == group) groups is in
        inl (subst (λ n. In n groups) (same_number r.0 group r.2) r.1)
    by false is =
        inr (λ at. clash (group == group) (number_itself group)
        (any_none (λ joined. joined == group) groups is group at))

in_and_out : (groups : List ℕ) (one other : ℕ) → In one groups → (In other groups → ⊥)
    → joined_label groups one ≡ joined_label groups other → ⊥
in_and_out [] one other at out same = at
in_and_out (first ∷ more) one other at out same =
    out (inl (sym (keeps_label (first ∷ more) other out) ∙ sym same ∙ all_labelled first more one at))

labels_part : (groups : List ℕ) (one other : ℕ) → joined_label groups one ≡ joined_label groups other
    → (one ≡ other) ⊎ (In one groups × In other groups)
labels_part groups one other same =
    by (labelled groups one) (labelled groups other)
  where
    by : In one groups ⊎ (In one groups → ⊥) → In other groups ⊎ (In other groups → ⊥)
        → (one ≡ other) ⊎ (In one groups × In other groups)
    by (inl at) (inl bt) = inr (at, bt)
    by (inl at) (inr out) = absurd (in_and_out groups one other at out same)
    by (inr out) (inl bt) = absurd (in_and_out groups other one bt out (sym same))
    by (inr out) (inr off) = inl (sym (keeps_label groups one out) ∙ same ∙ keeps_label groups other off)

labels_meet : (groups : List ℕ) (one other : ℕ) → (one ≡ other) ⊎ (In one groups × In other groups)
    → joined_label groups one ≡ joined_label groups other
labels_meet groups one other (inl same) = ap (joined_label groups) same
labels_meet groups one other (inr h) = label_same groups one other h.0 h.1

-- ---- groups of those that are answered

module _ (s : State) (asked : List Posted) where
  abbrev group_of : Member → ℕ
  group_of member = member.group

  abbrev is_asked : Member → Bool
  is_asked member = list_any (λ query. is_tx query.tx member) asked

  from_groups : (member : Member) → In member.group (answered_groups s asked) → IsOfAsked s asked member
  from_groups member at =
      let owner = of_map group_of (filter is_asked (members s)) member.group at in
      let there = of_filter is_asked (members s) owner.0 owner.1 in
      let query = any_some (λ query. is_tx query.tx owner.0) asked there.1 in
      record {
        query = query.0;
        is_asked = in_contains asked query.0 query.1;
        owner = owner.0;
        is_member = in_contains (members s) owner.0 there.0;
        owns = same_number owner.0.tx query.0.tx query.2;
        group = sym owner.2;
      }

  to_groups : (member : Member) → IsOfAsked s asked member → In member.group (answered_groups s asked)
  to_groups member h =
      subst (λ n. In n (answered_groups s asked)) h.group
      (to_map group_of (filter is_asked (members s)) h.owner
      (to_filter is_asked (members s) h.owner (contains_in (members s) h.owner h.is_member)
      (any_in (λ query. is_tx query.tx h.owner) asked h.query (contains_in asked h.query h.is_asked)
      (ap (λ n. n == h.query.tx) h.owns ∙ number_itself h.query.tx))))

  from_together : (one other : Member)
      → (one.group ≡ other.group)
      ⊎ (In one.group (answered_groups s asked) × In other.group (answered_groups s asked))
      → WereTogether s asked one other
  from_together one other (inl same) = inl same
  from_together one other (inr h) = inr (from_groups one h.0, from_groups other h.1)

  to_together : (one other : Member) → WereTogether s asked one other
      → (one.group ≡ other.group)
      ⊎ (In one.group (answered_groups s asked) × In other.group (answered_groups s asked))
  to_together one other (inl same) = inl same
  to_together one other (inr h) = inr (to_groups one h.0, to_groups other h.1)

-- ---- members

answered_keeps_group : (asked : List Posted) (groundings : List Valuation) (member : Member)
    → (answered_among asked groundings member).group ≡ member.group
answered_keeps_group [] groundings member = refl
answered_keeps_group (query ∷ asked) [] member = refl
answered_keeps_group (query ∷ asked) (values ∷ more) member =
    by (is_tx query.tx member) (answered_keeps_group asked more member)
  where
    by : (b : Bool) → (answered_among asked more member).group ≡ member.group
        → (if b then answered_by query values member else answered_among asked more member).group ≡ member.group
    by true rest = refl
    by false rest = rest

becomes : (groups : List ℕ) (asked : List Posted) (groundings : List Valuation) (member : Member)
    → BecomesBy (own_pair asked groundings member) member
    (in_joined_group groups (answered_among asked groundings member))
becomes groups [] groundings member = refl
becomes groups (query ∷ asked) [] member = refl
becomes groups (query ∷ asked) (values ∷ more) member =
    by (is_tx query.tx member) (becomes groups asked more member)
  where
    by : (b : Bool)
        → BecomesBy (own_pair asked more member) member
        (in_joined_group groups (answered_among asked more member))
        → BecomesBy (cond b (Some (query, values)) (own_pair asked more member)) member
        (in_joined_group groups (if b then answered_by query values member else answered_among asked more member))
    by true rest = refl
    by false rest = rest

module _ {X Y : Type 0} (R : X → Y → Type 0) where
  zip_map : (f : X → Y) (xs : List X) → ((x : X) → R x (f x)) → AllZip R xs (map f xs)
  zip_map f [] h = tt
  zip_map f (x ∷ xs) h = (h x, zip_map f xs h)

  pub zip_joined : (xs us : List X) (ys vs : List Y) → AllZip R xs ys → AllZip R us vs → AllZip R (xs ++ us) (ys ++ vs)
  zip_joined [] us [] vs a b = b
  zip_joined [] us (y ∷ ys) vs a b = absurd a
  zip_joined (x ∷ xs) us [] vs a b = absurd a
  zip_joined (x ∷ xs) us (y ∷ ys) vs a b = (a.0, zip_joined xs us ys vs a.1 b)

  zip_pair : (xs : List X) (ys : List Y) → AllZip R xs ys → (pair : X × Y) → In pair (zip xs ys)
      → In pair.0 xs × R pair.0 pair.1
  zip_pair [] [] all pair at = absurd at
  zip_pair [] (y ∷ ys) all pair at = absurd all
  zip_pair (x ∷ xs) [] all pair at = absurd all
  zip_pair (x ∷ xs) (y ∷ ys) all pair (inl same) =
      (inl (ap (λ (p : X × Y). p.0) same), subst (λ (p : X × Y). R p.0 p.1) (sym same) all.0)
  zip_pair (x ∷ xs) (y ∷ ys) all pair (inr at) =
      let r = zip_pair xs ys all.1 pair at in (inr r.0, r.1)

pub zip_by : {X Y : Type 0} (R S : X → Y → Type 0) (xs : List X) (ys : List Y) → ((x : X) (y : Y) → R x y → S x y)
    → AllZip R xs ys → AllZip S xs ys
zip_by R S [] [] f all = tt
zip_by R S [] (y ∷ ys) f all = absurd all
zip_by R S (x ∷ xs) [] f all = absurd all
zip_by R S (x ∷ xs) (y ∷ ys) f all = (f x y all.0, zip_by R S xs ys f all.1)

-- ---- what joining gives

module _ (s : State) (asked : List Posted) (groundings : List Valuation) where
  abbrev groups : List ℕ
  groups = answered_groups s asked

  abbrev IsLabelled : Member → Member → Type 0
  IsLabelled member after = after.group ≡ joined_label groups member.group

  abbrev answer : Member → Member
  answer member = in_joined_group groups (answered_among asked groundings member)

  all_labels : AllZip IsLabelled (members s) (members (joining s asked groundings))
  all_labels =
      zip_joined IsLabelled s.prepared s.active (map (in_joined_group groups) s.prepared) (map answer s.active)
      (zip_map IsLabelled (in_joined_group groups) s.prepared (λ member. refl))
      (zip_map IsLabelled answer s.active (λ member.
      ap (joined_label groups) (answered_keeps_group asked groundings member)))

  label_of : (pair : Passage) → Contains (before_and_after s (joining s asked groundings)) pair
      → pair.1.group ≡ joined_label groups pair.0.group
  label_of pair at =
      (zip_pair IsLabelled (members s) (members (joining s asked groundings)) all_labels pair
      (contains_in (before_and_after s (joining s asked groundings)) pair at)).1

  pub joined : IsJoined s asked groundings (joining s asked groundings)
  joined =
      record {
        prepared = zip_map IsAsBefore (in_joined_group groups) s.prepared (λ member. refl);
        active = zip_map (λ member after. BecomesBy (own_pair asked groundings member) member after) answer s.active
            (λ member. becomes groups asked groundings member);
        groups = λ one other at bt. (
          λ same. from_together s asked one.0 other.0
              (labels_part groups one.0.group other.0.group (sym (label_of one at) ∙ same ∙ label_of other bt)),
          λ together. label_of one at
              ∙ labels_meet groups one.0.group other.0.group (to_together s asked one.0 other.0 together)
              ∙ sym (label_of other bt),
        );
        joints = refl;
        others = refl;
      }
