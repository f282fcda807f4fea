-- Groups that become one.
use Rattle.std.proofs.Common.{◌≡◌, ℕ, zero, suc, Bool, true, false, ◌==◌, ◌||◌, if◌then◌else◌, List, [], ◌∷◌, ◌++◌, map}
use Rattle.std.proofs.Common.{◌+◌, ◌<◌, length, take, get_or, refl, sym, ap, subst, ◌∙◌, arith, true≢false}
use Rattle.std.specs.Prelude.{Contains, filter, Option, Some, None, IsSome}
use Rattle.std.specs.List.{AllByRecursion, cons_option, filter_map, list_any}
use Rattle.std.specs.Option.{option_map}
use Rattle.std.proofs.lemmas.List.{map-append, take_more}
use Rattle.std.proofs.lemmas.List.Elements.{filter-append, filter_map-append}
use Rattle.std.proofs.lemmas.List.Folds.{list_any-append}
use Rattle.std.proofs.lemmas.Option.{same_Some}
use Rattle.ent_group.specs.declared.groups.Membership.{Membership}
use Rattle.ent_group.specs.Groups.{Relabels, group_of, moved_label}
use Rattle.ent_lists.specs.Elements.{number_itself, same_number}
use Rattle.ent_lists.proofs.Options.{some_value}
use Rattle.ent_protocol.specs.PoolEvents.{in_joined_group, joined_label}
use Rattle.ent_protocol.specs.State.{Member}
use Rattle.ent_run.specs.Grouped.{AreGrouped, IsLabelled}
use Rattle.ent_run.specs.Joined.{is_one_of, labels_in}
use Rattle.ent_members.specs.Order.{tx_of}
use Rattle.ent_run.proofs.Grouped.{label_of, none_is_some}
use Rattle.ent_run.proofs.Lists.{contains_first, contains_later, into_map, out_of_map}
use Rattle.ent_run.proofs.OneMember.{eq_turned}

-- ---- labels that are joined

joined_if : (first : ℕ) (more : List ℕ) (group : ℕ) (b : Bool) → list_any (λ joined. joined == group) (first ∷ more) ≡ b
    → joined_label (first ∷ more) group ≡ (if b then first else group)
joined_if first more group b is = ap (λ t. if t then first else group) is

pub first_joined : (first : ℕ) (more : List ℕ) → joined_label (first ∷ more) first ≡ first
first_joined first more =
    joined_if first more first true (ap (λ b. b || list_any (λ joined. joined == first) more) (number_itself first))

pub one_joined : (first group : ℕ) → joined_label (first ∷ []) group ≡ group
one_joined first group = by_test (first == group) refl
  where
    by_test : (b : Bool) → (first == group) ≡ b → joined_label (first ∷ []) group ≡ group
    by_test true same = joined_if first [] group true (ap (λ b. b || false) same) ∙ same_number first group same
    by_test false same = joined_if first [] group false (ap (λ b. b || false) same)

-- of two labels, where the one is among some and the other isn't
apart_among : (labels : List ℕ) (a b : ℕ) → list_any (λ joined. joined == a) labels ≡ true
    → list_any (λ joined. joined == b) labels ≡ false → (a == b) ≡ false
apart_among labels a b there also = by_test (a == b) refl
  where
    by_test : (t : Bool) → (a == b) ≡ t → (a == b) ≡ false
    by_test true same =
        absurd (true≢false (sym there
        ∙ ap (λ n. list_any (λ joined. joined == n) labels) (same_number a b same) ∙ also))
    by_test false same = same

-- one more group joins those of the labels
pub joined_more : (first : ℕ) (more : List ℕ) (label group : ℕ)
    → moved_label (joined_label (first ∷ more) label) first (joined_label (first ∷ more) group)
    ≡ joined_label ((first ∷ more) ++ label ∷ []) group
joined_more first more label group =
    by_test (list_any (λ joined. joined == group) (first ∷ more)) (list_any (λ joined. joined == label) (first ∷ more))
    refl refl
  where
    among : ℕ → Bool
    among n = list_any (λ joined. joined == n) (first ∷ more)

    whole : (b : Bool) → among group ≡ b
        → joined_label ((first ∷ more) ++ label ∷ []) group
        ≡ (if b || ((label == group) || false) then first else group)
    whole b is =
        joined_if first (more ++ label ∷ []) group (b || ((label == group) || false))
        (list_any-append (λ joined. joined == group) (first ∷ more) (label ∷ [])
        ∙ ap (λ t. t || ((label == group) || false)) is)

    moved : (a b : Bool) → among group ≡ a → among label ≡ b
        → moved_label (joined_label (first ∷ more) label) first (joined_label (first ∷ more) group)
        ≡ moved_label (if b then first else label) first (if a then first else group)
    moved a b is also =
        (λ i. moved_label (joined_if first more label b also i) first (joined_if first more group a is i))

    moved_first : (gone : ℕ) (t : Bool) → (first == gone) ≡ t → moved_label gone first first ≡ first
    moved_first gone true same = ap (λ t. if t then first else first) same
    moved_first gone false same = ap (λ t. if t then first else first) same

    moved_if : (gone : ℕ) (t : Bool) → (group == gone) ≡ t → moved_label gone first group ≡ (if t then first else group)
    moved_if gone t same = ap (λ b. if b then first else group) same

    whole_if : (t : Bool) → (label == group) ≡ t → (if (label == group) || false then first else group)
        ≡ (if t then first else group)
    whole_if t same = ap (λ b. if b || false then first else group) same ∙ or_false t
      where
        or_false : (b : Bool) → (if b || false then first else group) ≡ (if b then first else group)
        or_false true = refl
        or_false false = refl

    first_is_among : among first ≡ true
    first_is_among = ap (λ b. b || list_any (λ joined. joined == first) more) (number_itself first)

    by_test : (a b : Bool) → among group ≡ a → among label ≡ b
        → moved_label (joined_label (first ∷ more) label) first (joined_label (first ∷ more) group)
        ≡ joined_label ((first ∷ more) ++ label ∷ []) group
    by_test true b is also =
        moved true b is also ∙ moved_first (if b then first else label) (first == (if b then first else label)) refl
        ∙ sym (whole true is)
    by_test false true is also =
        moved false true is also
        ∙ moved_if first false (eq_turned group first ∙ apart_among (first ∷ more) first group first_is_among is)
        ∙ sym (whole false is ∙ whole_if false (apart_among (first ∷ more) label group also is))
    by_test false false is also =
        moved false false is also ∙ moved_if label (label == group) (eq_turned group label)
        ∙ sym (whole false is ∙ whole_if (label == group) refl)

-- ---- members of these numbers

abbrev pub numbers_among : List ℕ → List Member → List ℕ
numbers_among numbers members = map tx_of (filter (is_one_of numbers) members)

pub numbers_among-append : (numbers : List ℕ) (xs ys : List Member)
    → numbers_among numbers (xs ++ ys) ≡ numbers_among numbers xs ++ numbers_among numbers ys
numbers_among-append numbers xs ys =
    ap (map tx_of) (filter-append (is_one_of numbers) xs ys)
    ∙ map-append tx_of (filter (is_one_of numbers) xs) (filter (is_one_of numbers) ys)

-- gathered from one list and from another
pub numbers_gathered : (numbers none first both : List ℕ) (xs ys : List Member) → none ≡ []
    → first ≡ none ++ numbers_among numbers xs → both ≡ first ++ numbers_among numbers ys
    → both ≡ numbers_among numbers (xs ++ ys)
numbers_gathered numbers none first both xs ys is more all =
    all ∙ ap (λ ns. ns ++ numbers_among numbers ys) (more ∙ ap (λ ns. ns ++ numbers_among numbers xs) is)
    ∙ sym (numbers_among-append numbers xs ys)

number_if : (member : Member) (b : Bool)
    → map tx_of (if b then member ∷ [] else []) ≡ (if b then member.tx ∷ [] else [])
number_if member true = refl
number_if member false = refl

pub numbers_more : (numbers : List ℕ) (xs : List Member) (i : ℕ) (member : Member) (b : Bool) → i < length xs
    → member ≡ get_or xs i member → is_one_of numbers member ≡ b
    → numbers_among numbers (take (i + 1) xs) ≡ numbers_among numbers (take i xs) ++ (if b then member.tx ∷ [] else [])
numbers_more numbers xs i member b lt at is =
    ap (numbers_among numbers) (take_more xs i member lt ∙ ap (λ m. take i xs ++ m ∷ []) (sym at))
    ∙ numbers_among-append numbers (take i xs) (member ∷ [])
    ∙ ap (λ ns. numbers_among numbers (take i xs) ++ ns)
    (ap (λ c. map tx_of (if c then member ∷ [] else [])) is ∙ number_if member b)

-- ---- the labels of members

abbrev pub labels_of : List Membership → List ℕ → List ℕ
labels_of groups numbers = filter_map (group_of groups) numbers

label_first : (groups : List Membership) (tx group : ℕ) (more : List ℕ) → group_of groups tx ≡ Some group
    → labels_of groups (tx ∷ more) ≡ group ∷ labels_of groups more
label_first groups tx group more is = ap (λ (o : Option ℕ). cons_option o (labels_of groups more)) is

-- ---- groups that join the first one after another

one_label_joined : (first : ℕ) (o : Option ℕ) → o ≡ option_map (joined_label (first ∷ [])) o
one_label_joined first None = refl
one_label_joined first (Some group) = ap Some (sym (one_joined first group))

pub merged_first : (groups : List Membership) (first : ℕ) → IsSome (group_of groups first) → (x : ℕ)
    → group_of groups x ≡ option_map (joined_label (labels_of groups (first ∷ []))) (group_of groups x)
merged_first groups first there x =
    let own = some_value (group_of groups first) there in
    one_label_joined own.0 (group_of groups x)
    ∙ ap (λ ls. option_map (joined_label ls) (group_of groups x)) (sym (label_first groups first own.0 [] own.1))

-- who was a member still is one
pub merged_in : (old mid : List Membership) (labels : List ℕ) (tx : ℕ) → IsSome (group_of old tx)
    → ((x : ℕ) → group_of mid x ≡ option_map (joined_label labels) (group_of old x)) → IsSome (group_of mid tx)
merged_in old mid labels tx there so_far =
    let own = some_value (group_of old tx) there in
    subst IsSome (sym (so_far tx ∙ ap (option_map (joined_label labels)) own.1)) refl

pub all_at : (P : ℕ → Type 0) (ns : List ℕ) (i d : ℕ) → i < length ns → AllByRecursion P ns → P (get_or ns i d)
all_at P [] i d lt all = absurd (omega (arith, lt))
all_at P (n ∷ ns) zero d lt all = all.0
all_at P (n ∷ ns) (suc i) d lt all = all_at P ns i d (omega (arith, lt)) all.1

pub merged_more : (old mid new : List Membership) (first : ℕ) (others : List ℕ) (i d : ℕ) → i < length others
    → IsSome (group_of old first) → IsSome (group_of old (get_or others i d))
    → ((x : ℕ) → group_of mid x ≡ option_map (joined_label (labels_of old (first ∷ take i others))) (group_of old x))
    → Relabels mid new first (get_or others i d) → (x : ℕ)
    → group_of new x ≡ option_map (joined_label (labels_of old (first ∷ take (i + 1) others))) (group_of old x)
merged_more old mid new first others i d lt here there so_far relabels x =
    relabels head (joined_label labels label) (first_is) (other_is) x
    ∙ ap (option_map (moved_label (joined_label labels label) head)) (mid_is x)
    ∙ twice (group_of old x)
    ∙ ap (λ ls. option_map (joined_label ls) (group_of old x)) (sym labels_more)
  where
    other : ℕ
    other = get_or others i d

    head : ℕ
    head = (some_value (group_of old first) here).0

    label : ℕ
    label = (some_value (group_of old other) there).0

    more : List ℕ
    more = labels_of old (take i others)

    labels : List ℕ
    labels = head ∷ more

    labels_are_now : labels_of old (first ∷ take i others) ≡ labels
    labels_are_now = label_first old first head (take i others) (some_value (group_of old first) here).1

    mid_is : (y : ℕ) → group_of mid y ≡ option_map (joined_label labels) (group_of old y)
    mid_is y = so_far y ∙ ap (λ ls. option_map (joined_label ls) (group_of old y)) labels_are_now

    first_is : group_of mid first ≡ Some head
    first_is = mid_is first ∙ ap (option_map (joined_label labels)) (some_value (group_of old first) here).1
        ∙ ap Some (first_joined head more)

    other_is : group_of mid other ≡ Some (joined_label labels label)
    other_is = mid_is other ∙ ap (option_map (joined_label labels)) (some_value (group_of old other) there).1

    labels_more : labels_of old (first ∷ take (i + 1) others) ≡ labels ++ label ∷ []
    labels_more =
        label_first old first head (take (i + 1) others) (some_value (group_of old first) here).1
        ∙ ap (λ ls. head ∷ ls)
        (ap (labels_of old) (take_more others i d lt)
        ∙ filter_map-append (group_of old) (take i others) (other ∷ [])
        ∙ ap (λ ls. more ++ ls) (label_first old other label [] (some_value (group_of old other) there).1))

    twice : (o : Option ℕ)
        → option_map (moved_label (joined_label labels label) head) (option_map (joined_label labels) o)
        ≡ option_map (joined_label (labels ++ label ∷ [])) o
    twice None = refl
    twice (Some group) = ap Some (joined_more head more label group)

-- the labels that members of these numbers have in the groups are their own
pub labels_are : (groups : List Membership) (numbers : List ℕ) (members : List Member)
    → ((m : Member) → Contains members m → group_of groups m.tx ≡ Some m.group)
    → filter_map (group_of groups) (map tx_of (filter (is_one_of numbers) members)) ≡ labels_in numbers members
labels_are groups numbers [] own = refl
labels_are groups numbers (x ∷ xs) own =
    by_test (is_one_of numbers x) (labels_are groups numbers xs (λ m there. own m (contains_later x m xs there)))
  where
    by_test : (b : Bool)
        → filter_map (group_of groups) (map tx_of (filter (is_one_of numbers) xs)) ≡ labels_in numbers xs
        → filter_map (group_of groups)
        (map tx_of (if b then x ∷ filter (is_one_of numbers) xs else filter (is_one_of numbers) xs))
        ≡ map (λ (member : Member). member.group)
        (if b then x ∷ filter (is_one_of numbers) xs else filter (is_one_of numbers) xs)
    by_test true rest =
        label_first groups x.tx x.group (map tx_of (filter (is_one_of numbers) xs)) (own x (contains_first x xs))
        ∙ ap (λ ls. x.group ∷ ls) rest
    by_test false rest = rest

-- ---- the members of the group that is made

pub each_labelled : (f g : Member → Member) (xs : List Member) → ((m : Member) → Contains xs m → f m ≡ g m)
    → map f xs ≡ map g xs
each_labelled f g [] same = refl
each_labelled f g (x ∷ xs) same = λ i.
    same x (contains_first x xs) i ∷ each_labelled f g xs (λ m there. same m (contains_later x m xs there)) i

module _ (first : ℕ) (more : List ℕ) (old new : List Membership)
    (joined : (x : ℕ) → group_of new x ≡ option_map (joined_label (first ∷ more)) (group_of old x)) where
  pub joined_of : (x group : ℕ) → group_of old x ≡ Some group
      → group_of new x ≡ Some (joined_label (first ∷ more) group)
  joined_of x group is = joined x ∙ ap (option_map (joined_label (first ∷ more))) is

  pub grouped_joined : (members : List Member) → group_of old first ≡ Some first → AreGrouped old members
      → AreGrouped new (map (in_joined_group (first ∷ more)) members)
  grouped_joined members is_label grouped = record {
    labels = λ tx group. (
      λ is. into tx group (group_of old tx) refl is,
      λ has.
          let from = out_of_map (in_joined_group (first ∷ more)) members has.0 has.1 in
          ap (group_of new) (sym (ap tx_of from.2 ∙ has.2))
          ∙ joined_of from.0.tx from.0.group (label_of old members from.0 grouped from.1)
          ∙ ap Some (ap (λ (k : Member). k.group) from.2 ∙ has.3),
    );
    named = λ tx group is. named_by tx group (group_of old tx) refl is;
  }
    where
      into : (tx group : ℕ) (o : Option ℕ) → group_of old tx ≡ o → group_of new tx ≡ Some group
          → IsLabelled (map (in_joined_group (first ∷ more)) members) tx group
      into tx group None had is =
          absurd (none_is_some group (sym (joined tx ∙ ap (option_map (joined_label (first ∷ more))) had) ∙ is))
      into tx group (Some before) had is =
          let has = (grouped.labels tx before).0 had in (
            in_joined_group (first ∷ more) has.0,
            into_map (in_joined_group (first ∷ more)) members has.0 has.1,
            has.2,
            ap (joined_label (first ∷ more)) has.3
                ∙ same_Some (joined_label (first ∷ more) before) group (sym (joined_of tx before had) ∙ is),
          )

      named_by : (tx group : ℕ) (o : Option ℕ) → group_of old tx ≡ o → group_of new tx ≡ Some group
          → group_of new group ≡ Some group
      named_by tx group None had is =
          absurd (none_is_some group (sym (joined tx ∙ ap (option_map (joined_label (first ∷ more))) had) ∙ is))
      named_by tx group (Some before) had is = by_test (list_any (λ label. label == before) (first ∷ more)) refl
        where
          now : joined_label (first ∷ more) before ≡ group
          now = same_Some (joined_label (first ∷ more) before) group (sym (joined_of tx before had) ∙ is)

          by_test : (b : Bool) → list_any (λ label. label == before) (first ∷ more) ≡ b
              → group_of new group ≡ Some group
          by_test true among =
              subst (λ label. group_of new label ≡ Some label) (sym (joined_if first more before true among) ∙ now)
              (joined_of first first is_label ∙ ap Some (first_joined first more))
          by_test false among =
              subst (λ label. group_of new label ≡ Some label) (sym (joined_if first more before false among) ∙ now)
              (joined_of before before (grouped.named tx before had)
              ∙ ap Some (joined_if first more before false among))

-- ---- members whose groups are known

pub each_known : (numbers : List ℕ) (groups : List Membership) (members : List Member)
    → ((m : Member) → Contains members m → group_of groups m.tx ≡ Some m.group)
    → AllByRecursion (λ tx. IsSome (group_of groups tx)) (numbers_among numbers members)
each_known numbers groups [] known = tt
each_known numbers groups (x ∷ xs) known =
    by_test (is_one_of numbers x) (each_known numbers groups xs (λ m there. known m (contains_later x m xs there)))
  where
    by_test : (b : Bool) → AllByRecursion (λ tx. IsSome (group_of groups tx)) (numbers_among numbers xs)
        → AllByRecursion (λ tx. IsSome (group_of groups tx))
        (map tx_of (if b then x ∷ filter (is_one_of numbers) xs else filter (is_one_of numbers) xs))
    by_test true rest = (subst IsSome (sym (known x (contains_first x xs))) refl, rest)
    by_test false rest = rest
