-- What members have themselves, and members as they are in a run: a change of the one is a change of the other.
use Rattle.std.proofs.Common.{◌≡◌, inl, inr, ℕ, Bool, true, false, ◌==◌, ◌||◌, nat_eq, if◌then◌else◌, List, []}
use Rattle.std.proofs.Common.{◌∷◌, map, refl, sym, ap, subst, ◌∙◌}
use Rattle.std.proofs.lemmas.Option.{same_Some}
use Rattle.std.specs.Prelude.{◌↔◌, Contains, Option, Some, None, Result, Ok, Err, OnOk, filter}
use Rattle.std.specs.List.{IsDistinct, list_any}
use Rattle.std.specs.Option.{option_map}
use Rattle.ent_group.specs.declared.groups.Membership.{Membership}
use Rattle.ent_group.specs.Groups.{group_of}
use Rattle.ent_lists.specs.Elements.{differ, same_number}
use Rattle.ent_lock.specs.declared.mode.Mode.{Mode}
use Rattle.ent_lock.specs.Use.{DropsUses, Holds, Uses, key_of_number}
use Rattle.ent_members.specs.Answered.{MemberAnswer}
use Rattle.ent_members.specs.Changes.{stepping}
use Rattle.ent_members.specs.InRun.{AreByNumber, in_run, label_or}
use Rattle.ent_members.specs.Order.{tx_of}
use Rattle.ent_members.proofs.UsesOf.{uses_same, uses_with}
use Rattle.ent_protocol.specs.Begin.{holding, replaced}
use Rattle.ent_protocol.specs.Member.{is_tx}
use Rattle.ent_protocol.specs.PoolEvents.{in_joined_group, joined_label}
use Rattle.ent_protocol.specs.State.{Member, Use, first_of}
use Rattle.ent_run.specs.Answered.{answered_from}
use Rattle.ent_run.specs.InRuns.{in_runs}
use Rattle.ent_run.specs.Locks.{Locks}
use Rattle.ent_run.specs.Places.{Changes, found}
use Rattle.ent_run.proofs.Lists.{contains_first, contains_later}
use Rattle.ent_run.proofs.Locked.{one_member}

-- ---- lists

module _ {X Y : Type 0} (f : X → Y) where
  pub filter_mapped : (p : Y → Bool) (q : X → Bool) → ((x : X) → p (f x) ≡ q x) → (xs : List X)
      → filter p (map f xs) ≡ map f (filter q xs)
  filter_mapped p q same [] = refl
  filter_mapped p q same (x ∷ xs) =
      ap (λ b. if b then f x ∷ filter p (map f xs) else filter p (map f xs)) (same x)
      ∙ by_test (q x) (filter_mapped p q same xs)
    where
      by_test : (b : Bool) → filter p (map f xs) ≡ map f (filter q xs)
          → (if b then f x ∷ filter p (map f xs) else filter p (map f xs))
          ≡ map f (if b then x ∷ filter q xs else filter q xs)
      by_test true rest = ap (λ ys. f x ∷ ys) rest
      by_test false rest = rest

  pub any_mapped : (p : Y → Bool) (q : X → Bool) → ((x : X) → p (f x) ≡ q x) → (xs : List X)
      → list_any p (map f xs) ≡ list_any q xs
  any_mapped p q same [] = refl
  any_mapped p q same (x ∷ xs) = λ i. same x i || any_mapped p q same xs i

  pub first_mapped : (xs : List X) → first_of (map f xs) ≡ option_map f (first_of xs)
  first_mapped [] = refl
  first_mapped (x ∷ xs) = refl

module _ {X Y Z : Type 0} (f : X → Y) (g : Y → Z) (h : X → Z) where
  pub mapped_twice : (xs : List X) → ((x : X) → Contains xs x → h x ≡ g (f x)) → map h xs ≡ map g (map f xs)
  mapped_twice [] same = refl
  mapped_twice (x ∷ xs) same = λ i.
      same x (contains_first x xs) i ∷ mapped_twice xs (λ y there. same y (contains_later x y xs there)) i

-- ---- members as they are in a run

module _ (locks : Uses) (groups : List Membership) where
  pub found_in_runs : (xs : List Member) (tx : ℕ)
      → found (in_runs locks groups xs) tx ≡ option_map (in_run locks groups) (found xs tx)
  found_in_runs xs tx =
      ap first_of (filter_mapped (in_run locks groups) (is_tx tx) (is_tx tx) (λ m. refl) xs)
      ∙ first_mapped (in_run locks groups) (filter (is_tx tx) xs)

  -- a change that doesn't look at locks and labels
  module _ (own change : Member → Member)
      (same : (m : Member) → in_run locks groups (own m) ≡ change (in_run locks groups m)) where
    replaced_in_run : (m y : Member) (b : Bool) → (y.tx == (own m).tx) ≡ b
        → in_run locks groups (if b then own m else y)
        ≡ (if b then change (in_run locks groups m) else in_run locks groups y)
    replaced_in_run m y true is = same m
    replaced_in_run m y false is = refl

    each_replaced : (m y : Member) → in_run locks groups (replaced (own m) y)
        ≡ replaced (change (in_run locks groups m)) (in_run locks groups y)
    each_replaced m y =
        replaced_in_run m y (y.tx == (own m).tx) refl
        ∙ ap (λ tx. if y.tx == tx then change (in_run locks groups m) else in_run locks groups y) (ap tx_of (same m))

    changed_list : (m : Member) (xs : List Member) → in_runs locks groups (map (replaced (own m)) xs)
        ≡ map (replaced (change (in_run locks groups m))) (in_runs locks groups xs)
    changed_list m [] = refl
    changed_list m (x ∷ xs) = λ i. each_replaced m x i ∷ changed_list m xs i

    pub changes_in_runs : (tx : ℕ) (old new : List Member) → Changes own tx old new
        → Changes change tx (in_runs locks groups old) (in_runs locks groups new)
    changes_in_runs tx old new changes member there =
        by_found (found old tx) refl (sym (found_in_runs old tx) ∙ there)
      where
        by_found : (one : Option Member) → found old tx ≡ one → option_map (in_run locks groups) one ≡ Some member
            → in_runs locks groups new ≡ map (replaced (change member)) (in_runs locks groups old)
        by_found None is none = let e : None ≡ Some member = none in absurd cc
        by_found (Some m) is some =
            ap (in_runs locks groups) (changes m is) ∙ changed_list m old
            ∙ ap (λ one. map (replaced (change one)) (in_runs locks groups old))
            (same_Some (in_run locks groups m) member some)

  -- one member takes its answer, or memory runs out
  pub changes_carried : {T E : Type 0} (r : Result T E) (own : Member → Member)
      → ((m : Member) → in_run locks groups (own m) ≡ own (in_run locks groups m)) → (tx : ℕ)
      → (old new seen : List Member) → in_runs locks groups old ≡ seen
      → OnOk r (Changes own tx old new) → OnOk r (Changes own tx seen (in_runs locks groups new))
  changes_carried (Ok x) own same tx old new seen shows changes =
      subst (λ ms. Changes own tx ms (in_runs locks groups new)) shows
      (changes_in_runs own own same tx old new changes)
  changes_carried (Err e) own same tx old new seen shows changes = tt

  answered_in_run : (given : List MemberAnswer) (m : Member)
      → in_run locks groups (answered_from given m) ≡ answered_from given (in_run locks groups m)
  answered_in_run [] m = refl
  answered_in_run (own ∷ more) m = by_test (is_tx own.tx m) (answered_in_run more m)
    where
      by_test : (b : Bool) → in_run locks groups (answered_from more m) ≡ answered_from more (in_run locks groups m)
          → in_run locks groups (if b then stepping own.answer own.bound m else answered_from more m)
          ≡ (if b then stepping own.answer own.bound (in_run locks groups m)
          else answered_from more (in_run locks groups m))
      by_test true rest = refl
      by_test false rest = rest

  pub answered_in_runs : (given : List MemberAnswer) (xs : List Member)
      → in_runs locks groups (map (answered_from given) xs) ≡ map (answered_from given) (in_runs locks groups xs)
  answered_in_runs given [] = refl
  answered_in_runs given (x ∷ xs) = λ i. answered_in_run given x i ∷ answered_in_runs given xs i

-- ---- with other locks, or other groups

with_other : (own : Member) (a b : ℕ) (us vs : List Use) → a ≡ b → us ≡ vs
    → record own { group = a; uses = us } ≡ record own { group = b; uses = vs }
with_other own a b us vs label uses = λ i. record own { group = label i; uses = uses i }

-- one is granted uses
module _ (old new : Uses) (by_number : AreByNumber old) (still : AreByNumber new) (groups : List Membership) (tx : ℕ)
    (asked : List Use) (more : Locks tx asked old new) where
  apart_in_run : (m : Member) → (m.tx ≡ tx → ⊥) → in_run new groups m ≡ in_run old groups m
  apart_in_run m apart =
      with_other m (label_or m.tx (group_of groups m.tx)) (label_or m.tx (group_of groups m.tx)) _ _ refl
      (uses_same old new by_number still m.tx kept)
    where
      kept : (table : ℕ) (mode : Mode)
          → Holds new m.tx (key_of_number table) mode ↔ Holds old m.tx (key_of_number table) mode
      kept table mode = (
        λ holds. elim ((more m.tx table mode).0 holds) [ inl before ↦ before | inr now ↦ absurd (apart now.0) ],
        λ before. (more m.tx table mode).1 (inl before),
      )

  pub own_in_run : (m : Member) → m.tx ≡ tx → in_run new groups m ≡ holding (in_run old groups m) asked
  own_in_run m own =
      with_other m (label_or m.tx (group_of groups m.tx)) (label_or m.tx (group_of groups m.tx)) _ _ refl
      (uses_with old new by_number still m.tx asked (subst (λ n. Locks n asked old new) (sym own) more))

  -- the others hold what they held
  pub others_hold : (xs : List Member) → ((m : Member) → Contains xs m → m.tx ≡ tx → ⊥)
      → in_runs new groups xs ≡ in_runs old groups xs
  others_hold [] apart = refl
  others_hold (x ∷ xs) apart = λ i.
      apart_in_run x (apart x (contains_first x xs)) i
      ∷ others_hold xs (λ m there. apart m (contains_later x m xs there)) i

  pub one_holds : (xs : List Member) (member : Member) → IsDistinct nat_eq (map tx_of xs) → Contains xs member
      → member.tx ≡ tx
      → in_runs new groups xs ≡ map (replaced (holding (in_run old groups member) asked)) (in_runs old groups xs)
  one_holds xs member distinct there own =
      mapped_twice (in_run old groups) (replaced (holding (in_run old groups member) asked)) (in_run new groups) xs
      (λ y inside. by_test y inside (y.tx == member.tx) refl)
    where
      by_test : (y : Member) → Contains xs y → (b : Bool) → (y.tx == member.tx) ≡ b
          → in_run new groups y ≡ replaced (holding (in_run old groups member) asked) (in_run old groups y)
      by_test y inside true is =
          let one : y ≡ member = one_member xs distinct y member inside there (same_number y.tx member.tx is) in
          own_in_run y (ap tx_of one ∙ own) ∙ ap (λ m. holding (in_run old groups m) asked) one
          ∙ sym (ap (λ b. if b then holding (in_run old groups member) asked else in_run old groups y) is)
      by_test y inside false is =
          apart_in_run y (λ same. differ y.tx member.tx is (same ∙ sym own))
          ∙ sym (ap (λ b. if b then holding (in_run old groups member) asked else in_run old groups y) is)

-- groups become one
pub joined_in_runs : (locks : Uses) (old new : List Membership) (labels : List ℕ)
    → ((x : ℕ) → group_of new x ≡ option_map (joined_label labels) (group_of old x)) → (xs : List Member)
    → ((m : Member) → Contains xs m → group_of old m.tx ≡ Some (in_run locks old m).group)
    → in_runs locks new xs ≡ map (in_joined_group labels) (in_runs locks old xs)
joined_in_runs locks old new labels joins xs known =
    mapped_twice (in_run locks old) (in_joined_group labels) (in_run locks new) xs
    (λ m there. with_other m (label_or m.tx (group_of new m.tx)) (joined_label labels (in_run locks old m).group) _ _
    (ap (label_or m.tx) (joins m.tx ∙ ap (option_map (joined_label labels)) (known m there))) refl)

-- others leave
pub stays_in_runs : (locks next : Uses) (by_number : AreByNumber locks) (still : AreByNumber next)
    (groups left : List Membership) (numbers : List ℕ) → DropsUses locks next numbers → (xs : List Member)
    → ((m : Member) → Contains xs m → ¬ Contains numbers m.tx)
    → ((m : Member) → Contains xs m → group_of left m.tx ≡ group_of groups m.tx)
    → in_runs next left xs ≡ in_runs locks groups xs
stays_in_runs locks next by_number still groups left numbers drops [] apart same = refl
stays_in_runs locks next by_number still groups left numbers drops (x ∷ xs) apart same = λ i.
    with_other x (label_or x.tx (group_of left x.tx)) (label_or x.tx (group_of groups x.tx)) _ _
    (ap (label_or x.tx) (same x (contains_first x xs))) (uses_same locks next by_number still x.tx kept) i
    ∷ stays_in_runs locks next by_number still groups left numbers drops xs
    (λ m there. apart m (contains_later x m xs there)) (λ m there. same m (contains_later x m xs there)) i
  where
    kept : (table : ℕ) (mode : Mode)
        → Holds next x.tx (key_of_number table) mode ↔ Holds locks x.tx (key_of_number table) mode
    kept table mode = (
      λ holds. ((drops x.tx (key_of_number table) mode).0 holds).0,
      λ holds. (drops x.tx (key_of_number table) mode).1 (holds, apart x (contains_first x xs)),
    )

pub dropped_by_number : (locks next : Uses) (numbers : List ℕ) → DropsUses locks next numbers → AreByNumber locks
    → AreByNumber next
dropped_by_number locks next numbers drops by_number tx table mode holds =
    by_number tx table mode ((drops tx table mode).0 holds).0
