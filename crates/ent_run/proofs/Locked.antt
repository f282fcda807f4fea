-- What changes of members make of the lock table that has their uses.
use Rattle.std.proofs.Common.{◌≡◌, ◌⊎◌, inl, inr, ℕ, Bool, true, false, not, ◌==◌, if◌then◌else◌}
use Rattle.std.proofs.Common.{List, [], ◌∷◌, ◌++◌, map, nat_eq, refl, sym, ap, subst, ◌∙◌, true≢false}
use Rattle.std.specs.Prelude.{Contains, filter, Option, Some, None, IsSome, Result, Ok, Err, OnOk, OnErr}
use Rattle.std.specs.List.{IsDistinct, AllByRecursion, list_any}
use Rattle.std.proofs.lemmas.List.Elements.{Contains-append_left, Contains-append_right, Contains-append_cases}
use Rattle.std.proofs.lemmas.Option.{same_Some}
use Rattle.ent_lists.specs.Elements.{number_itself, same_number}
use Rattle.ent_lists.proofs.Options.{some_value}
use Rattle.ent_lock.specs.declared.mode.Mode.{Mode}
use Rattle.ent_lock.specs.Use.{Uses, AddsUses, key_of_number, keyed}
use Rattle.ent_protocol.specs.Begin.{replaced}
use Rattle.ent_protocol.specs.Member.{is_tx}
use Rattle.ent_protocol.specs.State.{Member, Use, first_of}
use Rattle.ent_run.specs.Locks.{IsHeld, IsLockedRun, Locks, lock_of, use_of}
use Rattle.ent_run.specs.Places.{Changes, found}
use Rattle.ent_members.specs.InRun.{AreByNumber, number_of_key}
use Rattle.ent_members.specs.Order.{tx_of}
use Rattle.ent_run.proofs.Lists.{contains_none, contains_cases, contains_first, contains_later, into_map, out_of_map}
use Rattle.ent_run.proofs.Lists.{some_of}
use Rattle.ent_run.proofs.OneMember.{found_tx, run_kept}

pub is_not : (b : Bool) → not b ≡ true → b ≡ false
is_not true is = sym is
is_not false is = refl

pub true_both : (a b : Bool) → (a ≡ true → b ≡ true) → (b ≡ true → a ≡ true) → a ≡ b
true_both true b into out = sym (into refl)
true_both false true into out = out refl
true_both false false into out = refl

pub either_member : (xs ys : List Member) (m : Member) → Contains xs m ⊎ Contains ys m → Contains (xs ++ ys) m
either_member xs ys m (inl h) = Contains-append_left xs ys m h
either_member xs ys m (inr h) = Contains-append_right xs ys m h

-- ---- one member among others

pub found_there : (xs : List Member) (tx : ℕ) (member : Member) → found xs tx ≡ Some member → Contains xs member
found_there [] tx member is = let none : None ≡ Some member = is in absurd cc
found_there (x ∷ xs) tx member is = by_test (λ first. found_there xs tx member first) (is_tx tx x) refl is
  where
    by_test : (found xs tx ≡ Some member → Contains xs member) → (b : Bool) → is_tx tx x ≡ b
        → first_of (if b then x ∷ filter (is_tx tx) xs else filter (is_tx tx) xs) ≡ Some member
        → Contains (x ∷ xs) member
    by_test rest true here first = subst (Contains (x ∷ xs)) (same_Some x member first) (contains_first x xs)
    by_test rest false here first = contains_later x member xs (rest first)

never_apart : (n : ℕ) (xs : List Member) (m : Member) → AllByRecursion (λ k. nat_eq n k ≡ false) (map tx_of xs)
    → Contains xs m → n ≡ m.tx → ⊥
never_apart n [] m all there same = contains_none m there
never_apart n (x ∷ xs) m all there same =
    by_cases (λ later. never_apart n xs m all.1 later same) (contains_cases x m xs there)
  where
    by_cases : (Contains xs m → ⊥) → (x ≡ m) ⊎ Contains xs m → ⊥
    by_cases rest (inl is) = true≢false (sym (ap (nat_eq n) (sym (same ∙ ap tx_of (sym is))) ∙ number_itself n) ∙ all.0)
    by_cases rest (inr later) = rest later

one_of_cons : (x : Member) (xs : List Member) → AllByRecursion (λ k. nat_eq x.tx k ≡ false) (map tx_of xs)
    → ((m n : Member) → Contains xs m → Contains xs n → m.tx ≡ n.tx → m ≡ n) → (m n : Member) → m.tx ≡ n.tx
    → (x ≡ m) ⊎ Contains xs m → (x ≡ n) ⊎ Contains xs n → m ≡ n
one_of_cons x xs all rest m n same (inl a) (inl b) = sym a ∙ b
one_of_cons x xs all rest m n same (inl a) (inr later) = absurd (never_apart x.tx xs n all later (ap tx_of a ∙ same))
one_of_cons x xs all rest m n same (inr later) (inl b) =
    absurd (never_apart x.tx xs m all later (ap tx_of b ∙ sym same))
one_of_cons x xs all rest m n same (inr first) (inr second) = rest m n first second same

-- members of one number are one
pub one_member : (xs : List Member) → IsDistinct nat_eq (map tx_of xs) → (m n : Member) → Contains xs m
    → Contains xs n → m.tx ≡ n.tx → m ≡ n
unfolding IsDistinct
one_member [] distinct m n there also same = absurd (contains_none m there)
one_member (x ∷ xs) distinct m n there also same =
    one_of_cons x xs distinct.0 (one_member xs distinct.1) m n same (contains_cases x m xs there)
    (contains_cases x n xs also)

-- nobody is found of a number that no member has
pub found_none : (xs : List Member) (tx : ℕ) → ¬ Contains (map tx_of xs) tx → found xs tx ≡ None
found_none xs tx nobody = by_found (found xs tx) refl
  where
    by_found : (one : Option Member) → found xs tx ≡ one → found xs tx ≡ None
    by_found None is = is
    by_found (Some member) is = absurd (nobody (subst (Contains (map tx_of xs)) (found_tx xs tx member is)
        (into_map tx_of xs member (found_there xs tx member is))))

pub some_has : (xs : List Member) (tx : ℕ) → list_any (is_tx tx) xs ≡ true → Contains (map tx_of xs) tx
some_has xs tx any =
    let one = some_of (is_tx tx) xs any in
    subst (Contains (map tx_of xs)) (same_number one.0.tx tx one.2) (into_map tx_of xs one.0 one.1)

-- ---- who holds what

pub held_by_either : (xs ys : List Member) (tx : ℕ) (own : Use) → IsHeld xs tx own ⊎ IsHeld ys tx own
    → IsHeld (xs ++ ys) tx own
held_by_either xs ys tx own (inl (m, there, is, uses)) = (m, Contains-append_left xs ys m there, is, uses)
held_by_either xs ys tx own (inr (m, there, is, uses)) = (m, Contains-append_right xs ys m there, is, uses)

pub held_by_one : (xs ys : List Member) (tx : ℕ) (own : Use) → IsHeld (xs ++ ys) tx own
    → IsHeld xs tx own ⊎ IsHeld ys tx own
held_by_one xs ys tx own (m, there, is, uses) = by_cases (Contains-append_cases xs ys m there)
  where
    by_cases : Contains xs m ⊎ Contains ys m → IsHeld xs tx own ⊎ IsHeld ys tx own
    by_cases (inl h) = inl (m, h, is, uses)
    by_cases (inr h) = inr (m, h, is, uses)

-- a change adds these uses to those of a member
pub record Adds (change : Member → Member) (asked : List Use) (member : Member) : Type 0 where
  pub same : (change member).tx ≡ member.tx
  pub into : (own : Use) → Contains member.uses own ⊎ Contains asked own → Contains (change member).uses own
  pub out_of : (own : Use) → Contains (change member).uses own → Contains member.uses own ⊎ Contains asked own

module _ (change : Member → Member) (asked : List Use) (old : List Member) (member : Member)
    (distinct : IsDistinct nat_eq (map tx_of old)) (there : Contains old member) (adds : Adds change asked member) where
  abbrev changed : List Member
  changed = map (replaced (change member)) old

  put_in : (m : Member) (b : Bool) → (m.tx == (change member).tx) ≡ b → Contains old m
      → (own : Use) → Contains m.uses own → (n : Member) × (n ≡ replaced (change member) m) × (n.tx ≡ m.tx)
      × Contains n.uses own
  put_in m true is inside own uses =
      let same : m ≡ member =
      one_member old distinct m member inside there (same_number m.tx (change member).tx is ∙ adds.same) in (
        change member,
        ap (λ b. if b then change member else m) (sym is),
        adds.same ∙ ap tx_of (sym same),
        adds.into own (inl (subst (λ (k : Member). Contains k.uses own) same uses)),
      )
  put_in m false is inside own uses = (m, ap (λ b. if b then change member else m) (sym is), refl, uses)

  pub held_after : (tx : ℕ) (own : Use) → IsHeld old tx own ⊎ ((tx ≡ member.tx) × Contains asked own)
      → IsHeld changed tx own
  held_after tx own (inl (m, inside, is, uses)) =
      let new = put_in m (m.tx == (change member).tx) refl inside own uses in (
        new.0,
        subst (Contains changed) (sym new.1) (into_map (replaced (change member)) old m inside),
        new.2
            ∙ is,
        new.3,
      )
  held_after tx own (inr (is, uses)) = (
    change member,
    subst (Contains changed)
        (ap (λ b. if b then change member else member) (ap (λ n. member.tx == n) adds.same ∙ number_itself member.tx))
        (into_map (replaced (change member)) old member there),
    adds.same ∙ sym is,
    adds.into own (inr uses),
  )

  pub held_before : (tx : ℕ) (own : Use) → IsHeld changed tx own
      → IsHeld old tx own ⊎ ((tx ≡ member.tx) × Contains asked own)
  held_before tx own (n, inside, is, uses) =
      let from = out_of_map (replaced (change member)) old n inside in
      by_test from.0 (from.0.tx == (change member).tx) from.1 from.2
    where
      by_use : (m : Member) → change member ≡ n → Contains member.uses own ⊎ Contains asked own
          → IsHeld old tx own ⊎ ((tx ≡ member.tx) × Contains asked own)
      by_use m same (inl held) = inl (member, there, sym adds.same ∙ ap tx_of same ∙ is, held)
      by_use m same (inr more) = inr (sym is ∙ ap tx_of (sym same) ∙ adds.same, more)

      by_test : (m : Member) (b : Bool) → Contains old m → (if b then change member else m) ≡ n
          → IsHeld old tx own ⊎ ((tx ≡ member.tx) × Contains asked own)
      by_test m true from same =
          by_use m same (adds.out_of own (subst (λ (k : Member). Contains k.uses own) (sym same) uses))
      by_test m false from same =
          inl (m, from, ap tx_of same ∙ is, subst (λ (k : Member). Contains k.uses own) (sym same) uses)

-- a run in which one member that isn't prepared was changed
pub run_changed : (locks next : Uses) (prepared old new : List Member) (change : Member → Member) (asked : List Use)
    (tx : ℕ) (member : Member) → IsLockedRun locks prepared old → found old tx ≡ Some member
    → Changes change tx old new → map tx_of new ≡ map tx_of old → Adds change asked member → Locks tx asked locks next
    → IsLockedRun next prepared new
run_changed locks next prepared old new change asked tx member run is changes numbers adds more =
    let there = found_there old tx member is in
    let own_tx : member.tx ≡ tx = found_tx old tx member is in
    let same : new ≡ map (replaced (change member)) old = changes member is in
    record {
      run = run_kept prepared old new numbers run.run;
      once = run.once;
      apart = subst (λ ns. (n : ℕ) → Contains (map tx_of prepared) n → ¬ Contains ns n) (sym numbers) run.apart;
      locked = λ v table mode. (
        λ holds. subst (λ ms. IsHeld (prepared ++ ms) v (use_of table mode)) (sym same)
            (held_by_either prepared (map (replaced (change member)) old) v (use_of table mode)
            (elim ((more v table mode).0 holds) [
              | inl before ↦ elim (held_by_one prepared old v (use_of table mode)
                  ((run.locked v table mode).0 before)) [
                    | inl first ↦ inl first
                    | inr second ↦ inr (held_after change asked old member run.run.distinct there adds v
                        (use_of table mode) (inl second))
                  ]
              | inr now ↦ inr (held_after change asked old member run.run.distinct there adds v (use_of table mode)
                  (inr (now.0 ∙ sym own_tx, now.1)))
            ])),
        λ held. (more v table mode).1
            (elim (held_by_one prepared (map (replaced (change member)) old) v (use_of table mode)
            (subst (λ ms. IsHeld (prepared ++ ms) v (use_of table mode)) same held)) [
              | inl first ↦ inl ((run.locked v table mode).1
                  (held_by_either prepared old v (use_of table mode) (inl first)))
              | inr second ↦ elim (held_before change asked old member run.run.distinct there adds v (use_of table mode)
                  second) [
                    | inl before ↦ inl ((run.locked v table mode).1
                        (held_by_either prepared old v (use_of table mode) (inr before)))
                    | inr now ↦ inr (now.0 ∙ own_tx, now.1)
                  ]
            ]),
      );
    }

-- nothing is asked for
pub locks_nothing : (tx : ℕ) (locks : Uses) → Locks tx [] locks locks
locks_nothing tx locks v table mode =
    (λ h. inl h, λ h. elim h [ inl before ↦ before | inr now ↦ absurd (contains_none (use_of table mode) now.1) ])

pub adds_nothing : (change : Member → Member) (member : Member) → (change member).tx ≡ member.tx
    → (change member).uses ≡ member.uses → Adds change [] member
adds_nothing change member same uses =
    record {
      same = same;
      into = λ own h. subst (λ us. Contains us own) (sym uses)
          (elim h [ inl before ↦ before | inr now ↦ absurd (contains_none own now) ]);
      out_of = λ own h. inl (subst (λ us. Contains us own) uses h);
    }

-- ---- one member takes an answer

pub run_stepped : {T E : Type 0} (r : Result T E) (locks : Uses) (prepared old new : List Member)
    (change : Member → Member) → ((m : Member) → (change m).tx ≡ m.tx) → ((m : Member) → (change m).uses ≡ m.uses)
    → (tx : ℕ) → IsLockedRun locks prepared old → IsSome (found old tx) → OnOk r (Changes change tx old new)
    → OnErr r (new ≡ old) → map tx_of new ≡ map tx_of old → IsLockedRun locks prepared new
run_stepped (Ok x) locks prepared old new change same uses tx run there ok err numbers =
    let one = some_value (found old tx) there in
    run_changed locks locks prepared old new change [] tx one.0 run one.1 ok numbers
    (adds_nothing change one.0 (same one.0) (uses one.0)) (locks_nothing tx locks)
run_stepped (Err e) locks prepared old new change same uses tx run there ok err numbers =
    subst (IsLockedRun locks prepared) (sym err) run

-- ---- uses as the lock table takes them

abbrev head_of : List ℕ → ℕ
head_of [] = 0
head_of (n ∷ ns) = n

into_keyed : (asked : List Use) (table : ℕ) (mode : Mode) → Contains asked (use_of table mode)
    → Contains (keyed key_of_number (map lock_of asked)) (key_of_number table, mode)
into_keyed asked table mode there =
    into_map (λ (u : ℕ × Mode). (key_of_number u.0, u.1)) (map lock_of asked) (table, mode)
    (into_map lock_of asked (use_of table mode) there)

out_of_keyed : (asked : List Use) (table : ℕ) (mode : Mode)
    → Contains (keyed key_of_number (map lock_of asked)) (key_of_number table, mode)
    → Contains asked (use_of table mode)
out_of_keyed asked table mode there =
    let pair = out_of_map (λ (u : ℕ × Mode). (key_of_number u.0, u.1)) (map lock_of asked) (key_of_number table, mode)
    there in
    let own = out_of_map lock_of asked pair.0 pair.1 in
    let same_table : own.0.table ≡ table =
    ap (λ (u : ℕ × Mode). u.0) own.2 ∙ ap (λ (k : List ℕ × Mode). head_of k.0) pair.2 in
    let same_mode : own.0.mode ≡ mode = ap (λ (u : ℕ × Mode). u.1) own.2 ∙ ap (λ (k : List ℕ × Mode). k.1) pair.2 in
    let same : own.0 ≡ use_of table mode = λ i. use_of (same_table i) (same_mode i) in
    subst (Contains asked) same own.1

pub granted : (locks next : Uses) (tx : ℕ) (asked : List Use) (uses : List (ℕ × Mode)) → uses ≡ map lock_of asked
    → AddsUses locks next tx (keyed key_of_number uses) → Locks tx asked locks next
granted locks next tx asked uses is adds v table mode =
    let each = subst (λ us. AddsUses locks next tx (keyed key_of_number us)) is adds v (key_of_number table) mode in (
      λ holds. elim (each.0 holds) [
        | inl before ↦ inl before
        | inr now ↦ inr (now.0, out_of_keyed asked table mode now.1)
      ],
      λ either. each.1 (elim either [
        | inl before ↦ inl before
        | inr now ↦ inr (now.0, into_keyed asked table mode now.1)
      ]),
    )

abbrev lock_key : ℕ × Mode → List ℕ × Mode
lock_key u = (key_of_number u.0, u.1)

-- uses that are granted are of tables that are known by their numbers
pub granted_by_number : (locks next : Uses) (tx : ℕ) (uses : List (ℕ × Mode))
    → AddsUses locks next tx (keyed key_of_number uses) → AreByNumber locks → AreByNumber next
granted_by_number locks next tx uses adds by_number v table mode holds = elim ((adds v table mode).0 holds) [
  | inl before ↦ by_number v table mode before
  | inr now ↦ by_pair (out_of_map lock_key uses (table, mode) now.1)
]
  where
    by_pair : (u : ℕ × Mode) × Contains uses u × (lock_key u ≡ (table, mode))
        → table ≡ key_of_number (number_of_key table)
    by_pair (u, there, is) =
        let key : key_of_number u.0 ≡ table = ap (λ (k : List ℕ × Mode). k.0) is in
        sym key ∙ ap (λ (k : List ℕ). key_of_number (number_of_key k)) key
