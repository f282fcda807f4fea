-- The uses that a lock table shows for a transaction: they are those that it holds, in the order in which members have
-- theirs, so what is held determines the list.
use Rattle.std.proofs.Common.{◌≡◌, ◌⊎◌, inl, inr, ℕ, ◌==◌, ◌<◌, Bool, true, false, nat_lt, if◌then◌else◌, List, [], ◌∷◌}
use Rattle.std.proofs.Common.{map, refl, sym, ap, subst, ◌∙◌, arith}
use Rattle.std.specs.Prelude.{◌↔◌, Contains}
use Rattle.std.specs.List.{filter, list_any}
use Rattle.std.specs.FinSet as set
use Rattle.std.proofs.lemmas.Bool.{ltb-true, ltb-false, eq-eqb}
use Rattle.ent_lists.specs.Elements.{In, Pairs, Same, of_all, to_all, all_by, any_some, any_none, any_in, of_map}
use Rattle.ent_lists.specs.Elements.{to_map, of_filter, to_filter, nobody, contains_in, in_contains, clash}
use Rattle.ent_lists.specs.Elements.{and_both, both_and, same_number, number_itself}
use Rattle.ent_lock.specs.declared.mode.Mode.{Mode}
use Rattle.ent_lock.specs.declared.mode.Mode.TheVariants.{Shared, Exclusive}
use Rattle.ent_lock.specs.Mode.{mode_rank}
use Rattle.ent_lock.specs.Use as lock
use Rattle.ent_lock.specs.Use.{Holds, Uses, key_of_number, use_cmp}
use Rattle.ent_lock.proofs.Held.{is_use, is_use-true, is_use-itself, the_use, same_mode}
use Rattle.ent_protocol.specs.Begin.{same_use, use_rank, with_uses}
use Rattle.ent_protocol.specs.State.{Use, inserted}
use Rattle.ent_members.specs.InRun.{AreByNumber, number_of_key, uses_of}

-- ---- lists that rise by a number

module _ {A : Type 0} (number : A → ℕ) where
  -- each has a lower number than those behind it
  abbrev Rises : List A → Type 0
  Rises xs = Pairs (λ (one later : A). number one < number later) xs

  into_inserted : (x own : A) (ys : List A) → In own (x ∷ ys) → In own (inserted number x ys)
  into_inserted x own [] at = at
  into_inserted x own (y ∷ ys) at = by_test (nat_lt (number x) (number y)) (into_inserted x own ys) at
    where
      by_test : (b : Bool) → (In own (x ∷ ys) → In own (inserted number x ys)) → In own (x ∷ y ∷ ys)
          → In own (if b then x ∷ y ∷ ys else y ∷ inserted number x ys)
      by_test true rest at = at
      by_test false rest (inl same) = inr (rest (inl same))
      by_test false rest (inr (inl same)) = inl same
      by_test false rest (inr (inr later)) = inr (rest (inr later))

  out_of_inserted : (x own : A) (ys : List A) → In own (inserted number x ys) → In own (x ∷ ys)
  out_of_inserted x own [] at = at
  out_of_inserted x own (y ∷ ys) at = by_test (nat_lt (number x) (number y)) (out_of_inserted x own ys) at
    where
      swapped : In own (x ∷ ys) → In own (x ∷ y ∷ ys)
      swapped (inl same) = inl same
      swapped (inr later) = inr (inr later)

      by_test : (b : Bool) → (In own (inserted number x ys) → In own (x ∷ ys))
          → In own (if b then x ∷ y ∷ ys else y ∷ inserted number x ys) → In own (x ∷ y ∷ ys)
      by_test true rest at = at
      by_test false rest (inl same) = inr (inl same)
      by_test false rest (inr later) = swapped (rest later)

  -- one of a new number is put in where it belongs
  rises_inserted : (x : A) (ys : List A) → Rises ys → ((y : A) → In y ys → number x ≡ number y → ⊥)
      → Rises (inserted number x ys)
  rises_inserted x [] rises other = (tt, tt)
  rises_inserted x (y ∷ ys) rises other =
      by_test (nat_lt (number x) (number y)) refl (rises_inserted x ys rises.1 (λ z at. other z (inr at)))
    where
      by_test : (b : Bool) → nat_lt (number x) (number y) ≡ b → Rises (inserted number x ys)
          → Rises (if b then x ∷ y ∷ ys else y ∷ inserted number x ys)
      by_test true is rest =
          let below : number x < number y = ltb-true (number x) (number y) is in (
            (
              below,
              all_by (λ (z : A). number y < number z) (λ (z : A). number x < number z) ys
                  (λ z lower. omega (arith, below, lower)) rises.0,
            ),
            rises,
          )
      by_test false is rest =
          let above = ltb-false (number x) (number y) is in
          let apart = other y (inl refl) in
          let below : number y < number x = omega (arith, above, apart) in (
            to_all (λ (z : A). number y < number z) (inserted number x ys)
                (λ z at. behind below z (out_of_inserted x z ys at)),
            rest,
          )
        where
          behind : number y < number x → (z : A) → In z (x ∷ ys) → number y < number z
          behind below z (inl same) = subst (λ (w : A). number y < number w) (sym same) below
          behind below z (inr later) = of_all (λ (w : A). number y < number w) ys z rises.0 later

  -- what it contains determines it
  same_rising : (xs ys : List A) → Rises xs → Rises ys → Same xs ys → xs ≡ ys
  same_rising [] [] a b same = refl
  same_rising [] (y ∷ ys) a b same = absurd ((same y).1 (inl refl))
  same_rising (x ∷ xs) [] a b same = absurd ((same x).0 (inl refl))
  same_rising (x ∷ xs) (y ∷ ys) a b same = λ i. first i ∷ same_rising xs ys a.1 b.1 (λ z. (forth z, back z)) i
    where
      heads : In x (y ∷ ys) → In y (x ∷ xs) → x ≡ y
      heads (inl is) at = is
      heads (inr later) (inl is) = sym is
      heads (inr later) (inr behind) =
          let up = of_all (λ (w : A). number y < number w) ys x b.0 later in
          let down = of_all (λ (w : A). number x < number w) xs y a.0 behind in
          absurd (omega (arith, up, down))

      first : x ≡ y
      first = heads ((same x).0 (inl refl)) ((same y).1 (inl refl))

      forth : (z : A) → In z xs → In z ys
      forth z at = by_cases ((same z).0 (inr at))
        where
          by_cases : In z (y ∷ ys) → In z ys
          by_cases (inl is) =
              let up = of_all (λ (w : A). number x < number w) xs z a.0 at in
              let level = ap number (is ∙ sym first) in
              absurd (omega (arith, up, level))
          by_cases (inr later) = later

      back : (z : A) → In z ys → In z xs
      back z at = by_cases ((same z).1 (inr at))
        where
          by_cases : In z (x ∷ xs) → In z xs
          by_cases (inl is) =
              let up = of_all (λ (w : A). number y < number w) ys z b.0 at in
              let level = ap number (is ∙ first) in
              absurd (omega (arith, up, level))
          by_cases (inr later) = later

-- ---- the uses with those that are asked for

low_rank : (mode : Mode) → mode_rank mode < 2
low_rank Shared = omega arith
low_rank Exclusive = omega arith

pub same_is : (a b : Use) → same_use a b ≡ true → a ≡ b
same_is a b e =
    let parts = and_both (a.table == b.table) (mode_rank a.mode == mode_rank b.mode) e in
    let table : a.table ≡ b.table = same_number a.table b.table parts.0 in
    let mode : a.mode ≡ b.mode = same_mode a.mode b.mode (same_number (mode_rank a.mode) (mode_rank b.mode) parts.1) in
    λ i. record { table = table i; mode = mode i }

-- the rank of a use tells its table and its mode
same_rank : (a b : Use) → use_rank a ≡ use_rank b → same_use a b ≡ true
same_rank a b level =
    let low = low_rank a.mode in
    let low_other = low_rank b.mode in
    let table : a.table ≡ b.table = omega (arith, level, low, low_other) in
    let mode : mode_rank a.mode ≡ mode_rank b.mode = omega (arith, level, low, low_other) in
    both_and (a.table == b.table) (mode_rank a.mode == mode_rank b.mode) (eq-eqb a.table b.table table)
    (eq-eqb (mode_rank a.mode) (mode_rank b.mode) mode)

abbrev with_one : Use → List Use → List Use
with_one a held = if list_any (same_use a) held then held else inserted use_rank a held

into_one : (a own : Use) (held : List Use) → In own (a ∷ held) → In own (with_one a held)
into_one a own held at = by_test (list_any (same_use a) held) refl at
  where
    by_test : (b : Bool) → list_any (same_use a) held ≡ b → In own (a ∷ held)
        → In own (if b then held else inserted use_rank a held)
    by_test true is (inl same) =
        let other = any_some (same_use a) held is in
        subst (λ (u : Use). In u held) (sym (same ∙ same_is a other.0 other.2)) other.1
    by_test true is (inr there) = there
    by_test false is at = into_inserted use_rank a own held at

out_of_one : (a own : Use) (held : List Use) → In own (with_one a held) → In own (a ∷ held)
out_of_one a own held at = by_test (list_any (same_use a) held) at
  where
    by_test : (b : Bool) → In own (if b then held else inserted use_rank a held) → In own (a ∷ held)
    by_test true there = inr there
    by_test false there = out_of_inserted use_rank a own held there

rises_one : (a : Use) (held : List Use) → Rises use_rank held → Rises use_rank (with_one a held)
rises_one a held rises = by_test (list_any (same_use a) held) refl
  where
    by_test : (b : Bool) → list_any (same_use a) held ≡ b
        → Rises use_rank (if b then held else inserted use_rank a held)
    by_test true is = rises
    by_test false is =
        rises_inserted use_rank a held rises
        (λ u at level. clash (same_use a u) (same_rank a u level) (any_none (same_use a) held is u at))

into_with : (asked held : List Use) (own : Use) → In own held ⊎ In own asked → In own (with_uses asked held)
into_with [] held own (inl at) = at
into_with [] held own (inr at) = absurd at
into_with (a ∷ more) held own h = into_with more (with_one a held) own (by_cases h)
  where
    by_cases : In own held ⊎ In own (a ∷ more) → In own (with_one a held) ⊎ In own more
    by_cases (inl at) = inl (into_one a own held (inr at))
    by_cases (inr (inl same)) = inl (into_one a own held (inl same))
    by_cases (inr (inr later)) = inr later

out_of_with : (asked held : List Use) (own : Use) → In own (with_uses asked held) → In own held ⊎ In own asked
out_of_with [] held own at = inl at
out_of_with (a ∷ more) held own at = by_cases (out_of_with more (with_one a held) own at)
  where
    by_one : In own (a ∷ held) → In own held ⊎ In own (a ∷ more)
    by_one (inl same) = inr (inl same)
    by_one (inr there) = inl there

    by_cases : In own (with_one a held) ⊎ In own more → In own held ⊎ In own (a ∷ more)
    by_cases (inl one) = by_one (out_of_one a own held one)
    by_cases (inr later) = inr (inr later)

rises_with : (asked held : List Use) → Rises use_rank held → Rises use_rank (with_uses asked held)
rises_with [] held rises = rises
rises_with (a ∷ more) held rises = rises_with more (with_one a held) (rises_one a held rises)

-- ---- the items of a lock table

-- a use as members have it
abbrev unkeyed : lock.Use → Use
unkeyed held = record { table = number_of_key held.table; mode = held.mode }

-- each of those of a transaction, in the order of the set
abbrev shown : Uses → ℕ → List Use
shown locks tx = map unkeyed (filter (λ held. held.holder == tx) (set.items locks))

item_held : (locks : Uses) (held : lock.Use) → In held (set.items locks) → set.contains locks held ≡ true
item_held locks held at =
    set.contains-items locks held ∙ any_in (is_use held) (set.items locks) held at (is_use-itself held held refl)

held_item : (locks : Uses) (held : lock.Use) → set.contains locks held ≡ true → In held (set.items locks)
held_item locks held there =
    let one = any_some (is_use held) (set.items locks) (sym (set.contains-items locks held) ∙ there) in
    subst (λ (u : lock.Use). In u (set.items locks)) (sym (is_use-true held one.0 one.2)) one.1

shown_held : (locks : Uses) → AreByNumber locks → (tx : ℕ) (own : Use) → In own (shown locks tx)
    → Holds locks tx (key_of_number own.table) own.mode
shown_held locks numbered tx own at =
    let one = of_map unkeyed (filter (λ held. held.holder == tx) (set.items locks)) own at in
    let kept = of_filter (λ (held : lock.Use). held.holder == tx) (set.items locks) one.0 one.1 in
    let holder : one.0.holder ≡ tx = same_number one.0.holder tx kept.1 in
    let holds : set.contains locks one.0 ≡ true = item_held locks one.0 kept.0 in
    let table : one.0.table ≡ key_of_number (number_of_key one.0.table) =
    numbered one.0.holder one.0.table one.0.mode holds in
    let there : Holds locks tx (key_of_number (number_of_key one.0.table)) one.0.mode =
    subst (λ (u : lock.Use). set.contains locks u ≡ true) (λ i. the_use (holder i) (table i) one.0.mode) holds in
    subst (λ (u : Use). Holds locks tx (key_of_number u.table) u.mode) (sym one.2) there

held_shown : (locks : Uses) (tx : ℕ) (own : Use) → Holds locks tx (key_of_number own.table) own.mode
    → In own (shown locks tx)
held_shown locks tx own holds =
    let held : lock.Use = the_use tx (key_of_number own.table) own.mode in
    to_map unkeyed (filter (λ held. held.holder == tx) (set.items locks)) held
    (to_filter (λ (u : lock.Use). u.holder == tx) (set.items locks) held (held_item locks held holds)
    (number_itself tx))

-- ---- the uses that it shows

rises_of : (locks : Uses) (tx : ℕ) → Rises use_rank (uses_of locks tx)
rises_of locks tx = rises_with (shown locks tx) [] tt

of_held : (locks : Uses) → AreByNumber locks → (tx : ℕ) (own : Use) → In own (uses_of locks tx)
    → Holds locks tx (key_of_number own.table) own.mode
of_held locks numbered tx own at = by_cases (out_of_with (shown locks tx) [] own at)
  where
    by_cases : In own [] ⊎ In own (shown locks tx) → Holds locks tx (key_of_number own.table) own.mode
    by_cases (inl nowhere) = absurd nowhere
    by_cases (inr there) = shown_held locks numbered tx own there

held_of : (locks : Uses) (tx : ℕ) (own : Use) → Holds locks tx (key_of_number own.table) own.mode
    → In own (uses_of locks tx)
held_of locks tx own holds = into_with (shown locks tx) [] own (inr (held_shown locks tx own holds))

-- they are those that the transaction holds
pub uses_there : (locks : Uses) → AreByNumber locks → (tx : ℕ) (own : Use)
    → Contains (uses_of locks tx) own ↔ Holds locks tx (key_of_number own.table) own.mode
uses_there locks numbered tx own = (
  λ there. of_held locks numbered tx own (contains_in (uses_of locks tx) own there),
  λ holds. in_contains (uses_of locks tx) own (held_of locks tx own holds),
)

-- where a transaction came to hold more, the uses that it asked for are put in
pub uses_with : (old new : Uses) → AreByNumber old → AreByNumber new → (tx : ℕ) (asked : List Use)
    → ((v table : ℕ) (mode : Mode) → Holds new v (key_of_number table) mode
    ↔ (Holds old v (key_of_number table) mode
    ⊎ ((v ≡ tx) × Contains asked (record { table = table; mode = mode }))))
    → uses_of new tx ≡ with_uses asked (uses_of old tx)
uses_with old new old_numbered new_numbered tx asked more =
    same_rising use_rank (uses_of new tx) (with_uses asked (uses_of old tx)) (rises_of new tx)
    (rises_with asked (uses_of old tx) (rises_of old tx)) (λ own. (forth own, back own))
  where
    forth : (own : Use) → In own (uses_of new tx) → In own (with_uses asked (uses_of old tx))
    forth own at = by_cases ((more tx own.table own.mode).0 (of_held new new_numbered tx own at))
      where
        by_cases : Holds old tx (key_of_number own.table) own.mode ⊎ ((tx ≡ tx) × Contains asked own)
            → In own (with_uses asked (uses_of old tx))
        by_cases (inl held) = into_with asked (uses_of old tx) own (inl (held_of old tx own held))
        by_cases (inr asks) = into_with asked (uses_of old tx) own (inr (contains_in asked own asks.1))

    back : (own : Use) → In own (with_uses asked (uses_of old tx)) → In own (uses_of new tx)
    back own at =
        held_of new tx own
        ((more tx own.table own.mode).1 (by_cases (out_of_with asked (uses_of old tx) own at)))
      where
        by_cases : In own (uses_of old tx) ⊎ In own asked
            → Holds old tx (key_of_number own.table) own.mode ⊎ ((tx ≡ tx) × Contains asked own)
        by_cases (inl there) = inl (of_held old old_numbered tx own there)
        by_cases (inr there) = inr (refl, in_contains asked own there)

-- where it holds what it held, they are the same
pub uses_same : (old new : Uses) → AreByNumber old → AreByNumber new → (tx : ℕ)
    → ((table : ℕ) (mode : Mode)
    → Holds new tx (key_of_number table) mode ↔ Holds old tx (key_of_number table) mode)
    → uses_of new tx ≡ uses_of old tx
uses_same old new old_numbered new_numbered tx same =
    same_rising use_rank (uses_of new tx) (uses_of old tx) (rises_of new tx) (rises_of old tx)
    (λ own. (
      λ at. held_of old tx own ((same own.table own.mode).0 (of_held new new_numbered tx own at)),
      λ at. held_of new tx own ((same own.table own.mode).1 (of_held old old_numbered tx own at)),
    ))

-- an empty lock table shows none
pub uses_none : (tx : ℕ) → uses_of set.empty tx ≡ []
uses_none tx =
    ap (λ (items : List lock.Use). with_uses (map unkeyed (filter (λ held. held.holder == tx) items)) [])
    (nobody (set.items set.empty) (λ held at.
    clash (set.contains set.empty held) (item_held set.empty held at) (set.contains-empty use_cmp held)))
