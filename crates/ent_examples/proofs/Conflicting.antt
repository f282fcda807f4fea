-- Who blocks a member, and which of them is the least.
use Rattle.std.proofs.Common.{◌≡◌, inl, inr, ℕ, ◌≤◌, ◌==◌, Bool, true, false, not, if◌then◌else◌, List, [], ◌∷◌}
use Rattle.std.proofs.Common.{map, refl, sym, ap, subst, arith, nat_lt, Option, Some, None}
use Rattle.std.proofs.lemmas.Bool.Decides.{nat_tests}
use Rattle.std.specs.List.{filter, list_any}
use Rattle.ent_protocol.specs.State.{State, Member, Use}
use Rattle.ent_protocol.specs.Uses.{uses_conflict, is_conflicting, not_passed, conflicting, least, blocker}
use Rattle.ent_lists.specs.Elements.{In, of_filter, to_filter, of_map, to_map, in_either, in_first, in_second}
use Rattle.ent_lists.specs.Elements.{any_some, any_in, in_contains, contains_in, differ, other_number, turned}
use Rattle.ent_protocol_laws.proofs.Left.{tx_of}
use Rattle.ent_examples.specs.Beginning.{Counts, HoldsConflict, Blocks, IsBlockedBy, NobodyBlocks}

-- ---- the least of some numbers

abbrev lesser : ℕ → Option ℕ → ℕ
lesser n None = n
lesser n (Some m) = if nat_lt n m then n else m

least_with : (n : ℕ) (ns : List ℕ) → least (n ∷ ns) ≡ Some (lesser n (least ns))
least_with n [] = refl
least_with n (m ∷ ms) = refl

abbrev IsLeastOf : List ℕ → Option ℕ → Type 0
IsLeastOf ns None = (m : ℕ) → In m ns → ⊥
IsLeastOf ns (Some n) = In n ns × ((m : ℕ) → In m ns → n ≤ m)

with_one : (n : ℕ) (ns : List ℕ) (found : Option ℕ) → IsLeastOf ns found → IsLeastOf (n ∷ ns) (Some (lesser n found))
with_one n ns None none = (inl refl, lowest)
  where
    lowest : (m : ℕ) → In m (n ∷ ns) → n ≤ m
    lowest m (inl same) = omega (arith, same)
    lowest m (inr more) = absurd (none m more)
with_one n ns (Some k) h = by (nat_lt n k) refl
  where
    by : (b : Bool) → nat_lt n k ≡ b → IsLeastOf (n ∷ ns) (Some (if b then n else k))
    by true is = (inl refl, lowest)
      where
        lowest : (m : ℕ) → In m (n ∷ ns) → n ≤ m
        lowest m (inl same) = omega (arith, same)
        lowest m (inr more) = let low = h.1 m more in grind (arith, nat_tests, is, low)
    by false is = (inr h.0, lowest)
      where
        lowest : (m : ℕ) → In m (n ∷ ns) → k ≤ m
        lowest m (inl same) = grind (arith, nat_tests, is, same)
        lowest m (inr more) = h.1 m more

least_is : (ns : List ℕ) → IsLeastOf ns (least ns)
least_is [] = λ m at. at
least_is (n ∷ ns) = subst (IsLeastOf (n ∷ ns)) (sym (least_with n ns)) (with_one n ns (least ns) (least_is ns))

-- ---- those in conflict

module _ (s : State) (asker : Member) (asked : List Use) where
  from_conflict : (holder : Member) → is_conflicting asked holder ≡ true → HoldsConflict asked holder
  from_conflict holder is =
      let own = any_some (λ own. list_any (uses_conflict own) holder.uses) asked is in
      let held = any_some (uses_conflict own.0) holder.uses own.2 in
      record {
        own = own.0;
        held = held.0;
        is_asked = in_contains asked own.0 own.1;
        is_held = in_contains holder.uses held.0 held.1;
        conflict = held.2;
      }

  to_conflict : (holder : Member) → HoldsConflict asked holder → is_conflicting asked holder ≡ true
  to_conflict holder h =
      any_in (λ own. list_any (uses_conflict own) holder.uses) asked h.own (contains_in asked h.own h.is_asked)
      (any_in (uses_conflict h.own) holder.uses h.held (contains_in holder.uses h.held h.is_held) h.conflict)

  abbrev other_group : Member → Bool
  other_group holder = not (holder.group == asker.group)

  abbrev other_tx : Member → Bool
  other_tx holder = not (holder.tx == asker.tx)

  from_passed : (holder : Member) → In holder (not_passed s asker) → Counts s asker holder
  from_passed holder at =
      elim (in_either (filter other_group s.prepared) (filter other_tx s.active) holder at) [
        | inl a ↦
            let r = of_filter other_group s.prepared holder a in
            inl (
              in_contains s.prepared holder r.0,
              differ holder.group asker.group (turned (holder.group == asker.group) r.1),
            )
        | inr b ↦
            let r = of_filter other_tx s.active holder b in
            inr (in_contains s.active holder r.0, differ holder.tx asker.tx (turned (holder.tx == asker.tx) r.1))
      ]

  to_passed : (holder : Member) → Counts s asker holder → In holder (not_passed s asker)
  to_passed holder (inl h) =
      in_first (filter other_group s.prepared) (filter other_tx s.active) holder
      (to_filter other_group s.prepared holder (contains_in s.prepared holder h.0)
      (ap not (other_number holder.group asker.group h.1)))
  to_passed holder (inr h) =
      in_second (filter other_group s.prepared) (filter other_tx s.active) holder
      (to_filter other_tx s.active holder (contains_in s.active holder h.0)
      (ap not (other_number holder.tx asker.tx h.1)))

  from_blocking : (holder : Member) → In holder (conflicting s asker asked) → Blocks s asker asked holder
  from_blocking holder at =
      let r = of_filter (is_conflicting asked) (not_passed s asker) holder at in
      (from_passed holder r.0, from_conflict holder r.1)

  to_blocking : (holder : Member) → Blocks s asker asked holder → In holder (conflicting s asker asked)
  to_blocking holder h =
      to_filter (is_conflicting asked) (not_passed s asker) holder (to_passed holder h.0) (to_conflict holder h.1)

  -- what is said of whoever blocks
  abbrev IsTold : Option ℕ → Type 0
  IsTold None = NobodyBlocks s asker asked
  IsTold (Some tx) = IsBlockedBy s asker asked tx

  told_least : (found : Option ℕ) → IsLeastOf (map tx_of (conflicting s asker asked)) found → IsTold found
  told_least None none = λ holder blocks.
      none holder.tx (to_map tx_of (conflicting s asker asked) holder (to_blocking holder blocks))
  told_least (Some tx) h =
      let r = of_map tx_of (conflicting s asker asked) tx h.0 in
      record {
        holder = r.0;
        blocks = from_blocking r.0 r.1;
        is_tx = sym r.2;
        least = λ other blocks.
            h.1 other.tx (to_map tx_of (conflicting s asker asked) other (to_blocking other blocks));
      }

  pub blocker_told : (found : Option ℕ) → blocker s asker asked ≡ found → IsTold found
  blocker_told found is =
      subst IsTold is (told_least (blocker s asker asked) (least_is (map tx_of (conflicting s asker asked))))

  pub is_blocker : (found : Option ℕ) → blocker s asker asked ≡ found → (tx : ℕ) → IsBlockedBy s asker asked tx
      → found ≡ Some tx
  is_blocker None is tx h = absurd (blocker_told None is h.holder h.blocks)
  is_blocker (Some other) is tx h =
      let k = blocker_told (Some other) is in
      let low = k.least h.holder h.blocks in
      let high = h.least k.holder k.blocks in
      let one = h.is_tx in
      let two = k.is_tx in
      ap Some (omega (arith, low, high, one, two))

  pub no_blocker : (found : Option ℕ) → blocker s asker asked ≡ found → NobodyBlocks s asker asked → found ≡ None
  no_blocker None is free = refl
  no_blocker (Some tx) is free =
      let k = blocker_told (Some tx) is in absurd (free k.holder k.blocks)
