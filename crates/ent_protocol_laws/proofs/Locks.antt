-- Uses that are held together, and that nobody blocks it.
use Rattle.std.proofs.Common.{◌≡◌, ◌⊎◌, ℕ, ◌==◌, Bool, true, false, cond, not, ◌&&◌, List, [], ◌∷◌, map, refl}
use Rattle.std.proofs.Common.{sym, ap, subst, ◌∙◌, inl, inr, None, nat_lt}
use Rattle.std.specs.List.{AllByRecursion, filter, list_any}
use Rattle.ent_lock.specs.Mode.{in_conflict, mode_rank}
use Rattle.ent_lock.specs.declared.mode.Mode.{Mode}
use Rattle.ent_lock.specs.declared.mode.Mode.TheVariants.{Shared, Exclusive}
use Rattle.ent_protocol.specs.Begin.{same_use, use_rank, with_uses, holding}
use Rattle.ent_protocol.specs.State.{State, Member, Use, inserted, by_number}
use Rattle.ent_protocol.specs.Uses.{uses_conflict, is_conflicting, not_passed, conflicting, least, blocker}
use Rattle.ent_protocol_laws.specs.Numbered.{from_inserted, to_inserted, from_by_number, to_by_number}
use Rattle.ent_protocol_laws.specs.Faithful.{is_used, is_owned}
use Rattle.ent_lists.specs.Elements.{In, Pairs, Same, of_all, to_all, any_none, any_some, any_in, in_first, in_second}
use Rattle.ent_lists.specs.Elements.{to_filter, clash, not_so, same_number, number_itself, other_number, and_both}
use Rattle.ent_protocol_laws.proofs.Frame.{Apart}
use Rattle.ent_protocol_laws.proofs.Operations.{HoldsUses}

-- ---- lists by number

module _ {X : Type 0} (number : X → ℕ) where
  pub by_number_same : (xs : List X) → Same (by_number number xs) xs
  by_number_same xs y = (from_by_number number xs y, to_by_number number xs y)

  inserted_pairs : (R : X → X → Type 0) → ((x y : X) → R x y → R y x) → (x : X) (xs : List X)
      → AllByRecursion (R x) xs → Pairs R xs → Pairs R (inserted number x xs)
  inserted_pairs R turn x [] all pairs = (tt, tt)
  inserted_pairs R turn x (z ∷ xs) all pairs =
      by (nat_lt (number x) (number z)) (inserted_pairs R turn x xs all.1 pairs.1)
    where
      by : (b : Bool) → Pairs R (inserted number x xs) → Pairs R (cond b (x ∷ z ∷ xs) (z ∷ inserted number x xs))
      by true rest = (all, pairs)
      by false rest = (
        to_all (R z) (inserted number x xs) (λ y at.
            elim (from_inserted number x xs y at) [
              | inl same ↦ subst (R z) (sym same) (turn x z all.0)
              | inr more ↦ of_all (R z) xs y pairs.0 more
            ]),
        rest,
      )

  pub by_number_pairs : (R : X → X → Type 0) → ((x y : X) → R x y → R y x) → (xs : List X) → Pairs R xs
      → Pairs R (by_number number xs)
  by_number_pairs R turn [] pairs = tt
  by_number_pairs R turn (x ∷ xs) pairs =
      inserted_pairs R turn x (by_number number xs)
      (to_all (R x) (by_number number xs) (λ y at. of_all (R x) xs y pairs.0 ((by_number_same xs y).0 at)))
      (by_number_pairs R turn xs pairs.1)

-- ---- uses that are added

uses_kept : (asked uses : List Use) (own : Use) → In own uses → In own (with_uses asked uses)
uses_kept [] uses own at = at
uses_kept (first ∷ more) uses own at =
    uses_kept more _ own (by (list_any (same_use first) uses))
  where
    by : (b : Bool) → In own (cond b uses (inserted use_rank first uses))
    by true = at
    by false = to_inserted use_rank first uses own (inr at)

pub uses_from : (asked uses : List Use) (own : Use) → In own (with_uses asked uses) → In own asked ⊎ In own uses
uses_from [] uses own at = inr at
uses_from (first ∷ more) uses own at =
    elim (uses_from more (cond (list_any (same_use first) uses) uses (inserted use_rank first uses)) own at) [
      | inl a ↦ inl (inr a)
      | inr b ↦ by (list_any (same_use first) uses) b
    ]
  where
    by : (b : Bool) → In own (cond b uses (inserted use_rank first uses)) → In own (first ∷ more) ⊎ In own uses
    by true h = inr h
    by false h = elim (from_inserted use_rank first uses own h) [ inl same ↦ inl (inl same) | inr there ↦ inr there ]

use_itself : (own : Use) → same_use own own ≡ true
use_itself own =
    ap (λ b. b && (mode_rank own.mode == mode_rank own.mode)) (number_itself own.table)
    ∙ number_itself (mode_rank own.mode)

uses_got : (asked uses : List Use) (own : Use) → In own asked
    → (other : Use) × In other (with_uses asked uses) × (same_use own other ≡ true)
uses_got [] uses own at = absurd at
uses_got (first ∷ more) uses own (inr at) = uses_got more _ own at
uses_got (first ∷ more) uses own (inl same) =
    let r = by (list_any (same_use first) uses) refl in (
      r.0,
      uses_kept more (cond (list_any (same_use first) uses) uses (inserted use_rank first uses)) r.0 r.1,
      ap (λ o. same_use o r.0) same ∙ r.2,
    )
  where
    by : (b : Bool) → list_any (same_use first) uses ≡ b
        → (other : Use) × In other (cond b uses (inserted use_rank first uses)) × (same_use first other ≡ true)
    by true is = any_some (same_use first) uses is
    by false is = (first, to_inserted use_rank first uses first (inl refl), use_itself first)

abbrev uses_table : ℕ → Use → Bool
uses_table table own = own.table == table

abbrev owns_table : ℕ → Use → Bool
owns_table table own = (own.table == table) && (mode_rank own.mode == 1)

one_use : (own other : Use) → same_use own other ≡ true
    → (own.table ≡ other.table) × (mode_rank own.mode ≡ mode_rank other.mode)
one_use own other e =
    let r = and_both (own.table == other.table) (mode_rank own.mode == mode_rank other.mode) e in
    (same_number own.table other.table r.0, same_number (mode_rank own.mode) (mode_rank other.mode) r.1)

pub used_got : (asked uses : List Use) (table : ℕ) → is_used asked table ≡ true
    → is_used (with_uses asked uses) table ≡ true
used_got asked uses table used =
    let own = any_some (uses_table table) asked used in
    let other = uses_got asked uses own.0 own.1 in
    any_in (uses_table table) (with_uses asked uses) other.0 other.1
    (ap (λ n. n == table) (sym (one_use own.0 other.0 other.2).0) ∙ own.2)

owned_got : (asked uses : List Use) (table : ℕ) → is_owned asked table ≡ true
    → is_owned (with_uses asked uses) table ≡ true
owned_got asked uses table used =
    let own = any_some (owns_table table) asked used in
    let other = uses_got asked uses own.0 own.1 in
    let same = one_use own.0 other.0 other.2 in
    any_in (owns_table table) (with_uses asked uses) other.0 other.1
    ((λ i. (sym same.0 i == table) && (sym same.1 i == 1)) ∙ own.2)

pub holds_asked : (member : Member) (asked : List Use) → HoldsUses (holding member asked) asked
holds_asked member asked table = (used_got asked member.uses table, owned_got asked member.uses table)

pub holds_more : (member : Member) (asked : List Use) → HoldsUses (holding member asked) member.uses
holds_more member asked table = (
  λ used.
      let own = any_some (uses_table table) member.uses used in
      any_in (uses_table table) (with_uses asked member.uses) own.0 (uses_kept asked member.uses own.0 own.1) own.2,
  λ used.
      let own = any_some (owns_table table) member.uses used in
      any_in (owns_table table) (with_uses asked member.uses) own.0 (uses_kept asked member.uses own.0 own.1) own.2,
)

pub used_from : (asked uses : List Use) (table : ℕ) → is_used (with_uses asked uses) table ≡ true
    → (is_used asked table ≡ true) ⊎ (is_used uses table ≡ true)
used_from asked uses table used =
    let own = any_some (uses_table table) (with_uses asked uses) used in
    elim (uses_from asked uses own.0 own.1) [
      | inl a ↦ inl (any_in (uses_table table) asked own.0 a own.2)
      | inr b ↦ inr (any_in (uses_table table) uses own.0 b own.2)
    ]

owned_from : (asked uses : List Use) (table : ℕ) → is_owned (with_uses asked uses) table ≡ true
    → (is_owned asked table ≡ true) ⊎ (is_owned uses table ≡ true)
owned_from asked uses table used =
    let own = any_some (owns_table table) (with_uses asked uses) used in
    elim (uses_from asked uses own.0 own.1) [
      | inl a ↦ inl (any_in (owns_table table) asked own.0 a own.2)
      | inr b ↦ inr (any_in (owns_table table) uses own.0 b own.2)
    ]

-- ---- nobody blocks it

exclusive_first : (one other : Mode) → (mode_rank one == 1) ≡ true → in_conflict one other ≡ true
exclusive_first Shared other e = cc
exclusive_first Exclusive other e = refl

exclusive_second : (one other : Mode) → (mode_rank other == 1) ≡ true → in_conflict one other ≡ true
exclusive_second Shared Shared e = cc
exclusive_second Shared Exclusive e = refl
exclusive_second Exclusive other e = refl

conflict_is : (own other : Use) (table : ℕ) → (own.table == table) ≡ true → (other.table == table) ≡ true
    → in_conflict own.mode other.mode ≡ true → uses_conflict own other ≡ true
conflict_is own other table here there clashes =
    let same : own.table ≡ other.table =
    same_number own.table table here ∙ sym (same_number other.table table there) in
    (λ i. (same i == other.table) && clashes i) ∙ ap (λ b. b && true) (number_itself other.table)

-- uses that conflict with none that a member holds
abbrev pub Free : List Use → List Use → Type 0
Free asked uses =
    (table : ℕ) → (is_owned asked table ≡ true → is_used uses table ≡ false)
    × (is_owned uses table ≡ true → is_used asked table ≡ false)

free_of : (asked : List Use) (holder : Member) → is_conflicting asked holder ≡ false → Free asked holder.uses
free_of asked holder out table = (
  λ owned. not_so (is_used holder.uses table) (λ used.
      let own = any_some (owns_table table) asked owned in
      let other = any_some (uses_table table) holder.uses used in
      let two = and_both (own.0.table == table) (mode_rank own.0.mode == 1) own.2 in
      clash (uses_conflict own.0 other.0)
      (conflict_is own.0 other.0 table two.0 other.2 (exclusive_first own.0.mode other.0.mode two.1))
      (none own.0 own.1 other.0 other.1)),
  λ owned. not_so (is_used asked table) (λ used.
      let own = any_some (uses_table table) asked used in
      let other = any_some (owns_table table) holder.uses owned in
      let two = and_both (other.0.table == table) (mode_rank other.0.mode == 1) other.2 in
      clash (uses_conflict own.0 other.0)
      (conflict_is own.0 other.0 table own.2 two.0 (exclusive_second own.0.mode other.0.mode two.1))
      (none own.0 own.1 other.0 other.1)),
)
  where
    none : (own : Use) → In own asked → (other : Use) → In other holder.uses → uses_conflict own other ≡ false
    none own at other there =
        any_none (uses_conflict own) holder.uses
        (any_none (λ first. list_any (uses_conflict first) holder.uses) asked out own at) other there

least_none : (ms : List Member) → least (map (λ (m : Member). m.tx) ms) ≡ None → (m : Member) → In m ms → ⊥
least_none [] e m at = at
least_none (x ∷ ms) e m at = cc (e)

module _ (s : State) (asker : Member) (asked : List Use) (free : blocker s asker asked ≡ None) where
  not_conflicting : (holder : Member) → In holder (not_passed s asker) → Free asked holder.uses
  not_conflicting holder at =
      free_of asked holder
      (not_so (is_conflicting asked holder) (λ is.
      least_none (conflicting s asker asked) free holder
      (to_filter (is_conflicting asked) (not_passed s asker) holder at is)))

  pub free_active : (holder : Member) → In holder s.active → (holder.tx ≡ asker.tx → ⊥) → Free asked holder.uses
  free_active holder at differs =
      not_conflicting holder (in_second (filter (λ h. not (h.group == asker.group)) s.prepared)
      (filter (λ h. not (h.tx == asker.tx)) s.active) holder
      (to_filter (λ h. not (h.tx == asker.tx)) s.active holder at (ap not (other_number holder.tx asker.tx differs))))

  pub free_prepared : (holder : Member) → In holder s.prepared → (holder.group ≡ asker.group → ⊥)
      → Free asked holder.uses
  free_prepared holder at differs =
      not_conflicting holder (in_first (filter (λ h. not (h.group == asker.group)) s.prepared)
      (filter (λ h. not (h.tx == asker.tx)) s.active) holder
      (to_filter (λ h. not (h.group == asker.group)) s.prepared holder at
      (ap not (other_number holder.group asker.group differs))))

-- with uses that are free of another's, one stays apart from it
pub apart_holding : (member other : Member) (asked : List Use) → Free asked other.uses → Apart member other
    → Apart (holding member asked) other
apart_holding member other asked free apart table = (
  λ owned. elim (owned_from asked member.uses table owned) [
    | inl a ↦ (free table).0 a
    | inr b ↦ (apart table).0 b
  ],
  λ owned. not_so (is_used (with_uses asked member.uses) table) (λ used.
      elim (used_from asked member.uses table used) [
        | inl a ↦ clash (is_used asked table) a ((free table).1 owned)
        | inr b ↦ clash (is_used member.uses table) b ((apart table).1 owned)
      ]),
)
