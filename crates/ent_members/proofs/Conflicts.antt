-- Uses that a lock table shows, in conflict with one that is asked for.
use Rattle.std.proofs.Common.{◌≡◌, ◌⊎◌, inl, inr, ℕ, zero, suc, true, ◌==◌, List, [], ◌∷◌}
use Rattle.std.proofs.Common.{refl, sym, subst, arith}
use Rattle.std.specs.Prelude.{◌↔◌, Contains, MatchOption, Option, Some, None}
use Rattle.std.proofs.lemmas.List.Elements.{Contains-append_right}
use Rattle.ent_lists.specs.Elements.{and_both, not_so, same_number}
use Rattle.ent_lock.specs.declared.holders.Holder.{Holder}
use Rattle.ent_lock.specs.declared.mode.Mode.{Mode}
use Rattle.ent_lock.specs.Mode.{in_conflict}
use Rattle.ent_lock.specs.Use.{Holds, Uses, key_of_number}
use Rattle.ent_protocol.specs.State.{Use}
use Rattle.ent_protocol.specs.Uses.{uses_conflict}
use Rattle.ent_members.specs.Conflict.{IsConflict, IsHeldAgainst, NoConflict, NoneHeldAgainst, NoneInConflict}
use Rattle.ent_members.specs.InRun.{AreByNumber, uses_of}
use Rattle.ent_members.specs.declared.conflict.Conflict.{Conflict}
use Rattle.ent_members.proofs.UsesOf.{uses_there}

abbrev pub AreHoldersOf : Uses → ℕ → List Holder → Type 0
AreHoldersOf locks table holders =
    (tx : ℕ) (mode : Mode)
    → Contains holders (record { holder = tx; mode = mode }) ↔ Holds locks tx (key_of_number table) mode

contains_cases : (y x : Use) (xs : List Use) → Contains (y ∷ xs) x → (y ≡ x) ⊎ Contains xs x
contains_cases y x xs (zero, within, is) = inl is
contains_cases y x xs (suc i, within, is) = inr (i, omega (arith, within), is)

module _ (locks : Uses) (by_number : AreByNumber locks) (tx : ℕ) (first : Use) (rest : List Use)
    (holders : List Holder) (are : AreHoldersOf locks first.table holders) where
  pub first_clashes : (held : Mode) → IsHeldAgainst holders tx first.mode held
      → IsConflict (first ∷ rest) (uses_of locks tx)
      (record { table = first.table; asked = first.mode; held = held })
  first_clashes held (clash, there) = record {
    is_asked = (0, omega arith, refl);
    is_held = (uses_there locks by_number tx (record { table = first.table; mode = held })).1 ((are tx held).0 there);
    clash = clash;
  }

  none_first : NoneHeldAgainst holders tx first.mode → NoneInConflict first (uses_of locks tx)
  none_first none other there = not_so (uses_conflict first other) clashing
    where
      clashing : uses_conflict first other ≡ true → ⊥
      clashing conflict =
          let parts = and_both (first.table == other.table) (in_conflict first.mode other.mode) conflict in
          let same : other.table ≡ first.table = sym (same_number first.table other.table parts.0) in
          none other.mode (
            parts.1,
            (are tx other.mode).1 (subst (λ (n : ℕ). Holds locks tx (key_of_number n) other.mode) same
                ((uses_there locks by_number tx other).0 there)),
          )

  pub clashes_later : NoneHeldAgainst holders tx first.mode → (between : Option Conflict)
      → MatchOption between (NoConflict rest (uses_of locks tx)) (IsConflict rest (uses_of locks tx))
      → MatchOption between (NoConflict (first ∷ rest) (uses_of locks tx))
      (IsConflict (first ∷ rest) (uses_of locks tx))
  clashes_later none None free = λ own asked. by_cases own (contains_cases first own rest asked)
    where
      by_cases : (own : Use) → (first ≡ own) ⊎ Contains rest own → NoneInConflict own (uses_of locks tx)
      by_cases own (inl same) = subst (λ (u : Use). NoneInConflict u (uses_of locks tx)) same (none_first none)
      by_cases own (inr later) = free own later
  clashes_later none (Some between) is = record {
    is_asked = Contains-append_right (first ∷ []) rest _ is.is_asked;
    is_held = is.is_held;
    clash = is.clash;
  }
