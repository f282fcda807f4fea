-- There are few scripts, so that transactions are of numbers that a reply has room for.
use Rattle.std.proofs.Common.{◌≡◌, ◌≤◌, ℕ, zero, suc, List, [], ◌∷◌, ◌++◌, length, map, sym, subst, arith, take}
use Rattle.std.specs.Prelude.{All}
use Rattle.std.specs.List.{AllByRecursion, filter}
use Rattle.std.proofs.lemmas.List.Elements.{All-from_recursion}
use Rattle.ent_lists.specs.Elements.{all_by, all_filtered, all_map, all_second, contains_in, of_all}
use Rattle.ent_tree.specs.declared.limits.TheConstants.{MOST_SCRIPTS}
use Rattle.ent_group.specs.Cycle.{IsCycle}
use Rattle.ent_members.specs.Order.{tx_of}
use Rattle.ent_protocol.specs.Member.{is_of}
use Rattle.ent_protocol.specs.Rollback.{group_numbers}
use Rattle.ent_protocol.specs.Run.{fresh, numbers_of}
use Rattle.ent_protocol.specs.State.{Dormant, Member, State, Submitted, by_number, members}
use Rattle.ent_protocol.specs.Waits.{waits}
use Rattle.ent_protocol_laws.specs.Attempts.{MayTakePart}
use Rattle.ent_waits.proofs.Waiters.{HasNumber, all_are_active}
use Rattle.ent_core.specs.declared.packed_members.TheConstants.{GREATEST_PACKED}
use Rattle.ent_core.proofs.Sorted.{all_by_number}
use Rattle.ent_core.proofs.TakenOut.{part_numbered}

abbrev pub IsPackable : ℕ → Type 0
IsPackable tx = tx ≤ GREATEST_PACKED

abbrev IsPackedAs : Member → Type 0
IsPackedAs m = IsPackable m.tx

listed : (ms : List Member) → AllByRecursion IsPackedAs ms → All IsPackable (map tx_of ms)
listed ms all = All-from_recursion IsPackable (map tx_of ms) (all_map tx_of IsPackable ms all)

by_their_number : (ms : List Member) → AllByRecursion IsPackedAs ms → All IsPackable (numbers_of ms)
by_their_number ms all = listed (by_number tx_of ms) (all_by_number IsPackedAs ms all)

all_taken : (P : Dormant → Type 0) (n : ℕ) (dormant : List Dormant) → AllByRecursion P dormant
    → AllByRecursion P (take n dormant)
all_taken P zero dormant all = tt
all_taken P (suc n) [] all = tt
all_taken P (suc n) (own ∷ more) all = (all.0, all_taken P n more all.1)

module _ (submitted : List Submitted) (few : length submitted ≤ MOST_SCRIPTS) where
  of_few : (tx : ℕ) → tx ≤ length submitted → IsPackable tx
  of_few tx low = omega (arith, few, low)

  part : (m : Member) → MayTakePart submitted m → IsPackedAs m
  part m own = of_few m.tx (part_numbered submitted m own).1

  parts : (ms : List Member) → AllByRecursion (MayTakePart submitted) ms → AllByRecursion IsPackedAs ms
  parts ms all = all_by (MayTakePart submitted) IsPackedAs ms part all

  -- members as they stand, and by number
  pub members_packed : (ms : List Member) → AllByRecursion (MayTakePart submitted) ms → All IsPackable (map tx_of ms)
  members_packed ms all = listed ms (parts ms all)

  pub run_packed : (ms : List Member) → AllByRecursion (MayTakePart submitted) ms → All IsPackable (numbers_of ms)
  run_packed ms all = by_their_number ms (parts ms all)

  pub group_packed : (s : State) (group : ℕ) → AllByRecursion (MayTakePart submitted) (members s)
      → All IsPackable (group_numbers s group)
  group_packed s group all =
      by_their_number (filter (is_of group) (members s))
      (all_filtered IsPackedAs (is_of group) (members s) (parts (members s) all))

  -- those of a run that starts
  pub started_packed : (n : ℕ) (dormant : List Dormant) (prepared active : List Member)
      → AllByRecursion (λ (own : Dormant). own.tx ≤ length submitted) dormant → prepared ≡ []
      → active ≡ by_number tx_of (map fresh (take n dormant)) → All IsPackable (numbers_of (prepared ++ active))
  started_packed n dormant prepared active arrived none is =
      let first = all_taken (λ (own : Dormant). own.tx ≤ length submitted) n dormant arrived in
      let begun : AllByRecursion IsPackedAs (map fresh (take n dormant)) =
      all_map fresh IsPackedAs (take n dormant)
      (all_by (λ (own : Dormant). own.tx ≤ length submitted) (λ (own : Dormant). IsPackable own.tx) (take n dormant)
      (λ own low. of_few own.tx low) first) in
      let all : AllByRecursion IsPackedAs (by_number tx_of (map fresh (take n dormant))) =
      all_by_number IsPackedAs (map fresh (take n dormant)) begun in
      subst (λ (ms : List Member). All IsPackable (numbers_of (ms ++ active))) (sym none)
      (subst (λ (ms : List Member). All IsPackable (numbers_of ms)) (sym is) (by_their_number _ all))

  -- those who wait for each other
  pub cycle_packed : (s : State) (cycle : List ℕ) → IsCycle (waits s) cycle
      → AllByRecursion (MayTakePart submitted) (members s) → All IsPackable cycle
  cycle_packed s cycle is all =
      All-from_recursion IsPackable cycle (all_by (HasNumber s.active) IsPackable cycle own (all_are_active s cycle is))
    where
      own : (tx : ℕ) → HasNumber s.active tx → IsPackable tx
      own tx has =
          let active = all_second (MayTakePart submitted) s.prepared s.active all in
          subst IsPackable has.2
          (part has.0 (of_all (MayTakePart submitted) s.active has.0 active (contains_in s.active has.0 has.1)))
