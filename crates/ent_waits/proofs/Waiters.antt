-- Who waits is a member that isn't prepared, and so is the first of a cycle.
use Rattle.std.proofs.Common.{◌≡◌, ◌==◌, ℕ, zero, suc, Bool, true, false, if◌then◌else◌, List, [], ◌∷◌, map}
use Rattle.std.proofs.Common.{Some, refl, sym, ap, ◌∙◌, arith, true≢false}
use Rattle.std.specs.List.{AllByRecursion}
use Rattle.std.specs.Prelude.{All, Contains, filter, slice_index, slice_index_or}
use Rattle.std.proofs.lemmas.Bool.Decides.{nat_tests}
use Rattle.std.proofs.lemmas.List.Elements.{All-contains, All-contains_itself, All-filter, All-head, All-map}
use Rattle.std.proofs.lemmas.List.Elements.{All-tail, All-weaker}
use Rattle.ent_group.specs.Cycle.{IsCycle, links_to}
use Rattle.ent_protocol.specs.Member.{active_member, is_tx, next_of}
use Rattle.ent_protocol.specs.State.{State, Member, first_of}
use Rattle.ent_protocol.specs.Uses.{conflicting}
use Rattle.ent_protocol.specs.Waits.{awaited, is_waiting, next_uses, waits, waits_of}
use Rattle.ent_waits.proofs.OnCycles.{all_of_flat_map}

-- one of a list has a number
abbrev pub HasNumber : List Member → ℕ → Type 0
HasNumber members tx = (member : Member) × Contains members member × (member.tx ≡ tx)

abbrev IsOf : State → ℕ × ℕ → Type 0
IsOf s pair = HasNumber s.active pair.0

waits_of_own : (s : State) (member : Member) → Contains s.active member → All (IsOf s) (waits_of s member)
waits_of_own s member there =
    let way = conflicting s member (next_uses (next_of s member)) in
    let over : Member → List (ℕ × ℕ) = λ holder. map (λ other. (member.tx, other.tx)) (awaited s member holder) in
    all_of_flat_map (IsOf s) over way (λ k d within. All-map (IsOf s) (λ (other : Member). (member.tx, other.tx))
    (awaited s member (slice_index_or way k d)) (λ i e below. (member, there, refl)))

waiters_are_active : (s : State) → All (IsOf s) (waits s)
waiters_are_active s =
    let P : Member → Type 0 = λ member. All (IsOf s) (waits_of s member) in
    all_of_flat_map (IsOf s) (waits_of s) (filter (is_waiting s) s.active)
    (All-filter (is_waiting s) P s.active
    (All-weaker (Contains s.active) P (waits_of_own s) s.active (All-contains_itself s.active)))

-- ---- the first of a number

eq_is : (n m : ℕ) → n ≡ m → (n == m) ≡ true
eq_is n m is = grind (arith, nat_tests)

found_by : (tx : ℕ) (first : Member) (members : List Member) (b : Bool) → is_tx tx first ≡ b
    → (HasNumber members tx → (found : Member) × (first_of (filter (is_tx tx) members) ≡ Some found))
    → HasNumber (first ∷ members) tx
    → (found : Member) × (first_of (if b then first ∷ filter (is_tx tx) members else filter (is_tx tx) members)
    ≡ Some found)
found_by tx first members true is rest there = (first, refl)
found_by tx first members false is rest (member, (zero, within, at), own) =
    absurd (true≢false (sym (eq_is first.tx tx (ap (λ (m : Member). m.tx) at ∙ own)) ∙ is))
found_by tx first members false is rest (member, (suc k, within, at), own) =
    rest (member, (k, omega (arith, within), at), own)

found_in : (tx : ℕ) (members : List Member) → HasNumber members tx
    → (found : Member) × (first_of (filter (is_tx tx) members) ≡ Some found)
found_in tx [] (member, (k, within, at), own) = absurd (omega (arith, within))
found_in tx (first ∷ members) there = found_by tx first members (is_tx tx first) refl (found_in tx members) there

-- the first of a cycle waits, and so is active
pub first_is_active : (s : State) (cycle : List ℕ) → IsCycle (waits s) cycle
    → (victim : Member) × (active_member s (slice_index cycle 0) ≡ Some victim)
first_is_active s [] cycle = let some = cycle.closes.not_empty in absurd (omega (arith, some))
first_is_active s (x ∷ []) cycle =
    found_in x s.active (All-contains (IsOf s) (waits s) (x, x) (waiters_are_active s)
    (All-head (Contains (waits s)) (x, x) [] cycle.closes.linked))
first_is_active s (x ∷ y ∷ more) cycle =
    found_in x s.active (All-contains (IsOf s) (waits s) (x, y) (waiters_are_active s)
    (All-head (Contains (waits s)) (x, y) (links_to (y ∷ more) x) cycle.closes.linked))

-- ---- all of a cycle

all_linked : (s : State) (xs : List ℕ) (end : ℕ) → All (Contains (waits s)) (links_to xs end)
    → AllByRecursion (HasNumber s.active) xs
all_linked s [] end linked = tt
all_linked s (x ∷ []) end linked = (
  All-contains (IsOf s) (waits s) (x, end) (waiters_are_active s) (All-head (Contains (waits s)) (x, end) [] linked),
  tt,
)
all_linked s (x ∷ y ∷ more) end linked = (
  All-contains (IsOf s) (waits s) (x, y) (waiters_are_active s)
      (All-head (Contains (waits s)) (x, y) (links_to (y ∷ more) end) linked),
  all_linked s (y ∷ more) end (All-tail (Contains (waits s)) (x, y) (links_to (y ∷ more) end) linked),
)

-- all of a cycle wait, and so are active
pub all_are_active : (s : State) (cycle : List ℕ) → IsCycle (waits s) cycle → AllByRecursion (HasNumber s.active) cycle
all_are_active s [] cycle = tt
all_are_active s (x ∷ more) cycle = all_linked s (x ∷ more) x cycle.closes.linked
