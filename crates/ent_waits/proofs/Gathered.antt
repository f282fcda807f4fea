-- The pairs that are gathered are those of the protocol, and name members.
use Rattle.std.proofs.Common.{◌≡◌, ◌↔◌, ℕ, ◌≤◌, Bool, true, false, if◌then◌else◌, List, [], ◌∷◌, length, map}
use Rattle.std.proofs.Common.{sym, ap, subst, ◌∙◌, arith}
use Rattle.std.specs.Prelude.{All, Contains, IfSome, None, Option, Some, filter, slice_index}
use Rattle.std.specs.List.{flat_map}
use Rattle.std.proofs.lemmas.List.{length-map}
use Rattle.std.proofs.lemmas.List.Concat.{flat_map_single}
use Rattle.std.proofs.lemmas.List.Elements.{All-cons, All-contains_itself, All-nil, All-weaker}
use Rattle.ent_group.specs.Cycle.{IsCycle, IsOnCycle, NamesAtMost}
use Rattle.ent_semantics.specs.Serial.{numbered}
use Rattle.ent_members.specs.Order.{tx_of}
use Rattle.ent_run.specs.Run.{Run, with_run}
use Rattle.ent_run.specs.Waits.{is_awaited, pairs_of}
use Rattle.ent_protocol.specs.Job.{Job}
use Rattle.ent_protocol.specs.Member.{next_in, next_of}
use Rattle.ent_protocol.specs.State.{State, Member, Submitted, Use}
use Rattle.ent_protocol.specs.Waits.{IsDeadlock, NoDeadlock, is_waiting, next_uses, waits, waits_of}
use Rattle.ent_waits.specs.Waits.{gathered, nothing, pair_if_awaited, pairs_while_waiting, state_with}
use Rattle.ent_waits.proofs.OnCycles.{all_of_flat_map, contains_map, cycle_within, flat_map_if, flat_map_within}
use Rattle.ent_waits.proofs.OnCycles.{on_cycle_within}

-- what the law of awaited members says
abbrev pub AwaitedAreWaitedFor : Type 0
AwaitedAreWaitedFor = (s : State) (asker : Member) (pair : ℕ × ℕ)
    → Contains (waits_of s asker) pair ↔ Contains (pairs_of s asker (next_uses (next_of s asker))) pair

-- ---- which pairs are there

abbrev pair_of : Member → Member → ℕ × ℕ
pair_of asker other = (asker.tx, other.tx)

awaited_pairs : (run : Run) (asker : Member) (asked : List Use)
    → flat_map (pair_if_awaited run asker asked) run.active ≡ pairs_of (with_run run nothing) asker asked
awaited_pairs run asker asked =
    let test = is_awaited (with_run run nothing) asker asked in
    flat_map_if test (λ other. pair_of asker other ∷ []) run.active
    ∙ flat_map_single (pair_of asker) (filter test run.active)

within_if : (b : Bool) (xs ys : List (ℕ × ℕ)) (pair : ℕ × ℕ) → (Contains xs pair → Contains ys pair)
    → Contains (if b then xs else []) pair → Contains (if b then ys else []) pair
within_if true xs ys pair within h = within h
within_if false xs ys pair within h = h

waits_if : (s : State) → flat_map (λ asker. if is_waiting s asker then waits_of s asker else []) s.active ≡ waits s
waits_if s = flat_map_if (is_waiting s) (waits_of s) s.active

pub into_waits : AwaitedAreWaitedFor → (run : Run) (submitted : List Submitted) (lent : List Job) (s : State)
    (pair : ℕ × ℕ) → Contains (gathered run submitted lent) pair
    → Contains (waits (state_with run submitted lent s)) pair
into_waits law run submitted lent s pair h =
    let now = state_with run submitted lent s in
    subst (λ pairs. Contains pairs pair) (waits_if now)
    (flat_map_within (pairs_while_waiting run submitted lent)
    (λ asker. if is_waiting now asker then waits_of now asker else []) (λ asker other.
    let asked = next_uses (next_of now asker) in
    within_if (is_waiting now asker) (flat_map (pair_if_awaited run asker asked) run.active) (waits_of now asker)
    other (λ there. (law now asker other).1
    (subst (λ pairs. Contains pairs other) (awaited_pairs run asker asked) there)))
    run.active pair h)

pub out_of_waits : AwaitedAreWaitedFor → (run : Run) (submitted : List Submitted) (lent : List Job) (s : State)
    (pair : ℕ × ℕ) → Contains (waits (state_with run submitted lent s)) pair
    → Contains (gathered run submitted lent) pair
out_of_waits law run submitted lent s pair h =
    let now = state_with run submitted lent s in
    flat_map_within (λ asker. if is_waiting now asker then waits_of now asker else [])
    (pairs_while_waiting run submitted lent) (λ asker other.
    let asked = next_uses (next_of now asker) in
    within_if (is_waiting now asker) (waits_of now asker) (flat_map (pair_if_awaited run asker asked) run.active)
    other (λ there. subst (λ pairs. Contains pairs other) (sym (awaited_pairs run asker asked))
    ((law now asker other).0 there)))
    run.active pair (subst (λ pairs. Contains pairs pair) (sym (waits_if now)) h)

-- ---- whom they name

abbrev IsNamed : List ℕ → ℕ × ℕ → Type 0
IsNamed names pair = Contains names pair.0 × Contains names pair.1

abbrev names_in : Run → List ℕ
names_in run = map tx_of run.active

named_pair : (names : List ℕ) (b : Bool) (tx other : ℕ) → Contains names tx → Contains names other
    → All (IsNamed names) (if b then (tx, other) ∷ [] else [])
named_pair names true tx other own named =
    All-cons (IsNamed names) (tx, other) [] (own, named) (All-nil (IsNamed names))
named_pair names false tx other own named = All-nil (IsNamed names)

named_if : (names : List ℕ) (b : Bool) (pairs : List (ℕ × ℕ)) → All (IsNamed names) pairs
    → All (IsNamed names) (if b then pairs else [])
named_if names true pairs named = named
named_if names false pairs named = All-nil (IsNamed names)

named_awaited : (run : Run) (asker : Member) (asked : List Use) → Contains run.active asker
    → All (IsNamed (names_in run)) (flat_map (pair_if_awaited run asker asked) run.active)
named_awaited run asker asked there =
    let names = names_in run in
    let P : Member → Type 0 = λ other. All (IsNamed names) (pair_if_awaited run asker asked other) in
    all_of_flat_map (IsNamed names) (pair_if_awaited run asker asked) run.active
    (All-weaker (Contains run.active) P (λ other named.
    named_pair names (is_awaited (with_run run nothing) asker asked other) asker.tx other.tx
    (contains_map tx_of run.active asker there) (contains_map tx_of run.active other named))
    run.active (All-contains_itself run.active))

named_gathered : (run : Run) (submitted : List Submitted) (lent : List Job)
    → All (IsNamed (names_in run)) (gathered run submitted lent)
named_gathered run submitted lent =
    let names = names_in run in
    let P : Member → Type 0 = λ asker. All (IsNamed names) (pairs_while_waiting run submitted lent asker) in
    all_of_flat_map (IsNamed names) (pairs_while_waiting run submitted lent) run.active
    (All-weaker (Contains run.active) P (λ asker there.
    let asked = next_uses (next_in (numbered submitted asker.tx) asker) in
    named_if names (is_waiting (state_with run submitted lent nothing) asker)
    (flat_map (pair_if_awaited run asker asked) run.active) (named_awaited run asker asked there))
    run.active (All-contains_itself run.active))

-- pairs of a run's active members name at most as many as it has
pub few_names : (run : Run) (submitted : List Submitted) (lent : List Job) (most : ℕ) → length run.active ≤ most
    → NamesAtMost most (gathered run submitted lent)
few_names run submitted lent most bound = (
  names_in run,
  omega (arith, length-map run.active tx_of, bound),
  named_gathered run submitted lent,
)

-- ---- as the code gathers them

pub pair_by : (run : Run) (asker other : Member) (asked : List Use) (b : Bool)
    → is_awaited (with_run run nothing) asker asked other ≡ b
    → pair_if_awaited run asker asked other ≡ (if b then (asker.tx, other.tx) ∷ [] else [])
pair_by run asker other asked b is = ap (λ (r : Bool). if r then (asker.tx, other.tx) ∷ [] else []) is

pub pairs_by : (run : Run) (submitted : List Submitted) (lent : List Job) (asker : Member) (asked : List Use)
    (b : Bool) → is_waiting (state_with run submitted lent nothing) asker ≡ b
    → asked ≡ next_uses (next_in (numbered submitted asker.tx) asker)
    → pairs_while_waiting run submitted lent asker
    ≡ (if b then flat_map (pair_if_awaited run asker asked) run.active else [])
pairs_by run submitted lent asker asked b is uses =
    ap (λ (r : Bool). if r
    then flat_map (pair_if_awaited run asker (next_uses (next_in (numbered submitted asker.tx) asker))) run.active
    else []) is
    ∙ ap (λ (us : List Use). if b then flat_map (pair_if_awaited run asker us) run.active else []) (sym uses)

-- ---- deadlocks

abbrev pub IsGreatest : List (ℕ × ℕ) → List ℕ → Type 0
IsGreatest pairs members = (x : ℕ) → IsOnCycle pairs x → x ≤ slice_index members 0

pub found_deadlock : AwaitedAreWaitedFor → (run : Run) (submitted : List Submitted) (lent : List Job) (s : State)
    (found : Option (List ℕ)) → IfSome found (IsCycle (gathered run submitted lent))
    → IfSome found (IsGreatest (gathered run submitted lent))
    → IfSome found (IsDeadlock (state_with run submitted lent s))
found_deadlock law run submitted lent s (Some members) cycle greatest = record {
  is_cycle = cycle_within (gathered run submitted lent) (waits (state_with run submitted lent s))
      (into_waits law run submitted lent s) members cycle;
  greatest = λ tx found_cycle. greatest tx (on_cycle_within (waits (state_with run submitted lent s))
      (gathered run submitted lent) (out_of_waits law run submitted lent s) tx found_cycle);
}
found_deadlock law run submitted lent s None cycle greatest = tt

pub no_deadlock : AwaitedAreWaitedFor → (run : Run) (submitted : List Submitted) (lent : List Job) (s : State)
    → ((x : ℕ) → ¬ (IsOnCycle (gathered run submitted lent) x)) → NoDeadlock (state_with run submitted lent s)
no_deadlock law run submitted lent s none = λ tx found_cycle. none tx
    (on_cycle_within (waits (state_with run submitted lent s)) (gathered run submitted lent)
    (out_of_waits law run submitted lent s) tx found_cycle)
