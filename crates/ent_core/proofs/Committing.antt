-- A member prepares, and its group commits.
use Rattle.std.proofs.Common.{◌≡◌, ◌≤◌, ℕ, suc, Bool, true, false, not, List, [], ◌∷◌, ◌++◌, length, map, refl}
use Rattle.std.proofs.Common.{sym, ap, subst, ◌∙◌, arith, filter, Some, None}
use Rattle.std.specs.List.{AllByRecursion}
use Rattle.std.proofs.lemmas.List.{length-append, length-map}
use Rattle.ent_lists.specs.Elements.{all_filtered, all_joined, shorter}
use Rattle.ent_semantics.specs.declared.book.Entry.{Entry}
use Rattle.ent_semantics.specs.declared.book.Fated.{Fated}
use Rattle.ent_semantics.specs.declared.book.Fate.TheVariants as Fates
use Rattle.ent_members.specs.Order.{tx_of}
use Rattle.ent_members.specs.RunAttempts.{numbers_in, run_attempt_of}
use Rattle.ent_members.specs.declared.run_attempts.RunAttempt.{RunAttempt}
use Rattle.ent_members.proofs.ByNumber.{run_attempt_numbers}
use Rattle.ent_run.specs.Moves.{PreparesMember, is_of_another, run_of}
use Rattle.ent_run.specs.Places.{found}
use Rattle.ent_run.specs.Run.{Run, with_run}
use Rattle.ent_protocol.specs.Begin.{BeginsCommit}
use Rattle.ent_protocol.specs.Commit.{commit_fates, commit_numbers, committing, committing_members, entry_of, is_ready}
use Rattle.ent_protocol.specs.Commit.{preparing}
use Rattle.ent_protocol.specs.Event.{Reply, Committed, Prepared}
use Rattle.ent_protocol.specs.Member.{is_of, is_tx}
use Rattle.ent_protocol.specs.Rollback.{is_among}
use Rattle.ent_protocol.specs.State.{Change, State, Submitted, Member, first_of}
use Rattle.ent_members.specs.ByNumber.{IsNumbered}
use Rattle.ent_protocol_laws.specs.Attempts.{MayTakePart}
use Rattle.ent_core.specs.Reply.{numbered_from}
use Rattle.ent_core.proofs.TakenOut.{part_numbered}

-- ---- what is told

pub numbers_told : (number : ℕ) (members : List Member)
    → numbered_from number (map (λ (member : Member). member.tx) members) ≡ commit_numbers number members
numbers_told number [] = refl
numbers_told number (member ∷ more) = ap (λ rest. (number, member.tx) ∷ rest) (numbers_told (suc number) more)

-- ---- how many

some_there : (active : List Member) (tx : ℕ) (member : Member) → found active tx ≡ Some member → 1 ≤ length active
some_there [] tx member e = absurd cc
some_there (x ∷ xs) tx member e = omega arith

-- those who commit are members, of whom there is at most one more that is prepared than before
pub committed_few : (old mid : Run) (tx group : ℕ) (member : Member) (committed : List Member)
    → found old.active tx ≡ Some member → PreparesMember member old mid
    → committed ≡ filter (is_of group) mid.prepared → length committed ≤ length (old.prepared ++ old.active)
committed_few old mid tx group member committed there prepares is =
    omega (
      arith,
      ap length is,
      shorter (is_of group) mid.prepared,
      ap length prepares.prepared,
      length-append old.prepared (member ∷ []),
      length-append old.prepared old.active,
      some_there old.active tx member there,
    )

-- ---- who they are

first_all : (P : Member → Type 0) (ms : List Member) (m : Member) → AllByRecursion P ms → first_of ms ≡ Some m → P m
first_all P [] m all e = let none : None ≡ Some m = e in absurd cc
first_all P (x ∷ xs) m all e = let same : x ≡ m = cc in subst P same all.0

-- what holds of all members holds of those that commit
pub committed_all : (P : Member → Type 0) (old mid : Run) (tx group : ℕ) (member : Member) (committed : List Member)
    → found old.active tx ≡ Some member → PreparesMember member old mid → committed ≡ filter (is_of group) mid.prepared
    → AllByRecursion P old.prepared → AllByRecursion P old.active → AllByRecursion P committed
committed_all P old mid tx group member committed there prepares is prepared active =
    let own : P member =
    first_all P (filter (is_tx tx) old.active) member (all_filtered P (is_tx tx) old.active active) there in
    let all : AllByRecursion P (old.prepared ++ member ∷ []) =
    all_joined P old.prepared (member ∷ []) prepared (own, tt) in
    let among : AllByRecursion P mid.prepared = subst (λ ms. AllByRecursion P ms) (sym prepares.prepared) all in
    subst (λ ms. AllByRecursion P ms) (sym is) (all_filtered P (is_of group) mid.prepared among)

pub parts_numbered : (submitted : List Submitted) (known : ℕ) (ms : List Member) → known ≡ length submitted
    → AllByRecursion (MayTakePart submitted) ms → AllByRecursion (λ (m : Member). IsNumbered known m.tx) ms
parts_numbered submitted known [] is all = tt
parts_numbered submitted known (m ∷ ms) is all = (
  subst (λ n. IsNumbered n m.tx) (sym is) (part_numbered submitted m all.0),
  parts_numbered submitted known ms is all.1,
)

pub first_part : (P : Member → Type 0) (xs ys : List Member) → AllByRecursion P (xs ++ ys) → AllByRecursion P xs
first_part P [] ys all = tt
first_part P (x ∷ xs) ys all = (all.0, first_part P xs ys all.1)

pub last_part : (P : Member → Type 0) (xs ys : List Member) → AllByRecursion P (xs ++ ys) → AllByRecursion P ys
last_part P [] ys all = all
last_part P (x ∷ xs) ys all = last_part P xs ys all.1

-- ---- what each had itself tells the same

abbrev fates_from : ℕ → List RunAttempt → List Fated
fates_from number [] = []
fates_from number (own ∷ more) =
    record { tx = own.tx; fate = Fates.Committed number own.attempt } ∷ fates_from (suc number) more

fates_are : (number : ℕ) (ms : List Member) → commit_fates number ms ≡ fates_from number (map run_attempt_of ms)
fates_are number [] = refl
fates_are number (m ∷ ms) =
    ap (λ fates. record { tx = m.tx; fate = Fates.Committed number m.attempt } ∷ fates) (fates_are (suc number) ms)

module _ (xs ys : List Member) (same : map run_attempt_of xs ≡ map run_attempt_of ys) where
  pub same_fates : (number : ℕ) → commit_fates number xs ≡ commit_fates number ys
  same_fates number = fates_are number xs ∙ ap (fates_from number) same ∙ sym (fates_are number ys)

  pub same_numbers : map tx_of xs ≡ map tx_of ys
  same_numbers = sym (run_attempt_numbers xs) ∙ ap numbers_in same ∙ run_attempt_numbers ys

  pub same_length : length xs ≡ length ys
  same_length = omega (
    arith,
    ap length same,
    length-map xs run_attempt_of,
    length-map ys run_attempt_of,
  )

  pub same_all : (P : ℕ → Type 0) → AllByRecursion (λ (m : Member). P m.tx) ys
      → AllByRecursion (λ (m : Member). P m.tx) xs
  same_all P all = of_numbers xs (subst (AllByRecursion P) (sym same_numbers) (to_numbers ys all))
    where
      to_numbers : (ms : List Member) → AllByRecursion (λ (m : Member). P m.tx) ms → AllByRecursion P (map tx_of ms)
      to_numbers [] all = tt
      to_numbers (m ∷ ms) all = (all.0, to_numbers ms all.1)

      of_numbers : (ms : List Member) → AllByRecursion P (map tx_of ms) → AllByRecursion (λ (m : Member). P m.tx) ms
      of_numbers [] all = tt
      of_numbers (m ∷ ms) all = (all.0, of_numbers ms all.1)

-- ---- the event

pub begins_commit : {F : Type 0} (prepared : State) (group : ℕ) (ready : Bool) (reply : Reply F) (new : State)
    → (ready ≡ true → (reply ≡ Committed (commit_numbers (suc (length prepared.journal))
    (committing_members prepared group)))
    × (new ≡ committing prepared group))
    → (ready ≡ false → (reply ≡ Prepared) × (new ≡ prepared)) → BeginsCommit prepared group ready reply new
begins_commit prepared group true reply new commits waits = commits refl
begins_commit prepared group false reply new commits waits = waits refl

-- ---- a member prepared

different : {A : Type 0} → true ≡ false → A
different e = absurd cc

module _ (s : State) (run : Run) (tx group : ℕ) (member : Member) (own : group ≡ member.group)
    (prepares : PreparesMember member (run_of s.prepared s.active) run) where
  now_prepared : with_run run s ≡ preparing s member
  now_prepared = λ i. record s { prepared = prepares.prepared i; active = prepares.active i }

  same_ready : is_ready (with_run run s) group ≡ is_ready (preparing s member) member.group
  same_ready = λ i. is_ready (now_prepared i) (own i)

  pub waits : (F : Type 0) (now : State) → s ≡ now → is_ready (with_run run s) group ≡ false
      → BeginsCommit {F = F} (preparing now member) member.group (is_ready (preparing now member) member.group)
      Prepared (with_run run s)
  waits F now same off =
      subst (λ (w : State). BeginsCommit {F = F} (preparing w member) member.group
      (is_ready (preparing w member) member.group) Prepared (with_run run s)) same
      (begins_commit {F = F} (preparing s member) member.group (is_ready (preparing s member) member.group) Prepared
      (with_run run s) (λ on. different (sym on ∙ sym same_ready ∙ off)) (λ e. (refl, now_prepared)))

  pub commits : (F : Type 0) (now : State) (left : Run) (first : ℕ) (committed : List Member) (members : List ℕ)
      (journal : List Entry) (fates : List Fated) (changes : List Change) → s ≡ now
      → is_ready (with_run run s) group ≡ true → committed ≡ committing_members (with_run run s) group
      → left.prepared ≡ filter (is_of_another group) run.prepared → left.active ≡ run.active
      → members ≡ map (λ (one : Member). one.tx) committed → first ≡ suc (length s.journal)
      → journal ≡ s.journal ++ map entry_of committed → fates ≡ s.fates ++ commit_fates first committed
      → changes ≡ filter (λ change. not (is_among committed change.tx)) s.changes
      → BeginsCommit {F = F} (preparing now member) member.group (is_ready (preparing now member) member.group)
      (Committed (numbered_from first members))
      (record s {
        prepared = left.prepared;
        active = left.active;
        changes = changes;
        journal = journal;
        fates = fates;
      })
  commits F now left first committed members journal fates changes same on gone_is left_prepared left_active members_are
      first_is entered fated settled =
      let gone : committed ≡ committing_members (preparing s member) member.group =
      gone_is ∙ (λ i. committing_members (now_prepared i) (own i)) in
      let new : State = record s {
        prepared = left.prepared;
        active = left.active;
        changes = changes;
        journal = journal;
        fates = fates;
      } in
      subst (λ (w : State). BeginsCommit {F = F} (preparing w member) member.group
      (is_ready (preparing w member) member.group) (Committed (numbered_from first members)) new) same
      (begins_commit {F = F} (preparing s member) member.group (is_ready (preparing s member) member.group)
      (Committed (numbered_from first members)) new
      (λ e. (
        ap Committed ((λ i. numbered_from (first_is i) (members_are i))
            ∙ numbers_told (suc (length s.journal)) committed
            ∙ ap (commit_numbers (suc (length s.journal))) gone),
        λ i. record s {
          prepared = (left_prepared ∙ (λ j. filter (is_of_another (own j)) (prepares.prepared j))) i;
          active = (left_active ∙ prepares.active) i;
          changes = (settled ∙ ap (λ (all : List Member). filter (λ change. not (is_among all change.tx)) s.changes)
              gone) i;
          journal = (entered ∙ ap (λ (all : List Member). s.journal ++ map entry_of all) gone) i;
          fates = (fated ∙ (λ j. s.fates ++ commit_fates (first_is j) (gone j))) i;
        },
      )) (λ off. different (sym on ∙ same_ready ∙ off)))
