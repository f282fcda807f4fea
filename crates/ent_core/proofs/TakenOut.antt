-- Members that are taken out of the run.
use Rattle.std.proofs.Common.{◌≡◌, ◌≤◌, ◌+◌, ◌==◌, ◌||◌, ℕ, zero, suc, Bool, true, false, cond, not, List, [], ◌∷◌}
use Rattle.std.proofs.Common.{◌++◌, length, map, refl, sym, ap, subst, ◌∙◌, arith, rules, nat_eq, Option, Some, None}
use Rattle.std.specs.Prelude.{IfSome, IsNone}
use Rattle.std.specs.List.{AllByRecursion, IsDistinct, cons_option, filter, filter_map, list_any}
use Rattle.std.proofs.lemmas.List.{length-map, map-append}
use Rattle.ent_lists.specs.Elements.{all_joined}
use Rattle.ent_tree.specs.declared.declaration.Opening.{Opening}
use Rattle.ent_semantics.specs.Form.{Tables}
use Rattle.ent_form.specs.declared.catalogue.TableSchema.{TableSchema}
use Rattle.ent_members.specs.declared.run_attempts.RunAttempt.{RunAttempt}
use Rattle.ent_members.specs.RunAttempts.{run_attempt_of, numbers_in, run_attempts_in}
use Rattle.ent_members.specs.Order.{tx_of}
use Rattle.ent_run.specs.Run.{Run}
use Rattle.ent_run.proofs.Moved.{among_if}
use Rattle.ent_members.proofs.ByNumber.{every_run_attempt, group_run_attempts, run_attempt_numbers}
use Rattle.ent_protocol.specs.Job.{Job, Work, One, Joint}
use Rattle.ent_protocol.specs.Rollback.{Cause, dormant_by, fated_by, goes_with, is_among, is_joint_of}
use Rattle.ent_protocol.specs.Rollback.{group_members, put_back, taken_out}
use Rattle.ent_protocol.specs.State.{State, Submitted, Dormant, Member, Change, by_number, members}
use Rattle.ent_members.specs.ByNumber.{IsNumbered}
use Rattle.ent_members.specs.Leaving.{IsWithin, as_member}
use Rattle.ent_members.specs.TransactionTable.{TransactionTable}
use Rattle.ent_semantics.specs.declared.book.Fated.{Fated}
use Rattle.ent_semantics.specs.declared.book.JointAnswer.{JointAnswer}
use Rattle.ent_semantics.specs.Serial.{numbered}
use Rattle.ent_protocol_laws.specs.Attempts.{MayTakePart}
use Rattle.ent_protocol_laws.specs.Standing.{StandOnce, standing}
use Rattle.ent_protocol_laws.proofs.Times.{count_by_number, one_if, times, times_joined}
use Rattle.ent_semantics.specs.Pool.{Posted}
use Rattle.ent_protocol.proofs.Numbers.{waiting_tx}
use Rattle.ent_protocol_laws.proofs.Placed.{by_number_long}
use Rattle.ent_tables.specs.Stored.{Stored}
use Rattle.ent_waits.specs.Pooled.{IsPoolOf}
use Rattle.ent_core.specs.Store.{IsKept}
use Rattle.ent_core.specs.TakeOut.{MayLeave, is_joint_of_others}
use Rattle.ent_core.proofs.Sorted.{all_by_number, among_by_number, distinct_if_apart, distinct_if_once}
use Rattle.ent_core.proofs.Sorted.{once}

-- ---- who goes to the dormant list

abbrev waiting : List Dormant → List ℕ
waiting dormant = map (λ own. own.tx) dormant

abbrev finished : List Fated → List ℕ
finished fates = map (λ fated. fated.tx) fates

one_less : (b : Bool) (j k : ℕ) → j ≤ k → j ≤ one_if b k
one_less true j k le = omega (arith, le)
one_less false j k le = le

one_same : (b : Bool) (j k : ℕ) → j ≤ k → one_if b j ≤ one_if b k
one_same true j k le = omega (arith, le)
one_same false j k le = le

times_waiting : (n : ℕ) (submitted : List Submitted) (cause : Cause) (ms : List Member)
    → times n (waiting (filter_map (dormant_by submitted cause) ms)) ≤ times n (map tx_of ms)
times_waiting n submitted cause [] = omega arith
times_waiting n submitted cause (m ∷ ms) = by (dormant_by submitted cause m) refl (times_waiting n submitted cause ms)
  where
    by : (o : Option Dormant) → dormant_by submitted cause m ≡ o
        → times n (waiting (filter_map (dormant_by submitted cause) ms)) ≤ times n (map tx_of ms)
        → times n (waiting (cons_option o (filter_map (dormant_by submitted cause) ms))) ≤ one_if (nat_eq m.tx n)
        (times n (map tx_of ms))
    by None e le = one_less (nat_eq m.tx n) (times n (waiting (filter_map (dormant_by submitted cause) ms))) (times n
        (map tx_of ms)) le
    by (Some own) e le =
        let same = waiting_tx submitted cause m own e in
        rw same (one_same (nat_eq m.tx n) (times n (waiting (filter_map (dormant_by submitted cause) ms))) (times n
        (map tx_of ms)) le)

arrived_waiting : (most : ℕ) (submitted : List Submitted) (cause : Cause) (ms : List Member)
    → AllByRecursion (λ (m : Member). m.tx ≤ most) ms
    → AllByRecursion (λ (own : Dormant). own.tx ≤ most) (filter_map (dormant_by submitted cause) ms)
arrived_waiting most submitted cause [] all = tt
arrived_waiting most submitted cause (m ∷ ms) all = by (dormant_by submitted cause m) refl (arrived_waiting most
    submitted cause ms all.1)
  where
    by : (o : Option Dormant) → dormant_by submitted cause m ≡ o
        → AllByRecursion (λ (own : Dormant). own.tx ≤ most) (filter_map (dormant_by submitted cause) ms)
        → AllByRecursion (λ (own : Dormant). own.tx ≤ most) (cons_option o (filter_map (dormant_by submitted cause) ms))
    by None e rest = rest
    by (Some own) e rest = (rw (waiting_tx submitted cause m own e) all.0, rest)

-- ---- what the store keeps

as_numbers : (run_attempts : List RunAttempt) → map tx_of (map as_member run_attempts) ≡ numbers_in run_attempts
as_numbers [] = refl
as_numbers (run_attempt ∷ run_attempts) = ap (λ ns. run_attempt.tx ∷ ns) (as_numbers run_attempts)

pub as_run_attempts : (run_attempts : List RunAttempt) → run_attempts ≡ map run_attempt_of (map as_member run_attempts)
as_run_attempts [] = refl
as_run_attempts (run_attempt ∷ run_attempts) = ap (λ ls. run_attempt ∷ ls) (as_run_attempts run_attempts)

as_arrived : (most : ℕ) (run_attempts : List RunAttempt)
    → AllByRecursion (λ (run_attempt : RunAttempt). IsNumbered most run_attempt.tx)
    run_attempts
    → AllByRecursion (λ (m : Member). m.tx ≤ most) (map as_member run_attempts)
as_arrived most [] all = tt
as_arrived most (run_attempt ∷ run_attempts) all = (all.0.1, as_arrived most run_attempts all.1)

abbrev behind : List Submitted → Cause → List RunAttempt → List Dormant
behind submitted cause run_attempts = filter_map (dormant_by submitted cause) (map as_member run_attempts)

distinct_waiting : (submitted : List Submitted) (cause : Cause) (dormant : List Dormant)
    (run_attempts : List RunAttempt)
    → IsDistinct nat_eq (waiting dormant ++ numbers_in run_attempts)
    → IsDistinct nat_eq (waiting (dormant ++ behind submitted cause run_attempts))
distinct_waiting submitted cause dormant run_attempts distinct =
    distinct_if_once (waiting (dormant ++ behind submitted cause run_attempts)) (λ n.
    let low = once (waiting dormant ++ numbers_in run_attempts) distinct n in
    let before = times_joined n (waiting dormant) (numbers_in run_attempts) in
    let after : times n (waiting (dormant ++ behind submitted cause run_attempts)) ≡ times n (waiting dormant) + times n
    (waiting (behind submitted cause run_attempts)) =
    ap (times n) (map-append (λ (own : Dormant). own.tx) dormant (behind submitted cause run_attempts))
    ∙ times_joined n (waiting dormant) (waiting (behind submitted cause run_attempts)) in
    let fewer : times n (waiting (behind submitted cause run_attempts)) ≤ times n
    (map tx_of (map as_member run_attempts)) =
    times_waiting n submitted cause (map as_member run_attempts) in
    let same : times n (map tx_of (map as_member run_attempts)) ≡ times n (numbers_in run_attempts) =
    ap (times n) (as_numbers
    run_attempts) in
    omega (arith, low, before, after, fewer, same))

pub kept_taken : (schemas : List TableSchema) (opening : Opening) (submitted : List Submitted)
    (transaction_table transaction_table' : TransactionTable)
    (running : Bool) (run run' : Run) (stored stored' : Stored) (posted posted' : List Posted) (run_attempts : List
    RunAttempt) (cause : Cause)
    (p : Member → Bool) → IsKept schemas opening submitted transaction_table running run stored posted
    → AllByRecursion (λ (run_attempt : RunAttempt). IsNumbered (length submitted) run_attempt.tx) run_attempts
    → IsDistinct nat_eq (map (λ own. own.tx) transaction_table.dormant ++ numbers_in run_attempts)
    → transaction_table'.dormant ≡ transaction_table.dormant ++ filter_map (dormant_by submitted cause)
    (map as_member run_attempts)
    → transaction_table'.known ≡ transaction_table.known
    → run'.prepared ≡ filter p run.prepared → run'.active ≡ filter p run.active
    → stored'.kinds ≡ stored.kinds → IsPoolOf submitted run'.active posted'
    → IsKept schemas opening submitted transaction_table' running run' stored' posted'
kept_taken schemas opening submitted transaction_table transaction_table' running run run' stored stored' posted posted'
    run_attempts cause p kept
    arrived distinct dormant known prepared active kinds pooled =
    let A : List Dormant → Type 0 = λ all. AllByRecursion (λ (own : Dormant). own.tx ≤ length submitted) all in
    let D : List Dormant → Type 0 = λ all. IsDistinct nat_eq (waiting all) in
    record {
      declared = kept.declared;
      formed = kept.formed;
      kinds = kinds ∙ kept.kinds;
      asks = kept.asks;
      known = known ∙ kept.known;
      arrived = subst A (sym dormant)
          (all_joined (λ (own : Dormant). own.tx ≤ length submitted) transaction_table.dormant
          (filter_map (dormant_by submitted
          cause) (map as_member run_attempts))
          kept.arrived (arrived_waiting (length submitted) submitted cause (map as_member run_attempts) (as_arrived
          (length submitted) run_attempts arrived)));
      distinct = subst D (sym dormant)
          (distinct_waiting submitted cause transaction_table.dormant run_attempts distinct);
      idle_prepared = λ off. prepared ∙ ap (filter p) (kept.idle_prepared off);
      idle_active = λ off. active ∙ ap (filter p) (kept.idle_active off);
      posted = pooled;
    }

-- ---- the state that is left

pub numbers_leaving : (numbers : List ℕ) (run_attempts : List RunAttempt) (ms : List Member)
    → numbers ≡ numbers_in run_attempts
    → run_attempts ≡ map run_attempt_of ms → numbers ≡ map tx_of ms
numbers_leaving numbers run_attempts ms is of_members = is ∙ ap numbers_in of_members ∙ run_attempt_numbers ms

pub joints_left : (numbers : List ℕ) (ms : List Member) (joints : List JointAnswer) → numbers ≡ map tx_of ms
    → filter (is_joint_of_others numbers) joints ≡ filter (λ joint. not (is_joint_of ms joint)) joints
joints_left numbers ms joints is =
    ap (λ ns. filter (is_joint_of_others ns) joints) is
    ∙ (λ i. filter (λ joint. not (list_any (λ member. among_if ms member.tx i) joint.members)) joints)

goes_same : (gone : List Member) (job : Job) → goes_with (by_number tx_of gone) job ≡ goes_with gone job
goes_same gone job = by job.work refl
  where
    by : (work : Work) → job.work ≡ work → goes_with (by_number tx_of gone) job ≡ goes_with gone job
    by (One single) e = rw e (among_by_number gone single.tx)
    by (Joint posted) e = rw e refl

pub taken : (s : State) (gone : List Member) (cause : Cause) (dormant : List Dormant) (fates : List Fated)
    (prepared active : List Member) (joints : List JointAnswer) (lent : List Job) (tables : Tables) (changes : List
    Change)
    → dormant ≡ s.dormant ++ filter_map (dormant_by s.submitted cause) (by_number tx_of gone)
    → fates ≡ s.fates ++ filter_map (fated_by s.submitted cause) (by_number tx_of gone)
    → prepared ≡ filter (λ member. not (is_among (by_number tx_of gone) member.tx)) s.prepared
    → active ≡ filter (λ member. not (is_among (by_number tx_of gone) member.tx)) s.active
    → joints ≡ filter (λ joint. not (is_joint_of (by_number tx_of gone) joint)) s.joints
    → lent ≡ filter (λ job. not (goes_with (by_number tx_of gone) job)) s.lent
    → tables ≡ put_back (filter (λ change. is_among (by_number tx_of gone) change.tx) s.changes) s.tables
    → changes ≡ filter (λ change. not (is_among (by_number tx_of gone) change.tx)) s.changes
    → record s {
      dormant = dormant;
      prepared = prepared;
      active = active;
      joints = joints;
      lent = lent;
      tables = tables;
      changes = changes;
      fates = fates;
    } ≡ taken_out gone cause s
taken s gone cause dormant fates prepared active joints lent tables changes d f p a j l t c =
    let same = among_by_number gone in
    let p' = p ∙ (λ i. filter (λ member. not (same member.tx i)) s.prepared) in
    let a' = a ∙ (λ i. filter (λ member. not (same member.tx i)) s.active) in
    let j' = j ∙ (λ i. filter (λ joint. not (list_any (λ member. same member.tx i) joint.members)) s.joints) in
    let l' = l ∙ (λ i. filter (λ job. not (goes_same gone job i)) s.lent) in
    let t' = t ∙ (λ i. put_back (filter (λ change. same change.tx i) s.changes) s.tables) in
    let c' = c ∙ (λ i. filter (λ change. not (same change.tx i)) s.changes) in
    λ i. record s {
      dormant = d i;
      prepared = p' i;
      active = a' i;
      joints = j' i;
      lent = l' i;
      tables = t' i;
      changes = c' i;
      fates = f i;
    }

-- ---- who may leave

below : (submitted : List Submitted) (tx : ℕ) (own : Submitted) → numbered submitted tx ≡ Some own
    → tx ≤ length submitted
below submitted zero own is = omega arith
below [] (suc n) own is = let e : None ≡ Some own = is in absurd (different e)
  where
    different : None ≡ Some own → ⊥
    different e = cc
below (first ∷ more) (suc zero) own is = omega arith
below (first ∷ more) (suc (suc n)) own is = let rest = below more (suc n) own is in omega (arith, rest)

above : (submitted : List Submitted) (tx : ℕ) (own : Submitted) → numbered submitted tx ≡ Some own → 1 ≤ tx
above submitted zero own is = let e : None ≡ Some own = is in absurd cc
above submitted (suc n) own is = omega arith

-- who takes part in a run was submitted
pub part_numbered : (submitted : List Submitted) (m : Member) → MayTakePart submitted m
    → IsNumbered (length submitted) m.tx
part_numbered submitted m part = (above submitted m.tx part.own part.is_own, below submitted m.tx part.own part.is_own)

leaving_arrived : (submitted : List Submitted) (ms : List Member) → AllByRecursion (MayTakePart submitted) ms
    → AllByRecursion (λ (run_attempt : RunAttempt). IsNumbered (length submitted) run_attempt.tx)
    (map run_attempt_of ms)
leaving_arrived submitted [] all = tt
leaving_arrived submitted (m ∷ ms) all = (part_numbered submitted m all.0, leaving_arrived submitted ms all.1)

leaving_within : (submitted : List Submitted) (ms : List Member) → AllByRecursion (MayTakePart submitted) ms
    → AllByRecursion (IsWithin submitted) (map run_attempt_of ms)
leaving_within submitted [] all = tt
leaving_within submitted (m ∷ ms) all = (
  (λ own is.
      let same : all.0.own ≡ own = let e = sym all.0.is_own ∙ is in cc in
      rw (← same) all.0.within),
  leaving_within submitted ms all.1,
)

pub room_for : (s : State) (gone : List Member) (run_attempts : List RunAttempt)
    → length s.fates + length s.dormant + length (members s) ≡ length s.submitted
    → run_attempts ≡ map run_attempt_of (by_number tx_of gone) → length gone ≤ length (members s)
    → length s.dormant + length s.fates + length run_attempts ≤ length s.submitted
room_for s gone run_attempts counted is fewer =
    let long : length run_attempts ≡ length gone = ap length is ∙ length-map (by_number tx_of gone) run_attempt_of
    ∙ by_number_long gone in
    omega (arith, counted, long, fewer)

pub may_leave : (s : State) (gone : List Member) → StandOnce s → AllByRecursion (MayTakePart s.submitted) gone
    → ((n : ℕ) → times n (map tx_of gone) ≤ times n (map tx_of (members s)))
    → MayLeave (map run_attempt_of (by_number tx_of gone)) s
may_leave s gone stand part fewer =
    record {
      arrived = leaving_arrived s.submitted (by_number tx_of gone) sorted;
      within = leaving_within s.submitted (by_number tx_of gone) sorted;
      distinct = distinct_if_once (waiting s.dormant ++ numbers_in (map run_attempt_of (by_number tx_of gone))) low;
      unfinished = distinct_if_once (finished s.fates ++ numbers_in (map run_attempt_of (by_number tx_of gone)))
          low_finished;
    }
  where
    sorted : AllByRecursion (MayTakePart s.submitted) (by_number tx_of gone)
    sorted = all_by_number (MayTakePart s.submitted) gone part

    low : (n : ℕ) → times n (waiting s.dormant ++ numbers_in (map run_attempt_of (by_number tx_of gone))) ≤ 1
    low n =
        let all = once (standing s) (distinct_if_apart (standing s) stand.distinct) n in
        let joined = times_joined n (map tx_of (members s)) (waiting s.dormant ++ map (λ (fated : Fated). fated.tx)
        s.fates) in
        let behind = times_joined n (waiting s.dormant) (map (λ (fated : Fated). fated.tx) s.fates) in
        let here = times_joined n (waiting s.dormant) (numbers_in (map run_attempt_of (by_number tx_of gone))) in
        let same : times n (numbers_in (map run_attempt_of (by_number tx_of gone))) ≡ times n (map tx_of gone) =
        ap (times n) (run_attempt_numbers (by_number tx_of gone)) ∙ count_by_number tx_of n tx_of gone in
        let few = fewer n in
        omega (arith, all, joined, behind, here, same, few)

    low_finished : (n : ℕ) → times n (finished s.fates ++ numbers_in (map run_attempt_of (by_number tx_of gone))) ≤ 1
    low_finished n =
        let all = once (standing s) (distinct_if_apart (standing s) stand.distinct) n in
        let joined = times_joined n (map tx_of (members s)) (waiting s.dormant ++ finished s.fates) in
        let behind = times_joined n (waiting s.dormant) (finished s.fates) in
        let here = times_joined n (finished s.fates) (numbers_in (map run_attempt_of (by_number tx_of gone))) in
        let same : times n (numbers_in (map run_attempt_of (by_number tx_of gone))) ≡ times n (map tx_of gone) =
        ap (times n) (run_attempt_numbers (by_number tx_of gone)) ∙ count_by_number tx_of n tx_of gone in
        let few = fewer n in
        omega (arith, all, joined, behind, here, same, few)

-- whom the run tells
pub who_left : (group : Option ℕ) (s : State) (left : List RunAttempt)
    → IfSome group (λ label. left ≡ map run_attempt_of (group_members s label))
    → (IsNone group → left ≡ map run_attempt_of (by_number tx_of (members s)))
    → left ≡ run_attempts_in group (members s)
who_left None s left of_group of_all = of_all refl ∙ sym (every_run_attempt (members s))
who_left (Some label) s left of_group of_all = of_group ∙ sym (group_run_attempts label (members s))

-- they are those who may leave
pub may_leave_run : (group : Option ℕ) (run_attempts : List RunAttempt) (s old : State) → s ≡ old
    → run_attempts ≡ run_attempts_in group (members s) → MayLeave (run_attempts_in group (members old)) old
    → MayLeave run_attempts s
may_leave_run group run_attempts s old same are may =
    subst (λ (all : List RunAttempt). MayLeave all s) (sym are)
    (subst (λ (x : State). MayLeave (run_attempts_in group (members x)) x) (sym same) may)

pub members_are_distinct : (s : State) → StandOnce s → IsDistinct nat_eq (map tx_of (members s))
members_are_distinct s stand =
    distinct_if_once (map tx_of (members s)) (λ n.
    let all = once (standing s) (distinct_if_apart (standing s) stand.distinct) n in
    let joined = times_joined n (map tx_of (members s)) (waiting s.dormant ++ map (λ (fated : Fated). fated.tx)
    s.fates) in
    omega (arith, all, joined))

-- ---- nobody is left

is_there : (m : Member) (before others : List Member) → is_among (before ++ m ∷ others) m.tx ≡ true
is_there m [] others = by (m.tx == m.tx) itself
  where
    by : (b : Bool) → b ≡ true → (b || is_among others m.tx) ≡ true
    by true e = refl
    by false e = cc

    itself : (m.tx == m.tx) ≡ true
    itself = grind (arith, rules)
is_there m (o ∷ before) others = by (o.tx == m.tx) (is_there m before others)
  where
    by : (b : Bool) → is_among (before ++ m ∷ others) m.tx ≡ true → (b || is_among (before ++ m ∷ others) m.tx) ≡ true
    by true e = refl
    by false e = e

none_of : (before ms others : List Member) → filter (λ member. not (is_among (before ++ (ms ++ others)) member.tx))
    ms ≡ []
none_of before [] others = refl
none_of before (m ∷ ms) others =
    let all : List Member = before ++ ((m ∷ ms) ++ others) in
    let moved : before ++ ((m ∷ ms) ++ others) ≡ (before ++ m ∷ []) ++ (ms ++ others) = regrouped before m (ms ++
    others) in
    let here : is_among all m.tx ≡ true = is_there m before (ms ++ others) in
    ap (λ b. cond (not b) (m ∷ filter (λ member. not (is_among all member.tx)) ms) (filter (λ member. not (is_among
    all member.tx)) ms)) here
    ∙ ap (λ (whole : List Member). filter (λ member. not (is_among whole member.tx)) ms) moved
    ∙ none_of (before ++ m ∷ []) ms others
  where
    regrouped : (xs : List Member) (x : Member) (ys : List Member) → xs ++ x ∷ ys ≡ (xs ++ x ∷ []) ++ ys
    regrouped [] x ys = refl
    regrouped (y ∷ xs) x ys = ap (λ zs. y ∷ zs) (regrouped xs x ys)

pub no_prepared_left : (s : State) (cause : Cause) → (taken_out (members s) cause s).prepared ≡ []
no_prepared_left s cause = none_of [] s.prepared s.active

pub no_active_left : (s : State) (cause : Cause) → (taken_out (members s) cause s).active ≡ []
no_active_left s cause =
    ap (λ (all : List Member). filter (λ member. not (is_among (s.prepared ++ all) member.tx)) s.active) (sym
    (nothing_behind s.active))
    ∙ none_of s.prepared s.active []
  where
    nothing_behind : (ms : List Member) → ms ++ [] ≡ ms
    nothing_behind [] = refl
    nothing_behind (m ∷ ms) = ap (λ os. m ∷ os) (nothing_behind ms)

-- the store is kept when nobody is left, and no run is on
pub kept_ended : (schemas : List TableSchema) (opening : Opening) (submitted : List Submitted)
    (transaction_table : TransactionTable)
    (running : Bool) (run : Run) (stored : Stored) (posted : List Posted)
    → IsKept schemas opening submitted transaction_table running run stored posted
    → run.prepared ≡ [] → run.active ≡ [] → IsKept schemas opening submitted transaction_table false run stored posted
kept_ended schemas opening submitted transaction_table running run stored posted kept prepared active =
    record {
      declared = kept.declared;
      formed = kept.formed;
      kinds = kept.kinds;
      asks = kept.asks;
      known = kept.known;
      arrived = kept.arrived;
      distinct = kept.distinct;
      idle_prepared = λ off. prepared;
      idle_active = λ off. active;
      posted = kept.posted;
    }
