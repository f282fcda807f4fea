-- Tries that are left.
use Rattle.std.proofs.Common.{◌≡◌, ◌<◌, ◌≤◌, ◌+◌, ℕ, Bool, true, false, cond, not, ◌==◌, List, [], ◌∷◌, ◌++◌}
use Rattle.std.proofs.Common.{map, length, take, refl, sym, ap, subst, ◌∙◌, inl, inr, arith, Option, Some, None}
use Rattle.std.proofs.lemmas.List.Sums.{sum_by-append, sum_by-cons, sum_by-take-drop}
use Rattle.std.proofs.lemmas.List.Filters.{sum_by-filter_both}
use Rattle.std.specs.List.{filter, filter_map, sum_by}
use Rattle.ent_value.specs.declared.value.Value.{Value}
use Rattle.ent_group.specs.declared.members.TheConstants.{MOST_MEMBERS}
use Rattle.ent_semantics.specs.Entangled.{Valuation}
use Rattle.ent_semantics.specs.declared.book.Fate.{Fate}
use Rattle.ent_semantics.specs.declared.statement.Statement.{Statement}
use Rattle.ent_semantics.specs.Pool.{Posted}
use Rattle.ent_protocol.specs.Begin.{lending, posting, replaced}
use Rattle.ent_protocol.specs.Commit.{committing, preparing}
use Rattle.ent_protocol.specs.Event.{Event, Reason, Reply}
use Rattle.ent_protocol.specs.Event as events
use Rattle.ent_protocol.specs.Finish.{finished}
use Rattle.ent_protocol.specs.Job.{Job, Outcome, Shown, Changed, Bound, Choice, Fault}
use Rattle.ent_protocol.specs.Member.{is_of, is_tx}
use Rattle.ent_protocol.specs.PoolEvents.{answered_among, answered_by, answered_groups, in_joined_group, joining}
use Rattle.ent_protocol.specs.Rollback.{Cause, NoOne, dormant_by, fate_of, group_members, is_among, rolled_back}
use Rattle.ent_protocol.specs.Rollback.{taken_out}
use Rattle.ent_protocol.specs.Run.{EndsWhileRunning, Forms, ending, fresh, starting}
use Rattle.ent_protocol.specs.State.{State, Dormant, Member, Submitted, by_number, members}
use Rattle.ent_protocol.specs.Step.{Step}
use Rattle.ent_protocol_laws.specs.Attempts.{HasRunLeft, StayWithin}
use Rattle.ent_protocol_laws.specs.ByNumber.{StandByNumber}
use Rattle.ent_protocol_laws.specs.Replies.{adds_script}
use Rattle.ent_protocol_laws.specs.Tries.{present_run, runs_beyond, tries_left}
use Rattle.ent_protocol_laws.proofs.Leaves.{Leaves, left_behind}
use Rattle.ent_lists.specs.Elements.{In, Pairs, of_all, clash, same_number, number_itself, filter_joined, pairs_second}
use Rattle.ent_lists.specs.Elements.{taken_in}
use Rattle.ent_protocol_laws.specs.Numbered.{Apart, one_of, to_by_number}
use Rattle.ent_protocol_laws.proofs.Left.{tx_of, in_among}
use Rattle.ent_protocol_laws.proofs.Numbers.{members_apart}
use Rattle.ent_protocol_laws.proofs.Lists.{sum_filtered, sum_without}
use Rattle.ent_protocol_laws.proofs.Sums.{sum_by_number, sum_fewer, sum_given, sum_lowered, sum_mapped}

abbrev of_dormant : List Submitted → Dormant → ℕ
of_dormant submitted dormant = runs_beyond submitted dormant.tx dormant.runs

abbrev of_member : List Submitted → Member → ℕ
of_member submitted member = runs_beyond submitted member.tx member.attempt

abbrev asleep : State → ℕ
asleep s = sum_by (of_dormant s.submitted) s.dormant

abbrev in_run : List Submitted → List Member → ℕ
in_run submitted ms = sum_by (of_member submitted) ms

run_parts : (submitted : List Submitted) (first others : List Member)
    → in_run submitted (first ++ others) ≡ in_run submitted first + in_run submitted others
run_parts submitted first others = sum_by-append (of_member submitted) first others

-- ---- members in whose place others stand

-- what may not be worth more
abbrev NoMore : State → State → Type 0
NoMore s new = tries_left new ≤ tries_left s

other_members : (s new : State) → new.submitted ≡ s.submitted → new.dormant ≡ s.dormant → new.running ≡ s.running
    → in_run s.submitted new.prepared + in_run s.submitted new.active
    ≤ in_run s.submitted s.prepared + in_run s.submitted s.active
    → NoMore s new
other_members s new submitted dormant running low =
    let same : tries_left new
    ≡ sum_by (of_dormant s.submitted) s.dormant + in_run s.submitted (members new) + present_run s.running =
    λ i. sum_by (of_dormant (submitted i)) (dormant i) + in_run (submitted i) (members new)
    + present_run (running i) in
    let now = run_parts s.submitted new.prepared new.active in
    let before = run_parts s.submitted s.prepared s.active in
    less (tries_left new) (asleep s) (in_run s.submitted (members new)) (present_run s.running) _ _ _ _ _ same now
    before low
  where
    less : (all a m p x y z w k : ℕ) → all ≡ a + m + p → m ≡ x + y → k ≡ z + w → x + y ≤ z + w → all ≤ a + k + p
    less all a m p x y z w k e f g h = omega (arith, e, f, g, h)

-- one that takes the place of a member, of its number and in its run
module _ (s : State) (apart : Pairs (Apart tx_of) (members s)) (new old : Member) (at : In old s.active)
    (tx : new.tx ≡ old.tx) (attempt : new.attempt ≡ old.attempt) where
  worth : (x : Member) → In x s.active → of_member s.submitted (replaced new x) ≡ of_member s.submitted x
  worth x there = by (x.tx == new.tx) refl
    where
      active_apart : Pairs (Apart tx_of) s.active
      active_apart = pairs_second (Apart tx_of) s.prepared s.active apart

      by : (b : Bool) → (x.tx == new.tx) ≡ b
          → of_member s.submitted (cond b new x) ≡ of_member s.submitted x
      by true e =
          let same : x ≡ old = one_of tx_of s.active x old active_apart there at (same_number x.tx new.tx e ∙ tx) in
          (λ i. runs_beyond s.submitted (tx i) (attempt i)) ∙ ap (of_member s.submitted) (sym same)
      by false e = refl

  pub replaced_worth : in_run s.submitted (map (replaced new) s.active) ≡ in_run s.submitted s.active
  replaced_worth = sum_mapped (of_member s.submitted) (replaced new) s.active worth

one_replaced : (s other : State) (apart : Pairs (Apart tx_of) (members s)) (new old : Member) → In old s.active
    → new.tx ≡ old.tx → new.attempt ≡ old.attempt → other.submitted ≡ s.submitted → other.dormant ≡ s.dormant
    → other.running ≡ s.running → other.prepared ≡ s.prepared → other.active ≡ map (replaced new) s.active
    → NoMore s other
one_replaced s other apart new old at tx attempt submitted dormant running prepared active =
    other_members s other submitted dormant running
    (let e = ap (in_run s.submitted) prepared in
    let f = ap (in_run s.submitted) active ∙ replaced_worth s apart new old at tx attempt in
    omega (arith, e, f))

-- ---- a run starts

starts_lower : (submitted : List Submitted) (dormant : Dormant) → HasRunLeft submitted dormant
    → of_member submitted (fresh dormant) + 1 ≤ of_dormant submitted dormant
starts_lower submitted dormant h = rw h.is_own (let low = h.left in omega (arith, low))

starts : (s : State) (first : Dormant) (more : List Dormant) → StayWithin s → s.running ≡ false
    → s.dormant ≡ first ∷ more → NoMore s (starting s)
starts s first more within off some =
    let ts = take MOST_MEMBERS s.dormant in
    let lowered = sum_lowered (of_dormant s.submitted) (of_member s.submitted) fresh ts
    (λ d at. starts_lower s.submitted d (of_all (HasRunLeft s.submitted) s.dormant d within.dormant
    (taken_in MOST_MEMBERS s.dormant d at))) in
    let sorted = sum_by_number (of_member s.submitted) tx_of (map fresh ts) in
    let parts = sum_by-take-drop (of_dormant s.submitted) s.dormant MOST_MEMBERS in
    let now = run_parts s.submitted s.prepared (starting s).active in
    let before = run_parts s.submitted s.prepared s.active in
    let is_off = ap present_run off in
    let one : 1 ≤ length ts = subst (λ ds. 1 ≤ length (take MOST_MEMBERS ds)) (sym some) (omega arith) in
    less (in_run s.submitted (map fresh ts)) (sum_by (of_dormant s.submitted) ts) _ _ _ _ _ _ _ _ _ lowered one parts
    sorted now before is_off
  where
    less : (f t long d all active prepared old now before run : ℕ) → f + long ≤ t → 1 ≤ long → t + d ≡ all
        → active ≡ f → now ≡ prepared + active → before ≡ prepared + old → run ≡ 0
        → d + now + 1 ≤ all + before + run
    less f t long d all active prepared old now before run a b c e g h k = omega (arith, a, b, c, e, g, h, k)

-- ---- members leave

left_lower : (submitted : List Submitted) (cause : Cause) (m : Member) (dormant : Dormant)
    → dormant_by submitted cause m ≡ Some dormant → of_dormant submitted dormant ≤ of_member submitted m
left_lower submitted cause m dormant e = by (fate_of submitted cause m) refl e
  where
    by : (fate : Option Fate) → fate_of submitted cause m ≡ fate → dormant_by submitted cause m ≡ Some dormant
        → of_dormant submitted dormant ≤ of_member submitted m
    by (Some fate) is gives = absurd (bad (sym none ∙ gives))
      where
        none : dormant_by submitted cause m ≡ None
        none = rw is refl

        bad : None ≡ Some dormant → ⊥
        bad e = cc
    by None is gives =
        let some : Some (record { tx = m.tx; runs = m.attempt }) ≡ Some dormant = sym some_is ∙ gives in
        let same : record { tx = m.tx; runs = m.attempt } ≡ dormant = cc in
        let worth : of_member submitted m ≡ of_dormant submitted dormant = ap (of_dormant submitted) same in
        omega (arith, worth)
      where
        some_is : dormant_by submitted cause m ≡ Some (record { tx = m.tx; runs = m.attempt })
        some_is = rw is refl

-- where those that leave are worth no more than what the others lack
takes_out : (s : State) (gone : List Member) (cause : Cause)
    → in_run s.submitted gone + in_run s.submitted (filter (λ m. not (is_among gone m.tx)) (members s))
    ≤ in_run s.submitted (members s)
    → NoMore s (taken_out gone cause s)
takes_out s gone cause low =
    let stay : Member → Bool = λ m. not (is_among gone m.tx) in
    let sorted = by_number tx_of gone in
    let joined = sum_by-append (of_dormant s.submitted) s.dormant (filter_map (dormant_by s.submitted cause) sorted) in
    let left = sum_given (of_member s.submitted) (of_dormant s.submitted) (dormant_by s.submitted cause) sorted
    (left_lower s.submitted cause) in
    let same = sum_by_number (of_member s.submitted) tx_of gone in
    let members_are = ap (in_run s.submitted) (filter_joined stay s.prepared s.active) in
    less _ _ _ _ _ _ _ _ (present_run s.running) joined left same members_are low
  where
    less : (dormant asleep more sorted gone kept now all run : ℕ) → dormant ≡ asleep + more → more ≤ sorted
        → sorted ≡ gone → kept ≡ now → gone + kept ≤ all → dormant + now + run ≤ asleep + all + run
    less dormant asleep more sorted gone kept now all run a b c d e = omega (arith, a, b, c, d, e)

rolls_back : (s : State) (group : ℕ) (cause : Cause) → NoMore s (rolled_back group cause s)
rolls_back s group cause =
    takes_out s (group_members s group) cause
    (let sorted = sum_by_number (of_member s.submitted) tx_of (filter (is_of group) (members s)) in
    let again = sum_by_number (of_member s.submitted) tx_of (group_members s group) in
    let fewer = sum_fewer (of_member s.submitted) (λ m. not (is_among (group_members s group) m.tx))
    (λ m. not (is_of group m)) (members s) others in
    let both = sum_by-filter_both (is_of group) (λ m. not (is_of group m)) (λ m. refl) (of_member s.submitted)
    (members s) in
    less _ _ _ _ _ sorted fewer both)
  where
    less : (gone of_group kept rest all : ℕ) → gone ≡ of_group → kept ≤ rest → of_group + rest ≡ all
        → gone + kept ≤ all
    less gone of_group kept rest all a b c = omega (arith, a, b, c)

    others : (m : Member) → In m (members s) → not (is_among (group_members s group) m.tx) ≡ true
        → not (is_of group m) ≡ true
    others m at stays = by (is_of group m) refl
      where
        to_filter : (xs : List Member) → In m xs → is_of group m ≡ true → In m (filter (is_of group) xs)
        to_filter [] there is = absurd there
        to_filter (x ∷ xs) (inl same) is = here (is_of group x) (ap (is_of group) (sym same) ∙ is)
          where
            here : (b : Bool) → b ≡ true → In m (cond b (x ∷ filter (is_of group) xs) (filter (is_of group) xs))
            here true e = inl same
            here false e = clash false e refl
        to_filter (x ∷ xs) (inr there) is = behind (is_of group x) (to_filter xs there is)
          where
            behind : (b : Bool) → In m (filter (is_of group) xs)
                → In m (cond b (x ∷ filter (is_of group) xs) (filter (is_of group) xs))
            behind true rest = inr rest
            behind false rest = rest

        by : (b : Bool) → is_of group m ≡ b → not b ≡ true
        by true is =
            clash (not (is_among (group_members s group) m.tx)) stays
            (ap not (in_among (group_members s group) m
            (to_by_number tx_of (filter (is_of group) (members s)) m (to_filter (members s) at is))))
        by false is = refl

-- all that are among them leave
none_stay : (s : State) (xs : List Member) → ((m : Member) → In m xs → In m (members s))
    → in_run s.submitted (filter (λ m. not (is_among (members s) m.tx)) xs) ≡ 0
none_stay s [] of_run = refl
none_stay s (x ∷ xs) of_run =
    ap (λ b. in_run s.submitted (cond (not b) (x ∷ filter (λ m. not (is_among (members s) m.tx)) xs)
    (filter (λ m. not (is_among (members s) m.tx)) xs))) (in_among (members s) x (of_run x (inl refl)))
    ∙ none_stay s xs (λ m at. of_run m (inr at))

pub ends : (s : State) → s.running ≡ true → tries_left (ending s) < tries_left s
ends s on =
    let left = takes_out s (members s) NoOne
    (let none = none_stay s (members s) (λ m at. at) in omega (arith, none)) in
    let is_on : present_run s.running ≡ 1 = ap present_run on in
    less _ _ _ _ left is_on
  where
    less : (dormant now run all : ℕ) → dormant + now + run ≤ all → run ≡ 1 → dormant + now + 0 < all
    less dormant now run all a b = omega (arith, a, b)

-- ---- the other events

answered_same : (submitted : List Submitted) (asked : List Posted) (groundings : List Valuation) (m : Member)
    → of_member submitted (answered_among asked groundings m) ≡ of_member submitted m
answered_same submitted [] groundings m = refl
answered_same submitted (query ∷ asked) [] m = refl
answered_same submitted (query ∷ asked) (values ∷ more) m =
    by (is_tx query.tx m) (answered_same submitted asked more m)
  where
    by : (b : Bool) → of_member submitted (answered_among asked more m) ≡ of_member submitted m
        → of_member submitted (cond b (answered_by query values m) (answered_among asked more m))
        ≡ of_member submitted m
    by true e = refl
    by false e = e

joins : (s : State) (left : List Job) (asked : List Posted) (groundings : List Valuation)
    → NoMore s (joining (record s { lent = left }) asked groundings)
joins s left asked groundings =
    let groups = answered_groups (record s { lent = left }) asked in
    other_members s (joining (record s { lent = left }) asked groundings) refl refl refl
    (let first = sum_mapped (of_member s.submitted) (in_joined_group groups) s.prepared (λ m at. refl) in
    let others = sum_mapped (of_member s.submitted)
    (λ m. in_joined_group groups (answered_among asked groundings m)) s.active
    (λ m at. answered_same s.submitted asked groundings m) in
    omega (arith, first, others))

prepares : (s : State) (m : Member) → In m s.active
    → in_run s.submitted (preparing s m).prepared + in_run s.submitted (preparing s m).active
    ≤ in_run s.submitted s.prepared + in_run s.submitted s.active
prepares s m at =
    let joined = run_parts s.submitted s.prepared (m ∷ []) in
    let one = sum_by-cons (of_member s.submitted) m [] in
    let low = sum_without (of_member s.submitted) (λ other. not (is_tx m.tx other)) s.active m
    (of_member s.submitted m) at (ap not (number_itself m.tx)) (omega arith) in
    omega (arith, joined, one, low)

commits : (s : State) (m : Member) → In m s.active → NoMore s (committing (preparing s m) m.group)
commits s m at =
    other_members s (committing (preparing s m) m.group) refl refl refl
    (let fewer = sum_filtered (of_member s.submitted) (λ other. not (is_of m.group other)) (preparing s m).prepared in
    let low = prepares s m at in
    omega (arith, fewer, low))

finishes : (s : State) (left : List Job) (m : Member) (c : Statement Value) (outcome : Outcome)
    → Pairs (Apart tx_of) (members s) → In m s.active → NoMore s (finished (record s { lent = left }) m c outcome)
finishes s left m c (Changed count removed added) apart at =
    one_replaced s (finished (record s { lent = left }) m c (Changed count removed added)) apart _ m at refl refl refl
    refl refl refl refl
finishes s left m c (Bound value) apart at =
    one_replaced s (finished (record s { lent = left }) m c (Bound value)) apart _ m at refl refl refl refl refl refl
    refl
finishes s left m c (Shown rows) apart at =
    one_replaced s (finished (record s { lent = left }) m c (Shown rows)) apart _ m at refl refl refl refl refl refl
    refl
finishes s left m c (Choice groundings) apart at = omega arith
finishes s left m c (Fault failure) apart at = omega arith

abbrev IsNoMore : State → Bool → Bool → List Job → State → Type 0
IsNoMore s added rolled jobs new = added ≡ false → NoMore s new

leaves_no_more : (s : State) → StayWithin s → StandByNumber s → Leaves s (IsNoMore s)
leaves_no_more s within stand =
    let apart = members_apart s stand in
    record {
      same = λ none. omega arith;
      submits = λ script form bad. clash true refl bad;
      starts = λ first more off some none. starts s first more within off some;
      lends = λ m c at none. one_replaced s (lending s m c) apart _ m at refl refl refl refl refl refl refl;
      posts = λ m c at none. one_replaced s (posting s m c) apart _ m at refl refl refl refl refl refl refl;
      prepares = λ m at none. other_members s (preparing s m) refl refl refl (prepares s m at);
      commits = λ m at ready none. commits s m at;
      rolls_back = λ group cause none. rolls_back s group cause;
      fails = λ left group cause back none. rolls_back (record s { lent = left }) group cause;
      finishes = λ left m c outcome back at none. finishes s left m c outcome apart at;
      picks = λ asked none. omega arith;
      joins = λ left asked groundings back none. joins s left asked groundings;
      tries = λ left asked back none. omega arith;
      ends = λ on none. let low = ends s on in omega (arith, low);
      recalls = λ none. omega arith;
    }

module _ {F : Type 0} where
  pub no_more : (forms : Forms F) (s : State) (event : Event) (reply : Reply F) (new : State) → StayWithin s
      → StandByNumber s → Step forms s event reply new → adds_script event reply ≡ false → NoMore s new
  no_more forms s event reply new within stand step =
      left_behind s (IsNoMore s) (leaves_no_more s within stand) forms event reply new step

  not_now : (run : List ℕ) → ◌≡◌ {A = Reply F} (events.Ended run) events.NotNow → ⊥
  not_now run e = cc

  not_busy : (run : List ℕ) (reason : Reason) → ◌≡◌ {A = Reply F} (events.Ended run) (events.Busy reason) → ⊥
  not_busy run reason e = cc

  ended_by : (s : State) (running : Bool) (run : List ℕ) (reply : Reply F) (new : State) → s.running ≡ running
      → reply ≡ events.Ended run → EndsWhileRunning s running reply new → tries_left new < tries_left s
  ended_by s false run reply new on is step = absurd (not_now run (sym is ∙ step.0))
  ended_by s true run reply new on is (inl step) =
      subst (λ (x : State). tries_left x < tries_left s) (sym step.2) (ends s on)
  ended_by s true run reply new on is (inr step) = absurd (not_busy run step.0 (sym is ∙ step.2.0))

  pub ended_uses : (forms : Forms F) (s : State) (run : List ℕ) (new : State)
      → Step forms s events.EndRun (events.Ended run) new → tries_left new < tries_left s
  ended_uses forms s run new step = ended_by s s.running run (events.Ended run) new refl refl step
