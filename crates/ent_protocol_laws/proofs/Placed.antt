-- Every event keeps each transaction in one place.
use Rattle.std.proofs.Common.{◌≡◌, ◌≤◌, ◌+◌, ℕ, zero, suc, Bool, true, false, cond, not, ◌==◌, List, [], ◌∷◌, ◌++◌}
use Rattle.std.proofs.Common.{map, length, take, drop, refl, sym, ap, subst, ◌∙◌, inl, inr, arith}
use Rattle.std.proofs.Common.{nat_lt}
use Rattle.std.specs.List.{filter, filter_map}
use Rattle.std.proofs.lemmas.List.{length-append, length-map}
use Rattle.ent_value.specs.declared.value.Value.{Value}
use Rattle.ent_tree.specs.declared.declaration.Opening.{Opening}
use Rattle.ent_tree.specs.declared.script.Script.{Script}
use Rattle.ent_group.specs.declared.members.TheConstants.{MOST_MEMBERS}
use Rattle.ent_semantics.specs.Entangled.{Valuation}
use Rattle.ent_semantics.specs.declared.operand.Known.{Known}
use Rattle.ent_semantics.specs.declared.statement.Statement.{Statement}
use Rattle.ent_semantics.specs.Pool.{Posted}
use Rattle.ent_protocol.specs.Commit.{preparing, committing, commit_fates}
use Rattle.ent_protocol.specs.Finish.{finished}
use Rattle.ent_protocol.specs.Job.{Job, Outcome, Shown, Changed, Bound, Choice, Fault}
use Rattle.ent_protocol.specs.Member.{is_of, is_tx}
use Rattle.ent_protocol.specs.PoolEvents.{joining, in_joined_group, answered_among, answered_groups}
use Rattle.ent_protocol.specs.Reached.{opened, IsReached}
use Rattle.ent_protocol.specs.Rollback.{Cause, NoOne, taken_out, rolled_back, is_among, fated_by, dormant_by}
use Rattle.ent_protocol.specs.Run.{Forms, submitting, starting, fresh, ending}
use Rattle.ent_protocol.specs.State.{State, Member, Dormant, members, inserted, by_number}
use Rattle.ent_protocol_laws.specs.Standing.{StandOnce, standing}
use Rattle.ent_protocol_laws.proofs.Acts.{AreKept, IsIdle, reached}
use Rattle.ent_protocol_laws.proofs.Left.{tx_of, dormant_tx, fated_tx, commits_counted, left_counted, in_among}
use Rattle.ent_protocol_laws.proofs.Left.{among_passing}
use Rattle.ent_lists.specs.Elements.{In, filter_same, filter_joined, shorter, number_itself, same_number, in_first}
use Rattle.ent_lists.specs.Elements.{in_second, contains_in, in_contains, pairs_index}
use Rattle.ent_protocol.proofs.Numbers.{answered_tx}
use Rattle.ent_protocol_laws.proofs.Places.{within, within_once, within_there, there_within, Stands, members_once}
use Rattle.ent_protocol_laws.proofs.Places.{same_places, mapped_places, other_parts, one_replaced}
use Rattle.ent_protocol_laws.proofs.Times.{one_if, times, times_joined, stands, stood, once_apart, count, count_joined}
use Rattle.ent_protocol_laws.proofs.Times.{count_parted, count_by_number, count_split, count_mapped, count_in}

-- ---- scripts and runs

one_last : (b : Bool) (m d f w : ℕ) → m + (d + f) ≡ w → m + ((d + one_if b 0) + f) ≡ one_if b w
one_last true m d f w e = omega (arith, e)
one_last false m d f w e = omega (arith, e)

submits : (s : State) (script : Script) (form : List (Statement Known)) → Stands s
    → Stands (submitting s script form)
submits s script form h =
    let one : List Dormant = record { tx = suc (length s.submitted); runs = 0 } ∷ [] in
    record {
      once = λ n.
          ap (λ (d : ℕ). count tx_of n (members s) + (d + count fated_tx n s.fates))
          (count_joined dormant_tx n s.dormant one)
          ∙ one_last (suc (length s.submitted) == n) (count tx_of n (members s)) (count dormant_tx n s.dormant)
          (count fated_tx n s.fates) (within n (length s.submitted)) (h.once n)
          ∙ ap (within n) (sym (one_longer s.submitted (record { script = script; form = form })));
      idle = h.idle;
      few = h.few;
    }
  where
    one_longer : {X : Type 0} (xs : List X) (x : X) → length (xs ++ x ∷ []) ≡ suc (length xs)
    one_longer [] x = refl
    one_longer (y ∷ ys) x = ap suc (one_longer ys x)

pub fresh_counted : (n : ℕ) (ds : List Dormant) → count tx_of n (map fresh ds) ≡ count dormant_tx n ds
fresh_counted n ds = count_mapped tx_of n dormant_tx fresh ds (λ d at. refl)

pub inserted_long : (m : Member) (ms : List Member) → length (inserted tx_of m ms) ≡ suc (length ms)
inserted_long m [] = refl
inserted_long m (x ∷ xs) = by (nat_lt m.tx x.tx) (inserted_long m xs)
  where
    by : (b : Bool) → length (inserted tx_of m xs) ≡ suc (length xs)
        → length (cond b (m ∷ x ∷ xs) (x ∷ inserted tx_of m xs)) ≡ suc (suc (length xs))
    by true e = refl
    by false e = ap suc e

pub by_number_long : (ms : List Member) → length (by_number tx_of ms) ≡ length ms
by_number_long [] = refl
by_number_long (m ∷ ms) = inserted_long m (by_number tx_of ms) ∙ ap suc (by_number_long ms)

taken_few : {X : Type 0} (k : ℕ) (xs : List X) → length (take k xs) ≤ k
taken_few zero xs = omega arith
taken_few (suc k) [] = omega arith
taken_few (suc k) (x ∷ xs) = let low = taken_few k xs in omega (arith, low)

starts : (s : State) → s.running ≡ false → Stands s → Stands (starting s)
starts s off h =
    let none = h.idle off in
    record {
      once = λ n.
          one_count (count tx_of n (members s)) (count tx_of n (members (starting s)))
          (count dormant_tx n (take MOST_MEMBERS s.dormant)) (count dormant_tx n (drop MOST_MEMBERS s.dormant))
          (count dormant_tx n s.dormant) (count fated_tx n s.fates)
          (λ i. count tx_of n (none.0 i ++ none.1 i)) (news n none.0) (count_split dormant_tx n MOST_MEMBERS s.dormant)
          ∙ h.once n;
      idle = λ e. absurd (different e);
      few = let e = longs none.0 in let low = taken_few MOST_MEMBERS s.dormant in omega (arith, e, low);
    }
  where
    different : true ≡ false → ⊥
    different e = cc

    one_count : (old new first rest all fated : ℕ) → old ≡ 0 → new ≡ first → all ≡ first + rest
        → new + (rest + fated) ≡ old + (all + fated)
    one_count old new first rest all fated e f g = omega (arith, e, f, g)

    news : (n : ℕ) → s.prepared ≡ []
        → count tx_of n (members (starting s)) ≡ count dormant_tx n (take MOST_MEMBERS s.dormant)
    news n none =
        ap (λ (ps : List Member). count tx_of n (ps ++ (starting s).active)) none
        ∙ count_by_number tx_of n tx_of (map fresh (take MOST_MEMBERS s.dormant))
        ∙ fresh_counted n (take MOST_MEMBERS s.dormant)

    longs : s.prepared ≡ [] → length (members (starting s)) ≡ length (take MOST_MEMBERS s.dormant)
    longs none =
        ap (λ (ps : List Member). length (ps ++ (starting s).active)) none
        ∙ by_number_long (map fresh (take MOST_MEMBERS s.dormant)) ∙ length-map (take MOST_MEMBERS s.dormant) fresh

-- ---- a member prepares

-- of one number alone
only_counted : (n t : ℕ) (ms : List Member)
    → count tx_of n (filter (is_tx t) ms) ≡ cond (t == n) (count tx_of n ms) 0
only_counted n t [] = by (t == n)
  where
    by : (b : Bool) → ◌≡◌ {A = ℕ} 0 (cond b 0 0)
    by true = refl
    by false = refl
only_counted n t (m ∷ ms) = by (m.tx == t) refl (t == n) refl (only_counted n t ms)
  where
    other : (a b : ℕ) → a ≡ b → (a == b) ≡ false → ⊥
    other a b same e =
        let is : (a == b) ≡ true = ap (λ k. k == b) same ∙ number_itself b in
        let bad : true ≡ false = sym is ∙ e in
        cc

    by : (b : Bool) → (m.tx == t) ≡ b → (c : Bool) → (t == n) ≡ c
        → count tx_of n (filter (is_tx t) ms) ≡ cond c (count tx_of n ms) 0
        → count tx_of n (cond b (m ∷ filter (is_tx t) ms) (filter (is_tx t) ms))
        ≡ cond c (one_if (m.tx == n) (count tx_of n ms)) 0
    by true e true f rest = ap (one_if (m.tx == n)) rest
    by true e false f rest =
        let is : (m.tx == n) ≡ false = ap (λ k. k == n) (same_number m.tx t e) ∙ f in
        ap (λ b. one_if b (count tx_of n (filter (is_tx t) ms))) is ∙ rest
    by false e true f rest =
        let is : (m.tx == n) ≡ false = sym (ap (λ k. m.tx == k) (same_number t n f)) ∙ e in
        rest ∙ ap (λ b. one_if b (count tx_of n ms)) (sym is)
    by false e false f rest = rest

fewer : (p : Member → Bool) (ms : List Member) (m : Member) → In m ms → p m ≡ false
    → suc (length (filter p ms)) ≤ length ms
fewer p [] m at is = absurd at
fewer p (x ∷ xs) m (inl same) is = by (p x) (ap p (sym same) ∙ is)
  where
    by : (b : Bool) → b ≡ false → suc (length (cond b (x ∷ filter p xs) (filter p xs))) ≤ suc (length xs)
    by true e = cc
    by false e = let low = shorter p xs in omega (arith, low)
fewer p (x ∷ xs) m (inr at) is = by (p x) (fewer p xs m at is)
  where
    by : (b : Bool) → suc (length (filter p xs)) ≤ length xs
        → suc (length (cond b (x ∷ filter p xs) (filter p xs))) ≤ suc (length xs)
    by true low = omega (arith, low)
    by false low = omega (arith, low)

abbrev stays : Member → Member → Bool
stays m other = not (is_tx m.tx other)

one_only : (b : Bool) (of_active only rest : ℕ) → of_active ≡ only + rest → only ≡ cond b of_active 0
    → (b ≡ true → of_active ≡ 1) → one_if b 0 + rest ≡ of_active
one_only true of_active only rest e f g = let one = g refl in omega (arith, e, f, one)
one_only false of_active only rest e f g = omega (arith, e, f)

moved_over : (p one rest active : ℕ) → one + rest ≡ active → (p + one) + rest ≡ p + active
moved_over p one rest active e = omega (arith, e)

second_of : (all first second : ℕ) → all ≡ first + second → all ≤ 1 → 1 ≤ second → second ≡ 1
second_of all first second e low there = omega (arith, e, low, there)

prepared_counts : (s : State) (m : Member) → In m s.active → Stands s → (n : ℕ)
    → count tx_of n (members (preparing s m)) ≡ count tx_of n (members s)
prepared_counts s m at h n =
    let rest = count tx_of n (filter (stays m) s.active) in
    let of_active = count tx_of n s.active in
    let one : m.tx ≡ n → of_active ≡ 1 =
    λ own. second_of (count tx_of n (members s)) (count tx_of n s.prepared) of_active
    (count_joined tx_of n s.prepared s.active) (members_once s h n) (count_in tx_of n s.active m at own) in
    count_joined tx_of n (s.prepared ++ m ∷ []) (filter (stays m) s.active)
    ∙ ap (λ k. k + rest) (count_joined tx_of n s.prepared (m ∷ []))
    ∙ moved_over (count tx_of n s.prepared) (one_if (m.tx == n) 0) rest of_active
    (one_only (m.tx == n) of_active (count tx_of n (filter (is_tx m.tx) s.active)) rest
    (count_parted tx_of n (is_tx m.tx) s.active) (only_counted n m.tx s.active)
    (λ e. one (same_number m.tx n e)))
    ∙ sym (count_joined tx_of n s.prepared s.active)

prepares : (s : State) (m : Member) → IsIdle s m → Stands s → Stands (preparing s m)
prepares s m idle h =
    same_places s (preparing s m) (prepared_counts s m idle.at h) refl refl refl
    (let e = length-append s.prepared (m ∷ []) in
    let f = length-append (s.prepared ++ m ∷ []) (filter (stays m) s.active) in
    let g = length-append s.prepared s.active in
    let low = fewer (stays m) s.active m idle.at (ap not (number_itself m.tx)) in
    omega (arith, e, f, g, low))
    (λ off. absurd (subst (In m) (h.idle off).1 idle.at)) h

-- ---- a group commits

commits : (s : State) (group : ℕ) → Stands s → Stands (committing s group)
commits s group h =
    let of_group : Member → Bool = λ member. not (is_of group member) in
    record {
      once = λ n.
          moved_on (count tx_of n (members (committing s group))) (count tx_of n (members s))
          (count tx_of n s.prepared) (count tx_of n (filter (is_of group) s.prepared))
          (count tx_of n (filter of_group s.prepared)) (count tx_of n s.active) (count dormant_tx n s.dormant)
          (count fated_tx n s.fates) (count fated_tx n (committing s group).fates)
          (count_joined tx_of n (filter of_group s.prepared) s.active) (count_joined tx_of n s.prepared s.active)
          (count_parted tx_of n (is_of group) s.prepared)
          (count_joined fated_tx n s.fates
          (commit_fates (suc (length s.journal)) (filter (is_of group) s.prepared))
          ∙ ap (λ k. count fated_tx n s.fates + k)
          (commits_counted n (suc (length s.journal)) (filter (is_of group) s.prepared)))
          ∙ h.once n;
      idle = λ off. let none = h.idle off in (ap (filter of_group) none.0, none.1);
      few =
          let e = length-append (filter of_group s.prepared) s.active in
          let f = length-append s.prepared s.active in
          let low = shorter of_group s.prepared in
          let high = h.few in
          omega (arith, e, f, low, high);
    }
  where
    moved_on : (new old prepared gone left active dormant fated fates : ℕ) → new ≡ left + active
        → old ≡ prepared + active → prepared ≡ gone + left → fates ≡ fated + gone
        → new + (dormant + fates) ≡ old + (dormant + fated)
    moved_on new old prepared gone left active dormant fated fates a b c d = omega (arith, a, b, c, d)

-- ---- members are taken out

module _ (s : State) (h : Stands s) (p : Member → Bool) (gone : List Member) (cause : Cause)
    (counted : (n : ℕ) → count tx_of n gone ≡ count tx_of n (filter p (members s)))
    (told : (m : Member) → In m (members s) → is_among gone m.tx ≡ p m) where
  abbrev out : State
  out = taken_out gone cause s

  abbrev left : Member → Bool
  left member = not (is_among gone member.tx)

  left_counts : (n : ℕ) → count tx_of n (members out) ≡ count tx_of n (filter (λ m. not (p m)) (members s))
  left_counts n =
      ap (count tx_of n) (sym (filter_joined left s.prepared s.active)
      ∙ filter_same left (λ m. not (p m)) (members s) (λ m at. ap not (told m at)))

  takes_out : Stands out
  takes_out =
      record {
        once = λ n.
            let sorted = by_number tx_of gone in
            moved_on (count tx_of n (members out)) (count tx_of n (members s))
            (count tx_of n (filter p (members s))) (count dormant_tx n s.dormant) (count fated_tx n s.fates)
            (count dormant_tx n (filter_map (dormant_by s.submitted cause) sorted))
            (count fated_tx n (filter_map (fated_by s.submitted cause) sorted))
            (count dormant_tx n out.dormant) (count fated_tx n out.fates)
            (count_parted tx_of n p (members s)
            ∙ ap (λ k. count tx_of n (filter p (members s)) + k) (sym (left_counts n)))
            (left_counted s.submitted cause n sorted ∙ count_by_number tx_of n tx_of gone ∙ counted n)
            (count_joined dormant_tx n s.dormant (filter_map (dormant_by s.submitted cause) sorted))
            (count_joined fated_tx n s.fates (filter_map (fated_by s.submitted cause) sorted))
            ∙ h.once n;
        idle = λ off. let none = h.idle off in (ap (filter left) none.0, ap (filter left) none.1);
        few =
            let e = length-append (filter left s.prepared) (filter left s.active) in
            let f = length-append s.prepared s.active in
            let low = shorter left s.prepared in
            let less = shorter left s.active in
            let high = h.few in
            omega (arith, e, f, low, less, high);
      }
    where
      moved_on : (new old taken dormant fated asleep over dormants fates : ℕ) → old ≡ taken + new
          → asleep + over ≡ taken → dormants ≡ dormant + asleep → fates ≡ fated + over
          → new + (dormants + fates) ≡ old + (dormant + fated)
      moved_on new old taken dormant fated asleep over dormants fates a b c d = omega (arith, a, b, c, d)

rolls_back : (s : State) (group : ℕ) (cause : Cause) → Stands s → Stands (rolled_back group cause s)
rolls_back s group cause h =
    takes_out s h (is_of group) (by_number tx_of (filter (is_of group) (members s))) cause
    (λ n. count_by_number tx_of n tx_of (filter (is_of group) (members s)))
    (among_passing (is_of group) (members s) (members_once s h))

all_kept : (ms : List Member) → filter (λ m. true) ms ≡ ms
all_kept [] = refl
all_kept (m ∷ ms) = ap (λ more. m ∷ more) (all_kept ms)

none_kept : (p : Member → Bool) (ms : List Member) → ((m : Member) → In m ms → p m ≡ false) → filter p ms ≡ []
none_kept p [] f = refl
none_kept p (m ∷ ms) f =
    ap (λ b. cond b (m ∷ filter p ms) (filter p ms)) (f m (inl refl)) ∙ none_kept p ms (λ x at. f x (inr at))

ends : (s : State) → Stands s → Stands (ending s)
ends s h =
    let all : Stands (taken_out (members s) NoOne s) =
    takes_out s h (λ m. true) (members s) NoOne (λ n. ap (count tx_of n) (sym (all_kept (members s))))
    (λ m at. in_among (members s) m at) in
    record {
      once = all.once;
      idle = λ off. (
        none_kept (λ m. not (is_among (members s) m.tx)) s.prepared
            (λ m at. ap not (in_among (members s) m (in_first s.prepared s.active m at))),
        none_kept (λ m. not (is_among (members s) m.tx)) s.active
            (λ m at. ap not (in_among (members s) m (in_second s.prepared s.active m at))),
      );
      few = all.few;
    }

-- ---- members that go on

joins : (s : State) (left : List Job) (asked : List Posted) (groundings : List Valuation) → Stands s
    → Stands (joining (record s { lent = left }) asked groundings)
joins s left asked groundings h =
    mapped_places s (joining (record s { lent = left }) asked groundings)
    (in_joined_group (answered_groups (record s { lent = left }) asked))
    (λ m. in_joined_group (answered_groups (record s { lent = left }) asked) (answered_among asked groundings m))
    (λ m. refl) (answered_tx asked groundings) refl refl refl refl refl refl h

finishes : (s : State) (left : List Job) (member : Member) (statement : Statement Value) (outcome : Outcome)
    → Stands s → Stands (finished (record s { lent = left }) member statement outcome)
finishes s left member statement (Changed count removed added) h =
    one_replaced s (finished (record s { lent = left }) member statement (Changed count removed added)) _ refl refl
    refl refl refl refl h
finishes s left member statement (Bound value) h =
    one_replaced s (finished (record s { lent = left }) member statement (Bound value)) _ refl refl refl refl refl
    refl h
finishes s left member statement (Shown rows) h =
    one_replaced s (finished (record s { lent = left }) member statement (Shown rows)) _ refl refl refl refl refl
    refl h
finishes s left member statement (Fault failure) h =
    other_parts s (record s { lent = left }) refl refl refl refl refl refl h
finishes s left member statement (Choice groundings) h =
    other_parts s (record s { lent = left }) refl refl refl refl refl refl h

pub places_kept : AreKept Stands
places_kept =
    record {
      submits = submits;
      starts = starts;
      lends = λ s member statement idle next h. one_replaced s _ _ refl refl refl refl refl refl h;
      posts = λ s member statement idle next safe h. one_replaced s _ _ refl refl refl refl refl refl h;
      prepares = prepares;
      commits = λ s group ready h. commits s group h;
      rolls_back = rolls_back;
      takes = λ s job left taken h. other_parts s (record s { lent = left }) refl refl refl refl refl refl h;
      finishes = λ s member left statement outcome back h. finishes s left member statement outcome h;
      picks = λ s asked component out h. other_parts s _ refl refl refl refl refl refl h;
      joins = λ s job left asked groundings taken component grounded h. joins s left asked groundings h;
      tries = λ s asked h. other_parts s _ refl refl refl refl refl refl h;
      ends = ends;
      recalls = λ s h. other_parts s (record s { lent = [] }) refl refl refl refl refl refl h;
    }

pub places_opened : (opening : Opening) → Stands (opened opening)
places_opened opening = record { once = λ n. refl; idle = λ off. (refl, refl); few = omega arith }

-- ---- what a state that is reached says of its transactions

pub standing_counted : (s : State) → Stands s → (n : ℕ) → times n (standing s) ≡ within n (length s.submitted)
standing_counted s h n =
    times_joined n (map tx_of (members s)) (map dormant_tx s.dormant ++ map fated_tx s.fates)
    ∙ ap (λ k. count tx_of n (members s) + k) (times_joined n (map dormant_tx s.dormant) (map fated_tx s.fates))
    ∙ h.once n

pub stand_once : (s : State) → Stands s → StandOnce s
stand_once s h =
    record {
      distinct = pairs_index (λ (one other : ℕ). one ≡ other → ⊥) (standing s) (once_apart (standing s) (λ n.
          let e = counted n in let low = within_once n (length s.submitted) in omega (arith, e, low)));
      submitted = λ tx. (
        λ there. there_within tx (length s.submitted)
            (subst (λ k. 1 ≤ k) (counted tx) (stands tx (standing s) (contains_in (standing s) tx there))),
        λ low. in_contains (standing s) tx (stood tx (standing s)
            (subst (λ k. 1 ≤ k) (sym (counted tx)) (within_there tx (length s.submitted) low.0 low.1))),
      );
    }
  where
    counted : (n : ℕ) → times n (standing s) ≡ within n (length s.submitted)
    counted n = standing_counted s h n

pub reached_stand : {F : Type 0} (forms : Forms F) (s : State) → IsReached forms s → Stands s
reached_stand forms s r = reached forms Stands places_kept s (places_opened s.opening) r
