-- Every event keeps that nobody took part in more runs than its script asks for.
use Rattle.std.proofs.Common.{◌≡◌, ◌<◌, ◌≤◌, ℕ, zero, suc, Bool, true, false, cond, ◌==◌, List, [], ◌∷◌, ◌++◌, map}
use Rattle.std.proofs.Common.{length, take, drop, refl, sym, ap, subst, ◌∙◌, inr, arith, Option, Some, None}
use Rattle.std.specs.List.{AllByRecursion, filter, filter_map, cons_option}
use Rattle.ent_value.specs.declared.value.Value.{Value}
use Rattle.ent_tree.specs.declared.script.Script.{Script}
use Rattle.ent_group.specs.declared.members.TheConstants.{MOST_MEMBERS}
use Rattle.ent_semantics.specs.Entangled.{Valuation}
use Rattle.ent_semantics.specs.declared.book.Fate.{Fate}
use Rattle.ent_semantics.specs.Serial.{numbered}
use Rattle.ent_semantics.specs.declared.operand.Known.{Known}
use Rattle.ent_semantics.specs.declared.statement.Statement.{Statement}
use Rattle.ent_semantics.proofs.Numbered.{of_numbered}
use Rattle.ent_semantics.specs.Pool.{Posted}
use Rattle.ent_protocol.specs.Begin.{replaced}
use Rattle.ent_protocol.specs.Commit.{preparing}
use Rattle.ent_protocol.specs.Finish.{finished}
use Rattle.ent_protocol.specs.Job.{Outcome, Shown, Changed, Bound, Choice, Fault}
use Rattle.ent_protocol.specs.Member.{is_of, is_tx}
use Rattle.ent_protocol.specs.PoolEvents.{answered_among, answered_by, joining}
use Rattle.ent_protocol.specs.Reached.{IsReached}
use Rattle.ent_protocol.specs.Rollback.{Cause, NoOne, own_fate, or_gives_up, is_last_run, fate_of, dormant_by}
use Rattle.ent_protocol.specs.Rollback.{group_members, taken_out}
use Rattle.ent_protocol.specs.Run.{Forms, fresh, starting, submitting}
use Rattle.ent_protocol.specs.State.{State, Submitted, Dormant, Member, members, by_number}
use Rattle.ent_protocol_laws.specs.Attempts.{AsksForRun, AskForMost, HasRunLeft, MayTakePart, StayWithin, StayBelow}
use Rattle.ent_protocol_laws.proofs.Acts.{AreKept, reached}
use Rattle.ent_protocol_laws.proofs.Left.{tx_of}
use Rattle.ent_lists.specs.Elements.{In, of_all, to_all, of_filter, of_map, all_filtered, number_itself, clash}
use Rattle.ent_lists.specs.Elements.{all_by, all_first, all_joined, all_second, taken_in}
use Rattle.ent_protocol.proofs.Numbers.{answered_tx}
use Rattle.ent_protocol_laws.specs.Numbered.{from_by_number}
use Rattle.ent_protocol_laws.proofs.Found.{numbered_on}

-- ---- lists

dropped_in : {X : Type 0} (k : ℕ) (xs : List X) (x : X) → In x (drop k xs) → In x xs
dropped_in zero xs x at = at
dropped_in (suc k) [] x at = absurd at
dropped_in (suc k) (y ∷ ys) x at = inr (dropped_in k ys x at)

module _ {X : Type 0} (P : X → Type 0) where
  all_mapped : {Y : Type 0} (Q : Y → Type 0) (f : X → Y) (xs : List X) → ((x : X) → P x → Q (f x))
      → AllByRecursion P xs → AllByRecursion Q (map f xs)
  all_mapped Q f [] to all = tt
  all_mapped Q f (x ∷ xs) to all = (to x all.0, all_mapped Q f xs to all.1)

  all_given : {Y : Type 0} (Q : Y → Type 0) (f : X → Option Y) (xs : List X)
      → ((x : X) (y : Y) → P x → f x ≡ Some y → Q y) → AllByRecursion P xs → AllByRecursion Q (filter_map f xs)
  all_given Q f [] to all = tt
  all_given Q f (x ∷ xs) to all = by (f x) refl (all_given Q f xs to all.1)
    where
      by : (o : Option _) → f x ≡ o → AllByRecursion Q (filter_map f xs)
          → AllByRecursion Q (cons_option o (filter_map f xs))
      by (Some y) e rest = (to x y all.0 e, rest)
      by None e rest = rest

-- ---- scripts by number

numbered_last : {A : Type 0} (xs : List A) (a : A) → numbered (xs ++ a ∷ []) (suc (length xs)) ≡ Some a
numbered_last [] a = refl
numbered_last (x ∷ xs) a = numbered_last xs a

-- ---- what is kept

record AllWithin (submitted : List Submitted) (waiting : List Dormant) (first others : List Member) : Type 0 where
  pub dormant : AllByRecursion (HasRunLeft submitted) waiting
  pub prepared : AllByRecursion (MayTakePart submitted) first
  pub active : AllByRecursion (MayTakePart submitted) others

abbrev Within : State → Type 0
Within s = AllWithin s.submitted s.dormant s.prepared s.active

-- where each script asks for a run
abbrev Asked : State → Type 0
Asked s = AllByRecursion AsksForRun s.submitted

abbrev IfAsked : State → Type 0
IfAsked s = Asked s → Within s

left_on : (submitted more : List Submitted) (dormant : Dormant) → HasRunLeft submitted dormant
    → HasRunLeft (submitted ++ more) dormant
left_on submitted more dormant h =
    record { own = h.own; is_own = numbered_on submitted more dormant.tx h.own h.is_own; left = h.left }

part_on : (submitted more : List Submitted) (member : Member) → MayTakePart submitted member
    → MayTakePart (submitted ++ more) member
part_on submitted more member h =
    record {
      own = h.own;
      is_own = numbered_on submitted more member.tx h.own h.is_own;
      counted = h.counted;
      within = h.within;
    }

-- a member in the same run
alike : (submitted : List Submitted) (old new : Member) → new.tx ≡ old.tx → new.attempt ≡ old.attempt
    → MayTakePart submitted old → MayTakePart submitted new
alike submitted old new tx attempt h =
    record {
      own = h.own;
      is_own = ap (numbered submitted) tx ∙ h.is_own;
      counted = subst (λ n. 1 ≤ n) (sym attempt) h.counted;
      within = subst (λ n. n ≤ h.own.script.within) (sym attempt) h.within;
    }

submits : (s : State) (script : Script) (form : List (Statement Known)) → 1 ≤ script.within → Within s
    → Within (submitting s script form)
submits s script form asks h =
    let own : Submitted = record { script = script; form = form } in
    let new : Dormant = record { tx = suc (length s.submitted); runs = 0 } in
    let more : List Submitted = own ∷ [] in
    record {
      dormant =
          all_joined (HasRunLeft (s.submitted ++ more)) s.dormant (new ∷ [])
          (all_by (HasRunLeft s.submitted) (HasRunLeft (s.submitted ++ more)) s.dormant
          (left_on s.submitted more) h.dormant)
          (record { own = own; is_own = numbered_last s.submitted own; left = omega (arith, asks) }, tt);
      prepared =
          all_by (MayTakePart s.submitted) (MayTakePart (s.submitted ++ more)) s.prepared
          (part_on s.submitted more) h.prepared;
      active =
          all_by (MayTakePart s.submitted) (MayTakePart (s.submitted ++ more)) s.active
          (part_on s.submitted more) h.active;
    }

starts_run : (submitted : List Submitted) (dormant : Dormant) → HasRunLeft submitted dormant
    → MayTakePart submitted (fresh dormant)
starts_run submitted dormant h =
    record {
      own = h.own;
      is_own = h.is_own;
      counted = omega arith;
      within = let low = h.left in omega (arith, low);
    }

starts : (s : State) → Within s → Within (starting s)
starts s h =
    record {
      dormant =
          to_all (HasRunLeft s.submitted) (drop MOST_MEMBERS s.dormant)
          (λ d at. of_all (HasRunLeft s.submitted) s.dormant d h.dormant (dropped_in MOST_MEMBERS s.dormant d at));
      prepared = h.prepared;
      active =
          to_all (MayTakePart s.submitted) (starting s).active (λ m at.
          let r = of_map fresh first m (from_by_number tx_of (map fresh first) m at) in
          subst (MayTakePart s.submitted) (sym r.2) (starts_run s.submitted r.0
          (of_all (HasRunLeft s.submitted) s.dormant r.0 h.dormant (taken_in MOST_MEMBERS s.dormant r.0 r.1))));
    }
  where
    first : List Dormant
    first = take MOST_MEMBERS s.dormant

-- another in the place of a member
replaces : (s : State) (old new : Member) → In old s.active → new.tx ≡ old.tx → new.attempt ≡ old.attempt → Within s
    → AllWithin s.submitted s.dormant s.prepared (map (replaced new) s.active)
replaces s old new at tx attempt h =
    record {
      dormant = h.dormant;
      prepared = h.prepared;
      active =
          all_mapped (MayTakePart s.submitted) (MayTakePart s.submitted) (replaced new) s.active
          (λ x part. by x (x.tx == new.tx) part) h.active;
    }
  where
    by : (x : Member) (b : Bool) → MayTakePart s.submitted x → MayTakePart s.submitted (cond b new x)
    by x true part =
        alike s.submitted old new tx attempt (of_all (MayTakePart s.submitted) s.active old h.active at)
    by x false part = part

finishes : (s : State) (m : Member) (statement : Statement Value) (outcome : Outcome) → In m s.active → IfAsked s
    → IfAsked (finished s m statement outcome)
finishes s m statement (Changed count removed added) at h asked = replaces s m _ at refl refl (h asked)
finishes s m statement (Bound value) at h asked = replaces s m _ at refl refl (h asked)
finishes s m statement (Shown rows) at h asked = replaces s m _ at refl refl (h asked)
finishes s m statement (Fault failure) at h asked = h asked
finishes s m statement (Choice groundings) at h asked = h asked

-- ---- members that leave

-- a member that has no fate waits for a run that is left to it
goes_on : (submitted : List Submitted) (cause : Cause) (m : Member) (dormant : Dormant) → MayTakePart submitted m
    → dormant_by submitted cause m ≡ Some dormant → HasRunLeft submitted dormant
goes_on submitted cause m dormant h gives = by_fate (fate_of submitted cause m) refl gives
  where
    others : (b : Bool) → is_last_run submitted m ≡ b → (m.attempt == h.own.script.within) ≡ b
    others b is = sym (rw h.is_own refl) ∙ is

    unfated : (own : Option Fate) (last : Bool) → or_gives_up own last m.attempt ≡ None → last ≡ false
    unfated (Some fate) last e = cc
    unfated None true e = cc
    unfated None false e = refl

    fewer : (m.attempt == h.own.script.within) ≡ false → m.attempt < h.own.script.within
    fewer differs =
        let low = h.within in
        less (λ same. clash (m.attempt == h.own.script.within)
        (ap (λ n. n == h.own.script.within) same ∙ number_itself h.own.script.within) differs) low
      where
        less : (m.attempt ≡ h.own.script.within → ⊥) → m.attempt ≤ h.own.script.within
            → m.attempt < h.own.script.within
        less apart low = omega (arith, apart, low)

    by_fate : (fate : Option Fate) → fate_of submitted cause m ≡ fate → dormant_by submitted cause m ≡ Some dormant
        → HasRunLeft submitted dormant
    by_fate (Some fate) e gives = absurd (bad (sym (dormant_none fate e) ∙ gives))
      where
        dormant_none : (fate : Fate) → fate_of submitted cause m ≡ Some fate → dormant_by submitted cause m ≡ None
        dormant_none fate e = rw e refl

        bad : None ≡ Some dormant → ⊥
        bad e = cc
    by_fate None e gives =
        let over = unfated (own_fate cause m) (is_last_run submitted m) e in
        let low = fewer (others false over) in
        let is : Some (record { tx = m.tx; runs = m.attempt }) ≡ Some dormant = sym (dormant_some e) ∙ gives in
        let same : record { tx = m.tx; runs = m.attempt } ≡ dormant = cc in
        subst (HasRunLeft submitted) same (record { own = h.own; is_own = h.is_own; left = low })
      where
        dormant_some : fate_of submitted cause m ≡ None
            → dormant_by submitted cause m ≡ Some (record { tx = m.tx; runs = m.attempt })
        dormant_some e = rw e refl

takes_out : (s : State) (gone : List Member) (cause : Cause) → ((m : Member) → In m gone → In m (members s))
    → Within s → Within (taken_out gone cause s)
takes_out s gone cause of_run h =
    record {
      dormant =
          all_joined (HasRunLeft s.submitted) s.dormant
          (filter_map (dormant_by s.submitted cause) (by_number tx_of gone)) h.dormant
          (all_given (MayTakePart s.submitted) (HasRunLeft s.submitted) (dormant_by s.submitted cause)
          (by_number tx_of gone) (goes_on s.submitted cause)
          (to_all (MayTakePart s.submitted) (by_number tx_of gone) (λ m at.
          of_all (MayTakePart s.submitted) (members s) m
          (all_joined (MayTakePart s.submitted) s.prepared s.active h.prepared h.active)
          (of_run m (from_by_number tx_of gone m at)))));
      prepared = all_filtered (MayTakePart s.submitted) _ s.prepared h.prepared;
      active = all_filtered (MayTakePart s.submitted) _ s.active h.active;
    }

grouped : (s : State) (group : ℕ) (m : Member) → In m (group_members s group) → In m (members s)
grouped s group m at =
    (of_filter (is_of group) (members s) m (from_by_number tx_of (filter (is_of group) (members s)) m at)).0

-- ---- all of them

answered_attempt : (asked : List Posted) (groundings : List Valuation) (m : Member)
    → (answered_among asked groundings m).attempt ≡ m.attempt
answered_attempt [] groundings m = refl
answered_attempt (query ∷ asked) [] m = refl
answered_attempt (query ∷ asked) (values ∷ more) m = by (is_tx query.tx m) (answered_attempt asked more m)
  where
    by : (b : Bool) → (answered_among asked more m).attempt ≡ m.attempt
        → (cond b (answered_by query values m) (answered_among asked more m)).attempt ≡ m.attempt
    by true e = refl
    by false e = e

joins : (s : State) (asked : List Posted) (groundings : List Valuation) → Within s
    → Within (joining s asked groundings)
joins s asked groundings h =
    record {
      dormant = h.dormant;
      prepared =
          all_mapped (MayTakePart s.submitted) (MayTakePart s.submitted) _ s.prepared
          (λ m. alike s.submitted m _ refl refl) h.prepared;
      active =
          all_mapped (MayTakePart s.submitted) (MayTakePart s.submitted) _ s.active
          (λ m. alike s.submitted m _ (answered_tx asked groundings m) (answered_attempt asked groundings m))
          h.active;
    }

prepares : (s : State) (m : Member) → In m s.active → Within s → Within (preparing s m)
prepares s m at h =
    record {
      dormant = h.dormant;
      prepared =
          all_joined (MayTakePart s.submitted) s.prepared (m ∷ []) h.prepared
          (of_all (MayTakePart s.submitted) s.active m h.active at, tt);
      active = all_filtered (MayTakePart s.submitted) _ s.active h.active;
    }

within_kept : AreKept IfAsked
within_kept =
    record {
      submits = λ s script form h asked.
          let more : List Submitted = record { script = script; form = form } ∷ [] in
          submits s script form (all_second AsksForRun s.submitted more asked).0
          (h (all_first AsksForRun s.submitted more asked));
      starts = λ s off h asked. starts s (h asked);
      lends = λ s m statement idle next h asked. replaces s m _ idle.at refl refl (h asked);
      posts = λ s m statement idle next safe h asked. replaces s m _ idle.at refl refl (h asked);
      prepares = λ s m idle h asked. prepares s m idle.at (h asked);
      commits = λ s group ready h asked.
          let w = h asked in
          record {
            dormant = w.dormant;
            prepared = all_filtered (MayTakePart s.submitted) _ s.prepared w.prepared;
            active = w.active;
          };
      rolls_back = λ s group cause h asked.
          takes_out s (group_members s group) cause (grouped s group) (h asked);
      takes = λ s job left taken h. h;
      finishes = λ s m left statement outcome back h.
          finishes (record s { lent = left }) m statement outcome back.at h;
      picks = λ s asked component out h. h;
      joins = λ s job left asked groundings taken component grounded h all. joins s asked groundings (h all);
      tries = λ s asked h. h;
      ends = λ s h asked. takes_out s (members s) NoOne (λ m at. at) (h asked);
      recalls = λ s h. h;
    }

pub reached_within : {F : Type 0} (forms : Forms F) (s : State) → IsReached forms s → Asked s → StayWithin s
reached_within forms s r asked =
    let w = reached forms IfAsked within_kept s (λ none. record { dormant = tt; prepared = tt; active = tt }) r asked in
    record {
      dormant = w.dormant;
      members = all_joined (MayTakePart s.submitted) s.prepared s.active w.prepared w.active;
    }

-- ---- below a number

pub stay_below : (most : ℕ) (s : State) → AskForMost most s → StayWithin s → StayBelow most s
stay_below most s few h =
    record {
      dormant =
          all_by (HasRunLeft s.submitted) (λ (dormant : Dormant). dormant.runs < most) s.dormant
          (λ d own. let low = own.left in let high = bound own.own d.tx own.is_own in omega (arith, low, high))
          h.dormant;
      members =
          all_by (MayTakePart s.submitted) (λ (member : Member). member.attempt ≤ most) (members s)
          (λ m own. let low = own.within in let high = bound own.own m.tx own.is_own in omega (arith, low, high))
          h.members;
    }
  where
    bound : (own : Submitted) (tx : ℕ) → numbered s.submitted tx ≡ Some own → own.script.within ≤ most
    bound own tx e = of_numbered (λ (own : Submitted). own.script.within ≤ most) s.submitted tx own few e
