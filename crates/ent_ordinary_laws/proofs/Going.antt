-- Events of a core in which one ordinary script waits for a run, alone, or has ended.
use Rattle.std.proofs.Common.{◌≡◌, inl, inr, ◌⊎◌, ◌<◌, ℕ, zero, suc, Bool, true, false, List, [], ◌∷◌, ◌++◌, map}
use Rattle.std.proofs.Common.{length, refl, sym, ap, subst, ◌∙◌, arith, Contains, Some, None, Result, Ok, Err, append_assoc, ◌+◌}
use Rattle.std.proofs.lemmas.List.{append-nil, length-append}
use Rattle.ent_tree.specs.declared.script.Script.{Script}
use Rattle.ent_semantics.specs.declared.operand.Known.{Known}
use Rattle.ent_semantics.specs.declared.statement.Statement.{Statement}
use Rattle.ent_semantics.specs.Serial.{numbered}
use Rattle.ent_lists.specs.Elements.{clash}
use Rattle.ent_protocol.specs.Event.{Event, Reply}
use Rattle.ent_protocol.specs.Event as events
use Rattle.ent_protocol.specs.Finish.{Finishes}
use Rattle.ent_protocol.specs.Job.{Done}
use Rattle.ent_protocol.specs.PoolEvents.{JoinsOrIsStale, Picks}
use Rattle.ent_protocol.specs.Reached.{LeadsTo}
use Rattle.ent_protocol.specs.Run.{BreaksIfAny, EndsWhileRunning, Forms, SubmitsForm, SubmitsUnless, StartsWith}
use Rattle.ent_protocol.specs.Run.{ending, fresh, starting}
use Rattle.ent_protocol.specs.State.{Dormant, Member, State, Submitted}
use Rattle.ent_protocol.specs.Step.{Step}
use Rattle.ent_protocol.specs.Tidy.{IsTidy}
use Rattle.ent_protocol_laws.specs.Standing.{GoesOn}
use Rattle.ent_protocol_laws.specs.Tries.{tries_left}
use Rattle.ent_ordinary_laws.specs.Alone.{HasEndedItself, HasNoneEntangled, IsOrdinary}
use Rattle.ent_ordinary_laws.proofs.Alone.{Behind, Over, Runs, Waits, goes, no_component, no_cycle, no_more}

module _ {F : Type 0} (forms : Forms F) where
  -- ---- where there is no member

  module _ (s : State) (P : State → Type 0) where
    abbrev empty : State
    empty = record s { prepared = []; active = [] }

    -- most events are refused, or find nothing to do
    module _ (stays : (new : State) → new ≡ empty → P new) where
      no_result : (done : Done) (reply : Reply F) (new : State) → Finishes empty done reply new → P new
      no_result done reply new (inl (single, work, it)) = nobody it.member it.is_member
        where
          nobody : (member : Member) → None ≡ Some member → P new
          nobody member is = cc
      no_result done reply new (inr stale) = stays new stale.1.1

      no_pick : (reply : Reply F) (new : State) → Picks empty reply new → P new
      no_pick reply new (inl lends) = absurd (no_component lends.asked lends.can.component)
      no_pick reply new (inr nothing) = stays new nothing.1.1

      no_answer : (done : Done) (reply : Reply F) (new : State) → JoinsOrIsStale empty done reply new → P new
      no_answer done reply new (inl joined) =
          absurd (no_component joined.outstanding.asked joined.outstanding.component)
      no_answer done reply new (inr stale) = stays new stale.1.1

      no_deadlock : (reply : Reply F) (new : State) → BreaksIfAny empty reply new → P new
      no_deadlock reply new (inl broken) =
          let closes = broken.deadlock.is_cycle.closes in
          absurd (no_cycle broken.cycle closes.not_empty closes.linked)
      no_deadlock reply new (inr none) = stays new none.1.1

      no_submit : (full : Bool) (script : Script) (reply : Reply F) (new : State) → new.submitted ≡ s.submitted
          → SubmitsUnless full forms empty script reply new → P new
      no_submit true script reply new kept step = stays new step.1
      no_submit false script reply new kept step = by (forms.resolve s.opening script) step
        where
          by : (form : Result (List (Statement Known)) F) → SubmitsForm empty script form reply new → P new
          by (Ok form) step =
              absurd (no_more s.submitted _ (sym (ap (λ (x : State). x.submitted) step.1) ∙ kept))
          by (Err fault) step = stays new step.1

      pub nobody_there : (recalled : (new : State) → new ≡ record empty { lent = [] } → P new)
          → (starts : (reply : Reply F) (new : State) → StartsWith empty s.running s.dormant reply new → P new)
          → (ends : (reply : Reply F) (new : State) → EndsWhileRunning empty s.running reply new → P new)
          → (event : Event) (reply : Reply F) (new : State) → new.submitted ≡ s.submitted
          → Step forms empty event reply new → P new
      nobody_there recalled starts ends (events.Submit script) reply new kept step =
          no_submit _ script reply new kept step
      nobody_there recalled starts ends events.StartRun reply new kept step = starts reply new step
      nobody_there recalled starts ends (events.Begin tx) reply new kept step = stays new step.1
      nobody_there recalled starts ends (events.Finish done) reply new kept step = no_result done reply new step
      nobody_there recalled starts ends events.Pick reply new kept step = no_pick reply new step
      nobody_there recalled starts ends (events.JoinAnswer done) reply new kept step = no_answer done reply new step
      nobody_there recalled starts ends events.BreakCycle reply new kept step = no_deadlock reply new step
      nobody_there recalled starts ends events.EndRun reply new kept step = ends reply new step
      nobody_there recalled starts ends events.Recall reply new kept step = recalled new step.1

  -- ---- once it has ended

  module _ (s : State) (tx : ℕ) (ended : HasEndedItself s.fates tx) where
    abbrev done_with : State
    done_with = record s { prepared = []; active = []; dormant = [] }

    stays_over : (new : State) → new ≡ done_with → Over new tx
    stays_over new is =
        subst (λ (x : State). Over x tx) (sym is)
        (record { no_prepared = refl; no_active = refl; none_waits = refl; ended = ended })

    over_recalled : (new : State) → new ≡ record done_with { lent = [] } → Over new tx
    over_recalled new is =
        subst (λ (x : State). Over x tx) (sym is)
        (record { no_prepared = refl; no_active = refl; none_waits = refl; ended = ended })

    over_starts : (running : Bool) (reply : Reply F) (new : State) → StartsWith done_with running [] reply new
        → Over new tx
    over_starts true reply new step = stays_over new step.1
    over_starts false reply new step = stays_over new step.1

    over_ends : (running : Bool) (reply : Reply F) (new : State) → EndsWhileRunning done_with running reply new
        → Over new tx
    over_ends false reply new step = stays_over new step.1
    over_ends true reply new (inl step) =
        let fates : new.fates ≡ s.fates = ap (λ (x : State). x.fates) step.2 ∙ append-nil s.fates in
        record {
          no_prepared = ap (λ (x : State). x.prepared) step.2;
          no_active = ap (λ (x : State). x.active) step.2;
          none_waits = ap (λ (x : State). x.dormant) step.2;
          ended = record {
            fate = ended.fate;
            own = ended.own;
            is = subst (λ all. Contains all (record { tx = tx; fate = ended.fate })) (sym fates) ended.is;
          };
        }
    over_ends true reply new (inr busy) = stays_over new busy.2.1

    pub goes_over : (event : Event) (reply : Reply F) (new : State) → new.submitted ≡ s.submitted
        → Step forms done_with event reply new → Over new tx
    goes_over event reply new kept step =
        nobody_there done_with (λ (x : State). Over x tx) stays_over over_recalled (over_starts s.running)
        (over_ends s.running) event reply new kept step

  -- ---- while it waits

  -- it waits, is the only member, or has ended
  abbrev pub Stands : State → Dormant → Type 0
  Stands s one = Waits s one ⊎ Behind s one.tx

  module _ (s : State) (one : Dormant) where
    abbrev waiting : State
    waiting = record s { prepared = []; active = []; dormant = one ∷ []; running = false }

    still_waits : (new state : State) → new ≡ state → state.prepared ≡ [] → state.active ≡ []
        → state.dormant ≡ one ∷ [] → state.running ≡ false → Stands new one
    still_waits new state is no_prepared no_active waits no_run =
        inl (subst (λ (x : State). Waits x one) (sym is)
        (record { no_prepared = no_prepared; no_active = no_active; waits = waits; no_run = no_run }))

    starts_alone : (reply : Reply F) (new : State) → StartsWith waiting false (one ∷ []) reply new → Stands new one
    starts_alone reply new step =
        inr (inl (subst (λ (x : State). Runs x one.tx) (sym step.1) (record {
          member = fresh one;
          no_prepared = refl;
          active = refl;
          own = refl;
          unposted = refl;
          none_waits = refl;
          on = refl;
        })))

    pub goes_waiting : (event : Event) (reply : Reply F) (new : State) → new.submitted ≡ s.submitted
        → Step forms waiting event reply new → Stands new one
    goes_waiting event reply new kept step =
        nobody_there waiting (λ (x : State). Stands x one)
        (λ new is. still_waits new waiting is refl refl refl refl)
        (λ new is. still_waits new (record waiting { lent = [] }) is refl refl refl refl)
        starts_alone
        (λ reply new step. still_waits new waiting step.1 refl refl refl refl)
        event reply new kept step

  -- ---- any event

  goes_on : (s : State) (one : Dormant) → IsOrdinary s one.tx → Stands s one
      → (event : Event) (reply : Reply F) (new : State) → new.submitted ≡ s.submitted → Step forms s event reply new
      → Stands new one
  goes_on s one ordinary (inl waits) event reply new kept step =
      let is : s ≡ waiting s one =
      λ i. record s {
        prepared = waits.no_prepared i;
        active = waits.no_active i;
        dormant = waits.waits i;
        running = waits.no_run i;
      } in
      goes_waiting s one event reply new kept (subst (λ (x : State). Step forms x event reply new) is step)
  goes_on s one ordinary (inr (inl runs)) event reply new kept step =
      let m = record runs.member { posted = false } in
      let is : s ≡ record s { prepared = []; active = m ∷ []; dormant = []; running = true } =
      λ i. record s {
        prepared = runs.no_prepared i;
        active = (runs.active ∙ ap (λ b. record runs.member { posted = b } ∷ []) runs.unposted) i;
        dormant = runs.none_waits i;
        running = runs.on i;
      } in
      inr (subst (Behind new) runs.own
      (goes forms s runs.member (subst (λ tx. HasNoneEntangled (numbered s.submitted tx)) (sym runs.own) ordinary)
      event reply new kept (subst (λ (x : State). Step forms x event reply new) is step)))
  goes_on s one ordinary (inr (inr over)) event reply new kept step =
      let is : s ≡ done_with s one.tx over.ended =
      λ i. record s {
        prepared = over.no_prepared i;
        active = over.no_active i;
        dormant = over.none_waits i;
      } in
      inr (inr (goes_over s one.tx over.ended event reply new kept
      (subst (λ (x : State). Step forms x event reply new) is step)))

  -- ---- events one after the other

  module _ (further : (s : State) (event : Event) (reply : Reply F) (new : State) → Step forms s event reply new
      → GoesOn s new) where
    -- scripts are put at the end alone
    more_scripts : (n : ℕ) (s last : State) → LeadsTo forms n s last → GoesOn s last
    more_scripts zero s last led =
        record {
          opening = ap (λ (x : State). x.opening) led;
          more = [];
          behind = ap (λ (x : State). x.submitted) led ∙ sym (append-nil s.submitted);
        }
    more_scripts (suc n) s last (mid, event, reply, led, step) =
        let first = more_scripts n s mid led in
        let next = further mid event reply last step in
        record {
          opening = next.opening ∙ first.opening;
          more = first.more ++ next.more;
          behind = next.behind ∙ ap (λ xs. xs ++ next.more) first.behind
              ∙ append_assoc s.submitted first.more next.more;
        }

    none_more : {X : Type 0} (xs ys : List X) → xs ≡ xs ++ ys → ys ≡ []
    none_more xs [] same = refl
    none_more xs (y ∷ ys) same =
        absurd (omega (arith, length-append xs (y ∷ ys), ap length same))

    pub stands_on : (n : ℕ) (s last : State) (one : Dormant) → IsOrdinary s one.tx → Stands s one
        → LeadsTo forms n s last → last.submitted ≡ s.submitted → Stands last one
    stands_on zero s last one ordinary stands led kept = subst (λ (x : State). Stands x one) (sym led) stands
    stands_on (suc n) s last one ordinary stands (mid, event, reply, led, step) kept =
        let first = more_scripts n s mid led in
        let next = further mid event reply last step in
        let none : first.more ++ next.more ≡ [] =
        none_more s.submitted (first.more ++ next.more)
        (sym kept ∙ next.behind ∙ ap (λ xs. xs ++ next.more) first.behind
        ∙ append_assoc s.submitted first.more next.more) in
        let same : mid.submitted ≡ s.submitted =
        first.behind ∙ ap (λ xs. s.submitted ++ xs) (first_empty first.more next.more none)
        ∙ append-nil s.submitted in
        goes_on mid one (subst (λ all. HasNoneEntangled (numbered all one.tx)) (sym same) ordinary)
        (stands_on n s mid one ordinary stands led same) event reply last (kept ∙ sym same) step
      where
        first_empty : {X : Type 0} (xs ys : List X) → xs ++ ys ≡ [] → xs ≡ []
        first_empty [] ys none = refl
        first_empty (x ∷ xs) ys none = cc

    -- a run has been made, and none is on
    module _ (n : ℕ) (s last : State) (one : Dormant) (tidy : IsTidy s) (no_run : s.running ≡ false)
        (waits : s.dormant ≡ one ∷ []) (ordinary : IsOrdinary s one.tx) (led : LeadsTo forms n s last)
        (kept : last.submitted ≡ s.submitted) (over : last.running ≡ false)
        (tried : tries_left last < tries_left s) where
      begun : Waits s one
      begun =
          record {
            no_prepared = tidy.no_prepared no_run;
            no_active = tidy.no_active no_run;
            waits = waits;
            no_run = no_run;
          }

      -- who waits still has as many tries as before
      same_tries : Waits last one → tries_left last ≡ tries_left s
      same_tries still =
          tries_of last still ∙ ap tries_with kept ∙ sym (tries_of s begun)
        where
          -- the tries of one that waits over some scripts
          tries_with : List Submitted → ℕ
          tries_with all = tries_left (record (waiting last one) { submitted = all })

          tries_of : (x : State) → Waits x one → tries_left x ≡ tries_with x.submitted
          tries_of x at =
              λ i. tries_left (record x {
                prepared = at.no_prepared i;
                active = at.no_active i;
                dormant = at.waits i;
                running = at.no_run i;
              })

      pub has_ended : Over last one.tx
      has_ended =
          elim (stands_on n s last one ordinary (inl begun) led kept) [
            | inl still ↦ absurd (less (tries_left last) (tries_left s) (same_tries still) tried)
            | inr behind ↦ elim behind [
              | inl runs ↦ clash last.running runs.on over
              | inr ended ↦ ended
            ]
          ]
        where
          less : (a b : ℕ) → a ≡ b → a < b → ⊥
          less a b same below = omega (arith, same, below)
