-- One event of a run that has one member, whose script is ordinary, of what is before it and of what is behind it.
use Rattle.std.proofs.Common.{◌≡◌, inl, inr, ◌⊎◌, ℕ, zero, suc, Bool, true, false, cond, not, ◌||◌, ◌==◌, ◌<◌, ◌+◌}
use Rattle.std.proofs.Common.{List, [], ◌∷◌, ◌++◌, map, length, take, drop, flat_map, refl, sym, ap, subst, ◌∙◌, arith}
use Rattle.std.proofs.Common.{Option, Some, None, Result, Ok, Err, Contains, All}
use Rattle.std.specs.List.{AllByRecursion, filter, filter_map, list_any, zip}
use Rattle.std.proofs.lemmas.List.{length-append}
use Rattle.std.proofs.lemmas.Option.{same_Some}
use Rattle.ent_value.specs.declared.value.Value.{Value}
use Rattle.ent_tree.specs.declared.script.End.{End}
use Rattle.ent_tree.specs.declared.script.End.TheVariants.{Commit, Rollback}
use Rattle.ent_tree.specs.declared.script.Script.{Script}
use Rattle.ent_group.specs.Cycle.{Closes, IsCycle, links}
use Rattle.ent_semantics.specs.declared.answer.Failure.{Failure}
use Rattle.ent_semantics.specs.declared.book.Fate.{Fate}
use Rattle.ent_semantics.specs.declared.book.Fate.TheVariants as fates
use Rattle.ent_semantics.specs.declared.entangled.Entangled.{Entangled}
use Rattle.ent_semantics.specs.declared.operand.Known.{Known}
use Rattle.ent_semantics.specs.declared.statement.Statement.{Statement}
use Rattle.ent_semantics.specs.declared.statement.Statement.TheVariants as statements
use Rattle.ent_semantics.specs.Closing.{closed}
use Rattle.ent_semantics.specs.Component.{IsComponent}
use Rattle.ent_semantics.specs.Pool.{Posted}
use Rattle.ent_semantics.specs.Serial.{numbered}
use Rattle.ent_lists.specs.Elements.{In, all_index, contains_in, in_contains, in_second, not_so, number_itself}
use Rattle.ent_protocol.specs.Begin.{BeginsCommit, BeginsEntangled, BeginsMember, BeginsNext, BeginsOrdinary}
use Rattle.ent_protocol.specs.Begin.{BeginsUnless, holding, lending, replaced, with_member}
use Rattle.ent_protocol.specs.Commit.{committing, commit_fates, is_ready, preparing}
use Rattle.ent_protocol.specs.Event.{Event, Reply}
use Rattle.ent_protocol.specs.Event as events
use Rattle.ent_protocol.specs.Finish.{FinishesBy, Finishes, finished}
use Rattle.ent_protocol.specs.Job.{Done, Job, Outcome, Shown, Changed, Bound, Choice, Fault}
use Rattle.ent_protocol.specs.Member.{Next, Ordinary, Asks, Commits, RollsBack, environment_of, is_lent, is_of, is_tx}
use Rattle.ent_protocol.specs.Member.{next_in, next_of, pool, statement_next, end_next}
use Rattle.ent_protocol.specs.PoolEvents.{JoinsOrIsStale, Picks}
use Rattle.ent_protocol.specs.Quiet.{IsQuiet, MovesBy}
use Rattle.ent_protocol.specs.Rollback.{Asked, Cause, Failing, dormant_by, fated_by, group_members, own_fate}
use Rattle.ent_protocol.specs.Rollback.{rolled_back, taken_out}
use Rattle.ent_protocol.specs.Run.{BreaksIfAny, EndsWhileRunning, Forms, SubmitsForm, SubmitsUnless, StartsWith}
use Rattle.ent_protocol.specs.Run.{ending, fresh, starting, submitting}
use Rattle.ent_protocol.specs.State.{Dormant, Member, State, Submitted, Use, by_number, first_of}
use Rattle.ent_protocol.specs.Step.{Step}
use Rattle.ent_protocol.specs.Uses.{blocker, conflicting, is_conflicting, least, statement_uses}
use Rattle.ent_protocol.specs.Waits.{awaited, is_waiting, next_uses, waits, waits_of}
use Rattle.ent_ordinary_laws.specs.Alone.{AsksNobody, HasEndedItself, HasNoneEntangled, IsOwnEnding}

-- ---- where a transaction stands that is alone

-- it waits for a run, and none is on
pub record Waits (s : State) (one : Dormant) : Type 0 where
  pub no_prepared : s.prepared ≡ []
  pub no_active : s.active ≡ []
  pub waits : s.dormant ≡ one ∷ []
  pub no_run : s.running ≡ false

-- it is the only member of a run
pub record Runs (s : State) (tx : ℕ) : Type 0 where
  pub member : Member
  pub no_prepared : s.prepared ≡ []
  pub active : s.active ≡ member ∷ []
  pub own : member.tx ≡ tx
  pub unposted : member.posted ≡ false
  pub none_waits : s.dormant ≡ []
  pub on : s.running ≡ true

-- it has ended
pub record Over (s : State) (tx : ℕ) : Type 0 where
  pub no_prepared : s.prepared ≡ []
  pub no_active : s.active ≡ []
  pub none_waits : s.dormant ≡ []
  pub ended : HasEndedItself s.fates tx

abbrev pub Behind : State → ℕ → Type 0
Behind s tx = Runs s tx ⊎ Over s tx

-- ---- what there isn't

pub no_component : (asked : List Posted) → IsComponent [] asked → ⊥
no_component asked component = contains_in [] component.first component.in_remainder.is_in.0

-- a list with one more isn't the same list
pub no_more : {X : Type 0} (xs : List X) (x : X) → xs ++ x ∷ [] ≡ xs → ⊥
no_more xs x same = omega (arith, length-append xs (x ∷ []), ap length same)

-- the first of a cycle waits for another
pub no_cycle : (cycle : List ℕ) → 0 < length cycle → All (Contains []) (links cycle) → ⊥
no_cycle [] some linked = absurd (omega (arith, some))
no_cycle (x ∷ []) some linked =
    contains_in [] (x, x) (all_index (Contains []) (links (x ∷ [])) linked).0
no_cycle (x ∷ y ∷ more) some linked =
    contains_in [] (x, y) (all_index (Contains []) (links (x ∷ y ∷ more)) linked).0

module _ {F : Type 0} (forms : Forms F) where
  -- ---- a run of one member

  module _ (s : State) (one : Member) (ordinary : HasNoneEntangled (numbered s.submitted one.tx)) where
    -- the member has no statement in the pool
    abbrev m : Member
    m = record one { posted = false }

    -- it alone is in the run, and nothing waits for another run
    abbrev own : State
    own = record s { prepared = []; active = m ∷ []; dormant = []; running = true }

    itself : (m.tx == m.tx) ≡ true
    itself = number_itself m.tx

    -- ---- it is as it was

    stays : (new : State) → new ≡ own → Behind new m.tx
    stays new is =
        inl (subst (λ (x : State). Runs x m.tx) (sym is) (record {
          member = m;
          no_prepared = refl;
          active = refl;
          own = refl;
          unposted = refl;
          none_waits = refl;
          on = refl;
        }))

    -- the member is another one of the same transaction, and not posted
    moves : (next : Member) (new state : State) → next.tx ≡ m.tx → next.posted ≡ false → new ≡ state
        → state.prepared ≡ [] → state.active ≡ map (replaced next) (m ∷ []) → state.dormant ≡ []
        → state.running ≡ true → Behind new m.tx
    moves next new state same unposted is no_prepared active none_waits on =
        inl (subst (λ (x : State). Runs x m.tx) (sym is) (record {
          member = next;
          no_prepared = no_prepared;
          active = active ∙ ap (λ n. cond (m.tx == n) next m ∷ []) same ∙ ap (λ b. cond b next m ∷ []) itself;
          own = same;
          unposted = unposted;
          none_waits = none_waits;
          on = on;
        }))

    -- ---- what comes next in its script

    asks_nobody : (script : Script) (form : List (Statement Known)) (n : ℕ) (asked : Entangled Value)
        → AllByRecursion AsksNobody form
        → next_in (Some (record { script = script; form = form })) (record m { place = suc n }) ≡ Asks asked → ⊥
    asks_nobody script [] n asked none e = by script.end e
      where
        by : (end : End) → end_next end ≡ Asks asked → ⊥
        by Commit e = cc
        by Rollback e = cc
    asks_nobody script (f ∷ fs) zero asked none e = by f none.0 e
      where
        by : (f : Statement Known) → AsksNobody f → statement_next (closed (environment_of m) f) ≡ Asks asked → ⊥
        by (statements.Select select) nobody e = cc
        by (statements.Entangled entangled) nobody e = nobody
        by (statements.Insert table values) nobody e = cc
        by (statements.Delete table tests) nobody e = cc
        by (statements.Update table image tests) nobody e = cc
        by (statements.Set variable expression) nobody e = cc
    asks_nobody script (f ∷ fs) (suc n) asked none e = asks_nobody script fs n asked none.1 e

    next_asks_nobody : (asked : Entangled Value) → next_of own m ≡ Asks asked → ⊥
    next_asks_nobody asked e = by (numbered s.submitted one.tx) ordinary one.place e
      where
        by : (own : Option Submitted) → HasNoneEntangled own → (n : ℕ)
            → next_in own (record m { place = n }) ≡ Asks asked → ⊥
        by None none n e = cc
        by (Some own) none zero e = ends own.script.end e
          where
            ends : (end : End) → end_next end ≡ Asks asked → ⊥
            ends Commit e = cc
            ends Rollback e = cc
        by (Some own) none (suc n) e = asks_nobody own.script own.form n asked none e

    -- ---- nothing is in its way

    no_conflict : (uses : List Use) → conflicting own m uses ≡ []
    no_conflict uses = ap (λ b. filter (is_conflicting uses) (cond (not b) (m ∷ []) [])) itself

    unblocked : (uses : List Use) → blocker own m uses ≡ None
    unblocked uses = ap (λ holders. least (map (λ holder. holder.tx) holders)) (no_conflict uses)

    waits_for_none : waits_of own m ≡ []
    waits_for_none =
        ap (λ holders. flat_map (λ holder. map (λ other. (m.tx, other.tx)) (awaited own m holder)) holders)
        (no_conflict (next_uses (next_of own m)))

    nobody_waits : waits own ≡ []
    nobody_waits = by (is_waiting own m)
      where
        by : (b : Bool) → flat_map (waits_of own) (cond b (m ∷ []) []) ≡ []
        by true = ap (λ pairs. pairs ++ []) waits_for_none
        by false = refl

    -- ---- it ends

    -- a fate comes last
    fated : (new : State) (before more : List _) (fate : Fate) → IsOwnEnding fate
        → new.fates ≡ before ++ more → more ≡ record { tx = m.tx; fate = fate } ∷ [] → HasEndedItself new.fates m.tx
    fated new before more fate own is last =
        record {
          fate = fate;
          own = own;
          is = subst (λ all. Contains all (record { tx = m.tx; fate = fate })) (sym is)
              (in_contains _ _ (in_second before more _
              (subst (λ all. In (record { tx = m.tx; fate = fate }) all) (sym last) (inl refl))));
        }

    none_left : filter (λ other. not (is_tx m.tx other)) (m ∷ []) ≡ []
    none_left = ap (λ b. cond (not b) (m ∷ []) []) itself

    -- it prepares, and its group, which it is alone, commits
    commits : (reply : Reply F) (new : State)
        → BeginsCommit (preparing own m) m.group (is_ready (preparing own m) m.group) reply new → Behind new m.tx
    commits reply new step =
        let ready : is_ready (preparing own m) m.group ≡ true =
        ap (λ others. not (list_any (is_of m.group) others)) none_left in
        let same : (m.group == m.group) ≡ true = number_itself m.group in
        let is : new ≡ committing (preparing own m) m.group =
        (subst (λ b. BeginsCommit (preparing own m) m.group b reply new) ready step).1 in
        inr (record {
          no_prepared = ap (λ (x : State). x.prepared) is ∙ ap (λ b. cond (not b) (m ∷ []) []) same;
          no_active = ap (λ (x : State). x.active) is ∙ none_left;
          none_waits = ap (λ (x : State). x.dormant) is;
          ended = fated new s.fates (commit_fates (suc (length s.journal)) (cond (m.group == m.group) (m ∷ []) []))
              (fates.Committed (suc (length s.journal)) m.attempt) tt (ap (λ (x : State). x.fates) is)
              (ap (λ b. commit_fates (suc (length s.journal)) (cond b (m ∷ []) [])) same);
        })

    -- its group, which it is alone, is rolled back for a cause of its own
    rolls_back : (left : List Job) (cause : Cause) (fate : Fate) (new : State) → own_fate cause m ≡ Some fate
        → IsOwnEnding fate → new ≡ rolled_back m.group cause (record own { lent = left }) → Behind new m.tx
    rolls_back left cause fate new fates_it ending is =
        let group : group_members (record own { lent = left }) m.group ≡ m ∷ [] =
        ap (λ b. by_number (λ (member : Member). member.tx) (cond b (m ∷ []) [])) (number_itself m.group) in
        let all : new ≡ taken_out (m ∷ []) cause (record own { lent = left }) =
        is ∙ ap (λ gone. taken_out gone cause (record own { lent = left })) group in
        inr (record {
          no_prepared = ap (λ (x : State). x.prepared) all;
          no_active = ap (λ (x : State). x.active) all ∙ ap (λ b. cond (not (b || false)) (m ∷ []) []) itself;
          none_waits = ap (λ (x : State). x.dormant) all ∙ not_dormant;
          ended = fated new s.fates (filter_map (fated_by s.submitted cause) (m ∷ [])) fate ending
              (ap (λ (x : State). x.fates) all) has_fate;
        })
      where
        not_dormant : filter_map (dormant_by s.submitted cause) (m ∷ []) ≡ []
        not_dormant = rw fates_it refl

        has_fate : filter_map (fated_by s.submitted cause) (m ∷ []) ≡ record { tx = m.tx; fate = fate } ∷ []
        has_fate = rw fates_it refl

    -- ---- it begins what comes next

    begins_ordinary : (c : Statement Value) (blocked : Option ℕ) (reply : Reply F) (new : State)
        → BeginsOrdinary own m c blocked reply new → Behind new m.tx
    begins_ordinary c (Some holder) reply new step = stays new step.1
    begins_ordinary c None reply new step =
        moves (holding m (statement_uses c)) new (lending own m c) refl refl step.1 refl refl refl refl

    begins_next : (next : Next) → next_of own m ≡ next → (reply : Reply F) (new : State)
        → BeginsNext own m next reply new → Behind new m.tx
    begins_next (Ordinary c) is reply new step =
        begins_ordinary c (blocker own m (statement_uses c)) reply new step
    begins_next (Asks asked) is reply new step = absurd (next_asks_nobody asked is)
    begins_next Commits is reply new step = commits reply new step
    begins_next RollsBack is reply new step =
        rolls_back s.lent (Asked m.tx) (fates.RolledBack m.attempt) new
        (ap (λ b. cond b (Some (fates.RolledBack m.attempt)) None) itself) tt step.1

    begins_unless : (busy : Bool) (reply : Reply F) (new : State) → BeginsUnless busy own m reply new
        → Behind new m.tx
    begins_unless true reply new step = stays new step.1
    begins_unless false reply new step = begins_next (next_of own m) refl reply new step

    begins : (tx : ℕ) (b : Bool) (reply : Reply F) (new : State)
        → BeginsMember own tx (first_of (cond b (m ∷ []) [])) reply new → Behind new m.tx
    begins tx true reply new step = begins_unless (is_lent own tx) reply new step
    begins tx false reply new step = stays new step.1

    -- ---- a result comes in

    by_outcome : (left : List Job) (c : Statement Value) (outcome : Outcome) (reply : Reply F) (new : State)
        → FinishesBy (record own { lent = left }) m c outcome reply new → Behind new m.tx
    by_outcome left c (Fault failure) reply new step =
        rolls_back left (Failing m.tx failure) (fates.Failed failure m.attempt) new
        (ap (λ b. cond b (Some (fates.Failed failure m.attempt)) None) itself) tt step.1
    by_outcome left c (Shown rows) reply new step =
        moves _ new (finished (record own { lent = left }) m c (Shown rows)) refl refl step.1 refl refl refl refl
    by_outcome left c (Changed count removed added) reply new step =
        moves _ new (finished (record own { lent = left }) m c (Changed count removed added)) refl refl step.1 refl refl
        refl refl
    by_outcome left c (Bound value) reply new step =
        moves _ new (finished (record own { lent = left }) m c (Bound value)) refl refl step.1 refl refl refl refl
    by_outcome left c (Choice groundings) reply new step = absurd step

    is_it : (b : Bool) (member : Member) → first_of (cond b (m ∷ []) []) ≡ Some member → m ≡ member
    is_it true member is = same_Some m member is
    is_it false member is = cc

    finishes : (done : Done) (reply : Reply F) (new : State) → Finishes own done reply new → Behind new m.tx
    finishes done reply new (inl (single, work, it)) =
        let same = is_it (m.tx == single.tx) it.member it.is_member in
        by_outcome it.left single.statement done.outcome reply new
        (subst (λ (x : Member). FinishesBy (record own { lent = it.left }) x single.statement done.outcome reply new)
        (sym same) it.steps)
    finishes done reply new (inr stale) = stays new stale.1.1

    -- ---- other events

    picks : (reply : Reply F) (new : State) → Picks own reply new → Behind new m.tx
    picks reply new (inl lends) = absurd (no_component lends.asked lends.can.component)
    picks reply new (inr nothing) = stays new nothing.1.1

    joins : (done : Done) (reply : Reply F) (new : State) → JoinsOrIsStale own done reply new → Behind new m.tx
    joins done reply new (inl joined) = absurd (no_component joined.outstanding.asked joined.outstanding.component)
    joins done reply new (inr stale) = stays new stale.1.1

    breaks : (reply : Reply F) (new : State) → BreaksIfAny own reply new → Behind new m.tx
    breaks reply new (inl broken) =
        let closes = subst (λ pairs. Closes pairs broken.cycle) nobody_waits broken.deadlock.is_cycle.closes in
        absurd (no_cycle broken.cycle closes.not_empty closes.linked)
    breaks reply new (inr none) = stays new none.1.1

    moves_by : (next : Next) → next_of own m ≡ next → MovesBy own m next
    moves_by (Ordinary c) is = unblocked (statement_uses c)
    moves_by (Asks asked) is = absurd (next_asks_nobody asked is)
    moves_by Commits is = tt
    moves_by RollsBack is = tt

    -- it can move, so the run isn't quiet
    never_quiet : IsQuiet own → ⊥
    never_quiet quiet =
        quiet.nobody_moves m.tx (record {
          member = m;
          active = in_contains (m ∷ []) m (inl refl);
          own = refl;
          waiting = not_so (is_lent own m.tx) (λ e. quiet.nothing_out m.tx (inl e));
          moves = moves_by (next_of own m) refl;
        })

    ends : (reply : Reply F) (new : State) → EndsWhileRunning own true reply new → Behind new m.tx
    ends reply new (inl ended) = absurd (never_quiet ended.0)
    ends reply new (inr busy) = stays new busy.2.1

    submits : (full : Bool) (script : Script) (reply : Reply F) (new : State) → new.submitted ≡ s.submitted
        → SubmitsUnless full forms own script reply new → Behind new m.tx
    submits true script reply new kept step = stays new step.1
    submits false script reply new kept step = by (forms.resolve s.opening script) step
      where
        by : (form : Result (List (Statement Known)) F) → SubmitsForm own script form reply new → Behind new m.tx
        by (Ok form) step =
            absurd (no_more s.submitted _ (sym (ap (λ (x : State). x.submitted) step.1) ∙ kept))
        by (Err fault) step = stays new step.1

    pub goes : (event : Event) (reply : Reply F) (new : State) → new.submitted ≡ s.submitted
        → Step forms own event reply new → Behind new m.tx
    goes (events.Submit script) reply new kept step = submits _ script reply new kept step
    goes events.StartRun reply new kept step = stays new step.1
    goes (events.Begin tx) reply new kept step = begins tx (m.tx == tx) reply new step
    goes (events.Finish done) reply new kept step = finishes done reply new step
    goes events.Pick reply new kept step = picks reply new step
    goes (events.JoinAnswer done) reply new kept step = joins done reply new step
    goes events.BreakCycle reply new kept step = breaks reply new step
    goes events.EndRun reply new kept step = ends reply new step
    goes events.Recall reply new kept step =
        moves m new (record own { lent = [] }) refl refl step.1 refl (ap (λ b. cond b m m ∷ []) (sym itself)) refl refl
