-- A round in which nothing moves leaves the run quiet.
use Rattle.std.proofs.Common.{◌≡◌, inl, inr, ℕ, Bool, true, false, cond, ◌||◌, ◌==◌, List, [], ◌∷◌, ◌++◌, map}
use Rattle.std.proofs.Common.{refl, sym, ap, subst, ◌∙◌, Option, Some, None}
use Rattle.std.specs.List.{filter, list_any}
use Rattle.ent_protocol_laws.proofs.Pooled.{pool_apart, never_unsafe}
use Rattle.ent_value.specs.declared.value.Value.{Value}
use Rattle.ent_semantics.specs.declared.entangled.Entangled.{Entangled}
use Rattle.ent_semantics.specs.declared.statement.Statement.{Statement}
use Rattle.ent_semantics.specs.Pool.{Posted, IsSafe}
use Rattle.ent_semantics.specs.declared.book.Fated.{Fated}
use Rattle.ent_protocol.specs.Begin.{BeginsCommit, BeginsEntangled, BeginsNext, BeginsOrdinary, Posts, pool_with}
use Rattle.ent_protocol.specs.Commit.{preparing, is_ready}
use Rattle.ent_protocol.specs.Event.{Reply}
use Rattle.ent_protocol.specs.Event as events
use Rattle.ent_protocol.specs.Lookup.{active_standing, running_members, standing, turn_of}
use Rattle.ent_protocol.specs.Lookup as lookups
use Rattle.ent_protocol.specs.Member.{Next, Ordinary, Asks, Commits, RollsBack, active_member}
use Rattle.ent_protocol.specs.Member.{is_lent, is_single_of, is_tx, next_of}
use Rattle.ent_protocol.specs.Play.{is_idle}
use Rattle.ent_protocol.specs.PoolEvents.{CanBePicked, IsOut, Picks}
use Rattle.ent_protocol.specs.Quiet.{CanMove, CanPost, HasJobOut, IsQuiet, IsUntried, MovesBy, NoneIs}
use Rattle.ent_protocol.specs.Run.{BreaksIfAny, Ends, EndsWhileRunning, Forms, ending}
use Rattle.ent_protocol.specs.State.{State, Dormant, Member, first_of, members}
use Rattle.ent_protocol.specs.Uses.{statement_uses, entangled_uses, blocker}
use Rattle.ent_protocol.specs.Waits.{NoDeadlock}
use Rattle.ent_protocol_laws.specs.ByNumber.{StandByNumber}
use Rattle.ent_protocol_laws.specs.Standing.{StandOnce}
use Rattle.ent_protocol_laws.specs.Idle.{IsHeldUp, IsIdleRound}
use Rattle.ent_lists.specs.Elements.{In, Pairs, of_all, in_first, in_second, clash, neither, not_so, same_number}
use Rattle.ent_lists.specs.Elements.{filter_empty, index_pairs, pairs_across, contains_in, to_map}
use Rattle.ent_protocol_laws.specs.Numbered.{Apart, Below, below_apart, one_passes}
use Rattle.ent_protocol_laws.proofs.Left.{tx_of}
use Rattle.ent_protocol_laws.proofs.Reasons.{no_reason}
use Rattle.ent_protocol_laws.proofs.Numbers.{is_running, members_apart}
use Rattle.ent_protocol_laws.proofs.Ready.{begins_next}

-- ---- where an active member stands

abbrev Differ : ℕ → ℕ → Type 0
Differ one other = one ≡ other → ⊥

-- numbers of members, of those that are dormant and of those with a fate are apart
module _ (s : State) (once : StandOnce s) (m : Member) (at : In m (members s)) where
  all_apart : Pairs Differ (map tx_of (members s)
      ++ (map (λ dormant. dormant.tx) s.dormant ++ map (λ fated. fated.tx) s.fates))
  all_apart = index_pairs Differ _ once.distinct

  not_fated : (fated : Fated) → In fated s.fates → (fated.tx == m.tx) ≡ false
  not_fated fated there =
      not_so (fated.tx == m.tx) (λ e.
      pairs_across Differ (map tx_of (members s)) _ m.tx fated.tx all_apart (to_map tx_of (members s) m at)
      (in_second (map (λ (dormant : Dormant). dormant.tx) s.dormant) (map (λ (own : Fated). own.tx) s.fates) fated.tx
      (to_map (λ (own : Fated). own.tx) s.fates fated there))
      (sym (same_number fated.tx m.tx e)))

  not_asleep : (dormant : Dormant) → In dormant s.dormant → (dormant.tx == m.tx) ≡ false
  not_asleep dormant there =
      not_so (dormant.tx == m.tx) (λ e.
      pairs_across Differ (map tx_of (members s)) _ m.tx dormant.tx all_apart (to_map tx_of (members s) m at)
      (in_first (map (λ (own : Dormant). own.tx) s.dormant) (map (λ (own : Fated). own.tx) s.fates) dormant.tx
      (to_map (λ (own : Dormant). own.tx) s.dormant dormant there))
      (sym (same_number dormant.tx m.tx e)))

module _ (s : State) (once : StandOnce s) (by_number : StandByNumber s) (m : Member) (at : In m s.active) where
  of_run : In m (members s)
  of_run = in_second s.prepared s.active m at

  apart : Pairs (Apart tx_of) s.active
  apart = below_apart tx_of s.active (index_pairs (Below tx_of) s.active by_number.active)

  only_it : filter (is_tx m.tx) s.active ≡ m ∷ []
  only_it = one_passes tx_of s.active m m.tx apart at refl

  pub is_own : active_member s m.tx ≡ Some m
  is_own = ap first_of only_it

  not_prepared : filter (is_tx m.tx) s.prepared ≡ []
  not_prepared =
      filter_empty (is_tx m.tx) s.prepared (λ other there. not_so (other.tx == m.tx) (λ e.
      pairs_across (Apart tx_of) s.prepared s.active other m (members_apart s by_number) there at
      (same_number other.tx m.tx e)))

  stands_active : standing s m.tx ≡ Some (active_standing s m)
  stands_active = λ i. first_of (map (λ (fated : Fated). lookups.Finished fated.fate) (no_fate i)
      ++ map (λ (dormant : Dormant). lookups.Dormant dormant.runs) (no_sleep i)
      ++ map (λ (member : Member). lookups.Prepared) (not_prepared i) ++ map (active_standing s) (only_it i))
    where
      no_fate : filter (λ (fated : Fated). fated.tx == m.tx) s.fates ≡ []
      no_fate = filter_empty (λ (fated : Fated). fated.tx == m.tx) s.fates (not_fated s once m of_run)

      no_sleep : filter (λ (dormant : Dormant). dormant.tx == m.tx) s.dormant ≡ []
      no_sleep = filter_empty (λ (dormant : Dormant). dormant.tx == m.tx) s.dormant (not_asleep s once m of_run)

  pub stands_ready : (m.posted || is_lent s m.tx) ≡ false
      → standing s m.tx ≡ Some (lookups.Ready (turn_of (next_of s m)))
  stands_ready waiting =
      let two = neither m.posted (is_lent s m.tx) waiting in
      stands_active ∙ (λ i. Some (cond (two.0 i) lookups.Posted
      (cond (two.1 i) lookups.Out (lookups.Ready (turn_of (next_of s m))))))

-- ---- who may move isn't refused

module _ {F : Type 0} where
  not_idle : (reply is : Reply F) → reply ≡ is → is_idle is ≡ false → is_idle reply ≡ true → ⊥
  not_idle reply is e busy idle = clash (is_idle is) (ap is_idle (sym e) ∙ idle) busy

  module _ (s : State) (by_number : StandByNumber s) (m : Member) (at : In m s.active)
      (unposted : m.posted ≡ false) where
    ordinary : (c : Statement Value) (blocked : Option ℕ) (reply : Reply F) (new : State)
        → BeginsOrdinary s m c blocked reply new → blocked ≡ None → is_idle reply ≡ true → ⊥
    ordinary c (Some holder) reply new step free idle = bad free
      where
        bad : Some holder ≡ None → ⊥
        bad e = cc
    ordinary c None reply new step free idle = not_idle reply _ step.0 refl idle

    posts : (asked : Entangled Value) (reply : Reply F) (new : State) → Posts s m asked reply new
        → IsSafe (pool_with s m asked) → is_idle reply ≡ true → ⊥
    posts asked reply new (inl step) safe idle = not_idle reply _ step.1 refl idle
    posts asked reply new (inr step) safe idle =
        never_unsafe (pool_with s m asked) step.0 (pool_apart s by_number m asked at unposted) safe step.1

    entangled : (asked : Entangled Value) (blocked : Option ℕ) (reply : Reply F) (new : State)
        → BeginsEntangled s m asked blocked reply new → CanPost s m asked blocked → is_idle reply ≡ true → ⊥
    entangled asked (Some holder) reply new step can idle = absurd can
    entangled asked None reply new step can idle = posts asked reply new step can idle

    commits : (ready : Bool) (reply : Reply F) (new : State) → BeginsCommit (preparing s m) m.group ready reply new
        → is_idle reply ≡ true → ⊥
    commits true reply new step idle = not_idle reply _ step.0 refl idle
    commits false reply new step idle = not_idle reply _ step.0 refl idle

    moves : (next : Next) (reply : Reply F) (new : State) → BeginsNext s m next reply new → MovesBy s m next
        → is_idle reply ≡ true → ⊥
    moves (Ordinary c) reply new step free idle = ordinary c (blocker s m (statement_uses c)) reply new step free idle
    moves (Asks asked) reply new step can idle =
        entangled asked (blocker s m (entangled_uses asked)) reply new step can idle
    moves Commits reply new step can idle = commits (is_ready (preparing s m) m.group) reply new step idle
    moves RollsBack reply new step can idle = not_idle reply _ step.0 refl idle

  -- ---- a round

  module _ (forms : Forms F) (s : State) (once : StandOnce s) (by_number : StandByNumber s)
      (round : IsIdleRound {F = F} forms s) where
    none_out : (asked : List Posted) → IsOut s asked → ⊥
    none_out asked out = absurd (subst (In out.0) round.none_lent (contains_in s.lent out.0 out.1))

    nothing_out : NoneIs (HasJobOut s)
    nothing_out tx (inl lent) = clash (is_lent s tx) lent (ap (list_any (is_single_of tx)) round.none_lent)
    nothing_out tx (inr joint) = none_out joint.asked joint.out

    nobody_moves : NoneIs (CanMove s)
    nobody_moves tx can =
        let m = can.member in
        let at = contains_in s.active m can.active in
        let waiting : (m.posted || is_lent s m.tx) ≡ false =
        ap (λ n. m.posted || is_lent s n) can.own ∙ can.waiting in
        let held = of_all (IsHeldUp {F = F} forms s) (running_members s) m.tx round.held_up
        (is_running s m (in_second s.prepared s.active m at)) in
        let refused = held (turn_of (next_of s m)) (stands_ready s once by_number m at waiting) in
        let step = begins_next s m.tx m refused.0 refused.2.0 (is_own s once by_number m at) waiting refused.2.1 in
        moves s by_number m at (neither m.posted (is_lent s m.tx) waiting).0 (next_of s m) refused.0 refused.2.0 step
        can.moves refused.1

    none_picked : (reply : Reply F) (new : State) → Picks s reply new → is_idle reply ≡ true → (asked : List Posted)
        → CanBePicked s asked → ⊥
    none_picked reply new (inl step) idle = absurd (not_idle reply _ step.replies refl idle)
    none_picked reply new (inr step) idle = step.0

    all_tried : NoneIs (IsUntried s)
    all_tried tx h =
        none_picked events.Nothing round.nothing_picked.0 round.nothing_picked.1 refl h.asked
        (record { component = h.component; untried = h.untried; not_out = none_out h.asked })

    none_on_cycle : (reply : Reply F) (new : State) → BreaksIfAny s reply new → is_idle reply ≡ true → NoDeadlock s
    none_on_cycle reply new (inl step) idle = absurd (not_idle reply _ step.replies refl idle)
    none_on_cycle reply new (inr step) idle = step.0

    pub round_is_quiet : IsQuiet s
    round_is_quiet =
        record {
          nothing_out = nothing_out;
          nobody_moves = nobody_moves;
          all_tried = all_tried;
          no_deadlock = none_on_cycle events.NoCycle round.no_cycle.0 round.no_cycle.1 refl;
        }

  -- ---- a quiet run ends

  ends_now : (s : State) (running : Bool) (reply : Reply F) (new : State) → IsQuiet s → running ≡ true
      → EndsWhileRunning s running reply new → (reply ≡ events.Ended (running_members s)) × (new ≡ ending s)
  ends_now s false reply new quiet on step = clash false on refl
  ends_now s true reply new quiet on (inl step) = (step.1, step.2)
  ends_now s true reply new quiet on (inr step) = absurd (no_reason s quiet step.0 step.1)

  pub quiet_ends : (s : State) (reply : Reply F) (new : State) → IsQuiet s → s.running ≡ true → Ends s reply new
      → (reply ≡ events.Ended (running_members s)) × (new ≡ ending s)
  quiet_ends s reply new quiet on step = ends_now s s.running reply new quiet on step
