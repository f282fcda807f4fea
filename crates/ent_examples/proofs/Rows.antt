-- The rows of the table give what the definition of `begin` gives, and no more.
use Rattle.std.proofs.Common.{◌≡◌, inl, inr, ℕ, ◌==◌, Bool, true, false, not, ◌||◌, if◌then◌else◌, List, [], ◌∷◌}
use Rattle.std.proofs.Common.{refl, sym, ap, subst, ◌∙◌, Option, Some, None}
use Rattle.std.proofs.lemmas.Bool.{or_from, not-false}
use Rattle.std.specs.List.{filter, list_any}
use Rattle.ent_value.specs.declared.value.Value.{Value}
use Rattle.ent_semantics.specs.declared.entangled.Entangled.{Entangled}
use Rattle.ent_semantics.specs.declared.statement.Statement.{Statement}
use Rattle.ent_protocol.specs.Begin.{Begins, BeginsMember, BeginsUnless, BeginsNext, BeginsCommit, BeginsEntangled}
use Rattle.ent_protocol.specs.Begin.{BeginsOrdinary, Posts}
use Rattle.ent_protocol.specs.Commit.{preparing, is_ready}
use Rattle.ent_protocol.specs.Event.{Reply}
use Rattle.ent_protocol.specs.Event as replies
use Rattle.ent_protocol.specs.Member.{Next, Ordinary, Asks, Commits, RollsBack, next_of, active_member, is_prepared}
use Rattle.ent_protocol.specs.Member.{is_lent, is_of, is_tx}
use Rattle.ent_protocol.specs.State.{State, Member, members, first_of}
use Rattle.ent_protocol.specs.Uses.{statement_uses, entangled_uses, blocker}
use Rattle.ent_lists.specs.Elements.{In, of_filter, to_filter, in_either, in_first, in_second, any_none, any_some}
use Rattle.ent_lists.specs.Elements.{any_in, in_contains, contains_in, clash, not_so, turned, same_number}
use Rattle.ent_lists.specs.Elements.{number_itself, other_number, differ, or_first, or_second, or_cases, neither}
use Rattle.ent_protocol_laws.proofs.Found.{found}
use Rattle.ent_examples.specs.Beginning.{BeginsByRow, IsNoMember, IsBusy, IsBefore, OthersArePrepared, WaitsForOther}
use Rattle.ent_examples.specs.Beginning.{is_posted, has_prepared, is_out, absent, not_now, blocked, lent}
use Rattle.ent_examples.specs.Beginning.{asks_blocked, held_back, posted, committed, prepared, rolls_back}
use Rattle.ent_examples.proofs.Conflicting.{blocker_told, is_blocker, no_blocker}

-- ---- who has a number

none_first : {X : Type 0} (xs : List X) (x : X) → first_of xs ≡ None → In x xs → ⊥
none_first [] x e at = at
none_first (y ∷ ys) x e at = none e
  where
    none : Some y ≡ None → ⊥
    none e = cc

is_number : (member : Member) (tx : ℕ) → member.tx ≡ tx → is_tx tx member ≡ true
is_number member tx same = ap (λ n. n == tx) same ∙ number_itself tx

nobody : (s : State) (tx : ℕ) → active_member s tx ≡ None → is_prepared s tx ≡ false → IsNoMember s tx
nobody s tx none unprepared member there same =
    elim (in_either s.prepared s.active member (contains_in (members s) member there)) [
      | inl a ↦ clash (is_tx tx member) (is_number member tx same) (any_none (is_tx tx) s.prepared unprepared member a)
      | inr b ↦ none_first (filter (is_tx tx) s.active) member none
          (to_filter (is_tx tx) s.active member b (is_number member tx same))
    ]

none_active : (s : State) (tx : ℕ) (member : Option Member) → active_member s tx ≡ member → IsNoMember s tx
    → member ≡ None
none_active s tx None is none = refl
none_active s tx (Some member) is none =
    let r = found s tx member is in
    absurd (none member (in_contains (members s) member (in_second s.prepared s.active member r.0)) r.1)

none_prepared : (s : State) (tx : ℕ) → IsNoMember s tx → is_prepared s tx ≡ false
none_prepared s tx none =
    not_so (is_prepared s tx) (λ is.
    let r = any_some (is_tx tx) s.prepared is in
    none r.0 (in_contains (members s) r.0 (in_first s.prepared s.active r.0 r.1)) (same_number r.0.tx tx r.2))

-- ---- whose group is prepared

abbrev is_other : Member → Member → Bool
is_other member other = not (is_tx member.tx other)

others_prepared : (s : State) (m : Member) → is_ready (preparing s m) m.group ≡ true → OthersArePrepared s m
others_prepared s m ready other there group = by (other.tx == m.tx) refl
  where
    by : (b : Bool) → (other.tx == m.tx) ≡ b → other.tx ≡ m.tx
    by true is = same_number other.tx m.tx is
    by false is =
        clash (is_of m.group other) (ap (λ n. n == m.group) group ∙ number_itself m.group)
        (any_none (is_of m.group) (preparing s m).active
        (turned (list_any (is_of m.group) (preparing s m).active) ready) other
        (to_filter (is_other m) s.active other (contains_in s.active other there) (ap not is)))

waits : (s : State) (m : Member) → is_ready (preparing s m) m.group ≡ false → WaitsForOther s m
waits s m ready =
    let r = any_some (is_of m.group) (preparing s m).active
    (not-false (list_any (is_of m.group) (preparing s m).active) ready) in
    let there = of_filter (is_other m) s.active r.0 r.1 in (
      r.0,
      in_contains s.active r.0 there.0,
      same_number r.0.group m.group r.2,
      differ r.0.tx m.tx (turned (r.0.tx == m.tx) there.1),
    )

ready : (s : State) (m : Member) → OthersArePrepared s m → is_ready (preparing s m) m.group ≡ true
ready s m others =
    ap not (not_so (list_any (is_of m.group) (preparing s m).active) (λ is.
    let r = any_some (is_of m.group) (preparing s m).active is in
    let there = of_filter (is_other m) s.active r.0 r.1 in
    differ r.0.tx m.tx (turned (r.0.tx == m.tx) there.1)
    (others r.0 (in_contains s.active r.0 there.0) (same_number r.0.group m.group r.2))))

not_ready : (s : State) (m : Member) → WaitsForOther s m → is_ready (preparing s m) m.group ≡ false
not_ready s m other =
    ap not (any_in (is_of m.group) (preparing s m).active other.0
    (to_filter (is_other m) s.active other.0 (contains_in s.active other.0 other.1)
    (ap not (other_number other.0.tx m.tx other.3)))
    (ap (λ n. n == m.group) other.2 ∙ number_itself m.group))

-- ---- whether it may begin

busy : (s : State) (tx : ℕ) (m : Member) → active_member s tx ≡ Some m → (m.posted || is_lent s tx) ≡ true
    → IsBusy s tx
busy s tx m is h =
    elim (or_cases m.posted (is_lent s tx) h) [
      | inl a ↦ is_posted m is a
      | inr b ↦ is_out m is b
    ]

module _ {F : Type 0} (s : State) (tx : ℕ) where
  -- ---- from the definition to its row

  told : (reply is : Reply F) (new state : State) → reply ≡ is → new ≡ state → BeginsByRow s tx is state
      → BeginsByRow s tx reply new
  told reply is new state of_reply of_state h =
      subst (λ (r : Reply F). BeginsByRow s tx r new) (sym of_reply)
      (subst (λ (x : State). BeginsByRow s tx is x) (sym of_state) h)

  ordinary : (m : Member) (c : Statement Value) (by : Option ℕ) (reply : Reply F) (new : State)
      → IsBefore s tx m (Ordinary c) → blocker s m (statement_uses c) ≡ by → BeginsOrdinary s m c by reply new
      → BeginsByRow s tx reply new
  ordinary m c (Some holder) reply new at is h =
      told reply (replies.Blocked holder) new s h.0 h.1
      (blocked m c holder at (blocker_told s m (statement_uses c) (Some holder) is))
  ordinary m c None reply new at is h =
      told reply _ new _ h.0 h.1 (lent m c at (blocker_told s m (statement_uses c) None is))

  entangled : (m : Member) (c : Entangled Value) (by : Option ℕ) (reply : Reply F) (new : State)
      → IsBefore s tx m (Asks c) → blocker s m (entangled_uses c) ≡ by → BeginsEntangled s m c by reply new
      → BeginsByRow s tx reply new
  entangled m c (Some holder) reply new at is h =
      told reply (replies.Blocked holder) new s h.0 h.1
      (asks_blocked m c holder at (blocker_told s m (entangled_uses c) (Some holder) is))
  entangled m c None reply new at is h = posts h
    where
      posts : Posts s m c reply new → BeginsByRow s tx reply new
      posts (inl h) =
          told reply replies.Posted new _ h.1 h.2
          (posted m c at (blocker_told s m (entangled_uses c) None is) h.0)
      posts (inr h) =
          told reply (replies.HeldBack h.0) new s h.2.0 h.2.1
          (held_back m c h.0 at (blocker_told s m (entangled_uses c) None is) h.1)

  commit : (m : Member) (all : Bool) (reply : Reply F) (new : State) → IsBefore s tx m Commits
      → is_ready (preparing s m) m.group ≡ all → BeginsCommit (preparing s m) m.group all reply new
      → BeginsByRow s tx reply new
  commit m true reply new at is h = told reply _ new _ h.0 h.1 (committed m at (others_prepared s m is))
  commit m false reply new at is h = told reply replies.Prepared new _ h.0 h.1 (prepared m at (waits s m is))

  next : (m : Member) (is : Next) (reply : Reply F) (new : State) → IsBefore s tx m is
      → BeginsNext s m is reply new → BeginsByRow s tx reply new
  next m (Ordinary c) reply new at h = ordinary m c (blocker s m (statement_uses c)) reply new at refl h
  next m (Asks c) reply new at h = entangled m c (blocker s m (entangled_uses c)) reply new at refl h
  next m Commits reply new at h = commit m (is_ready (preparing s m) m.group) reply new at refl h
  next m RollsBack reply new at h = told reply _ new _ h.0 h.1 (rolls_back m at)

  unless : (m : Member) (yes_or_no : Bool) (reply : Reply F) (new : State) → active_member s tx ≡ Some m
      → (m.posted || is_lent s tx) ≡ yes_or_no → BeginsUnless yes_or_no s m reply new
      → BeginsByRow s tx reply new
  unless m true reply new is h step = told reply replies.NotNow new s step.0 step.1 (not_now (busy s tx m is h))
  unless m false reply new is h step =
      let free = neither m.posted (is_lent s tx) h in
      next m (next_of s m) reply new
      (record { is_member = is; not_posted = free.0; not_out = free.1; is_next = refl }) step

  nowhere : (was : Bool) (reply : Reply F) (new : State) → active_member s tx ≡ None → is_prepared s tx ≡ was
      → reply ≡ (if was then replies.NotNow else replies.Absent) → new ≡ s → BeginsByRow s tx reply new
  nowhere true reply new none is of_reply of_state =
      told reply replies.NotNow new s of_reply of_state (not_now (has_prepared none is))
  nowhere false reply new none is of_reply of_state =
      told reply replies.Absent new s of_reply of_state (absent (nobody s tx none is))

  member : (m : Option Member) (reply : Reply F) (new : State) → active_member s tx ≡ m
      → BeginsMember s tx m reply new → BeginsByRow s tx reply new
  member (Some m) reply new is step = unless m (m.posted || is_lent s tx) reply new is refl step
  member None reply new is step = nowhere (is_prepared s tx) reply new is refl step.0 step.1

  pub to_row : (reply : Reply F) (new : State) → Begins s tx reply new → BeginsByRow s tx reply new
  to_row reply new step = member (active_member s tx) reply new refl step

  -- ---- from a row to the definition

  of_none : (reply : Reply F) (new : State) → active_member s tx ≡ None → BeginsMember s tx None reply new
      → Begins s tx reply new
  of_none reply new is h = subst (λ (m : Option Member). BeginsMember s tx m reply new) (sym is) h

  of_member : (m : Member) (reply : Reply F) (new : State) → active_member s tx ≡ Some m
      → BeginsUnless (m.posted || is_lent s tx) s m reply new → Begins s tx reply new
  of_member m reply new is h = subst (λ (m : Option Member). BeginsMember s tx m reply new) (sym is) h

  of_busy : (reply : Reply F) (new : State) → IsBusy s tx → reply ≡ replies.NotNow → new ≡ s
      → Begins s tx reply new
  of_busy reply new (is_posted m is yes_it_is) of_reply of_state =
      of_member m reply new is
      (subst (λ b. BeginsUnless b s m reply new) (sym (or_first m.posted (is_lent s tx) yes_it_is))
      (of_reply, of_state))
  of_busy reply new (has_prepared is was) of_reply of_state =
      of_none reply new is
      (of_reply ∙ ap (λ b. if b then replies.NotNow else replies.Absent) (sym was), of_state)
  of_busy reply new (is_out m is out) of_reply of_state =
      of_member m reply new is
      (subst (λ b. BeginsUnless b s m reply new) (sym (or_second m.posted (is_lent s tx) out)) (of_reply, of_state))

  of_next : (m : Member) (is : Next) (reply : Reply F) (new : State) → IsBefore s tx m is
      → BeginsNext s m is reply new → Begins s tx reply new
  of_next m is reply new at h =
      of_member m reply new at.is_member
      (subst (λ b. BeginsUnless b s m reply new)
      (sym (or_from m.posted (is_lent s tx) at.not_posted at.not_out))
      (subst (λ (x : Next). BeginsNext s m x reply new) (sym at.is_next) h))

  of_ordinary : (m : Member) (c : Statement Value) (by : Option ℕ) (reply : Reply F) (new : State)
      → blocker s m (statement_uses c) ≡ by → IsBefore s tx m (Ordinary c) → BeginsOrdinary s m c by reply new
      → Begins s tx reply new
  of_ordinary m c by reply new is at h =
      of_next m (Ordinary c) reply new at
      (subst (λ (o : Option ℕ). BeginsOrdinary s m c o reply new) (sym is) h)

  of_entangled : (m : Member) (c : Entangled Value) (by : Option ℕ) (reply : Reply F) (new : State)
      → blocker s m (entangled_uses c) ≡ by → IsBefore s tx m (Asks c) → BeginsEntangled s m c by reply new
      → Begins s tx reply new
  of_entangled m c by reply new is at h =
      of_next m (Asks c) reply new at
      (subst (λ (o : Option ℕ). BeginsEntangled s m c o reply new) (sym is) h)

  of_commit : (m : Member) (all : Bool) (reply : Reply F) (new : State)
      → is_ready (preparing s m) m.group ≡ all → IsBefore s tx m Commits
      → BeginsCommit (preparing s m) m.group all reply new → Begins s tx reply new
  of_commit m all reply new is at h =
      of_next m Commits reply new at
      (subst (λ (b : Bool). BeginsCommit (preparing s m) m.group b reply new) (sym is) h)

  pub from_row : (reply : Reply F) (new : State) → BeginsByRow s tx reply new → Begins s tx reply new
  from_row reply new (absent none) =
      of_none _ _ (none_active s tx (active_member s tx) refl none)
      (ap (λ b. if b then replies.NotNow else replies.Absent) (sym (none_prepared s tx none)), refl)
  from_row reply new (not_now is) = of_busy _ _ is refl refl
  from_row reply new (blocked m c holder at by) =
      of_ordinary m c (Some holder) _ _
      (is_blocker s m (statement_uses c) (blocker s m (statement_uses c)) refl holder by) at (refl, refl)
  from_row reply new (lent m c at free) =
      of_ordinary m c None _ _
      (no_blocker s m (statement_uses c) (blocker s m (statement_uses c)) refl free) at (refl, refl)
  from_row reply new (asks_blocked m c holder at by) =
      of_entangled m c (Some holder) _ _
      (is_blocker s m (entangled_uses c) (blocker s m (entangled_uses c)) refl holder by) at (refl, refl)
  from_row reply new (held_back m c fault at free unsafe) =
      of_entangled m c None _ _
      (no_blocker s m (entangled_uses c) (blocker s m (entangled_uses c)) refl free) at
      (inr (fault, unsafe, (refl, refl)))
  from_row reply new (posted m c at free safe) =
      of_entangled m c None _ _
      (no_blocker s m (entangled_uses c) (blocker s m (entangled_uses c)) refl free) at
      (inl (safe, refl, refl))
  from_row reply new (committed m at others) = of_commit m true _ _ (ready s m others) at (refl, refl)
  from_row reply new (prepared m at other) = of_commit m false _ _ (not_ready s m other) at (refl, refl)
  from_row reply new (rolls_back m at) = of_next m RollsBack _ _ at (refl, refl)
