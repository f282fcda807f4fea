-- A transaction whose begin is refused since it is absent is dormant, has a fate, or stands nowhere.
use Rattle.std.proofs.Common.{◌≡◌, inl, inr, ℕ, Bool, true, false, cond, ◌||◌, ◌==◌, List, [], ◌∷◌, ◌++◌, map, refl}
use Rattle.std.proofs.Common.{sym, subst, Option, Some, None}
use Rattle.std.specs.List.{filter}
use Rattle.ent_value.specs.declared.value.Value.{Value}
use Rattle.ent_semantics.specs.declared.entangled.Entangled.{Entangled}
use Rattle.ent_semantics.specs.declared.statement.Statement.{Statement}
use Rattle.ent_core.specs.Standing.{standing_seen}
use Rattle.ent_core.specs.declared.standing.Standing.{Standing as Told}
use Rattle.ent_core.specs.declared.standing.Standing.TheVariants as told
use Rattle.ent_core.proofs.Whereabouts.{nobody, none_of}
use Rattle.ent_form.specs.declared.fault.FormFault.{FormFault}
use Rattle.ent_protocol.specs.Begin.{Begins, BeginsCommit, BeginsEntangled, BeginsMember, BeginsNext, BeginsOrdinary}
use Rattle.ent_protocol.specs.Begin.{BeginsUnless, Posts}
use Rattle.ent_protocol.specs.Commit.{is_ready, preparing}
use Rattle.ent_protocol.specs.Event.{Reply}
use Rattle.ent_protocol.specs.Event as replies
use Rattle.ent_protocol.specs.Lookup.{Standing, active_standing, standing}
use Rattle.ent_protocol.specs.Lookup as lookups
use Rattle.ent_protocol.specs.Member.{Next, Ordinary, Asks, Commits, RollsBack, active_member, is_lent, is_prepared}
use Rattle.ent_protocol.specs.Member.{is_tx, next_of}
use Rattle.ent_protocol.specs.State.{State, Dormant, Member, first_of}
use Rattle.ent_protocol.specs.Uses.{blocker, entangled_uses, statement_uses}
use Rattle.ent_semantics.specs.declared.book.Fate.{Fate}
use Rattle.ent_semantics.specs.declared.book.Fated.{Fated}

-- ---- who is absent is no member

abbrev Refused : Reply FormFault
Refused = replies.Absent

unprepared : (b : Bool) → Refused ≡ cond b replies.NotNow replies.Absent → b ≡ false
unprepared true e = absurd cc
unprepared false e = refl

module _ (s : State) (member : Member) where
  ordinary : (statement : Statement Value) (holder : Option ℕ)
      → BeginsOrdinary {F = FormFault} s member statement holder Refused s → ⊥
  ordinary statement (Some holder) h = let e = h.0 in absurd cc
  ordinary statement None h = let e = h.0 in absurd cc

  posts : (statement : Entangled Value) → Posts {F = FormFault} s member statement Refused s → ⊥
  posts statement (inl h) = let e = h.1 in absurd cc
  posts statement (inr h) = let e = h.2.0 in absurd cc

  entangled : (statement : Entangled Value) (holder : Option ℕ)
      → BeginsEntangled {F = FormFault} s member statement holder Refused s → ⊥
  entangled statement (Some holder) h = let e = h.0 in absurd cc
  entangled statement None h = posts statement h

  commits : (prepared : State) (group : ℕ) (ready : Bool)
      → BeginsCommit {F = FormFault} prepared group ready Refused s → ⊥
  commits prepared group true h = let e = h.0 in absurd cc
  commits prepared group false h = let e = h.0 in absurd cc

  next_begins : (next : Next) → BeginsNext {F = FormFault} s member next Refused s → ⊥
  next_begins (Ordinary statement) h = ordinary statement (blocker s member (statement_uses statement)) h
  next_begins (Asks statement) h = entangled statement (blocker s member (entangled_uses statement)) h
  next_begins Commits h = commits (preparing s member) member.group (is_ready (preparing s member) member.group) h
  next_begins RollsBack h = let e = h.0 in absurd cc

  is_answered : (busy : Bool) → BeginsUnless {F = FormFault} busy s member Refused s → ⊥
  is_answered true h = let e = h.0 in absurd cc
  is_answered false h = next_begins (next_of s member) h

absent_member : (s : State) (tx : ℕ) (member : Option Member) → BeginsMember {F = FormFault} s tx member Refused s
    → (member ≡ None) × (is_prepared s tx ≡ false)
absent_member s tx None h = (refl, unprepared (is_prepared s tx) h.0)
absent_member s tx (Some member) h = absurd (is_answered s member (member.posted || is_lent s tx) h)

-- ---- who is no member stands outside the run

-- dormant, with a fate, or nowhere
abbrev pub IsOutside : Option Standing → Type 0
IsOutside (Some (lookups.Ready turn)) = ⊥
IsOutside (Some lookups.Out) = ⊥
IsOutside (Some lookups.Posted) = ⊥
IsOutside (Some lookups.Prepared) = ⊥
IsOutside other = Unit {0}

abbrev by_fate : Fated → Standing
by_fate fated = lookups.Finished fated.fate

abbrev by_runs : Dormant → Standing
by_runs dormant = lookups.Dormant dormant.runs

abbrev as_prepared : Member → Standing
as_prepared member = lookups.Prepared

module _ (s : State) where
  abbrev among : List Fated → List Dormant → List Member → List Member → Option Standing
  among fated waiting prepared active =
      first_of (map by_fate fated ++ map by_runs waiting ++ map as_prepared prepared ++ map (active_standing s) active)

  outside : (fated : List Fated) (waiting : List Dormant) → IsOutside (among fated waiting [] [])
  outside (one ∷ more) waiting = tt
  outside [] (one ∷ more) = tt
  outside [] [] = tt

pub stands_outside : (s : State) (tx : ℕ) → Begins {F = FormFault} s tx Refused s → IsOutside (standing s tx)
stands_outside s tx h =
    let absent = absent_member s tx (active_member s tx) h in
    let fated = filter (λ (one : Fated). one.tx == tx) s.fates in
    let waiting = filter (λ (one : Dormant). one.tx == tx) s.dormant in
    let none_prepared = none_of (is_tx tx) s.prepared absent.1 in
    let none_active = nobody (filter (is_tx tx) s.active) (sym absent.0) in
    subst (λ (active : List Member). IsOutside (among s fated waiting (filter (is_tx tx) s.prepared) active))
    (sym none_active)
    (subst (λ (prepared : List Member). IsOutside (among s fated waiting prepared [])) (sym none_prepared)
    (outside s fated waiting))

-- ---- as it is told

pub told_inside : (stands : Told) → ((runs : ℕ) → stands ≡ told.Dormant runs → ⊥)
    → ((fate : Fate) → stands ≡ told.Finished fate → ⊥) → IsOutside (Some (standing_seen stands)) → ⊥
told_inside (told.Dormant runs) not_dormant not_finished h = not_dormant runs refl
told_inside (told.Ready turn) not_dormant not_finished h = h
told_inside told.Out not_dormant not_finished h = h
told_inside told.Posted not_dormant not_finished h = h
told_inside told.Prepared not_dormant not_finished h = h
told_inside (told.Finished fate) not_dormant not_finished h = not_finished fate refl
