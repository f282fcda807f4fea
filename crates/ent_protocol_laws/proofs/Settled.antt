-- What events make of the settled tables.
use Rattle.std.proofs.Common.{◌≡◌, inl, inr, ℕ, Bool, true, false, cond, not, ◌==◌, ◌+◌, List, [], ◌∷◌, ◌++◌}
use Rattle.std.proofs.Common.{refl, sym, ap, subst, ◌∙◌, arith, slice_index_or}
use Rattle.std.proofs.lemmas.List.{set-get_or, set-set}
use Rattle.std.specs.List.{filter}
use Rattle.ent_lists.specs.Sets as set
use Rattle.ent_value.specs.declared.value.Value.{Value}
use Rattle.ent_tree.specs.declared.declaration.Opening.{Opening}
use Rattle.ent_semantics.specs.FormKinds.{changed_tables}
use Rattle.ent_semantics.specs.Form.{Tables}
use Rattle.ent_semantics.specs.declared.statement.Statement.{Statement}
use Rattle.ent_protocol.specs.Event.{Event, Reply}
use Rattle.ent_protocol.specs.Finish.{finished, noted, with_change}
use Rattle.ent_protocol.specs.Job.{Outcome, Shown, Changed, Bound, Choice, Fault}
use Rattle.ent_protocol.specs.Member.{is_of}
use Rattle.ent_protocol.specs.Play.{Plays}
use Rattle.ent_protocol.specs.Reached.{IsReached, settled}
use Rattle.ent_protocol.specs.Rollback.{group_members, is_among, put_back}
use Rattle.ent_protocol.specs.Run.{Forms}
use Rattle.ent_protocol.specs.State.{Change, State, Member, members}
use Rattle.ent_protocol.specs.Step.{Step}
use Rattle.ent_protocol_laws.specs.Numbered.{from_by_number, to_by_number}
use Rattle.ent_protocol_laws.specs.Standing.{GoesOn}
use Rattle.ent_protocol_laws.proofs.Left.{in_among}
use Rattle.ent_protocol_laws.proofs.Members.{among_in}
use Rattle.ent_protocol_laws.specs.Faithful.{AreFaithful, is_owned, is_used}
use Rattle.ent_protocol_laws.specs.Present.{AreApart}
use Rattle.ent_protocol_laws.proofs.Frame.{Laws, owned_used}
use Rattle.ent_protocol_laws.proofs.SerialKept.{Kept, OtherMember}
use Rattle.ent_protocol_laws.proofs.Present.{reached_apart}
use Rattle.ent_protocol_laws.proofs.Reached.{reached_kept}
use Rattle.ent_protocol_laws.proofs.Runs.{history_member, members_apart}
use Rattle.ent_protocol_laws.proofs.Sound.{IsOwner}
use Rattle.ent_lists.specs.Elements.{In, clash, in_contains, number_itself, of_all, of_filter, pairs_at, same_number}
use Rattle.ent_lists.specs.Elements.{to_filter}
use Rattle.ent_protocol_laws.specs.Commits.{commits_in, is_commit}
use Rattle.ent_protocol_laws.proofs.SerialCounted.{counted, reached_next}
use Rattle.ent_protocol_laws.proofs.PutBack.{put_back_parts}
use Rattle.ent_protocol_laws.proofs.Replied.{Quiet, commits_or_keeps}

-- ---- a change is made

noted_so : (tx : ℕ) (table : List ℕ) (removed added : List (List Value)) (tables : Tables) (changes : List Change)
    → put_back (noted tx table tables changes) (with_change table removed added tables) ≡ put_back changes tables
noted_so tx [] removed added tables changes = refl
noted_so tx (table ∷ more) removed added tables changes =
    ap (put_back changes) (set-set tables table _ (slice_index_or tables table set.empty)
    ∙ set-get_or tables table set.empty)

finishes : (s : State) (m : Member) (c : Statement Value) (outcome : Outcome)
    → settled (finished s m c outcome) ≡ settled s
finishes s m c (Changed count removed added) = noted_so m.tx (changed_tables c) removed added s.tables s.changes
finishes s m c (Bound value) = refl
finishes s m c (Shown rows) = refl
finishes s m c (Choice groundings) = refl
finishes s m c (Fault failure) = refl

-- ---- members are taken out

module _ {F : Type 0} (forms : Forms F) (laws : Laws) (s : State) (faithful : AreFaithful forms s.opening)
    (reached : IsReached forms s) where
  kept : Kept forms s
  kept = reached_kept forms laws s faithful reached

  -- who made a change is a member, and holds its table exclusively
  record Owner (change : Change) : Type 0 where
    pub member : Member
    pub at : In member (members s)
    pub tx : member.tx ≡ change.tx
    pub held : is_owned member.uses change.table ≡ true

  owner : (change : Change) → In change s.changes → Owner change
  owner change at =
      let o = of_all (IsOwner (kept.prepared ++ kept.others)) s.changes change kept.sound.owners at in
      record { member = o.by.member; at = history_member forms laws s kept o.by o.at; tx = o.tx; held = o.held }

  -- members of one number are one
  one_member : (one other : Member) → In one (members s) → In other (members s) → one.tx ≡ other.tx → one ≡ other
  one_member one other at bt same =
      elim (pairs_at OtherMember (λ x y differ e. differ (sym e)) (members s) one other
      (members_apart forms laws s kept) at bt) [
        | inl e ↦ e
        | inr differ ↦ absurd (differ same)
      ]

  module _ (group : ℕ) where
    abbrev gone : ℕ → Bool
    gone = is_among (group_members s group)

    of_group : (m : Member) → In m (members s) → gone m.tx ≡ true → m.group ≡ group
    of_group m at is =
        let r = among_in (group_members s group) m.tx is in
        let f = of_filter (is_of group) (members s) r.0
        (from_by_number (λ (x : Member). x.tx) (filter (is_of group) (members s)) r.0 r.1) in
        ap (λ (x : Member). x.group) (one_member m r.0 at f.0 (sym r.2)) ∙ same_number r.0.group group f.1

    in_group : (m : Member) → In m (members s) → m.group ≡ group → gone m.tx ≡ true
    in_group m at same =
        in_among (group_members s group) m
        (to_by_number (λ (x : Member). x.tx) (filter (is_of group) (members s)) m
        (to_filter (is_of group) (members s) m at (ap (λ n. n == group) same ∙ number_itself group)))

    -- the changes of a table are all of the group, or none is
    whole : (one other : Change) → In one s.changes → In other s.changes → one.table ≡ other.table
        → gone one.tx ≡ true → gone other.tx ≡ false → ⊥
    whole one other at bt same goes stays =
        let x = owner one at in
        let y = owner other bt in
        let ours = of_group x.member x.at (ap gone x.tx ∙ goes) in
        let apart : AreApart x.member y.member =
        (reached_apart forms laws s faithful reached).groups x.member y.member
        (in_contains (members s) x.member x.at) (in_contains (members s) y.member y.at)
        (λ e. clash (gone y.member.tx) (in_group y.member y.at (sym e ∙ ours)) (ap gone y.tx ∙ stays)) in
        clash (is_used y.member.uses one.table)
        (owned_used y.member.uses one.table
        (subst (λ table. is_owned y.member.uses table ≡ true) (sym same) y.held))
        ((apart one.table).0 x.held)

    group_settled : put_back (filter (λ change. not (gone change.tx)) s.changes)
        (put_back (filter (λ change. gone change.tx) s.changes) s.tables) ≡ settled s
    group_settled = put_back_parts s.changes gone whole s.tables

  everyone : (one other : Change) → In one s.changes → In other s.changes → one.table ≡ other.table
      → is_among (members s) one.tx ≡ true → is_among (members s) other.tx ≡ false → ⊥
  everyone one other at bt same goes stays =
      let y = owner other bt in
      clash (is_among (members s) other.tx)
      (ap (is_among (members s)) (sym y.tx) ∙ in_among (members s) y.member y.at) stays

  settled_kept : Quiet s (λ new. settled new ≡ settled s)
  settled_kept =
      record {
        same = refl;
        submits = λ script form. refl;
        lends = λ m c. refl;
        posts = λ m c. refl;
        prepares = λ m at. refl;
        rolls_back = λ group cause. group_settled group;
        fails = λ left group cause. group_settled group;
        finishes = λ left m c outcome. finishes (record s { lent = left }) m c outcome;
        picks = λ asked. refl;
        joins = λ left asked groundings. refl;
        tries = λ left asked. refl;
        ends = put_back_parts s.changes (is_among (members s)) everyone s.tables;
        recalls = refl;
      }

  pub stays_settled : (event : Event) (reply : Reply F) (new : State) → Step forms s event reply new
      → is_commit reply ≡ false → settled new ≡ settled s
  stays_settled event reply new step none =
      elim (commits_or_keeps forms s (λ after. settled after ≡ settled s) settled_kept refl event reply new step) [
        | inl c ↦ clash (is_commit reply) (ap is_commit c.replies) none
        | inr kept_so ↦ kept_so.1
      ]

-- ---- events, one after the other

none_first : (b : Bool) (more : ℕ) → cond b 1 0 + more ≡ 0 → (b ≡ false) × (more ≡ 0)
none_first true more is = absurd (omega (arith, is))
none_first false more is = (refl, omega (arith, is))

module _ {F : Type 0} (forms : Forms F) (laws : Laws)
    (goes_on : (s : State) (event : Event) (reply : Reply F) (new : State) → Step forms s event reply new
    → GoesOn s new) where
  pub all_stay_settled : (s last : State) (told : List (Event × Reply F)) → AreFaithful forms s.opening
      → IsReached forms s → Plays forms s told last → commits_in told ≡ 0 → settled last ≡ settled s
  all_stay_settled s last [] faithful reached played none = ap settled played
  all_stay_settled s last (one ∷ more) faithful reached played none =
      let next = played.0 in
      let same = (goes_on s one.0 one.1 next played.1).opening in
      let parts = none_first (is_commit one.1) (commits_in more)
      (sym (counted one more (is_commit one.1) refl) ∙ none) in
      all_stay_settled next last more
      (subst (λ (opening : Opening). AreFaithful forms opening) (sym same) faithful)
      (reached_next forms s one.0 one.1 next same reached played.1) played.2 parts.1
      ∙ stays_settled forms laws s faithful reached one.0 one.1 next played.1 parts.0
