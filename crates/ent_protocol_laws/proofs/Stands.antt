-- What stands next for a member, as a statement and its form; and how a member begins it.
use Rattle.std.proofs.Common.{◌≡◌, ◌<◌, ℕ, Bool, true, false, not, List, [], ◌∷◌, ◌++◌, map, length, refl}
use Rattle.std.proofs.Common.{sym, ap, subst, ◌∙◌, inl, inr, Some, None, Ok, slice_get, append_assoc}
use Rattle.std.specs.List.{AllByRecursion, filter}
use Rattle.ent_protocol_laws.proofs.Asked.{same_asks}
use Rattle.ent_value.specs.declared.value.Value.{Value}
use Rattle.ent_tree.specs.declared.script.Statement.{Statement as TreeStatement}
use Rattle.ent_semantics.specs.Serial.{numbered}
use Rattle.ent_semantics.specs.Closing.{closed}
use Rattle.ent_semantics.specs.declared.entangled.Entangled.{Entangled}
use Rattle.ent_semantics.specs.declared.operand.Known.{Known}
use Rattle.ent_semantics.specs.declared.statement.Statement.{Statement}
use Rattle.ent_semantics.specs.declared.statement.Statement.TheVariants as statements
use Rattle.ent_semantics.proofs.Numbered.{numbered_in}
use Rattle.ent_protocol.specs.Begin.{replaced, single_job, lending, posting}
use Rattle.ent_protocol.specs.Commit.{preparing}
use Rattle.ent_protocol.specs.Job.{Job, Work, One, Joint}
use Rattle.ent_protocol.specs.Member.{Ordinary, Asks, Commits, next_in, next_of, statement_next, environment_of}
use Rattle.ent_protocol.specs.Member.{is_single_of, is_lent, is_tx}
use Rattle.ent_protocol.specs.Run.{Forms}
use Rattle.ent_protocol.specs.PostedBy.{next_same}
use Rattle.ent_protocol.specs.State.{State, Member}
use Rattle.ent_protocol.specs.Uses.{statement_uses, entangled_uses, blocker}
use Rattle.ent_protocol_laws.specs.Faithful.{is_used, IsFaithful, AreFaithful}
use Rattle.ent_protocol_laws.specs.History.{History}
use Rattle.ent_protocol_laws.specs.SerialState.{Follows, IsWhole}
use Rattle.ent_lists.specs.Elements.{In, of_all, all_joined, all_filtered, of_filter, to_filter, in_either}
use Rattle.ent_lists.specs.Elements.{pairs_joined, any_none, clash, map_joined, map_filtered, same_filtered, Same}
use Rattle.ent_lists.specs.Elements.{pairs_filtered, in_first, in_second, other_number, differ, same_number}
use Rattle.ent_protocol_laws.proofs.Frame.{Laws}
use Rattle.ent_protocol_laws.proofs.Sound.{has_tx, first}
use Rattle.ent_protocol_laws.proofs.Outcomes.{seen_same, seen_room}
use Rattle.ent_protocol_laws.proofs.Operations.{HoldsUses}
use Rattle.ent_protocol_laws.proofs.Scripts.{next_ordinary, next_posting, next_committing, turn_at, turn_end}
use Rattle.ent_protocol_laws.proofs.Scripts.{take_whole}
use Rattle.ent_protocol_laws.proofs.Locks.{holds_asked}
use Rattle.ent_protocol_laws.proofs.Jobs.{JobRight, SingleRight, OtherJob, OtherWork, jobs_moved, stays_as_is}
use Rattle.ent_protocol_laws.proofs.Joints.{stand_moved, unchanged}
use Rattle.ent_protocol_laws.proofs.SerialKept.{Kept, one_history, in_all, OtherMember, PostedHolds, member_of, history_of}
use Rattle.ent_protocol_laws.proofs.SerialKept.{active_at}
use Rattle.ent_protocol_laws.proofs.Begun.{taking, jobs_begun, new_at, kept_begun}

-- a statement stands next: as it is written, as its form, and closed
pub record IsNext {F : Type 0} (forms : Forms F) (s : State) (x : History) (follows : Follows s.submitted x)
    (c : Statement Value) : Type 0 where
  pub statement : TreeStatement
  pub form : Statement Known
  pub at : slice_get follows.own.script.statements (length x.operations) ≡ Some statement
  pub faithful : IsFaithful s.opening.tables statement form
  pub closes : closed (environment_of x.member) form ≡ c

module _ {F : Type 0} (forms : Forms F) (s : State) (kept : Kept forms s) (faithful : AreFaithful forms s.opening)
    (x : History) (follows : Follows s.submitted x) where
  is_next : next_of s x.member ≡ next_in (Some follows.own) x.member
  is_next = ap (λ own. next_in own x.member) follows.submitted

  in_turn : (f : Statement Known) → slice_get follows.own.form (length x.operations) ≡ Some f
      → (st : TreeStatement) × (slice_get follows.own.script.statements (length x.operations) ≡ Some st)
      × IsFaithful s.opening.tables st f
  in_turn f e =
      turn_at (IsFaithful s.opening.tables) follows.own.script.statements follows.own.form (length x.operations) f
      (faithful.each follows.own.script follows.own.form
      (of_all (λ own. forms.resolve s.opening own.script ≡ Ok own.form) s.submitted follows.own kept.resolved
      (numbered_in s.submitted x.member.tx follows.own follows.submitted))) e

  pub ordinary_next : (c : Statement Value) → next_of s x.member ≡ Ordinary c
      → (n : IsNext forms s x follows c) × (statement_next (closed (environment_of x.member) n.form) ≡ Ordinary c)
  ordinary_next c e =
      let r = next_ordinary follows.own x.member (length x.operations) follows.place c (sym is_next ∙ e) in
      let t = in_turn r.0.statement r.0.at in (
        record { statement = t.0; form = r.0.statement; at = t.1; faithful = t.2; closes = r.0.closes },
        r.1,
      )

  pub posting_next : (asked : Entangled Value) → next_of s x.member ≡ Asks asked
      → IsNext forms s x follows (statements.Entangled asked)
  posting_next asked e =
      let r = next_posting follows.own x.member (length x.operations) follows.place asked (sym is_next ∙ e) in
      let t = in_turn r.statement r.at in
      record { statement = t.0; form = r.statement; at = t.1; faithful = t.2; closes = r.closes }

  pub whole_next : next_of s x.member ≡ Commits → IsWhole s.submitted x
  whole_next e =
      let r = next_committing follows.own x.member (length x.operations) follows.place (sym is_next ∙ e) in
      record {
        own = follows.own;
        submitted = follows.submitted;
        whole = follows.beginning
            ∙ take_whole follows.own.script.statements (length x.operations)
            (turn_end (IsFaithful s.opening.tables) follows.own.script.statements follows.own.form (length x.operations)
            (faithful.each follows.own.script follows.own.form
            (of_all (λ own. forms.resolve s.opening own.script ≡ Ok own.form) s.submitted follows.own kept.resolved
            (numbered_in s.submitted x.member.tx follows.own follows.submitted))) r.0);
        commits = r.1;
        oracled = follows.oracled;
      }

module _ {F : Type 0} (forms : Forms F) (laws : Laws) (s : State) (kept : Kept forms s)
    (faithful : AreFaithful forms s.opening) where
  pub follows_of : (x : History) → In x kept.others → Follows s.submitted x
  follows_of x at = of_all (Follows s.submitted) kept.others x kept.follow at

  -- a job's transaction isn't one of which no job is lent
  other_single : (tx : ℕ) (c : Statement Value) (attempt place : ℕ) (job : Job) → is_single_of tx job ≡ false
      → OtherWork job.work (One (record { tx = tx; attempt = attempt; place = place; statement = c }))
  other_single tx c attempt place job out = by job.work out
    where
      by : (w : Work) → is_single_of tx (record { work = w; tables = job.tables }) ≡ false
          → OtherWork w (One (record { tx = tx; attempt = attempt; place = place; statement = c }))
      by (One single) out = λ e. differ single.tx tx out e
      by (Joint asked) out = tt

  module _ (x : History) (at : In x kept.others) (unposted : x.member.posted ≡ false)
      (idle : is_lent s x.member.tx ≡ false) where
    lends_one : (c : Statement Value) → next_of s x.member ≡ Ordinary c
        → blocker s x.member (statement_uses c) ≡ None → Kept forms (lending s x.member c)
    lends_one c next free =
        let n = ordinary_next forms s kept faithful x (follows_of x at) c next in
        let low : (table : ℕ) → is_used (statement_uses c) table ≡ true → table < length s.opening.tables =
        λ table used. n.0.faithful.declared (environment_of x.member) table
        (subst (λ st. is_used (statement_uses st) table ≡ true) (sym n.0.closes) used) in
        let new = taking x.member (statement_uses c) x.member.posted in
        let right : SingleRight s.submitted (map (replaced new) s.active) s.tables _ _ =
        record {
          member = new;
          at = new_at forms laws s kept x at (statement_uses c) x.member.posted free low unposted idle;
          tx = refl;
          unposted = unposted;
          next = next_same (numbered s.submitted x.member.tx) new x.member refl refl ∙ next;
          holds = holds_asked x.member (statement_uses c);
          alike = seen_same s.opening.tables s.tables (statement_uses c);
          room = seen_room s.opening.tables s.tables (statement_uses c);
        } in
        kept_begun forms laws s kept x at (statement_uses c) x.member.posted free low unposted idle
        (λ is. clash x.member.posted is unposted) (s.lent ++ single_job s x.member c ∷ [])
        (all_joined (JobRight s.submitted (map (replaced new) s.active) s.tables) s.lent (single_job s x.member c ∷ [])
        (jobs_begun forms laws s kept x at (statement_uses c) x.member.posted free low unposted idle) (right, tt))
        (pairs_joined OtherJob s.lent (single_job s x.member c ∷ []) kept.jobs_apart (tt, tt)
        (λ job other jt ot.
        elim ot [
          | inl same ↦ subst (OtherJob job) (sym same) (other_single x.member.tx c x.member.attempt x.member.place job
              (any_none (is_single_of x.member.tx) s.lent idle job jt))
          | inr bad ↦ absurd bad
        ]))

    posts_one : (asked : Entangled Value) → next_of s x.member ≡ Asks asked
        → blocker s x.member (entangled_uses asked) ≡ None → Kept forms (posting s x.member asked)
    posts_one asked next free =
        let n = posting_next forms s kept faithful x (follows_of x at) asked next in
        let low : (table : ℕ) → is_used (entangled_uses asked) table ≡ true → table < length s.opening.tables =
        λ table used. n.faithful.declared (environment_of x.member) table
        (subst (λ st. is_used (statement_uses st) table ≡ true) (sym n.closes) used) in
        let new = taking x.member (entangled_uses asked) true in
        kept_begun forms laws s kept x at (entangled_uses asked) true free low unposted idle
        (λ is other e.
        let same = same_asks asked other
        (sym next ∙ sym (next_same (numbered s.submitted x.member.tx) new x.member refl refl) ∙ e) in
        subst (λ a. HoldsUses new (entangled_uses a)) same (holds_asked x.member (entangled_uses asked))) s.lent
        (jobs_begun forms laws s kept x at (entangled_uses asked) true free low unposted idle) kept.jobs_apart

    on : s.running ≡ false → ⊥
    on off = subst (In x.member) (kept.idle off).1 (active_at forms s kept x at)

    abbrev left : Member → Bool
    left other = not (is_tx x.member.tx other)

    abbrev now : List History
    now = (kept.prepared ++ x ∷ []) ++ filter (λ y. not (has_tx x.member.tx y)) kept.others

    from_now : (y : History) → In y now → In y (kept.prepared ++ kept.others)
    from_now y yt =
        elim (in_either (kept.prepared ++ x ∷ []) (filter (λ y. not (has_tx x.member.tx y)) kept.others) y yt) [
          | inl a ↦ elim (in_either kept.prepared (x ∷ []) y a) [
            | inl b ↦ in_first kept.prepared kept.others y b
            | inr b ↦ elim b [
              | inl same ↦ in_second kept.prepared kept.others y (subst (λ z. In z kept.others) (sym same) at)
              | inr bad ↦ absurd bad
            ]
          ]
          | inr b ↦ in_second kept.prepared kept.others y
              (of_filter (λ y. not (has_tx x.member.tx y)) kept.others y b).0
        ]

    to_now : (y : History) → In y (kept.prepared ++ kept.others) → In y now
    to_now y yt =
        elim (in_either kept.prepared kept.others y yt) [
          | inl a ↦ in_first (kept.prepared ++ x ∷ []) (filter (λ y. not (has_tx x.member.tx y)) kept.others) y
              (in_first kept.prepared (x ∷ []) y a)
          | inr b ↦ by (has_tx x.member.tx y) refl b
        ]
      where
        by : (c : Bool) → has_tx x.member.tx y ≡ c → In y kept.others → In y now
        by true is b =
            in_first (kept.prepared ++ x ∷ []) (filter (λ y. not (has_tx x.member.tx y)) kept.others) y
            (in_second kept.prepared (x ∷ []) y
            (inl (one_history (kept.prepared ++ kept.others) y x kept.sound.fit (in_all forms s kept y b)
            (in_all forms s kept x at) (same_number y.member.tx x.member.tx is))))
        by false is b =
            in_second (kept.prepared ++ x ∷ []) (filter (λ y. not (has_tx x.member.tx y)) kept.others) y
            (to_filter (λ y. not (has_tx x.member.tx y)) kept.others y b (ap not is))

    prepares_one : next_of s x.member ≡ Commits → Kept forms (preparing s x.member)
    prepares_one next =
        record {
          committed = kept.committed;
          prepared = kept.prepared ++ x ∷ [];
          others = filter (λ y. not (has_tx x.member.tx y)) kept.others;
          base = kept.base;
          journal = kept.journal;
          of_prepared = map_joined member_of kept.prepared (x ∷ [])
              ∙ ap (λ ms. ms ++ x.member ∷ []) kept.of_prepared;
          same = subst (λ ms. Same ms (filter left s.active)) (sym (map_filtered member_of left kept.others))
              (same_filtered left (map member_of kept.others) s.active kept.same);
          settles = kept.settles;
          sound = first s.opening.tables laws kept.base kept.prepared kept.others s.tables s.changes kept.sound x at;
          whole = subst (AllByRecursion (IsWhole s.submitted)) (append_assoc kept.committed kept.prepared (x ∷ []))
              (all_joined (IsWhole s.submitted) (kept.committed ++ kept.prepared) (x ∷ []) kept.whole
              (whole_next forms s kept faithful x (follows_of x at) next, tt));
          follow = all_filtered (Follows s.submitted) (λ y. not (has_tx x.member.tx y)) kept.others kept.follow;
          resolved = kept.resolved;
          faithful = kept.faithful;
          posted = all_filtered (PostedHolds s.submitted) left s.active kept.posted;
          jobs = jobs_moved s.submitted s.active (filter left s.active) s.tables s.tables s.lent s.lent (λ job jt. jt)
              (λ other ot. (
                other,
                (of_filter left s.active other ot).0,
                inl (stays_as_is s.tables s.tables other (λ table used. refl)),
              ))
              (λ one ot is has. (
                one,
                to_filter left s.active one ot (ap not (other_number one.tx x.member.tx (λ e.
                    clash (is_single_of x.member.tx has.0) (ap (λ n. is_single_of n has.0) (sym e) ∙ has.2)
                    (any_none (is_single_of x.member.tx) s.lent idle has.0 has.1)))),
                stays_as_is s.tables s.tables one (λ table used. refl),
                is,
              )) kept.jobs;
          jobs_apart = kept.jobs_apart;
          idle = λ off. absurd (on off);
          active_apart = pairs_filtered OtherMember left s.active kept.active_apart;
          dormant = kept.dormant;
          not_prepared = λ d m dt mt e. elim (in_either s.prepared (x.member ∷ []) m mt) [
            | inl a ↦ kept.not_prepared d m dt a e
            | inr b ↦ elim b [
              | inl same ↦
                  kept.not_active d x.member dt (active_at forms s kept x at) (ap (λ (y : Member). y.tx) (sym same) ∙ e)
              | inr bad ↦ absurd bad
            ]
          ];
          not_active = λ d m dt mt e. kept.not_active d m dt (of_filter left s.active m mt).0 e;
          scripts = kept.scripts;
          joined = stand_moved kept.committed (kept.prepared ++ kept.others) now s.joints
              (λ y yt. unchanged y (from_now y yt)) (λ y yt. (y, to_now y yt, refl)) kept.joined;
          committed_fated = kept.committed_fated;
          fated = kept.fated;
          fated_not_prepared = λ d m dt mt e. elim (in_either s.prepared (x.member ∷ []) m mt) [
            | inl a ↦ kept.fated_not_prepared d m dt a e
            | inr b ↦ elim b [
              | inl same ↦
                  kept.fated_not_active d x.member dt (active_at forms s kept x at)
                  (ap (λ (y : Member). y.tx) (sym same) ∙ e)
              | inr bad ↦ absurd bad
            ]
          ];
          fated_not_active = λ d m dt mt e. kept.fated_not_active d m dt (of_filter left s.active m mt).0 e;
          fated_not_dormant = kept.fated_not_dormant;
          fated_scripts = kept.fated_scripts;
        }

  -- the same of a member that is found
  module _ (m : Member) (at : In m s.active) (unposted : m.posted ≡ false) (idle : is_lent s m.tx ≡ false) where
    pub lends : (c : Statement Value) → next_of s m ≡ Ordinary c → blocker s m (statement_uses c) ≡ None
        → Kept forms (lending s m c)
    lends c next free =
        let x = history_of forms s kept m at in
        subst (λ y. y.posted ≡ false → is_lent s y.tx ≡ false → next_of s y ≡ Ordinary c
        → blocker s y (statement_uses c) ≡ None → Kept forms (lending s y c)) (sym x.2)
        (λ a b d e. lends_one x.0 x.1 a b c d e) unposted idle next free

    pub posts : (asked : Entangled Value) → next_of s m ≡ Asks asked → blocker s m (entangled_uses asked) ≡ None
        → Kept forms (posting s m asked)
    posts asked next free =
        let x = history_of forms s kept m at in
        subst (λ y. y.posted ≡ false → is_lent s y.tx ≡ false → next_of s y ≡ Asks asked
        → blocker s y (entangled_uses asked) ≡ None → Kept forms (posting s y asked)) (sym x.2)
        (λ a b d e. posts_one x.0 x.1 a b asked d e) unposted idle next free

    pub prepares : next_of s m ≡ Commits → Kept forms (preparing s m)
    prepares next =
        let x = history_of forms s kept m at in
        subst (λ y. y.posted ≡ false → is_lent s y.tx ≡ false → next_of s y ≡ Commits → Kept forms (preparing s y))
        (sym x.2) (λ a b d. prepares_one x.0 x.1 a b d) unposted idle next
