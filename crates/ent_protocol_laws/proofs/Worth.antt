-- Each act of a state that is reached uses up what it is worth.
use Rattle.std.proofs.Common.{◌≡◌, ◌≤◌, ◌+◌, ◌*◌, inl, inr, ℕ, suc, pred, true, false, cond, not, ◌==◌}
use Rattle.std.proofs.Common.{List, [], ◌∷◌, ◌++◌, length, refl, sym, ap, subst, ◌∙◌, arith, Contains, mul-zero}
use Rattle.std.proofs.Common.{sum_by}
use Rattle.std.proofs.lemmas.List.{length-append, length-map}
use Rattle.std.specs.Prelude.{◌↔◌}
use Rattle.ent_protocol_laws.specs.Numbered.{one_of, below_apart}
use Rattle.ent_protocol_laws.proofs.Acts.{IsIdle, ComesBack}
use Rattle.ent_protocol_laws.proofs.Found.{taken_there}
use Rattle.ent_value.specs.declared.value.Value.{Value}
use Rattle.ent_semantics.specs.Entangled.{Valuation}
use Rattle.ent_semantics.specs.Serial.{numbered}
use Rattle.ent_semantics.specs.Form.{Tables}
use Rattle.ent_semantics.specs.declared.entangled.Entangled.{Entangled}
use Rattle.ent_semantics.specs.declared.statement.Statement.{Statement}
use Rattle.ent_semantics.specs.Component.{IsComponent}
use Rattle.ent_semantics.specs.Pool.{Posted}
use Rattle.ent_protocol.specs.Begin.{holding, lending, posting, replaced, with_member}
use Rattle.ent_protocol.specs.Job.{Job}
use Rattle.ent_protocol.specs.Member.{Asks, next_of}
use Rattle.ent_protocol.specs.PoolEvents.{answered_among, answered_groups, in_joined_group, joining}
use Rattle.ent_protocol.specs.Rollback.{is_among}
use Rattle.ent_protocol.specs.PostedBy.{in_pool}
use Rattle.ent_protocol.specs.State.{State, Member, Change, members}
use Rattle.ent_protocol.specs.Uses.{entangled_uses, statement_uses}
use Rattle.ent_protocol_laws.specs.Within.{IsWithin, begun, statements_behind, unbegun, unbegun_of}
use Rattle.ent_protocol_laws.proofs.Answering.{is_asked, left_asked, left_components}
use Rattle.ent_protocol_laws.proofs.PostedQueries.{asked_there, one_component, present_in_other, some_asked}
use Rattle.ent_protocol_laws.proofs.Changes.{Act, Submits, Starts, Lends, Posts, Prepares, Steps, Fails, Picks, Answers}
use Rattle.ent_protocol_laws.proofs.Changes.{Tries, Ends, Recalls, JointBack, after, opens, worth}
use Rattle.ent_protocol_laws.proofs.Changes as acts
use Rattle.ent_protocol_laws.proofs.Counts.{answered_begun, begun_unposted, behind_placed, committed_begun}
use Rattle.ent_protocol_laws.proofs.Counts.{committed_counted}
use Rattle.ent_protocol_laws.proofs.Counts.{gone_begun, group_leaves, one_begins, prepared_begun, prepared_counted}
use Rattle.ent_protocol_laws.proofs.LentJobs.{IsPlaced, placed_next}
use Rattle.ent_lists.specs.Elements.{In, any_in, clash, contains_in, in_contains, number_itself, filter_empty}
use Rattle.ent_lists.specs.Elements.{in_first, in_second, turned}
use Rattle.ent_protocol_laws.proofs.Lists.{sum_mapped}
use Rattle.ent_protocol_laws.proofs.Posting.{prepared_asks, same_asked, same_members}
use Rattle.ent_protocol_laws.proofs.ReachedStates.{IsKnown, member_tx}
use Rattle.ent_protocol_laws.proofs.UsedUp.{IsUsed, kept, leaving, posted, settled}

itself : (n : ℕ) → n ≤ n
itself n = omega arith

nothing : (n : ℕ) → n + 0 ≤ n
nothing n = omega arith

-- as many members
as_many : (s new : State) → length new.prepared ≡ length s.prepared → length new.active ≡ length s.active
    → length (members new) ≤ length (members s)
as_many s new prepared active =
    from _ _ _ _ _ _ (length-append new.prepared new.active) (length-append s.prepared s.active) prepared active
  where
    from : (a b c d n m : ℕ) → n ≡ a + b → m ≡ c + d → a ≡ c → b ≡ d → n ≤ m
    from a b c d n m e f g h = omega (arith, e, f, g, h)

-- ---- a statement begins

lends : (most left : ℕ) (s : State) (m : Member) (statement : Statement Value) → IsIdle s m → IsKnown s
    → IsWithin most left s → IsUsed 0 most left (lending s m statement)
lends most left s m statement idle known w =
    kept 0 most left s (lending s m statement)
    (same_asked s (lending s m statement) m (holding m (statement_uses statement)) refl refl known.active idle.at refl
    idle.unposted idle.unposted) refl
    (as_many s (lending s m statement) refl (length-map s.active (replaced (holding m (statement_uses statement)))))
    (one_begins s.submitted m (holding m (statement_uses statement)) s.active known.active idle.at refl 0
    (nothing (unbegun_of s.submitted m))) w

posts : (most left : ℕ) (s : State) (m : Member) (statement : Entangled Value) → IsIdle s m
    → next_of s m ≡ Asks statement → IsKnown s → IsKnown (posting s m statement) → IsWithin most left s
    → IsUsed 1 most left (posting s m statement)
posts most left s m statement idle next known then w =
    posted most left s m statement known.active idle.at idle.unposted then.asked
    (as_many s (posting s m statement) refl
    (length-map s.active (replaced (record (holding m (entangled_uses statement)) { posted = true }))))
    (one_begins s.submitted m (record (holding m (entangled_uses statement)) { posted = true }) s.active known.active
    idle.at refl 1
    (subst (λ n. statements_behind m.place (numbered s.submitted m.tx) + 1
    ≤ statements_behind n (numbered s.submitted m.tx)) (sym (begun_unposted m idle.unposted))
    (behind_placed (numbered s.submitted m.tx) m.place (placed_next s m (Asks statement) next tt)))) w

-- ---- a statement is done

-- the member of a job that came back stands before its statement
record StandsThere (s : State) (m : Member) : Type 0 where
  unposted : m.posted ≡ false
  placed : IsPlaced (numbered s.submitted m.tx) m.place

stands_there : (s : State) (m : Member) (left : List Job) → ComesBack s m left → IsKnown s → StandsThere s m
stands_there s m left back known =
    let lent = taken_there back.job s.lent left back.taken in
    let b = known.once.before back.job back.single (in_contains s.lent back.job lent) back.is_single in
    let same : b.member ≡ m =
    one_of member_tx s.active b.member m (below_apart member_tx s.active known.active)
    (contains_in s.active b.member b.active) back.at
    (b.tx ∙ sym back.own) in
    let at = known.lent.placed back.job back.single lent back.is_single in
    record {
      unposted = subst (λ (x : Member). x.posted ≡ false) same b.unposted;
      placed = subst (λ n. IsPlaced (numbered s.submitted m.tx) n)
          (sym b.place ∙ ap (λ (x : Member). x.place) same)
          (subst (λ tx. IsPlaced (numbered s.submitted tx) back.single.place) (sym back.own) at);
    }

steps : (most left : ℕ) (s : State) (m own : Member) (jobs : List Job) (tables : Tables) (changes : List Change)
    → ComesBack s m jobs → own.tx ≡ m.tx → own.place ≡ suc m.place → own.posted ≡ false → IsKnown s
    → IsWithin most left s
    → IsUsed 1 most left (record (with_member own s) { lent = jobs; tables = tables; changes = changes })
steps most left s m own jobs tables changes back tx place unposted known w =
    let there = stands_there s m jobs back known in
    kept 1 most left s new
    (same_asked s new m own refl refl known.active back.at tx there.unposted unposted) refl
    (as_many s new refl (length-map s.active (replaced own)))
    (one_begins s.submitted m own s.active known.active back.at tx 1 (fewer there)) w
  where
    new : State
    new = record (with_member own s) { lent = jobs; tables = tables; changes = changes }

    begun_own : begun own ≡ m.place
    begun_own = begun_unposted own unposted ∙ ap pred place

    fewer : StandsThere s m → unbegun_of s.submitted own + 1 ≤ unbegun_of s.submitted m
    fewer there =
        subst (λ n. n + 1 ≤ unbegun_of s.submitted m)
        (sym (λ i. statements_behind (begun_own i) (numbered s.submitted (tx i))))
        (subst (λ n. statements_behind m.place (numbered s.submitted m.tx) + 1
        ≤ statements_behind n (numbered s.submitted m.tx)) (sym (begun_unposted m there.unposted))
        (behind_placed (numbered s.submitted m.tx) m.place there.placed))

-- ---- joint jobs

untried : (s : State) (asked : List Posted) (left : List Job) → JointBack s asked left → IsKnown s
    → Contains s.tried asked → ⊥
untried s asked left back known there =
    known.lent.untried back.job asked (taken_there back.job s.lent left back.taken) back.is_joint there

answers : (most left : ℕ) (s : State) (asked : List Posted) (groundings : List Valuation) (jobs : List Job)
    → JointBack s asked jobs → length groundings ≡ length asked → IsKnown s → IsWithin most left s
    → IsUsed 1 most left (joining (record s { lent = jobs }) asked groundings)
answers most left s asked groundings jobs back enough known w =
    settled most left s new asked back.component (untried s asked jobs back known) (λ a at others there fresh. (
      left_components s jobs asked groundings enough known.asked back.component others there,
      fresh,
      λ b bt same.
          clash (is_asked asked b.tx)
          (any_in (λ (x : Posted). b.tx == x.tx) asked a at (ap (λ n. b.tx == n) (sym same) ∙ number_itself b.tx))
          (turned (is_asked asked b.tx)
          ((left_asked s jobs asked groundings enough).down b (asked_there new others there b bt)).1),
    ))
    (as_many s new (length-map s.prepared (in_joined_group groups))
    (length-map s.active (λ m. in_joined_group groups (answered_among asked groundings m))))
    (sum_mapped (unbegun_of s.submitted) (λ m. in_joined_group groups (answered_among asked groundings m)) s.active
    (λ m at. answered_begun s.submitted groups asked groundings m)) w
  where
    groups : List ℕ
    groups = answered_groups (record s { lent = jobs }) asked

    new : State
    new = joining (record s { lent = jobs }) asked groundings

module _ (classes : (pool members others : List Posted) (shared member : Posted) → IsComponent pool members
    → IsComponent pool others → Contains members shared → Contains others shared
    → Contains members member ↔ Contains others member) where
  tries : (most left : ℕ) (s : State) (asked : List Posted) (jobs : List Job) → JointBack s asked jobs → IsKnown s
      → IsWithin most left s → IsUsed 1 most left (record s { lent = jobs; tried = asked ∷ s.tried })
  tries most left s asked jobs back known w =
      settled most left s new asked back.component (untried s asked jobs back known) (λ a at others there fresh.
      let old = present_in_other new s (same_members s new refl refl) others there in (
        old,
        λ tried. fresh (in_contains (asked ∷ s.tried) others (inr (contains_in s.tried others tried))),
        λ b bt same.
            fresh (in_contains (asked ∷ s.tried) others
            (inl (sym (one_component classes s known.asked asked others back.component old a b at bt (sym same))))),
      )) (itself (length (members s))) (itself (unbegun s)) w
    where
      new : State
      new = record s { lent = jobs; tried = asked ∷ s.tried }

  -- ---- a run ends

  -- nobody is left
  ends : (most left : ℕ) (s new : State) → new.prepared ≡ [] → new.active ≡ [] → IsWithin most left s
      → IsUsed 0 most left new
  ends most left s new prepared active w =
      record {
        less = left;
        below = nothing left;
        within = record {
          few = subst (λ n. n ≤ most) (sym none) (omega arith);
          transactions = [];
          hit = λ asked component fresh.
              let a = some_asked new asked component in
              let r = in_pool new a.0 (asked_there new asked component a.0 a.1) in
              absurd (subst (In r.member) active r.at);
          within = low (unbegun new) (length (members new)) begun_all none;
        };
      }
    where
      none : length (members new) ≡ 0
      none = λ i. length (prepared i ++ active i)

      begun_all : unbegun new ≡ 0
      begun_all = ap (sum_by (unbegun_of new.submitted)) active

      low : (u n : ℕ) → u ≡ 0 → n ≡ 0 → 2 * u + 0 + most * n ≤ left
      low u n e f =
          let z = mul-zero most in
          subst (λ k. 2 * u + 0 + most * k ≤ left) (sym f) (from (most * 0) z)
        where
          from : (z : ℕ) → z ≡ 0 → 2 * u + 0 + z ≤ left
          from z g = omega (arith, e, g)

  none_left : (s : State) (ms : List Member) → ((m : Member) → In m ms → In m (members s))
      → (m : Member) → In m ms → not (is_among (members s) m.tx) ≡ false
  none_left s ms from m at =
      ap not (any_in (λ (x : Member). x.tx == m.tx) (members s) m (from m at) (number_itself m.tx))

  pub used : (s : State) (act : Act s) (most left : ℕ) → IsKnown s → IsKnown (after s act) → opens s act ≡ false
      → IsWithin most left s → IsUsed (cond (worth s act) 1 0) most left (after s act)
  used s acts.Stays most left known then new w = record { less = left; below = nothing left; within = w }
  used s (Submits script form) most left known then new w = clash true refl new
  used s Starts most left known then new w = clash true refl new
  used s (Lends m statement idle next) most left known then new w = lends most left s m statement idle known w
  used s (Posts m statement idle next) most left known then new w =
      posts most left s m statement idle next known then w
  used s (Prepares m idle next) most left known then new w =
      kept 1 most left s _ (prepared_asks s m known.active idle.at idle.unposted) refl (prepared_counted s m idle.at)
      (prepared_begun s m idle.at next) w
  used s (acts.Commits m idle) most left known then new w =
      leaving most left s _ (committed_counted s m idle.at) (committed_begun s m) w
  used s (acts.RollsBack m cause at) most left known then new w =
      leaving most left s _ (group_leaves s m cause at) (gone_begun s m cause) w
  used s (Steps m own jobs tables changes back tx place unposted) most left known then new w =
      steps most left s m own jobs tables changes back tx place unposted known w
  used s (Fails m cause jobs back) most left known then new w =
      leaving most left s _ (group_leaves (record s { lent = jobs }) m cause back.at)
      (gone_begun (record s { lent = jobs }) m cause) w
  used s (Picks asked can) most left known then new w =
      kept 0 most left s _ (same_members s _ refl refl) refl (itself (length (members s))) (nothing (unbegun s)) w
  used s (Answers asked groundings jobs back enough) most left known then new w =
      answers most left s asked groundings jobs back enough known w
  used s (Tries asked jobs back) most left known then new w = tries most left s asked jobs back known w
  used s Ends most left known then new w =
      ends most left s _
      (filter_empty _ s.prepared (none_left s s.prepared (λ m at. in_first s.prepared s.active m at)))
      (filter_empty _ s.active (none_left s s.active (λ m at. in_second s.prepared s.active m at))) w
  used s Recalls most left known then new w =
      kept 0 most left s _ (same_members s _ refl refl) refl (itself (length (members s))) (nothing (unbegun s)) w
