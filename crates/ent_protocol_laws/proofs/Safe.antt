-- The pool stays safe.
use Rattle.std.proofs.Common.{◌≡◌, ◌⊎◌, ℕ, Bool, true, false, cond, ◌==◌, List, [], ◌∷◌, ◌++◌, map, take}
use Rattle.std.proofs.Common.{refl, sym, ap, subst, ◌∙◌, inl, inr, Option, Some, None, Contains}
use Rattle.std.specs.List.{filter}
use Rattle.ent_value.specs.declared.value.Value.{Value}
use Rattle.ent_tree.specs.declared.declaration.Opening.{Opening}
use Rattle.ent_tree.specs.declared.script.Script.{Script}
use Rattle.ent_group.specs.declared.members.TheConstants.{MOST_MEMBERS}
use Rattle.ent_semantics.specs.Entangled.{Valuation}
use Rattle.ent_semantics.specs.Serial.{numbered}
use Rattle.ent_semantics.specs.declared.entangled.Entangled.{Entangled}
use Rattle.ent_semantics.specs.declared.operand.Known.{Known}
use Rattle.ent_semantics.specs.declared.statement.Statement.{Statement}
use Rattle.ent_semantics.specs.Pool.{CanMeet, IsSafe, Posted}
use Rattle.ent_protocol.specs.Begin.{holding, pool_with, posting, replaced}
use Rattle.ent_protocol.specs.Finish.{finished}
use Rattle.ent_protocol.specs.Job.{Job, Outcome, Shown, Changed, Bound, Choice, Fault}
use Rattle.ent_protocol.specs.Member.{Asks, RollsBack, pool, posted_as}
use Rattle.ent_protocol.specs.Member.{next_in, next_of}
use Rattle.ent_protocol.specs.PoolEvents.{answered_among, answered_by, answered_groups, in_joined_group, joining}
use Rattle.ent_protocol.specs.Reached.{IsReached, opened}
use Rattle.ent_protocol.specs.Run.{Forms, fresh, starting, submitting}
use Rattle.ent_protocol.specs.PostedBy.{IsPosted, IsPostedBy, in_pool, to_pool, next_same}
use Rattle.ent_protocol.specs.State.{State, Submitted, Member}
use Rattle.ent_protocol.specs.Uses.{entangled_uses}
use Rattle.ent_protocol_laws.proofs.Acts.{AreKept, reached}
use Rattle.ent_protocol_laws.proofs.Found.{numbered_on}
use Rattle.ent_lists.specs.Elements.{In, contains_in, in_contains, in_first, in_second, of_filter, of_map}
use Rattle.ent_protocol_laws.specs.Numbered.{from_by_number}

-- ---- what is kept

-- each posted member's statement asks, and the statements that are asked are a safe pool
record PoolRight (s : State) : Type 0 where
  asks : (m : Member) → In m s.active → m.posted ≡ true
      → (asked : Entangled Value) × (next_of s m ≡ Asks asked)
  safe : (asker first second : Posted) (index : ℕ) → IsPosted s asker → IsPosted s first → IsPosted s second
      → CanMeet asker index first → CanMeet asker index second → first.tx ≡ second.tx

-- a posted member was posted before, at the same statement
record WasPosted (old new : State) (m : Member) : Type 0 where
  before : Member
  at : In before old.active
  posted : before.posted ≡ true
  own : m.tx ≡ before.tx
  attempt : m.attempt ≡ before.attempt
  place : m.place ≡ before.place
  next : next_of new m ≡ next_of old before

-- a statement that a member has in the pool now was in the pool before
was_in_pool : (old new : State) (m : Member) (was : WasPosted old new m) (x : Posted) → IsPostedBy new m x
    → IsPosted old x
was_in_pool old new m was x by =
    record {
      member = was.before;
      at = was.at;
      by = record {
        posted = was.posted;
        next = sym was.next ∙ by.next;
        is = by.is
            ∙ (λ i. record {
              tx = was.own i;
              attempt = was.attempt i;
              place = was.place i;
              statement = x.statement;
            });
      };
      own = ap (λ (y : Posted). y.tx) by.is ∙ was.own;
    }

abbrev WerePosted : State → State → Type 0
WerePosted old new = (m : Member) → In m new.active → m.posted ≡ true → WasPosted old new m

back : (old new : State) → WerePosted old new → (x : Posted) → IsPosted new x → IsPosted old x
back old new were x asked =
    was_in_pool old new asked.member (were asked.member asked.at asked.by.posted) x asked.by

kept_by : (old new : State) → WerePosted old new → PoolRight old → PoolRight new
kept_by old new were h =
    record {
      asks = λ m at posted.
          let w = were m at posted in
          let r = h.asks w.before w.at w.posted in
          (r.0, w.next ∙ r.1);
      safe = λ asker first second index a b c.
          h.safe asker first second index (back old new were asker a) (back old new were first b)
          (back old new were second c);
    }

itself : (old new : State) (m : Member) → In m old.active → m.posted ≡ true → next_of new m ≡ next_of old m
    → WasPosted old new m
itself old new m at posted next =
    record { before = m; at = at; posted = posted; own = refl; attempt = refl; place = refl; next = next }

-- ---- a script is submitted

still_next : (all : List Submitted) (own : Submitted) (m : Member) (asked : Entangled Value)
    → next_in (numbered all m.tx) m ≡ Asks asked
    → next_in (numbered (all ++ own ∷ []) m.tx) m ≡ next_in (numbered all m.tx) m
still_next all own m asked e = by (numbered all m.tx) refl
  where
    by : (found : Option Submitted) → numbered all m.tx ≡ found
        → next_in (numbered (all ++ own ∷ []) m.tx) m ≡ next_in (numbered all m.tx) m
    by None none = let wrong : RollsBack ≡ Asks asked = rw none at e in cc
    by (Some mine) there =
        ap (λ (found : Option Submitted). next_in found m)
        (numbered_on all (own ∷ []) m.tx mine there ∙ sym there)

submits : (s : State) (script : Script) (form : List (Statement Known)) → PoolRight s
    → PoolRight (submitting s script form)
submits s script form h =
    kept_by s (submitting s script form) (λ m at posted.
    let r = h.asks m at posted in
    itself s (submitting s script form) m at posted
    (still_next s.submitted (record { script = script; form = form }) m r.0 r.1)) h

-- ---- members that are there no more, or go on

different : {A : Type 0} → false ≡ true → A
different e = cc

starts : (s : State) → PoolRight (starting s)
starts s =
    record {
      asks = λ m at posted. different (sym (unposted m at) ∙ posted);
      safe = λ asker first second index a b c one other.
          different (sym (unposted a.member a.at) ∙ a.by.posted);
    }
  where
    unposted : (m : Member) → In m (starting s).active → m.posted ≡ false
    unposted m at =
        let r = of_map fresh (take MOST_MEMBERS s.dormant) m
        (from_by_number (λ (member : Member). member.tx) (map fresh (take MOST_MEMBERS s.dormant)) m at) in
        ap (λ (x : Member). x.posted) r.2

-- those that pass a test stay
filtered : (s new : State) (p : Member → Bool) → new.active ≡ filter p s.active → new.submitted ≡ s.submitted
    → PoolRight s → PoolRight new
filtered s new p active submitted h =
    kept_by s new (λ m at posted.
    itself s new m (of_filter p s.active m (subst (In m) active at)).0 posted
    (ap (λ (all : List Submitted). next_in (numbered all m.tx) m) submitted)) h

same_members : (s new : State) → new.active ≡ s.active → new.submitted ≡ s.submitted → PoolRight s → PoolRight new
same_members s new active submitted h =
    kept_by s new (λ m at posted.
    itself s new m (subst (In m) active at) posted
    (ap (λ (all : List Submitted). next_in (numbered all m.tx) m) submitted)) h

-- each member becomes another: one that isn't posted, or one that differs in its group alone
mapped : (s new : State) (f : Member → Member) → new.active ≡ map f s.active → new.submitted ≡ s.submitted
    → ((m : Member) → In m s.active → ((f m).posted ≡ false) ⊎ WasPosted s new (f m)) → PoolRight s → PoolRight new
mapped s new f active submitted becomes h =
    kept_by s new (λ m at posted.
    let r = of_map f s.active m (subst (In m) active at) in
    elim (becomes r.0 r.1) [
      | inl off ↦ different (sym off ∙ ap (λ (x : Member). x.posted) (sym r.2) ∙ posted)
      | inr was ↦ subst (WasPosted s new) (sym r.2) was
    ]) h

-- a member without a statement in the pool stands in the place of another
module _ (s new : State) (one : Member) (active : new.active ≡ map (replaced one) s.active)
    (submitted : new.submitted ≡ s.submitted) where
  stays : (m : Member) → In m s.active → (m.posted ≡ false) ⊎ WasPosted s new m
  stays m at = by m.posted refl
    where
      by : (b : Bool) → m.posted ≡ b → (m.posted ≡ false) ⊎ WasPosted s new m
      by true posted =
          inr (itself s new m at posted (ap (λ (all : List Submitted). next_in (numbered all m.tx) m) submitted))
      by false posted = inl posted

  idle_replaced : one.posted ≡ false → PoolRight s → PoolRight new
  idle_replaced off h = mapped s new (replaced one) active submitted becomes h
    where
      becomes : (m : Member) → In m s.active → ((replaced one m).posted ≡ false) ⊎ WasPosted s new (replaced one m)
      becomes m at = by (m.tx == one.tx)
        where
          by : (b : Bool) → ((cond b one m).posted ≡ false) ⊎ WasPosted s new (cond b one m)
          by true = inl off
          by false = stays m at

-- ---- a statement is posted

posts : (s : State) (m : Member) (statement : Entangled Value) → next_of s m ≡ Asks statement
    → IsSafe (pool_with s m statement) → PoolRight s → PoolRight (posting s m statement)
posts s m statement next safe h =
    record {
      asks = λ n at posted. elim (known n at posted) [
        | inl same ↦ (statement, ap (next_of s) same ∙ next_own)
        | inr was ↦ let r = h.asks was.before was.at was.posted in (r.0, was.next ∙ r.1)
      ];
      safe = λ asker first second index a b c.
          safe asker first second index (there asker a) (there first b) (there second c);
    }
  where
    new : State
    new = posting s m statement

    own : Member
    own = record (holding m (entangled_uses statement)) { posted = true }

    next_own : next_of s own ≡ Asks statement
    next_own = next_same (numbered s.submitted m.tx) own m refl refl ∙ next

    known : (n : Member) → In n new.active → n.posted ≡ true → (n ≡ own) ⊎ WasPosted s new n
    known n at posted =
        let r = of_map (replaced own) s.active n at in by (r.0.tx == own.tx) r.0 r.1 r.2
      where
        by : (b : Bool) → (x : Member) → In x s.active → n ≡ cond b own x → (n ≡ own) ⊎ WasPosted s new n
        by true x there same = inl same
        by false x there same =
            inr (subst (WasPosted s new) (sym same)
            (itself s new x there (ap (λ (y : Member). y.posted) (sym same) ∙ posted) refl))

    there : (x : Posted) → IsPosted new x → Contains (pool_with s m statement) x
    there x asked =
        in_contains (pool_with s m statement) x (elim (known asked.member asked.at asked.by.posted) [
          | inl same ↦
              let is : x.statement ≡ statement =
              one_asked x.statement statement (sym asked.by.next ∙ ap (next_of s) same ∙ next_own) in
              in_second (pool s) (posted_as m statement ∷ []) x
              (inl (asked.by.is ∙ (λ i. posted_as (same i) (is i))))
          | inr was ↦
              let old = was_in_pool s new asked.member was x asked.by in
              in_first (pool s) (posted_as m statement ∷ []) x (to_pool s x old.member old.at old.by)
        ])
      where
        one_asked : (one other : Entangled Value) → Asks one ≡ Asks other → one ≡ other
        one_asked one other e = cc

-- ---- results

finishes : (s : State) (m : Member) (left : List Job) (statement : Statement Value) (outcome : Outcome)
    → PoolRight s → PoolRight (finished (record s { lent = left }) m statement outcome)
finishes s m left statement (Changed count removed added) h =
    idle_replaced s (finished (record s { lent = left }) m statement (Changed count removed added)) _ refl refl refl h
finishes s m left statement (Bound value) h =
    idle_replaced s (finished (record s { lent = left }) m statement (Bound value)) _ refl refl refl h
finishes s m left statement (Shown rows) h =
    idle_replaced s (finished (record s { lent = left }) m statement (Shown rows)) _ refl refl refl h
finishes s m left statement (Fault failure) h = same_members s (record s { lent = left }) refl refl h
finishes s m left statement (Choice groundings) h = same_members s (record s { lent = left }) refl refl h

joins : (s : State) (left : List Job) (asked : List Posted) (groundings : List Valuation) → PoolRight s
    → PoolRight (joining (record s { lent = left }) asked groundings)
joins s left asked groundings h =
    mapped s new (λ m. in_joined_group groups (answered_among asked groundings m)) refl refl
    (λ m at. becomes asked groundings m at) h
  where
    new : State
    new = joining (record s { lent = left }) asked groundings

    groups : List ℕ
    groups = answered_groups (record s { lent = left }) asked

    as_it_was : (m : Member) → In m s.active
        → ((in_joined_group groups m).posted ≡ false) ⊎ WasPosted s new (in_joined_group groups m)
    as_it_was m at = by m.posted refl
      where
        by : (b : Bool) → m.posted ≡ b
            → ((in_joined_group groups m).posted ≡ false) ⊎ WasPosted s new (in_joined_group groups m)
        by true posted =
            inr (record {
              before = m;
              at = at;
              posted = posted;
              own = refl;
              attempt = refl;
              place = refl;
              next = next_same (numbered s.submitted m.tx) (in_joined_group groups m) m refl refl;
            })
        by false posted = inl posted

    becomes : (asks : List Posted) (given : List Valuation) (m : Member) → In m s.active
        → ((in_joined_group groups (answered_among asks given m)).posted ≡ false)
        ⊎ WasPosted s new (in_joined_group groups (answered_among asks given m))
    becomes [] given m at = as_it_was m at
    becomes (query ∷ asks) [] m at = as_it_was m at
    becomes (query ∷ asks) (values ∷ more) m at = by (m.tx == query.tx) (becomes asks more m at)
      where
        by : (b : Bool)
            → ((in_joined_group groups (answered_among asks more m)).posted ≡ false)
            ⊎ WasPosted s new (in_joined_group groups (answered_among asks more m))
            → ((in_joined_group groups
            (cond b (answered_by query values m) (answered_among asks more m))).posted ≡ false)
            ⊎ WasPosted s new
            (in_joined_group groups (cond b (answered_by query values m) (answered_among asks more m)))
        by true rest = inl refl
        by false rest = rest

pool_kept : AreKept PoolRight
pool_kept =
    record {
      submits = submits;
      starts = λ s off h. starts s;
      lends = λ s m statement idle next h. idle_replaced s _ _ refl refl idle.unposted h;
      posts = λ s m statement idle next safe h. posts s m statement next safe h;
      prepares = λ s m idle h. filtered s _ _ refl refl h;
      commits = λ s group ready h. same_members s _ refl refl h;
      rolls_back = λ s group cause h. filtered s _ _ refl refl h;
      takes = λ s job left taken h. same_members s (record s { lent = left }) refl refl h;
      finishes = λ s m left statement outcome back h. finishes s m left statement outcome h;
      picks = λ s asked component out h. same_members s _ refl refl h;
      joins = λ s job left asked groundings taken component grounded h. joins s left asked groundings h;
      tries = λ s asked h. same_members s (record s { tried = asked ∷ s.tried }) refl refl h;
      ends = λ s h. filtered s _ _ refl refl h;
      recalls = λ s h. same_members s (record s { lent = [] }) refl refl h;
    }

pub reached_safe : {F : Type 0} (forms : Forms F) (s : State) → IsReached forms s → IsSafe (pool s)
reached_safe forms s r =
    let right = reached forms PoolRight pool_kept s (none_opened s.opening) r in
    λ asker first second index a b c.
    right.safe asker first second index (asked asker a) (asked first b) (asked second c)
  where
    none_opened : (opening : Opening) → PoolRight (opened opening)
    none_opened opening =
        record {
          asks = λ m at posted. absurd at;
          safe = λ asker first second index a b c one other. absurd a.at;
        }

    asked : (x : Posted) → Contains (pool s) x → IsPosted s x
    asked x there = in_pool s x (contains_in (pool s) x there)
