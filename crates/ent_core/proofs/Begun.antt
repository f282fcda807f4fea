-- A member begins: what is planned and done is the begin.
use Rattle.std.proofs.Common.{◌≡◌, ◌||◌, ℕ, Bool, true, false, List, [], ◌∷◌, ◌++◌, refl, sym, ap, subst, ◌∙◌}
use Rattle.std.proofs.Common.{inl, inr, ◌≤◌, ◌<◌, length, map, nat_eq}
use Rattle.std.proofs.Common.{Option, Some, None, cond, if◌then◌else◌, arith, suc}
use Rattle.std.specs.List.{AllByRecursion, IsDistinct, filter}
use Rattle.std.specs.Prelude.{IsSome, Contains, is_some, slice_index_or}
use Rattle.std.proofs.lemmas.Bool.Decides.{nat_tests}
use Rattle.ent_value.specs.declared.value.Value.{Value}
use Rattle.ent_semantics.specs.declared.entangled.Entangled.{Entangled}
use Rattle.ent_semantics.specs.declared.statement.Statement.{Statement}
use Rattle.ent_semantics.specs.Pool.{IsFirstUnsafe, IsSafe, Unsafe, Posted}
use Rattle.ent_form.specs.declared.catalogue.TableSchema.{TableSchema}
use Rattle.ent_form.specs.declared.fault.FormFault.{FormFault}
use Rattle.ent_protocol.specs.Begin.{Begins, BeginsEntangled, BeginsMember, BeginsNext, BeginsOrdinary}
use Rattle.ent_protocol.specs.Begin.{BeginsUnless}
use Rattle.ent_protocol.specs.Begin.{holding, pool_with, posting, single_job, with_member}
use Rattle.ent_protocol.specs.Event.{Reply}
use Rattle.ent_protocol.specs.Event as replies
use Rattle.ent_protocol.specs.Job.{Job}
use Rattle.ent_protocol.specs.Member.{Asks, Commits, Next, Ordinary, RollsBack, active_member, is_lent, is_prepared}
use Rattle.ent_protocol.specs.Member.{is_tx}
use Rattle.ent_protocol.specs.Member.{next_of}
use Rattle.ent_protocol.specs.State.{State, Dormant, Member, first_of}
use Rattle.ent_protocol.specs.Uses.{blocker, entangled_uses, statement_uses}
use Rattle.ent_protocol.specs.Waits.{next_uses}
use Rattle.ent_tree.specs.declared.declaration.Opening.{Opening}
use Rattle.ent_run.specs.Places.{IsAt, found}
use Rattle.ent_run.specs.Run.{Run}
use Rattle.ent_protocol.specs.State.{Submitted}
use Rattle.ent_members.specs.TransactionTable.{TransactionTable}
use Rattle.ent_waits.specs.Pooled.{IsPoolOf}
use Rattle.ent_core.specs.Store.{IsKept}
use Rattle.ent_tables.specs.Stored.{Stored}
use Rattle.ent_waits.proofs.Moving.{free_at_end}
use Rattle.ent_lists.specs.Elements.{contains_in, index_pairs, neither}
use Rattle.ent_protocol_laws.specs.ByNumber.{StandByNumber}
use Rattle.ent_protocol_laws.specs.Numbered.{below_apart, one_of}
use Rattle.ent_waits.specs.Free.{IsFree, IsIdle}
use Rattle.ent_core.specs.Begin.{IsUnposted, LendsTo, MayBegin, job_uses}

-- ---- the member of a number

pub number_found : (tx : ℕ) (members : List Member) (member : Member)
    → first_of (filter (is_tx tx) members) ≡ Some member → member.tx ≡ tx
number_found tx [] member there = absurd cc
number_found tx (x ∷ xs) member there = by (is_tx tx x) refl (λ rest. number_found tx xs member rest) there
  where
    by : (b : Bool) → is_tx tx x ≡ b → (first_of (filter (is_tx tx) xs) ≡ Some member → member.tx ≡ tx)
        → first_of (cond b (x ∷ filter (is_tx tx) xs) (filter (is_tx tx) xs)) ≡ Some member → member.tx ≡ tx
    by true is rest e =
        let same : x ≡ member = cc in
        let own : x.tx ≡ tx = grind (arith, nat_tests, is) in
        ap (λ (m : Member). m.tx) (sym same) ∙ own
    by false is rest e = rest e

pub some_found : (tx : ℕ) (members : List Member) (member : Member)
    → first_of (filter (is_tx tx) members) ≡ Some member → IsSome (first_of (filter (is_tx tx) members))
some_found tx members member there = ap is_some there

pub member_found : (tx : ℕ) (members : List Member) (member : Member)
    → first_of (filter (is_tx tx) members) ≡ Some member → Contains members member
member_found tx [] member there = absurd cc
member_found tx (x ∷ xs) member there = by (is_tx tx x) (λ rest. member_found tx xs member rest) there
  where
    by : (b : Bool) → (first_of (filter (is_tx tx) xs) ≡ Some member → Contains xs member)
        → first_of (cond b (x ∷ filter (is_tx tx) xs) (filter (is_tx tx) xs)) ≡ Some member → Contains (x ∷ xs) member
    by true rest e = let same : x ≡ member = cc in (0, omega arith, same)
    by false rest e = let r = rest e in (suc r.0, omega (arith, r.1), r.2)

-- somebody stands at a place
pub found_at : (members : List Member) (tx place : ℕ) → IsAt members tx place
    → (member : Member) × (found members tx ≡ Some member)
found_at [] tx place at = absurd (omega (arith, at.in_range))
found_at (x ∷ xs) tx place at = (slice_index_or (x ∷ xs) place x, at.first x)

-- who stands at the place of a number is the member of the number
pub stands_at : (s : State) (members : List Member) (tx place : ℕ) (member : Member) → members ≡ s.active
    → IsAt s.active tx place → ((d : Member) → member ≡ slice_index_or members place d)
    → active_member s tx ≡ Some member
stands_at s members tx place member same at is =
    at.first member
    ∙ ap (λ (m : Member). Some m) (sym (is member ∙ ap (λ (ms : List Member). slice_index_or ms place member) same))

pub or_false : (a b : Bool) → a ≡ false → b ≡ false → (a || b) ≡ false
or_false true b first second = first
or_false false b first second = second

pub either : (a b : Bool) → b ≡ true → (a || b) ≡ true
either true b second = refl
either false b second = second

abbrev absent_unless : Bool → Reply FormFault
absent_unless b = if b then replies.NotNow else replies.Absent

pub is_there : (members : List Member) (tx : ℕ) → IsSome (first_of (filter (is_tx tx) members))
    → (member : Member) × (first_of (filter (is_tx tx) members) ≡ Some member)
is_there members tx some = by (first_of (filter (is_tx tx) members)) some
  where
    by : (o : Option Member) → IsSome o → (member : Member) × (o ≡ Some member)
    by (Some member) some = (member, refl)
    by None some = absurd cc

-- where members stand by number, one that may begin is the only one of its number, and hasn't posted
pub one_unposted : (s : State) (tx : ℕ) (member : Member) → StandByNumber s → Contains s.active member → member.tx ≡ tx
    → member.posted ≡ false → IsUnposted s tx
one_unposted s tx member stand at own off other there same =
    let one : other ≡ member =
    one_of (λ (m : Member). m.tx) s.active other member
    (below_apart (λ (m : Member). m.tx) s.active
    (index_pairs (λ (x y : Member). x.tx < y.tx) s.active stand.active))
    (contains_in s.active other there) (contains_in s.active member at) (same ∙ sym own) in
    ap (λ (m : Member). m.posted) one ∙ off

pub unposted_at_turn : (s : State) (tx : ℕ) (member : Member) (next : Next) → StandByNumber s
    → MayBegin s tx member next → IsUnposted s tx
unposted_at_turn s tx member next stand may =
    one_unposted s tx member stand (member_found tx s.active member may.there)
    (number_found tx s.active member may.there) (neither member.posted (is_lent s member.tx) may.idle).0

-- the member of a number is idle exactly where its number is
pub idle_of : (s : State) (tx : ℕ) (member : Member) → active_member s tx ≡ Some member → IsIdle s member
    → (member.posted || is_lent s tx) ≡ false
idle_of s tx member there idle =
    subst (λ n. (member.posted || is_lent s n) ≡ false) (number_found tx s.active member there) idle

pub idle_by : (s : State) (tx : ℕ) (member : Member) → active_member s tx ≡ Some member
    → (member.posted || is_lent s tx) ≡ false → IsIdle s member
idle_by s tx member there idle =
    subst (λ n. (member.posted || is_lent s n) ≡ false) (sym (number_found tx s.active member there)) idle

-- ---- where nothing is begun

module _ (s : State) (tx : ℕ) where
  pub refused_out : (member : Member) → active_member s tx ≡ Some member → (member.posted || is_lent s tx) ≡ true
      → Begins {F = FormFault} s tx replies.NotNow s
  refused_out member there out =
      let P : Option Member → Type 0 = λ o. BeginsMember {F = FormFault} s tx o replies.NotNow s in
      let Q : Bool → Type 0 = λ b. BeginsUnless {F = FormFault} b s member replies.NotNow s in
      subst P (sym there) (subst Q (sym out) (refl, refl))

  pub refused_prepared : active_member s tx ≡ None → is_prepared s tx ≡ true
      → Begins {F = FormFault} s tx replies.NotNow s
  refused_prepared nobody prepared =
      let P : Option Member → Type 0 = λ o. BeginsMember {F = FormFault} s tx o replies.NotNow s in
      subst P (sym nobody)
      (ap absent_unless (sym prepared), refl)

  pub refused_absent : active_member s tx ≡ None → is_prepared s tx ≡ false
      → Begins {F = FormFault} s tx replies.Absent s
  refused_absent nobody prepared =
      let P : Option Member → Type 0 = λ o. BeginsMember {F = FormFault} s tx o replies.Absent s in
      subst P (sym nobody)
      (ap absent_unless (sym prepared), refl)

  -- ---- what comes next

  pub begins_next : (member : Member) (next : Next) → MayBegin s tx member next
      → (reply : Reply FormFault) (new : State) → BeginsNext s member next reply new → Begins s tx reply new
  begins_next member next begun reply new h =
      let P : Option Member → Type 0 = λ o. BeginsMember s tx o reply new in
      let Q : Bool → Type 0 = λ b. BeginsUnless b s member reply new in
      let R : Next → Type 0 = λ n. BeginsNext s member n reply new in
      subst P (sym begun.there)
      (subst Q (sym (idle_of s tx member begun.there begun.idle)) (subst R (sym begun.is_next) h))

  module _ (member : Member) (statement : Statement Value) (begun : MayBegin s tx member (Ordinary statement)) where
    ordinary : (holder : Option ℕ) → blocker s member (statement_uses statement) ≡ holder
        → (reply : Reply FormFault) (new : State) → BeginsOrdinary s member statement holder reply new
        → Begins s tx reply new
    ordinary holder is reply new h =
        let P : Option ℕ → Type 0 = λ o. BeginsOrdinary s member statement o reply new in
        begins_next member (Ordinary statement) begun reply new (subst P (sym is) h)

    ordinary_blocked : (holder : ℕ) → blocker s member (statement_uses statement) ≡ Some holder
        → Begins {F = FormFault} s tx (replies.Blocked holder) s
    ordinary_blocked holder is = ordinary (Some holder) is (replies.Blocked holder) s (refl, refl)

    pub ordinary_lent : blocker s member (statement_uses statement) ≡ None
        → (job : Job) → job ≡ single_job s member statement → (new : State) → LendsTo tx job s new
        → Begins {F = FormFault} s tx (replies.Lent job) new
    ordinary_lent none job job_is new lends =
        let as_lent : new
        ≡ record (with_member (holding member (statement_uses statement)) s) {
          lent = s.lent ++ single_job s member statement ∷ [];
        } =
        lends member begun.there ∙ (λ i. record (with_member (holding member (job_uses (job_is i))) s) {
          lent = s.lent ++ job_is i ∷ [];
        }) in
        ordinary None none (replies.Lent job) new (ap (λ (j : Job). replies.Lent j) job_is, as_lent)

  module _ (member : Member) (statement : Entangled Value) (begun : MayBegin s tx member (Asks statement)) where
    entangled : (holder : Option ℕ) → blocker s member (entangled_uses statement) ≡ holder
        → (reply : Reply FormFault) (new : State) → BeginsEntangled s member statement holder reply new
        → Begins s tx reply new
    entangled holder is reply new h =
        let P : Option ℕ → Type 0 = λ o. BeginsEntangled s member statement o reply new in
        begins_next member (Asks statement) begun reply new (subst P (sym is) h)

    entangled_blocked : (holder : ℕ) → blocker s member (entangled_uses statement) ≡ Some holder
        → Begins {F = FormFault} s tx (replies.Blocked holder) s
    entangled_blocked holder is = entangled (Some holder) is (replies.Blocked holder) s (refl, refl)

    pub entangled_held : blocker s member (entangled_uses statement) ≡ None
        → (fault : Unsafe) → IsFirstUnsafe (pool_with s member statement) fault
        → Begins {F = FormFault} s tx (replies.HeldBack fault) s
    entangled_held none fault first =
        entangled None none (replies.HeldBack fault) s (inr (fault, first, (refl, refl)))

    pub entangled_posted : blocker s member (entangled_uses statement) ≡ None
        → IsSafe (pool_with s member statement) → (new : State) → new ≡ posting s member statement
        → Begins {F = FormFault} s tx replies.Posted new
    entangled_posted none safe new is = entangled None none replies.Posted new (inl (safe, refl, is))

  -- a free member may begin what comes next
  pub begun_next : (member : Member) (next : Next) → active_member s tx ≡ Some member → IsFree s member
      → next ≡ next_of s member → MayBegin s tx member next
  begun_next member next there free is = record { there = there; idle = free.idle; is_next = sym is }

  -- whatever comes next, who blocks what it asks for blocks it
  pub begun_blocked : (member : Member) (next : Next) → MayBegin s tx member next → (holder : ℕ)
      → blocker s member (next_uses next) ≡ Some holder → Begins {F = FormFault} s tx (replies.Blocked holder) s
  begun_blocked member (Ordinary statement) begun holder is = ordinary_blocked member statement begun holder is
  begun_blocked member (Asks statement) begun holder is = entangled_blocked member statement begun holder is
  begun_blocked member Commits begun holder is = let free = free_at_end s member in absurd cc
  begun_blocked member RollsBack begun holder is = let free = free_at_end s member in absurd cc

-- ---- what the store keeps

-- somebody is a member, so that a run is on
pub kept_with : (schemas : List TableSchema) (opening : Opening) (submitted : List Submitted)
    (transaction_table transaction_table' : TransactionTable)
    (running : Bool) (run run' : Run) (stored stored' : Stored) (posted posted' : List Posted) (tx : ℕ)
    → IsKept schemas opening submitted transaction_table running run stored posted
    → IsSome (first_of (filter (is_tx tx) run.active)) → transaction_table'.dormant ≡ transaction_table.dormant
    → transaction_table'.known ≡ transaction_table.known → stored'.kinds ≡ stored.kinds
    → IsPoolOf submitted run'.active posted'
    → IsKept schemas opening submitted transaction_table' running run' stored' posted'
kept_with schemas opening submitted transaction_table transaction_table' running run run' stored stored' posted posted'
    tx kept some
    dormant known
    kinds pooled =
    record {
      declared = kept.declared;
      formed = kept.formed;
      kinds = kinds ∙ kept.kinds;
      asks = kept.asks;
      known = known ∙ kept.known;
      arrived = subst (λ (all : List Dormant). AllByRecursion (λ (own : Dormant). own.tx ≤ length submitted) all)
          (sym dormant) kept.arrived;
      distinct = subst (λ (all : List Dormant). IsDistinct nat_eq (map (λ (own : Dormant). own.tx) all)) (sym dormant)
          kept.distinct;
      idle_prepared = λ off. absurd (somebody off);
      idle_active = λ off. absurd (somebody off);
      posted = pooled;
    }
  where
    nobody : false ≡ true → ⊥
    nobody e = cc

    somebody : running ≡ false → ⊥
    somebody off =
        let P : List Member → Type 0 = λ members. IsSome (first_of (filter (is_tx tx) members)) in
        nobody (subst P (kept.idle_active off) some)

-- the same where the run alone changes
pub kept_changed : (schemas : List TableSchema) (opening : Opening) (submitted : List Submitted)
    (transaction_table : TransactionTable)
    (running : Bool) (run run' : Run) (stored : Stored) (posted posted' : List Posted) (tx : ℕ)
    → IsKept schemas opening submitted transaction_table running run stored posted
    → IsSome (first_of (filter (is_tx tx) run.active)) → IsPoolOf submitted run'.active posted'
    → IsKept schemas opening submitted transaction_table running run' stored posted'
kept_changed schemas opening submitted transaction_table running run run' stored posted posted' tx kept some pooled =
    kept_with schemas opening submitted transaction_table transaction_table running run run' stored stored posted
    posted' tx kept some refl
    refl
    refl pooled

-- members become others
pub kept_answered : (schemas : List TableSchema) (opening : Opening) (submitted : List Submitted)
    (transaction_table : TransactionTable)
    (running : Bool) (run run' : Run) (stored : Stored) (posted posted' : List Posted) (f g : Member → Member)
    → IsKept schemas opening submitted transaction_table running run stored posted → run'.prepared ≡ map f run.prepared
    → run'.active ≡ map g run.active → IsPoolOf submitted run'.active posted'
    → IsKept schemas opening submitted transaction_table running run' stored posted'
kept_answered schemas opening submitted transaction_table running run run' stored posted posted' f g kept prepared
    active pooled =
    record {
      declared = kept.declared;
      formed = kept.formed;
      kinds = kept.kinds;
      asks = kept.asks;
      known = kept.known;
      arrived = kept.arrived;
      distinct = kept.distinct;
      idle_prepared = λ off. prepared ∙ ap (map f) (kept.idle_prepared off);
      idle_active = λ off. active ∙ ap (map g) (kept.idle_active off);
      posted = pooled;
    }
