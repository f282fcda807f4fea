-- A result of one statement: what the laws say of its job, and what is made of it.
use Rattle.std.proofs.Common.{◌≡◌, ◌<◌, ◌∙◌, ◌==◌, ◌||◌, ℕ, zero, suc, Bool, true, false, cond, List, [], ◌∷◌, length}
use Rattle.std.proofs.Common.{map, refl, sym, ap, subst, arith, rules, Some, None}
use Rattle.std.specs.Prelude.{All, Contains, IsSome, slice_get, slice_index_or}
use Rattle.std.specs.List.{AllByRecursion, filter}
use Rattle.std.proofs.lemmas.Bool.Decides.{nat_tests}
use Rattle.std.proofs.lemmas.Option.{slice_get_within, same_Some}
use Rattle.ent_lists.specs.Sets as set
use Rattle.ent_lists.proofs.Options.{some_value}
use Rattle.ent_value.specs.declared.value.Value.{Value}
use Rattle.ent_semantics.specs.FormKinds.{changed_tables}
use Rattle.ent_semantics.specs.declared.statement.Statement.{Statement}
use Rattle.ent_semantics.specs.declared.statement.Statement.TheVariants as statements
use Rattle.ent_ordinary.specs.Change.{IsApplicable}
use Rattle.ent_job.specs.Work.{AreUsed, IsOne, IsWork, StandAtNumbers}
use Rattle.ent_eval.specs.Result.{CanBeMade, answer_of}
use Rattle.ent_form.specs.declared.fault.FormFault.{FormFault}
use Rattle.ent_protocol_laws.specs.Faithful.{is_used}
use Rattle.ent_protocol_laws.specs.Present.{LentIsPresent, SameWhereUsed}
use Rattle.ent_run.specs.Places.{found}
use Rattle.ent_run.specs.Run.{Run}
use Rattle.ent_protocol.specs.Event.{Reply}
use Rattle.ent_protocol.specs.Event as replies
use Rattle.ent_protocol.specs.Begin.{replaced}
use Rattle.ent_protocol.specs.Finish.{FinishesBy, FinishesSingle, IsTaken, noted, stepped, with_change}
use Rattle.ent_protocol.specs.Job.{Done, Job, One, Outcome, Work, Shown, Changed, Bound, Choice, Fault, IsEvaluated}
use Rattle.ent_protocol.specs.Job.{Numbered, Single, tables_of}
use Rattle.ent_protocol.specs.Member.{Ordinary, active_member, declared_kinds, is_tx, next_of}
use Rattle.ent_protocol.specs.Rollback.{Failing, group_numbers, rolled_back}
use Rattle.ent_protocol.specs.State.{State, Submitted, Member, first_of}
use Rattle.ent_protocol.specs.Uses.{exclusive, statement_uses}
use Rattle.ent_rel.specs.Numbered.{relation_of}
use Rattle.ent_rel.specs.Relation.{Relation}
use Rattle.ent_rel.specs.declared.change.Delta.{Delta}
use Rattle.ent_semantics.specs.declared.answer.Answer.{Answer}
use Rattle.ent_semantics.specs.declared.answer.Answer.TheVariants as answers
use Rattle.ent_semantics.specs.declared.answer.Failure.{Failure}
use Rattle.ent_semantics.specs.Database.{Rows}
use Rattle.ent_protocol_laws.specs.ByNumber.{StandByNumber}
use Rattle.ent_protocol_laws.specs.Declared.{LentIsDeclared, SeesDeclared}
use Rattle.ent_tables.specs.Stored.{Stored}
use Rattle.ent_core.specs.Advance.{Advances, binding}
use Rattle.ent_core.specs.Finish.{Accepts, CanChange, CarriesOut, IsReplyTo, MayCarryOut}
use Rattle.ent_core.specs.declared.finish.Carried.{Carried}
use Rattle.ent_core.specs.declared.finish.Carried.TheVariants as carried
use Rattle.ent_core.specs.Begin.{IsUnposted}
use Rattle.ent_semantics.specs.Pool.{Posted}
use Rattle.ent_waits.specs.Pooled.{IsPoolOf}
use Rattle.ent_core.proofs.Begun.{number_found, one_unposted}
use Rattle.ent_core.proofs.Pooled.{kept_changing}

-- ---- the member of a statement

pub is_found : (tx : ℕ) (members : List Member) (member : Member) → Contains members member → member.tx ≡ tx
    → IsSome (found members tx)
is_found tx members member c own = at members c.0 c.1 c.2
  where
    itself : (x : Member) → x ≡ member → is_tx tx x ≡ true
    itself x same =
        let number : x.tx ≡ tx = ap (λ (m : Member). m.tx) same ∙ own in
        grind (arith, nat_tests, number)

    here : (b : Bool) (x : Member) (xs : List Member) → b ≡ true
        → IsSome (first_of (cond b (x ∷ filter (is_tx tx) xs) (filter (is_tx tx) xs)))
    here true x xs e = refl
    here false x xs e = absurd cc

    behind : (b : Bool) (x : Member) (xs : List Member) → IsSome (found xs tx)
        → IsSome (first_of (cond b (x ∷ filter (is_tx tx) xs) (filter (is_tx tx) xs)))
    behind true x xs rest = refl
    behind false x xs rest = rest

    at : (xs : List Member) (k : ℕ) → k < length xs → slice_index_or xs k member ≡ member → IsSome (found xs tx)
    at [] k low e = absurd (omega (arith, low))
    at (x ∷ xs) zero low e = here (is_tx tx x) x xs (itself x e)
    at (x ∷ xs) (suc k) low e = behind (is_tx tx x) x xs (at xs k (omega (arith, low)) e)

-- ---- the change that it tells

alike : (n : ℕ) → (n == n) ≡ true
alike n = grind (arith, rules)

or_none : (b : Bool) → b ≡ true → (b || false) ≡ true
or_none true e = refl
or_none false e = e

can_change : (s : State) (seen : Numbered) (delta : Delta) (table : ℕ) → IsApplicable (relation_of seen) delta
    → AreUsed (exclusive table ∷ []) (seen ∷ []) → StandAtNumbers (seen ∷ [])
    → seen.kinds ≡ declared_kinds s.opening.tables seen.table
    → SameWhereUsed (exclusive table ∷ []) (tables_of (seen ∷ [])) s.tables
    → table < length s.opening.tables → CanChange s delta table
can_change s seen delta table applicable used stand kinds same there =
    let number : seen.table ≡ table = ap (λ (ns : List ℕ). slice_index_or ns 0 0) used in
    let stands : slice_index_or (tables_of (seen ∷ [])) seen.table set.empty ≡ seen.rows =
    ap (λ (all : List Rows). slice_index_or all 0 set.empty) stand in
    let itself : is_used (exclusive table ∷ []) table ≡ true = or_none (table == table) (alike table) in
    let declared : seen.kinds ≡ declared_kinds s.opening.tables table =
    kinds ∙ ap (declared_kinds s.opening.tables) number in
    let rows : seen.rows ≡ slice_index_or s.tables table set.empty =
    sym stands ∙ ap (λ n. slice_index_or (tables_of (seen ∷ [])) n set.empty) number ∙ same table itself in
    record {
      declared = there;
      applicable = subst (λ (r : Relation). IsApplicable r delta) (λ i. record { kinds = declared i; rows = rows i })
          applicable;
    }

changes_one : (s : State) (seen : Numbered) (delta : Delta) (statement : Statement Value)
    → IsApplicable (relation_of seen) delta → AreUsed (statement_uses statement) (seen ∷ [])
    → StandAtNumbers (seen ∷ [])
    → seen.kinds ≡ declared_kinds s.opening.tables seen.table
    → SameWhereUsed (statement_uses statement) (tables_of (seen ∷ [])) s.tables
    → All (λ table. table < length s.opening.tables) (changed_tables statement)
    → AllByRecursion (CanChange s delta) (changed_tables statement)
changes_one s seen delta (statements.Select select) applicable used stand kinds same there = tt
changes_one s seen delta (statements.Entangled entangled) applicable used stand kinds same there = tt
changes_one s seen delta (statements.Insert table values) applicable used stand kinds same there =
    (can_change s seen delta table applicable used stand kinds same (there 0 table (omega arith)), tt)
changes_one s seen delta (statements.Delete table tests) applicable used stand kinds same there =
    (can_change s seen delta table applicable used stand kinds same (there 0 table (omega arith)), tt)
changes_one s seen delta (statements.Update table image tests) applicable used stand kinds same there =
    (can_change s seen delta table applicable used stand kinds same (there 0 table (omega arith)), tt)
changes_one s seen delta (statements.Set variable expression) applicable used stand kinds same there = tt

pub may_carry_out : (s : State) (job : Job) (single : Single) (outcome : Outcome) → IsOne single job.tables
    → CanBeMade job.tables outcome → SeesDeclared s.opening.tables job
    → SameWhereUsed (statement_uses single.statement) (tables_of job.tables) s.tables
    → All (λ table. table < length s.opening.tables) (changed_tables single.statement)
    → MayCarryOut s single.statement outcome
may_carry_out s job single (Shown rows) one made declared same there = tt
may_carry_out s job single (Bound value) one made declared same there = tt
may_carry_out s job single (Choice groundings) one made declared same there = tt
may_carry_out s job single (Fault failure) one made declared same there = tt
may_carry_out s job single (Changed count removed added) one made declared same there =
    let uses = statement_uses single.statement in
    let delta : Delta = record { removed = removed; added = added } in
    let D : List Numbered → Type 0 =
    λ tables. AllByRecursion (λ (seen : Numbered). seen.kinds ≡ declared_kinds s.opening.tables seen.table) tables in
    let S : List Numbered → Type 0 = λ tables. SameWhereUsed uses (tables_of tables) s.tables in
    let kinds : D (made.0 ∷ []) = subst D made.1 declared in
    changes_one s made.0 delta single.statement made.2 (subst (AreUsed uses) made.1 one.used)
    (subst StandAtNumbers made.1 one.stand) kinds.0 (subst S made.1 same) there

-- ---- what is made of it

one_answer : (x y : Answer) → Some x ≡ Some y → y ≡ x
one_answer x y e = cc

-- an outcome that is no failure has an answer
pub has_answer : (single : Single) (outcome : Outcome) (run run' : Run) (stored stored' : Stored)
    → Advances single outcome run stored run' stored' → (answer : Answer) × (answer_of outcome ≡ Some answer)
has_answer single (Shown rows) run run' stored stored' h = (answers.Rows rows, refl)
has_answer single (Changed count removed added) run run' stored stored' h = (answers.Count count, refl)
has_answer single (Bound value) run run' stored stored' h = (answers.Value value, refl)
has_answer single (Choice groundings) run run' stored stored' h = absurd h
has_answer single (Fault failure) run run' stored stored' h = absurd h

pub went_on : (s : State) (run run' : Run) (stored stored' : Stored) (single : Single) (member : Member)
    (left : List Job) (outcome : Outcome) (answer : Answer) → answer_of outcome ≡ Some answer
    → s.prepared ≡ run.prepared → s.active ≡ run.active → s.tables ≡ stored.tables → s.changes ≡ stored.changes
    → active_member s single.tx ≡ Some member → Advances single outcome run stored run' stored'
    → FinishesBy {F = FormFault} (record s { lent = left }) member single.statement outcome (replies.Stepped answer)
    (record s {
      prepared = run'.prepared;
      active = run'.active;
      lent = left;
      tables = stored'.tables;
      changes = stored'.changes;
    })
went_on s run run' stored stored' single member left (Shown rows) answer shown prepared active tables changes there h =
    let is : found run.active single.tx ≡ Some member =
    ap (λ (ms : List Member). found ms single.tx) (sym active) ∙ there in
    let steps = h.0 in
    let members = steps.active member is ∙ ap (map (replaced (stepped (answers.Rows rows) member))) (sym active) in
    let before = steps.prepared ∙ sym prepared in
    let rest = h.1 in (
      ap (λ (a : Answer). replies.Stepped a) (one_answer (answers.Rows rows) answer shown),
      λ i. record s {
        prepared = before i;
        active = members i;
        lent = left;
        tables = (ap (λ (x : Stored). x.tables) rest ∙ sym tables) i;
        changes = (ap (λ (x : Stored). x.changes) rest ∙ sym changes) i;
      },
    )
went_on s run run' stored stored' single member left (Changed count removed added) answer shown prepared active tables
    changes there h =
    let is : found run.active single.tx ≡ Some member =
    ap (λ (ms : List Member). found ms single.tx) (sym active) ∙ there in
    let own : single.tx ≡ member.tx = sym (number_found single.tx s.active member there) in
    let steps = h.0 in
    let members = steps.active member is ∙ ap (map (replaced (stepped (answers.Count count) member))) (sym active) in
    let before = steps.prepared ∙ sym prepared in
    let rest = h.1 in
    let rows = ap (λ (x : Stored). x.tables) rest
    ∙ ap (with_change (changed_tables single.statement) removed added) (sym tables) in
    let notes = ap (λ (x : Stored). x.changes) rest
    ∙ (λ i. noted (own i) (changed_tables single.statement) (sym tables i) (sym changes i)) in (
      ap (λ (a : Answer). replies.Stepped a) (one_answer (answers.Count count) answer shown),
      λ i. record s {
        prepared = before i;
        active = members i;
        lent = left;
        tables = rows i;
        changes = notes i;
      },
    )
went_on s run run' stored stored' single member left (Bound value) answer shown prepared active tables changes there h =
    let is : found run.active single.tx ≡ Some member =
    ap (λ (ms : List Member). found ms single.tx) (sym active) ∙ there in
    let steps = h.0 in
    let members = steps.active member is ∙ ap (map (replaced (binding single.statement value member))) (sym active) in
    let before = steps.prepared ∙ sym prepared in
    let rest = h.1 in (
      ap (λ (a : Answer). replies.Stepped a) (one_answer (answers.Value value) answer shown),
      λ i. record s {
        prepared = before i;
        active = members i;
        lent = left;
        tables = (ap (λ (x : Stored). x.tables) rest ∙ sym tables) i;
        changes = (ap (λ (x : Stored). x.changes) rest ∙ sym changes) i;
      },
    )
went_on s run run' stored stored' single member left (Choice groundings) answer shown prepared active tables changes
    there h = absurd h
went_on s run run' stored stored' single member left (Fault failure) answer shown prepared active tables changes
    there h = absurd h

-- ---- a failure

pub failed : (s now : State) (single : Single) (job : Job) (member : Member) (left : List Job) (group tx : ℕ)
    (failure : Failure) (numbers : List ℕ) (new : State)
    → now ≡ record s { lent = left } → IsTaken job s.lent left → member.tx ≡ tx → member.group ≡ group
    → numbers ≡ group_numbers now group → new ≡ rolled_back group (Failing tx failure) now
    → (others : List Job) × IsTaken job s.lent others
    × FinishesBy {F = FormFault} (record s { lent = others }) member single.statement (Fault failure)
    (replies.Failed failure numbers) new
failed s now single job member left group tx failure numbers new is taken own of_group numbers_are rolled =
    let told = numbers_are ∙ (λ i. group_numbers (is i) (sym of_group i)) in
    let steps : FinishesBy {F = FormFault} (record s { lent = left }) member single.statement (Fault failure)
    (replies.Failed failure numbers) new = (
      ap (λ (ns : List ℕ). replies.Failed failure ns) told,
      rolled ∙ (λ i. rolled_back (sym of_group i) (Failing (sym own i) failure) (is i)),
    ) in
    (left, taken, steps)

-- ---- a result that is outstanding

pub contains_at : (jobs : List Job) (index : ℕ) (job : Job) → slice_get jobs index ≡ Some job → Contains jobs job
contains_at jobs index job there = (index, slice_get_within jobs index job there, at jobs index there)
  where
    at : (xs : List Job) (k : ℕ) → slice_get xs k ≡ Some job → slice_index_or xs k job ≡ job
    at [] k e = let none : None ≡ Some job = e in absurd cc
    at (x ∷ xs) zero e = same_Some x job e
    at (x ∷ xs) (suc k) e = at xs k e

-- its member is there
pub out_member : (s : State) (job : Job) (single : Single) (index : ℕ) → LentIsPresent s
    → slice_get s.lent index ≡ Some job → job.work ≡ One single → IsSome (active_member s single.tx)
out_member s job single index present there work =
    let p = present.single job single (contains_at s.lent index job there) work in
    is_found single.tx s.active p.member p.active p.own

-- nobody of its number has posted
pub out_unposted : (s : State) (job : Job) (single : Single) (index : ℕ) → LentIsPresent s → StandByNumber s
    → slice_get s.lent index ≡ Some job → job.work ≡ One single → IsUnposted s single.tx
out_unposted s job single index present stand there work =
    let p = present.single job single (contains_at s.lent index job there) work in
    one_unposted s single.tx p.member stand p.active p.own p.unposted

-- its change can be made
pub out_change : (s : State) (job : Job) (single : Single) (index : ℕ) (outcome : Outcome) → LentIsPresent s
    → LentIsDeclared s
    → ((member : Member) (statement : Statement Value) → next_of s member ≡ Ordinary statement
    → All (λ table. table < length s.opening.tables) (changed_tables statement))
    → slice_get s.lent index ≡ Some job → job.work ≡ One single → IsWork job.work job.tables
    → CanBeMade job.tables outcome → MayCarryOut s single.statement outcome
out_change s job single index outcome present declared changed there work fits made =
    let lent = contains_at s.lent index job there in
    let p = present.single job single lent work in
    let one : IsOne single job.tables = subst (λ (w : Work). IsWork w job.tables) work fits in
    may_carry_out s job single outcome one made (declared job lent) p.same (changed p.member single.statement p.next)

-- it is accepted
pub accepted : (s : State) (done : Done) (single : Single) (index : ℕ) (outcome : Outcome) (how : Carried) (new : State)
    → IsEvaluated done → slice_get s.lent index ≡ Some done.job → done.job.work ≡ One single
    → IsSome (active_member s single.tx) → outcome ≡ done.outcome
    → (reply : Reply FormFault) × IsReplyTo outcome how reply × CarriesOut s index single outcome reply new
    → Accepts s done (Some how) new
accepted s done single index outcome how new meant there work out is (reply, replied, carried) =
    let m = some_value (active_member s single.tx) out in
    let h = carried done.job m.0 there m.1 in
    let P : Outcome → Type 0 =
    λ o. FinishesBy {F = FormFault} (record s { lent = h.0 }) m.0 single.statement o reply new in
    let finished : FinishesSingle {F = FormFault} s done single reply new =
    record {
      meant = meant;
      left = h.0;
      taken = h.1;
      member = m.0;
      is_member = m.1;
      steps = subst P is h.2;
    } in
    (reply, subst (λ (o : Outcome). IsReplyTo o how reply) is replied, (single, work, finished))

-- the reply to it
pub replied_to : (outcome : Outcome) (answer : Answer) (reply : Reply FormFault) → answer_of outcome ≡ Some answer
    → IsReplyTo outcome carried.Stepped reply → replies.Stepped answer ≡ reply
replied_to outcome answer reply shown (other, told, is) =
    ap (λ (a : Answer). replies.Stepped a) (sym (one_answer answer other (sym shown ∙ told))) ∙ sym is

-- ---- the store that goes on

-- the kinds of the tables stay
pub advanced_kinds : (single : Single) (outcome : Outcome) (run run' : Run) (stored stored' : Stored)
    → Advances single outcome run stored run' stored' → stored'.kinds ≡ stored.kinds
advanced_kinds single (Shown rows) run run' stored stored' h = ap (λ (x : Stored). x.kinds) h.1
advanced_kinds single (Changed count removed added) run run' stored stored' h = ap (λ (x : Stored). x.kinds) h.1
advanced_kinds single (Bound value) run run' stored stored' h = ap (λ (x : Stored). x.kinds) h.1
advanced_kinds single (Choice groundings) run run' stored stored' h = absurd h
advanced_kinds single (Fault failure) run run' stored stored' h = absurd h

-- and so does the pool, where nobody of the statement's number has posted
pub advanced_pool : (submitted : List Submitted) (posted : List Posted) (single : Single) (outcome : Outcome)
    (run run' : Run) (stored stored' : Stored) → IsPoolOf submitted run.active posted
    → Advances single outcome run stored run' stored' → IsSome (found run.active single.tx)
    → ((m : Member) → Contains run.active m → m.tx ≡ single.tx → m.posted ≡ false)
    → IsPoolOf submitted run'.active posted
advanced_pool submitted posted single (Shown rows) run run' stored stored' old h some idle =
    kept_changing submitted run.active posted old (stepped (answers.Rows rows)) single.tx run'.active h.0.active some
    (λ m. refl) (λ m off. refl) idle
advanced_pool submitted posted single (Changed count removed added) run run' stored stored' old h some idle =
    kept_changing submitted run.active posted old (stepped (answers.Count count)) single.tx run'.active h.0.active some
    (λ m. refl) (λ m off. refl) idle
advanced_pool submitted posted single (Bound value) run run' stored stored' old h some idle =
    kept_changing submitted run.active posted old (binding single.statement value) single.tx run'.active h.0.active some
    (λ m. refl) (λ m off. refl) idle
advanced_pool submitted posted single (Choice groundings) run run' stored stored' old h some idle = absurd h
advanced_pool submitted posted single (Fault failure) run run' stored stored' old h some idle = absurd h
