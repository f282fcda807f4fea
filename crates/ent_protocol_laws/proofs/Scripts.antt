-- What stands next in a script, and a member that did one statement more.
use Rattle.std.proofs.Common.{◌≡◌, ℕ, zero, suc, List, [], ◌∷◌, ◌++◌, take, refl, sym, ap}
use Rattle.std.proofs.Common.{subst, ◌∙◌, Option, Some, None, Result, Ok, Err, slice_get}
use Rattle.std.proofs.lemmas.Option.{same_Some}
use Rattle.std.specs.List.{AllByRecursion}
use Rattle.std.specs.Option.{option_map, option_and_then}
use Rattle.ent_value.specs.declared.value.Value.{Value}
use Rattle.ent_tree.specs.declared.declaration.Create.{Create}
use Rattle.ent_tree.specs.declared.script.End.{End}
use Rattle.ent_tree.specs.declared.script.End.TheVariants.{Commit, Rollback}
use Rattle.ent_tree.specs.declared.script.Script.{Script}
use Rattle.ent_semantics.specs.declared.answer.Answer.{Answer}
use Rattle.ent_semantics.specs.declared.answer.Failure.{Failure}
use Rattle.ent_semantics.specs.Database.{Database, Environment, nothing_bound}
use Rattle.ent_semantics.specs.Effect.{Effect}
use Rattle.ent_semantics.specs.Further.{behind, one_more}
use Rattle.ent_semantics.specs.Joint.{IsGrounded}
use Rattle.ent_semantics.specs.Serial.{Operation, Run, answered_first, after, run, seen, seen_after, read_views}
use Rattle.ent_semantics.specs.Statement.{statement_meaning}
use Rattle.ent_semantics.specs.Closing.{closed}
use Rattle.ent_semantics.specs.declared.entangled.Entangled.{Entangled}
use Rattle.ent_semantics.specs.declared.operand.Known.{Known}
use Rattle.ent_semantics.specs.declared.statement.Statement.{Statement}
use Rattle.ent_semantics.specs.declared.statement.Statement.TheVariants as statements
use Rattle.ent_protocol.specs.Member.{Ordinary, Asks, Commits, statement_next, end_next}
use Rattle.ent_protocol.specs.Member.{environment_of, next_in}
use Rattle.ent_protocol.specs.State.{Submitted, Member}
use Rattle.ent_protocol_laws.specs.Faithful.{InTurn}
use Rattle.ent_protocol_laws.specs.History.{History, Replays}
use Rattle.ent_lists.specs.Elements.{all_first, all_second, all_joined}
use Rattle.ent_protocol_laws.proofs.Frame.{Laws}

-- ---- what stands next

ordinary_statement : (c st : Statement Value) → statement_next c ≡ Ordinary st → c ≡ st
ordinary_statement (statements.Select select) st e = cc
ordinary_statement (statements.Entangled entangled) st e = cc
ordinary_statement (statements.Insert table values) st e = cc
ordinary_statement (statements.Delete table tests) st e = cc
ordinary_statement (statements.Update table image tests) st e = cc
ordinary_statement (statements.Set variable expression) st e = cc

posting_statement : (c : Statement Value) (asked : Entangled Value) → statement_next c ≡ Asks asked
    → c ≡ statements.Entangled asked
posting_statement (statements.Select select) asked e = cc
posting_statement (statements.Entangled entangled) asked e = cc
posting_statement (statements.Insert table values) asked e = cc
posting_statement (statements.Delete table tests) asked e = cc
posting_statement (statements.Update table image tests) asked e = cc
posting_statement (statements.Set variable expression) asked e = cc

committing_statement : {A : Type 0} (c : Statement Value) → statement_next c ≡ Commits → A
committing_statement (statements.Select select) e = cc
committing_statement (statements.Entangled entangled) e = cc
committing_statement (statements.Insert table values) e = cc
committing_statement (statements.Delete table tests) e = cc
committing_statement (statements.Update table image tests) e = cc
committing_statement (statements.Set variable expression) e = cc

ends_ordinary : {A : Type 0} (end : End) (st : Statement Value) → end_next end ≡ Ordinary st → A
ends_ordinary Commit st e = cc
ends_ordinary Rollback st e = cc

ends_posting : {A : Type 0} (end : End) (asked : Entangled Value) → end_next end ≡ Asks asked → A
ends_posting Commit asked e = cc
ends_posting Rollback asked e = cc

ends_committing : (end : End) → end_next end ≡ Commits → end ≡ Commit
ends_committing Commit e = refl
ends_committing Rollback e = cc

-- a form stands at this index, and closed it is this
pub record ClosesAt (form : List (Statement Known)) (index : ℕ) (member : Member) (is : Statement Value) : Type 0 where
  pub statement : Statement Known
  pub at : slice_get form index ≡ Some statement
  pub closes : closed (environment_of member) statement ≡ is

ordinary_in : (script : Script) (form : List (Statement Known)) (member : Member) (n : ℕ) (st : Statement Value)
    → next_in (Some (record { script = script; form = form })) (record member { place = suc n }) ≡ Ordinary st
    → (stands : ClosesAt form n member st)
    × (statement_next (closed (environment_of member) stands.statement) ≡ Ordinary st)
ordinary_in script [] member n st e = ends_ordinary script.end st e
ordinary_in script (f ∷ fs) member zero st e =
    (record { statement = f; at = refl; closes = ordinary_statement (closed (environment_of member) f) st e }, e)
ordinary_in script (f ∷ fs) member (suc n) st e =
    let r = ordinary_in script fs member n st e in
    (record { statement = r.0.statement; at = r.0.at; closes = r.0.closes }, r.1)

posting_in : (script : Script) (form : List (Statement Known)) (member : Member) (n : ℕ) (asked : Entangled Value)
    → next_in (Some (record { script = script; form = form })) (record member { place = suc n }) ≡ Asks asked
    → ClosesAt form n member (statements.Entangled asked)
posting_in script [] member n asked e = ends_posting script.end asked e
posting_in script (f ∷ fs) member zero asked e =
    record { statement = f; at = refl; closes = posting_statement (closed (environment_of member) f) asked e }
posting_in script (f ∷ fs) member (suc n) asked e =
    let r = posting_in script fs member n asked e in
    record { statement = r.statement; at = r.at; closes = r.closes }

committing_in : (script : Script) (form : List (Statement Known)) (member : Member) (n : ℕ)
    → next_in (Some (record { script = script; form = form })) (record member { place = suc n }) ≡ Commits
    → (slice_get form n ≡ None) × (script.end ≡ Commit)
committing_in script [] member n e = (refl, ends_committing script.end e)
committing_in script (f ∷ fs) member zero e = committing_statement (closed (environment_of member) f) e
committing_in script (f ∷ fs) member (suc n) e = committing_in script fs member n e

module _ (own : Submitted) (member : Member) (n : ℕ) (place : member.place ≡ suc n) where
  there : next_in (Some own) member ≡ next_in (Some own) (record member { place = suc n })
  there = λ i. next_in (Some own) (record member { place = place i })

  pub next_ordinary : (st : Statement Value) → next_in (Some own) member ≡ Ordinary st
      → (stands : ClosesAt own.form n member st)
      × (statement_next (closed (environment_of member) stands.statement) ≡ Ordinary st)
  next_ordinary st e = ordinary_in own.script own.form member n st (sym there ∙ e)

  pub next_posting : (asked : Entangled Value) → next_in (Some own) member ≡ Asks asked
      → ClosesAt own.form n member (statements.Entangled asked)
  next_posting asked e = posting_in own.script own.form member n asked (sym there ∙ e)

  pub next_committing : next_in (Some own) member ≡ Commits
      → (slice_get own.form n ≡ None) × (own.script.end ≡ Commit)
  next_committing e = committing_in own.script own.form member n (sym there ∙ e)

-- ---- lists in turn

pub turn_at : {A B : Type 0} (R : A → B → Type 0) (xs : List A) (ys : List B) (n : ℕ) (y : B) → InTurn R xs ys
    → slice_get ys n ≡ Some y → (x : A) × (slice_get xs n ≡ Some x) × R x y
turn_at R [] [] n y turn e = cc
turn_at R [] (z ∷ ys) n y turn e = absurd turn
turn_at R (x ∷ xs) [] n y turn e = absurd turn
turn_at R (x ∷ xs) (z ∷ ys) zero y turn e = let same : z ≡ y = cc in (x, refl, subst (R x) same turn.0)
turn_at R (x ∷ xs) (z ∷ ys) (suc n) y turn e = turn_at R xs ys n y turn.1 e

pub turn_end : {A B : Type 0} (R : A → B → Type 0) (xs : List A) (ys : List B) (n : ℕ) → InTurn R xs ys
    → slice_get ys n ≡ None → slice_get xs n ≡ None
turn_end R [] [] n turn e = refl
turn_end R [] (z ∷ ys) n turn e = absurd turn
turn_end R (x ∷ xs) [] n turn e = absurd turn
turn_end R (x ∷ xs) (z ∷ ys) zero turn e = cc
turn_end R (x ∷ xs) (z ∷ ys) (suc n) turn e = turn_end R xs ys n turn.1 e

pub take_one : {X : Type 0} (xs : List X) (n : ℕ) (x : X) → slice_get xs n ≡ Some x
    → take (suc n) xs ≡ take n xs ++ x ∷ []
take_one [] n x e = cc
take_one (y ∷ ys) zero x e = let same : y ≡ x = cc in ap (λ z. z ∷ []) same
take_one (y ∷ ys) (suc n) x e = ap (λ more. y ∷ more) (take_one ys n x e)

pub take_whole : {X : Type 0} (xs : List X) (n : ℕ) → slice_get xs n ≡ None → take n xs ≡ xs
take_whole [] zero e = refl
take_whole [] (suc n) e = refl
take_whole (x ∷ xs) zero e = cc
take_whole (x ∷ xs) (suc n) e = ap (λ more. x ∷ more) (take_whole xs n e)

-- ---- one operation more

-- a run that ends at this database and environment
abbrev Reaches : Option Run → Database → Environment → Type 0
Reaches x database environment =
    (r : Run) × (x ≡ Some r) × (r.database ≡ database) × (r.environment ≡ environment)

without_first : (answer : Answer) (x : Option Run) (database : Database) (environment : Environment)
    → Reaches (option_map (answered_first answer) x) database environment → Reaches x database environment
without_first answer None database environment r = cc (r.1)
without_first answer (Some run) database environment r =
    let same = same_Some (answered_first answer run) r.0 r.1 in (
      run,
      refl,
      ap (λ (x : Run). x.database) same ∙ r.2,
      ap (λ (x : Run). x.environment) same ∙ r.3,
    )

module _ (declared : List Create) (tx : ℕ) (operation : Operation) (last : Database) (bound : Environment)
    (grounded : (place : ℕ) → AllByRecursion (IsGrounded declared) (seen tx place operation last bound)) where
  abbrev AreGrounded : ℕ → List Operation → Database → Environment → Type 0
  AreGrounded place operations database environment =
      AllByRecursion (IsGrounded declared) (read_views declared tx place operations database environment)

  none_after : (x : Result (Effect Database) Failure) (place : ℕ)
      → AllByRecursion (IsGrounded declared) (seen_after x (read_views declared tx place []))
  none_after (Ok effect) place = tt
  none_after (Err failure) place = tt

  pub read_views_pushed : (operations : List Operation) (place : ℕ) (database : Database) (environment : Environment)
      → Reaches (run declared operations database environment) last bound
      → AreGrounded place operations database environment
      → AreGrounded place (operations ++ operation ∷ []) database environment
  read_views_pushed [] place database environment is h =
      let same = same_Some (record { database = database; environment = environment; answers = [] }) is.0 is.1 in
      let at : database ≡ last = ap (λ (x : Run). x.database) same ∙ is.2 in
      let with : environment ≡ bound = ap (λ (x : Run). x.environment) same ∙ is.3 in
      all_joined (IsGrounded declared) (seen tx place operation database environment) _
      (subst (λ d. AllByRecursion (IsGrounded declared) (seen tx place operation d environment)) (sym at)
      (subst (λ e. AllByRecursion (IsGrounded declared) (seen tx place operation last e)) (sym with) (grounded place)))
      (none_after (statement_meaning declared operation.statement operation.valuation database environment) (suc place))
  read_views_pushed (first ∷ more) place database environment is h =
      all_joined (IsGrounded declared) (seen tx place first database environment) _
      (all_first (IsGrounded declared) (seen tx place first database environment) _ h)
      (by (statement_meaning declared first.statement first.valuation database environment) is
      (all_second (IsGrounded declared) (seen tx place first database environment) _ h)
      (λ d e r same. read_views_pushed more (suc place) d e r same))
    where
      by : (x : Result (Effect Database) Failure) → Reaches (after x (run declared more)) last bound
          → AllByRecursion (IsGrounded declared) (seen_after x (read_views declared tx (suc place) more))
          → ((d : Database) (e : Environment) → Reaches (run declared more d e) last bound
          → AreGrounded (suc place) more d e → AreGrounded (suc place) (more ++ operation ∷ []) d e)
          → AllByRecursion (IsGrounded declared)
          (seen_after x (read_views declared tx (suc place) (more ++ operation ∷ [])))
      by (Err failure) e g further = tt
      by (Ok effect) e g further =
          further effect.database effect.environment
          (without_first effect.answer (run declared more effect.database effect.environment) last bound e) g

module _ (declared : List Create) (laws : Laws) (x next : History) (operation : Operation)
    (before middle last : Database)
    (answer : Answer) where
  pub replays_pushed : next.operations ≡ x.operations ++ operation ∷ [] → next.member.tx ≡ x.member.tx
      → next.member.answers ≡ x.member.answers ++ answer ∷ []
      → statement_meaning declared operation.statement operation.valuation middle (environment_of x.member)
      ≡ Ok (record { database = last; environment = environment_of next.member; answer = answer })
      → ((place : ℕ) → AllByRecursion (IsGrounded declared)
      (seen x.member.tx place operation middle (environment_of x.member)))
      → Replays declared x before middle → Replays declared next before last
  replays_pushed operations tx told meaning grounded replays =
      record {
        runs = ap (λ all. run declared all before nothing_bound) operations
            ∙ laws.goes_on declared x.operations operation before nothing_bound
            ∙ ap (option_and_then (one_more declared operation)) replays.runs
            ∙ ap (behind x.member.answers) meaning
            ∙ (λ i. Some (record {
              database = last;
              environment = environment_of next.member;
              answers = sym told i;
            }));
        grounded = subst (λ all. AllByRecursion (IsGrounded declared)
            (read_views declared next.member.tx 1 all before nothing_bound)) (sym operations)
            (subst (λ t. AllByRecursion (IsGrounded declared)
            (read_views declared t 1 (x.operations ++ operation ∷ []) before nothing_bound)) (sym tx)
            (read_views_pushed declared x.member.tx operation middle (environment_of x.member) grounded x.operations 1
            before
            nothing_bound (_, replays.runs, refl, refl) replays.grounded));
      }
