-- What a member did reads its uses alone, changes its exclusive ones alone, and may change places with what others did.
use Rattle.std.proofs.Common.{◌≡◌, ◌<◌, ℕ, suc, length, Bool, true, false, cond, not, ◌&&◌, ◌==◌, List, [], ◌∷◌, ◌++◌}
use Rattle.std.proofs.Common.{refl, sym, ap, subst, ◌∙◌, inl, inr, Option, Some, None, Result, Ok, Err}
use Rattle.std.proofs.lemmas.Option.{same_Some}
use Rattle.std.proofs.lemmas.Bool.{and_parts}
use Rattle.std.specs.List.{AllByRecursion, filter}
use Rattle.std.specs.Option.{option_map, option_and_then}
use Rattle.ent_lock.specs.Mode.{mode_rank}
use Rattle.ent_tree.specs.declared.declaration.Create.{Create}
use Rattle.ent_tree.specs.declared.entangled.Entangled.{Entangled}
use Rattle.ent_tree.specs.declared.script.Statement.{Statement}
use Rattle.ent_tree.specs.declared.script.Statement.TheVariants as statements
use Rattle.ent_semantics.specs.declared.answer.Failure.{Failure}
use Rattle.ent_semantics.specs.Database.{Name, Database, Environment, nothing_bound}
use Rattle.ent_semantics.specs.Effect.{Effect}
use Rattle.ent_semantics.specs.Entangled.{Valuation, is_grounding}
use Rattle.ent_semantics.specs.Further.{one_more}
use Rattle.ent_semantics.specs.Joint.{IsGrounded}
use Rattle.ent_semantics.specs.Serial.{Operation, Run, answered_first, after, run, seen, seen_after, read_views}
use Rattle.ent_semantics.specs.Statement.{statement_meaning}
use Rattle.ent_semantics.specs.Uses.{changes, Agree, Covers, EffectsAlike, KeepsOthers, RunsAlike, CoversAll}
use Rattle.ent_semantics.specs.Closing.{closed, closed_entangled}
use Rattle.ent_semantics.specs.Form.{Tables, closed_worth, known_worth, form_meaning, is_form_grounding}
use Rattle.ent_semantics.specs.Form.{form_heads, form_posts}
use Rattle.ent_semantics.specs.declared.entangled.Entangled.{Entangled as FormEntangled}
use Rattle.ent_semantics.specs.declared.operand.Known.{Known}
use Rattle.ent_semantics.specs.declared.statement.Statement.{Statement as FormStatement}
use Rattle.ent_protocol.specs.Member.{environment_of}
use Rattle.ent_protocol.specs.State.{Member, Use}
use Rattle.ent_protocol_laws.specs.Faithful.{table_number, is_used, is_owned}
use Rattle.ent_protocol_laws.specs.History.{History, Replays, AreSerial}
use Rattle.ent_lists.specs.Elements.{In, Pairs, all_by, all_first, all_second, all_joined, all_filtered, of_all, to_all}
use Rattle.ent_lists.specs.Elements.{of_filter, clash, not_so, or_first, or_second, or_cases}

-- what a statement keeps to, as a law of a lower crate says it
pub record Laws : Type 0 where
  pub reads : (some : Name → Bool) (declared : List Create) (statement : Statement) (valuation : Valuation)
      (environment : Environment) (first second : Database) → Covers some statement → Agree some first second
      → EffectsAlike (Agree some) (statement_meaning declared statement valuation first environment)
      (statement_meaning declared statement valuation second environment)
  pub grounds : (some : Name → Bool) (declared : List Create) (environment : Environment) (entangled : Entangled)
      (valuation : Valuation) (first second : Database) → Covers some (statements.Entangled entangled)
      → Agree some first second
      → is_grounding declared first environment entangled valuation
      ≡ is_grounding declared second environment entangled valuation
  pub changes : (declared : List Create) (statement : Statement) (valuation : Valuation)
      (environment : Environment) (database : Database)
      → KeepsOthers statement database (statement_meaning declared statement valuation database environment)
  pub runs : (some : Name → Bool) (declared : List Create) (operations : List Operation) (environment : Environment)
      (first second : Database) → CoversAll some operations → Agree some first second
      → RunsAlike (Agree some) (run declared operations first environment) (run declared operations second environment)
  pub goes_on : (declared : List Create) (operations : List Operation) (operation : Operation) (database : Database)
      (environment : Environment) → run declared (operations ++ operation ∷ []) database environment
      ≡ option_and_then (one_more declared operation) (run declared operations database environment)
  -- and what a resolved statement means is what it means closed
  pub closes : (statement : FormStatement Known) (valuation : Valuation) (tables : Tables)
      (environment : Environment)
      → form_meaning closed_worth (closed environment statement) valuation tables environment
      ≡ form_meaning known_worth statement valuation tables environment
  pub closes_grounds : (environment : Environment) (tables : Tables) (entangled : FormEntangled Known)
      (valuation : Valuation)
      → is_form_grounding (λ value. value) tables (closed_entangled environment entangled) valuation
      ≡ is_form_grounding (known_worth environment) tables entangled valuation
  pub closes_heads : (environment : Environment) (entangled : FormEntangled Known) (valuation : Valuation)
      → form_heads (λ value. value) (closed_entangled environment entangled) valuation
      ≡ form_heads (known_worth environment) entangled valuation
  pub closes_posts : (environment : Environment) (entangled : FormEntangled Known) (valuation : Valuation)
      → form_posts (λ value. value) (closed_entangled environment entangled) valuation
      ≡ form_posts (known_worth environment) entangled valuation

-- ---- uses by name

abbrev pub held : List Create → List Use → Name → Bool
held declared uses name = is_used uses (table_number declared name)

abbrev pub owned : List Create → List Use → Name → Bool
owned declared uses name = is_owned uses (table_number declared name)

-- an operation changes tables that are used exclusively
abbrev pub WritesWithin : List Create → List Use → Operation → Type 0
WritesWithin declared uses operation =
    (name : Name) → changes operation.statement name ≡ true → owned declared uses name ≡ true

-- a member holds the uses of what it did
pub record IsCovered (declared : List Create) (history : History) : Type 0 where
  pub reads : CoversAll (held declared history.member.uses) history.operations
  pub writes : AllByRecursion (WritesWithin declared history.member.uses) history.operations
  -- tables that are declared
  pub within : (table : ℕ) → is_used history.member.uses table ≡ true → table < length declared

-- no uses of two members are in conflict
abbrev pub Apart : Member → Member → Type 0
Apart one other =
    (table : ℕ) → (is_owned one.uses table ≡ true → is_used other.uses table ≡ false)
    × (is_owned other.uses table ≡ true → is_used one.uses table ≡ false)

pub apart_turned : (one other : Member) → Apart one other → Apart other one
apart_turned one other apart table = ((apart table).1, (apart table).0)

pub owned_used : (uses : List Use) (table : ℕ) → is_owned uses table ≡ true → is_used uses table ≡ true
owned_used [] table e = e
owned_used (own ∷ uses) table e =
    elim (or_cases ((own.table == table) && (mode_rank own.mode == 1)) (is_owned uses table) e) [
      | inl here ↦ or_first (own.table == table) (is_used uses table) (and_parts _ _ here).0
      | inr there ↦ or_second (own.table == table) (is_used uses table) (owned_used uses table there)
    ]

-- a table that one uses isn't owned by one that is apart from it
pub unowned : (one other : Member) (table : ℕ) → Apart one other → is_used one.uses table ≡ true
    → is_owned other.uses table ≡ false
unowned one other table apart used =
    not_so (is_owned other.uses table) (λ is. clash (is_used one.uses table) used ((apart table).1 is))

-- ---- what isn't changed stays

module _ (declared : List Create) (laws : Laws) where
  -- operations leave a table as it was, from wherever they run
  abbrev FromThere : List Operation → Name → Type 0
  FromThere more name =
      (effect : Effect Database) (r : Run) → run declared more effect.database effect.environment ≡ Some r
      → r.database name ≡ effect.database name

  run_other : (operations : List Operation) (database : Database) (environment : Environment) (last : Run) (name : Name)
      → run declared operations database environment ≡ Some last
      → AllByRecursion (λ operation. changes operation.statement name ≡ false) operations
      → last.database name ≡ database name
  run_other [] database environment last name is none =
      ap (λ (r : Run). r.database name) (sym (same_Some _ last is))
  run_other (operation ∷ more) database environment last name is none =
      by (statement_meaning declared operation.statement operation.valuation database environment)
      (laws.changes declared operation.statement operation.valuation environment database) is
      (λ effect r e. run_other more effect.database effect.environment r name e none.1)
    where
      rest : FromThere more name → (effect : Effect Database) (x : Option Run)
          → run declared more effect.database effect.environment ≡ x
          → option_map (answered_first effect.answer) x ≡ Some last
          → last.database name ≡ effect.database name
      rest further effect None e g = cc
      rest further effect (Some r) e g =
          ap (λ (r : Run). r.database name) (sym (same_Some (answered_first effect.answer r) last g))
          ∙ further effect r e

      by : (x : Result (Effect Database) Failure) → KeepsOthers operation.statement database x
          → after x (run declared more) ≡ Some last → FromThere more name → last.database name ≡ database name
      by (Ok effect) keeps g further =
          rest further effect (run declared more effect.database effect.environment) refl g ∙ keeps name none.0
      by (Err failure) keeps g further = cc

  pub kept : (history : History) (first last : Database) (name : Name) → IsCovered declared history
      → Replays declared history first last → owned declared history.member.uses name ≡ false
      → last name ≡ first name
  kept history first last name covered replays out =
      run_other history.operations first nothing_bound
      (record {
        database = last;
        environment = environment_of history.member;
        answers = history.member.answers;
      }) name replays.runs
      (all_by (WritesWithin declared history.member.uses) (λ operation. changes operation.statement name ≡ false)
      history.operations
      (λ operation writes. not_so (changes operation.statement name)
      (λ is. clash (owned declared history.member.uses name) (writes name is) out)) covered.writes)

  -- ---- what is alike where it is read

  seen_alike : (some : Name → Bool) (tx place : ℕ) (statement : Statement) (valuation : Valuation)
      (first second : Database) (environment : Environment) → Covers some statement → Agree some first second
      → AllByRecursion (IsGrounded declared)
      (seen tx place (record { statement = statement; valuation = valuation }) first environment)
      → AllByRecursion (IsGrounded declared)
      (seen tx place (record { statement = statement; valuation = valuation }) second environment)
  seen_alike some tx place (statements.Entangled entangled) valuation first second environment covers agree h =
      (sym (laws.grounds some declared environment entangled valuation first second covers agree) ∙ h.0, tt)
  seen_alike some tx place (statements.Select select) valuation first second environment covers agree h = tt
  seen_alike some tx place (statements.Insert insert) valuation first second environment covers agree h = tt
  seen_alike some tx place (statements.Delete delete) valuation first second environment covers agree h = tt
  seen_alike some tx place (statements.Update update) valuation first second environment covers agree h = tt
  seen_alike some tx place (statements.Set setting) valuation first second environment covers agree h = tt

  grounded_alike : (some : Name → Bool) (tx place : ℕ) (operations : List Operation) (first second : Database)
      (environment : Environment) → CoversAll some operations → Agree some first second
      → AllByRecursion (IsGrounded declared) (read_views declared tx place operations first environment)
      → AllByRecursion (IsGrounded declared) (read_views declared tx place operations second environment)
  grounded_alike some tx place [] first second environment covers agree h = tt
  grounded_alike some tx place (operation ∷ more) first second environment covers agree h =
      all_joined (IsGrounded declared) (seen tx place operation second environment) _
      (seen_alike some tx place operation.statement operation.valuation first second environment covers.0 agree
      (all_first (IsGrounded declared) (seen tx place operation first environment) _ h))
      (by (statement_meaning declared operation.statement operation.valuation first environment)
      (statement_meaning declared operation.statement operation.valuation second environment)
      (laws.reads some declared operation.statement operation.valuation environment first second covers.0 agree)
      (all_second (IsGrounded declared) (seen tx place operation first environment) _ h)
      (λ one other e alike. grounded_alike some tx (suc place) more one other e covers.1 alike))
    where
      by : (x y : Result (Effect Database) Failure) → EffectsAlike (Agree some) x y
          → AllByRecursion (IsGrounded declared) (seen_after x (read_views declared tx (suc place) more))
          → ((one other : Database) (e : Environment) → Agree some one other
          → AllByRecursion (IsGrounded declared) (read_views declared tx (suc place) more one e)
          → AllByRecursion (IsGrounded declared) (read_views declared tx (suc place) more other e))
          → AllByRecursion (IsGrounded declared) (seen_after y (read_views declared tx (suc place) more))
      by (Ok one) (Ok other) alike g further =
          further one.database other.database other.environment alike.2
          (subst (λ e. AllByRecursion (IsGrounded declared) (read_views declared tx (suc place) more one.database e))
          alike.1 g)
      by (Err one) (Err other) alike g further = tt
      by (Ok one) (Err other) alike g further = absurd alike
      by (Err one) (Ok other) alike g further = absurd alike

  -- over a database that is alike where it reads, a member did the same
  pub elsewhere : (history : History) (first last second : Database) → IsCovered declared history
      → Agree (held declared history.member.uses) first second → Replays declared history first last
      → (other : Database) × Replays declared history second other
      × Agree (held declared history.member.uses) last other
  elsewhere history first last second covered agree replays =
      by (run declared history.operations second nothing_bound) refl
      (subst (λ x. RunsAlike (Agree (held declared history.member.uses)) x
      (run declared history.operations second nothing_bound)) replays.runs
      (laws.runs (held declared history.member.uses) declared history.operations nothing_bound first second
      covered.reads
      agree))
    where
      there : Run
      there =
          record {
            database = last;
            environment = environment_of history.member;
            answers = history.member.answers;
          }

      by : (x : Option Run) → run declared history.operations second nothing_bound ≡ x
          → RunsAlike (Agree (held declared history.member.uses)) (Some there) x
          → (other : Database) × Replays declared history second other
          × Agree (held declared history.member.uses) last other
      by None e alike = absurd alike
      by (Some r) e alike = (
        r.database,
        record {
          runs = e
              ∙ (λ i. Some (record {
                database = r.database;
                environment = sym alike.1 i;
                answers = sym alike.0 i;
              }));
          grounded = grounded_alike (held declared history.member.uses) history.member.tx 1 history.operations first
              second
              nothing_bound covered.reads agree replays.grounded;
        },
        alike.2,
      )

  -- ---- two change places

  past_agree : (one other : History) (first next : Database) → IsCovered declared one
      → Apart other.member one.member → Replays declared one first next
      → Agree (held declared other.member.uses) first next
  past_agree one other first next covered apart replays name used =
      sym (kept one first next name covered replays
      (unowned other.member one.member (table_number declared name) apart used))

  pub swap : (one other : History) (first next last : Database) → IsCovered declared one → IsCovered declared other
      → Apart one.member other.member → Replays declared one first next → Replays declared other next last
      → (between : Database) × Replays declared other first between × Replays declared one between last
  swap one other first next last covered also apart here there =
      let turned = apart_turned one.member other.member apart in
      let moved =
      elsewhere other next last first also
      (λ name used. sym (past_agree one other first next covered turned here name used)) there in
      let second =
      elsewhere one first next moved.0 covered (past_agree other one first moved.0 also apart moved.1) here in (
        moved.0,
        moved.1,
        subst (Replays declared one moved.0)
            (λ i name. same moved.0 moved.1 moved.2 second.0 second.1 second.2 name i) second.1,
      )
    where
      same : (between : Database) → Replays declared other first between
          → Agree (held declared other.member.uses) last between → (end : Database)
          → Replays declared one between end → Agree (held declared one.member.uses) next end
          → (name : Name) → end name ≡ last name
      same between moved alike end second also_alike name =
          by (owned declared one.member.uses name) refl (owned declared other.member.uses name) refl
        where
          number : ℕ
          number = table_number declared name

          by : (a : Bool) → owned declared one.member.uses name ≡ a → (b : Bool)
              → owned declared other.member.uses name ≡ b → end name ≡ last name
          by true is b no_matter =
              sym (also_alike name (owned_used one.member.uses (table_number declared name) is))
              ∙ sym (kept other next last name also there
              (not_so (owned declared other.member.uses name) (λ both.
              clash (is_used other.member.uses (table_number declared name))
              (owned_used other.member.uses (table_number declared name) both)
              ((apart (table_number declared name)).0 is))))
          by false is true too =
              kept one between end name covered second is
              ∙ sym (alike name (owned_used other.member.uses (table_number declared name) too))
          by false is false too =
              kept one between end name covered second is ∙ kept other first between name also moved too
              ∙ sym (kept one first next name covered here is) ∙ sym (kept other next last name also there too)

  -- ---- several

  pub serial_joined : (xs ys : List History) (first next last : Database) → AreSerial declared xs first next
      → AreSerial declared ys next last → AreSerial declared (xs ++ ys) first last
  serial_joined [] ys first next last a b = subst (λ d. AreSerial declared ys d last) (sym a) b
  serial_joined (x ∷ xs) ys first next last a b = (a.0, a.1, serial_joined xs ys a.0 next last a.2 b)

  pub serial_parts : (xs ys : List History) (first last : Database) → AreSerial declared (xs ++ ys) first last
      → (next : Database) × AreSerial declared xs first next × AreSerial declared ys next last
  serial_parts [] ys first last a = (first, refl, a)
  serial_parts (x ∷ xs) ys first last a =
      let r = serial_parts xs ys a.0 last a.2 in
      (r.0, (a.0, a.1, r.1), r.2)

  -- what none of some members owns stays
  pub serial_kept : (xs : List History) (first last : Database) (name : Name)
      → AllByRecursion (IsCovered declared) xs → AreSerial declared xs first last
      → ((x : History) → In x xs → owned declared x.member.uses name ≡ false) → last name ≡ first name
  serial_kept [] first last name covered a out = ap (λ (d : Database). d name) (sym a)
  serial_kept (x ∷ xs) first last name covered a out =
      serial_kept xs a.0 last name covered.1 a.2 (λ y at. out y (inr at))
      ∙ kept x first a.0 name covered.0 a.1 (out x (inl refl))

  past : (x : History) (ys zs : List History) (first last : Database) → IsCovered declared x
      → AllByRecursion (IsCovered declared) ys → AllByRecursion (λ y. Apart x.member y.member) ys
      → AreSerial declared (x ∷ ys ++ zs) first last → AreSerial declared (ys ++ x ∷ zs) first last
  past x [] zs first last covered all apart a = a
  past x (y ∷ ys) zs first last covered all apart a =
      let moved = swap x y first a.0 a.2.0 covered all.0 apart.0 a.1 a.2.1 in (
        moved.0,
        moved.1,
        past x ys zs moved.0 last covered all.1 apart.1 (a.2.0, moved.2, a.2.2),
      )

  -- those that pass go first, where each that doesn't is apart from the later ones that do
  pub gather : (p : History → Bool) (xs : List History) (first last : Database)
      → AllByRecursion (IsCovered declared) xs
      → Pairs (λ x y. p x ≡ false → p y ≡ true → Apart x.member y.member) xs → AreSerial declared xs first last
      → AreSerial declared (filter p xs ++ filter (λ x. not (p x)) xs) first last
  gather p [] first last covered pairs a = a
  gather p (x ∷ xs) first last covered pairs a =
      by (p x) refl (gather p xs a.0 last covered.1 pairs.1 a.2)
    where
      by : (b : Bool) → p x ≡ b
          → AreSerial declared (filter p xs ++ filter (λ x. not (p x)) xs) a.0 last
          → AreSerial declared (cond b (x ∷ filter p xs) (filter p xs)
          ++ cond (not b) (x ∷ filter (λ x. not (p x)) xs) (filter (λ x. not (p x)) xs)) first last
      by true is rest = (a.0, a.1, rest)
      by false is rest =
          past x (filter p xs) (filter (λ x. not (p x)) xs) first last covered.0
          (all_filtered (IsCovered declared) p xs covered.1)
          (to_all (λ y. Apart x.member y.member) (filter p xs) (λ y at.
          let r = of_filter p xs y at in
          of_all (λ y. p x ≡ false → p y ≡ true → Apart x.member y.member) xs y pairs.0 r.0 is r.1))
          (a.0, a.1, rest)
