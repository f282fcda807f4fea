-- The entangled statements of what a member did, whatever the database.
use Rattle.std.proofs.Common.{◌≡◌, ◌<◌, ℕ, suc, ◌+◌, Bool, true, false, cond, List, [], ◌∷◌, ◌++◌, map, length, refl}
use Rattle.std.proofs.Common.{sym, ap, subst, ◌∙◌, inl, inr, arith, Option, Some, None, Result, Ok, Err, nat_le}
use Rattle.std.proofs.Common.{append_assoc, append-nil}
use Rattle.std.proofs.lemmas.Option.{same_Some}
use Rattle.std.specs.Option.{option_map}
use Rattle.ent_lists.specs.Sets as set
use Rattle.ent_value.specs.declared.limits.TheConstants.{MOST_ROWS}
use Rattle.ent_value.specs.declared.value.Value.{Value}
use Rattle.ent_tree.specs.declared.declaration.Create.{Create}
use Rattle.ent_tree.specs.declared.entangled.Entangled.{Entangled}
use Rattle.ent_tree.specs.declared.script.Statement.{Statement}
use Rattle.ent_tree.specs.declared.script.Statement.TheVariants as statements
use Rattle.ent_semantics.specs.declared.answer.Answer.{Answer}
use Rattle.ent_semantics.specs.declared.answer.Answer.TheVariants as answers
use Rattle.ent_semantics.specs.declared.answer.Fact.{Fact}
use Rattle.ent_semantics.specs.declared.answer.Failure.{Failure}
use Rattle.ent_semantics.specs.declared.answer.Failure.TheVariants.{TableFull}
use Rattle.ent_semantics.specs.declared.book.Member.{Member as JointMember}
use Rattle.ent_semantics.specs.Database.{Name, Rows, Database, Environment, Table, nothing_bound, table_named}
use Rattle.ent_semantics.specs.Database.{with_value, with_values}
use Rattle.ent_semantics.specs.Effect.{Effect, changed, or_overflow, setting}
use Rattle.ent_semantics.specs.Entangled.{Valuation, heads, posts, bound_values}
use Rattle.ent_semantics.specs.Serial.{Operation, Run, ReadView, answered_first, after, run, seen, seen_after}
use Rattle.ent_semantics.specs.Serial.{read_views}
use Rattle.ent_semantics.specs.Statement.{statement_meaning}
use Rattle.ent_semantics.specs.Term.{known_value, expression_value}
use Rattle.ent_protocol.specs.Member.{environment_of}
use Rattle.ent_protocol_laws.specs.History.{History, Replays, AreSerial}
use Rattle.ent_lists.specs.Elements.{In, in_either, map_joined}

-- an entangled statement that was answered
pub record Ask : Type 0 where
  pub tx : ℕ
  pub place : ℕ
  pub valuation : Valuation
  pub entangled : Entangled
  pub environment : Environment

abbrev pub ask_of : ReadView → Ask
ask_of read_view =
    record {
      tx = read_view.tx;
      place = read_view.place;
      valuation = read_view.valuation;
      entangled = read_view.entangled;
      environment = read_view.environment;
    }

abbrev pub ask_member : Ask → JointMember
ask_member ask = record { tx = ask.tx; place = ask.place; grounding = ask.valuation }

abbrev pub ask_heads : Ask → List Fact
ask_heads ask = heads ask.environment ask.entangled ask.valuation

abbrev pub ask_posts : Ask → List Fact
ask_posts ask = posts ask.environment ask.entangled ask.valuation

-- what is bound after a statement that can be carried out
abbrev bound_after : Name → Option Value → Environment → Environment
bound_after variable (Some value) environment = with_value environment variable value
bound_after variable None environment = environment

abbrev pub next_environment : Statement → Valuation → Environment → Environment
next_environment (statements.Entangled entangled) valuation environment =
    with_values environment (bound_values environment entangled valuation)
next_environment (statements.Set set) valuation environment =
    bound_after set.variable.name (expression_value (known_value environment) set.expression) environment
next_environment (statements.Select select) valuation environment = environment
next_environment (statements.Insert insert) valuation environment = environment
next_environment (statements.Delete delete) valuation environment = environment
next_environment (statements.Update update) valuation environment = environment

abbrev pub asks_at : ℕ → ℕ → Statement → Valuation → Environment → List Ask
asks_at tx place (statements.Entangled entangled) valuation environment =
    record { tx = tx; place = place; valuation = valuation; entangled = entangled; environment = environment } ∷ []
asks_at tx place (statements.Set set) valuation environment = []
asks_at tx place (statements.Select select) valuation environment = []
asks_at tx place (statements.Insert insert) valuation environment = []
asks_at tx place (statements.Delete delete) valuation environment = []
asks_at tx place (statements.Update update) valuation environment = []

abbrev pub asks_of : ℕ → ℕ → List Operation → Environment → List Ask
asks_of tx place [] environment = []
asks_of tx place (operation ∷ more) environment =
    asks_at tx place operation.statement operation.valuation environment
    ++ asks_of tx (suc place) more (next_environment operation.statement operation.valuation environment)

abbrev pub history_asks : History → List Ask
history_asks history = asks_of history.member.tx 1 history.operations nothing_bound

abbrev environment_after : List Operation → Environment → Environment
environment_after [] environment = environment
environment_after (operation ∷ more) environment =
    environment_after more (next_environment operation.statement operation.valuation environment)

-- ---- as a run has them

abbrev AreOne : Result (Effect Database) Failure → Result (Effect Database) Failure → Type 0
AreOne one other = one ≡ other

same_effect : (one other : Effect Database) → AreOne (Ok one) (Ok other) → one ≡ other
same_effect one other e = cc

changed_environment : (table : Table Database) (count : ℕ) (rows : Rows) (database : Database)
    (environment : Environment)
    (effect : Effect Database) → AreOne (changed table count rows database environment) (Ok effect)
    → effect.environment ≡ environment
changed_environment table count rows database environment effect h = by (nat_le (set.len rows) MOST_ROWS) h
  where
    by : (b : Bool) → AreOne (cond b (Ok (record {
      database = table.replaced database rows;
      environment = environment;
      answer = answers.Count count;
    })) (Err TableFull)) (Ok effect) → effect.environment ≡ environment
    by true e = ap (λ (x : Effect Database). x.environment) (sym (same_effect _ effect e))
    by false e = cc

updated_environment : (table : Table Database) (count : ℕ) (rows : Option Rows) (database : Database)
    (environment : Environment) (effect : Effect Database)
    → AreOne (or_overflow rows (changed table count) database environment) (Ok effect)
    → effect.environment ≡ environment
updated_environment table count (Some rows) database environment effect h =
    changed_environment table count rows database environment effect h
updated_environment table count None database environment effect h = cc (h)

set_environment : (variable : Name) (value : Option Value) (database : Database) (environment : Environment)
    (effect : Effect Database) → AreOne (setting variable value database environment) (Ok effect)
    → effect.environment ≡ bound_after variable value environment
set_environment variable (Some value) database environment effect h =
    ap (λ (x : Effect Database). x.environment) (sym (same_effect _ effect h))
set_environment variable None database environment effect h = cc (h)

next_is : (declared : List Create) (st : Statement) (valuation : Valuation) (database : Database)
    (environment : Environment) (effect : Effect Database)
    → AreOne (statement_meaning declared st valuation database environment) (Ok effect)
    → effect.environment ≡ next_environment st valuation environment
next_is declared (statements.Select select) valuation database environment effect h =
    ap (λ (x : Effect Database). x.environment) (sym (same_effect _ effect h))
next_is declared (statements.Entangled entangled) valuation database environment effect h =
    ap (λ (x : Effect Database). x.environment) (sym (same_effect _ effect h))
next_is declared (statements.Insert insert) valuation database environment effect h =
    changed_environment (table_named insert.table.name)
    (cond (set.contains (database insert.table.name) (map (known_value environment) insert.values)) 0 1)
    (set.insert (database insert.table.name) (map (known_value environment) insert.values)) database environment
    effect h
next_is declared (statements.Delete delete) valuation database environment effect h =
    ap (λ (x : Effect Database). x.environment) (sym (same_effect _ effect h))
next_is declared (statements.Update update) valuation database environment effect h =
    updated_environment (table_named update.table.name) _ _ database environment effect h
next_is declared (statements.Set set) valuation database environment effect h =
    set_environment set.variable.name (expression_value (known_value environment) set.expression) database environment
    effect h

seen_asks : (tx place : ℕ) (st : Statement) (valuation : Valuation) (database : Database) (environment : Environment)
    → map ask_of (seen tx place (record { statement = st; valuation = valuation }) database environment)
    ≡ asks_at tx place st valuation environment
seen_asks tx place (statements.Select select) valuation database environment = refl
seen_asks tx place (statements.Entangled entangled) valuation database environment = refl
seen_asks tx place (statements.Insert insert) valuation database environment = refl
seen_asks tx place (statements.Delete delete) valuation database environment = refl
seen_asks tx place (statements.Update update) valuation database environment = refl
seen_asks tx place (statements.Set set) valuation database environment = refl

-- there is a run
abbrev Runs : Option Run → Type 0
Runs x = (r : Run) × (x ≡ Some r)

runs_on : (answer : Answer) (x : Option Run) → Runs (option_map (answered_first answer) x) → Runs x
runs_on answer None r = cc (r.1)
runs_on answer (Some run) r = (run, refl)

pub read_views_asks : (declared : List Create) (tx place : ℕ) (operations : List Operation) (database : Database)
    (environment : Environment) → Runs (run declared operations database environment)
    → map ask_of (read_views declared tx place operations database environment) ≡ asks_of tx place operations
    environment
read_views_asks declared tx place [] database environment is = refl
read_views_asks declared tx place (operation ∷ more) database environment is =
    map_joined ask_of (seen tx place operation database environment)
    (seen_after (statement_meaning declared operation.statement operation.valuation database environment)
    (read_views declared tx (suc place) more))
    ∙ (λ i. seen_asks tx place operation.statement operation.valuation database environment i
    ++ by (statement_meaning declared operation.statement operation.valuation database environment) refl is
    (λ d e r. read_views_asks declared tx (suc place) more d e r) i)
  where
    by : (x : Result (Effect Database) Failure)
        → AreOne (statement_meaning declared operation.statement operation.valuation database environment) x
        → Runs (after x (run declared more))
        → ((d : Database) (e : Environment) → Runs (run declared more d e)
        → map ask_of (read_views declared tx (suc place) more d e) ≡ asks_of tx (suc place) more e)
        → map ask_of (seen_after x (read_views declared tx (suc place) more))
        ≡ asks_of tx (suc place) more (next_environment operation.statement operation.valuation environment)
    by (Ok effect) same r further =
        further effect.database effect.environment
        (runs_on effect.answer (run declared more effect.database effect.environment) r)
        ∙ ap (asks_of tx (suc place) more)
        (next_is declared operation.statement operation.valuation database environment effect same)
    by (Err failure) same r further = cc (r.1)

run_environment : (declared : List Create) (operations : List Operation) (database : Database)
    (environment : Environment)
    (last : Run) → run declared operations database environment ≡ Some last
    → last.environment ≡ environment_after operations environment
run_environment declared [] database environment last is =
    ap (λ (r : Run). r.environment) (sym (same_Some _ last is))
run_environment declared (operation ∷ more) database environment last is =
    by (statement_meaning declared operation.statement operation.valuation database environment) refl is
    (λ d e r h. run_environment declared more d e r h)
  where
    rest : (effect : Effect Database) (x : Option Run) → run declared more effect.database effect.environment ≡ x
        → option_map (answered_first effect.answer) x ≡ Some last
        → ((r : Run) → run declared more effect.database effect.environment ≡ Some r
        → r.environment ≡ environment_after more effect.environment)
        → last.environment ≡ environment_after more effect.environment
    rest effect None e g further = cc (g)
    rest effect (Some r) e g further =
        ap (λ (x : Run). x.environment) (sym (same_Some (answered_first effect.answer r) last g)) ∙ further r e

    by : (x : Result (Effect Database) Failure)
        → AreOne (statement_meaning declared operation.statement operation.valuation database environment) x
        → after x (run declared more) ≡ Some last
        → ((d : Database) (e : Environment) (r : Run) → run declared more d e ≡ Some r
        → r.environment ≡ environment_after more e)
        → last.environment
        ≡ environment_after more (next_environment operation.statement operation.valuation environment)
    by (Ok effect) same g further =
        rest effect (run declared more effect.database effect.environment) refl g
        (further effect.database effect.environment)
        ∙ ap (environment_after more)
        (next_is declared operation.statement operation.valuation database environment effect same)
    by (Err failure) same g further = cc (g)

asks_after : (tx place : ℕ) (operations : List Operation) (operation : Operation) (environment : Environment)
    → asks_of tx place (operations ++ operation ∷ []) environment
    ≡ asks_of tx place operations environment
    ++ asks_at tx (length operations + place) operation.statement operation.valuation
    (environment_after operations environment)
asks_after tx place [] operation environment =
    let n : place ≡ 0 + place = omega arith in
    append-nil (asks_at tx place operation.statement operation.valuation environment)
    ∙ ap (λ k. asks_at tx k operation.statement operation.valuation environment) n
asks_after tx place (d ∷ ds) operation environment =
    let n : length ds + suc place ≡ suc (length ds) + place = omega arith in
    ap (λ more. asks_at tx place d.statement d.valuation environment ++ more)
    (asks_after tx (suc place) ds operation (next_environment d.statement d.valuation environment)
    ∙ ap (λ k. asks_of tx (suc place) ds (next_environment d.statement d.valuation environment)
    ++ asks_at tx k operation.statement operation.valuation
    (environment_after ds (next_environment d.statement d.valuation environment))) n)
    ∙ sym (append_assoc (asks_at tx place d.statement d.valuation environment) _ _)

-- a history with one operation more
pub asks_pushed : (declared : List Create) (x : History) (first last : Database) (operation : Operation)
    → Replays declared x first last
    → asks_of x.member.tx 1 (x.operations ++ operation ∷ []) nothing_bound
    ≡ history_asks x
    ++ asks_at x.member.tx (suc (length x.operations)) operation.statement operation.valuation (environment_of x.member)
asks_pushed declared x first last operation replays =
    let n : length x.operations + 1 ≡ suc (length x.operations) = omega arith in
    let bound = sym (run_environment declared x.operations first nothing_bound (record {
      database = last;
      environment = environment_of x.member;
      answers = x.member.answers;
    }) replays.runs) in
    asks_after x.member.tx 1 x.operations operation nothing_bound
    ∙ (λ i. history_asks x
    ++ asks_at x.member.tx (n i) operation.statement operation.valuation (bound i))

asks_at_tx : (tx place : ℕ) (st : Statement) (valuation : Valuation) (environment : Environment) (ask : Ask)
    → In ask (asks_at tx place st valuation environment) → ask.tx ≡ tx
asks_at_tx tx place (statements.Entangled entangled) valuation environment ask (inl same) =
    ap (λ (a : Ask). a.tx) same
asks_at_tx tx place (statements.Entangled entangled) valuation environment ask (inr bad) = absurd bad
asks_at_tx tx place (statements.Select select) valuation environment ask at = absurd at
asks_at_tx tx place (statements.Insert insert) valuation environment ask at = absurd at
asks_at_tx tx place (statements.Delete delete) valuation environment ask at = absurd at
asks_at_tx tx place (statements.Update update) valuation environment ask at = absurd at
asks_at_tx tx place (statements.Set set) valuation environment ask at = absurd at

-- an entangled statement is of its member
pub asks_tx : (tx place : ℕ) (operations : List Operation) (environment : Environment) (ask : Ask)
    → In ask (asks_of tx place operations environment) → ask.tx ≡ tx
asks_tx tx place [] environment ask at = absurd at
asks_tx tx place (operation ∷ more) environment ask at =
    elim (in_either (asks_at tx place operation.statement operation.valuation environment) _ ask at) [
      | inl a ↦ asks_at_tx tx place operation.statement operation.valuation environment ask a
      | inr b ↦ asks_tx tx (suc place) more (next_environment operation.statement operation.valuation environment) ask b
    ]

asks_at_place : (tx place : ℕ) (st : Statement) (valuation : Valuation) (environment : Environment) (ask : Ask)
    → In ask (asks_at tx place st valuation environment) → ask.place ≡ place
asks_at_place tx place (statements.Entangled entangled) valuation environment ask (inl same) =
    ap (λ (a : Ask). a.place) same
asks_at_place tx place (statements.Entangled entangled) valuation environment ask (inr bad) = absurd bad
asks_at_place tx place (statements.Select select) valuation environment ask at = absurd at
asks_at_place tx place (statements.Insert insert) valuation environment ask at = absurd at
asks_at_place tx place (statements.Delete delete) valuation environment ask at = absurd at
asks_at_place tx place (statements.Update update) valuation environment ask at = absurd at
asks_at_place tx place (statements.Set set) valuation environment ask at = absurd at

-- it is one of the statements that were passed
pub asks_place : (tx place : ℕ) (operations : List Operation) (environment : Environment) (ask : Ask)
    → In ask (asks_of tx place operations environment) → ask.place < place + length operations
asks_place tx place [] environment ask at = absurd at
asks_place tx place (operation ∷ more) environment ask at =
    elim (in_either (asks_at tx place operation.statement operation.valuation environment) _ ask at) [
      | inl a ↦
          let e = asks_at_place tx place operation.statement operation.valuation environment ask a in
          omega (e, arith)
      | inr b ↦
          let h = asks_place tx (suc place) more (next_environment operation.statement operation.valuation environment)
          ask b in
          omega (h, arith)
    ]

pub replays_in : (declared : List Create) (all : List History) (first last : Database)
    → AreSerial declared all first last → (x : History) → In x all
    → (before : Database) × (after : Database) × Replays declared x before after
replays_in declared [] first last serial x at = absurd at
replays_in declared (h ∷ more) first last serial x (inl same) =
    (first, serial.0, subst (λ y. Replays declared y first serial.0) (sym same) serial.1)
replays_in declared (h ∷ more) first last serial x (inr at) = replays_in declared more serial.0 last serial.2 x at
