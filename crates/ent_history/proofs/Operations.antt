-- Statements run one after the other, each entangled one with the grounding that is told.
use Rattle.std.proofs.Common.{◌≡◌, ℕ, zero, suc, ◌+◌, Bool, true, false, cond, List, [], ◌∷◌, ◌++◌, length, refl, sym}
use Rattle.std.proofs.Common.{ap, subst, ◌∙◌, inl, inr, arith, Option, Some, None, Result, Ok, Err, flat_map, slice_get}
use Rattle.std.specs.List.{AllByRecursion}
use Rattle.std.specs.Option.{option_map, option_and_then}
use Rattle.ent_tree.specs.declared.declaration.Create.{Create}
use Rattle.ent_tree.specs.declared.entangled.Entangled.{Entangled}
use Rattle.ent_tree.specs.declared.script.Statement.{Statement}
use Rattle.ent_tree.specs.declared.script.Statement.TheVariants as statements
use Rattle.ent_semantics.specs.declared.answer.Answer.{Answer}
use Rattle.ent_semantics.specs.declared.answer.Failure.{Failure}
use Rattle.ent_semantics.specs.Database.{Database, Environment}
use Rattle.ent_semantics.specs.Effect.{Effect}
use Rattle.ent_semantics.specs.Entangled.{Valuation, is_grounding}
use Rattle.ent_semantics.specs.Joint.{IsGrounded}
use Rattle.ent_semantics.specs.Serial.{Operation, Run, ReadView, is_entangled, operation_first, operations_of}
use Rattle.ent_semantics.specs.Serial.{answered_first}
use Rattle.ent_semantics.specs.Serial.{after, run, seen, seen_after, read_views}
use Rattle.ent_semantics.specs.Statement.{statement_meaning}
use Rattle.ent_history.specs.Journal.{unless}
use Rattle.ent_history.specs.Placed.{Placed, grounding_of, member_at, told_operations}
use Rattle.ent_history.specs.Replay.{is_answered, later, found_after, ground_finding, ungrounded, operations_findings}
use Rattle.ent_history.specs.declared.finding.Rule.TheVariants as rule
use Rattle.ent_history.specs.declared.finding.Thing.TheVariants as thing
use Rattle.ent_history.proofs.Alike.{equal_answers, answer_itself}
use Rattle.ent_history.proofs.Found.{unless_holds, holds_unless}
use Rattle.ent_lists.specs.Elements.{In, all_joined, in_first, in_second, in_either, clash}
use Rattle.ent_lists.proofs.Numbers.{plus_zero, plus_suc}
use Rattle.ent_history.proofs.RuleLists.{none_first, none_second, both_none}

-- ---- options

pub mapped_some : {X Y : Type 0} (f : X → Y) (o : Option X) (y : Y) → option_map f o ≡ Some y
    → (x : X) × (o ≡ Some x) × (y ≡ f x)
mapped_some f None y e = cc (e)
mapped_some {X} {Y} f (Some x) y e = (x, refl, one (f x) y e)
  where
    one : (z y : Y) → Some z ≡ Some y → y ≡ z
    one z y e = cc

pub then_some : {X Y : Type 0} (f : X → Option Y) (o : Option X) (y : Y) → option_and_then f o ≡ Some y
    → (x : X) × (o ≡ Some x) × (f x ≡ Some y)
then_some f None y e = cc (e)
then_some f (Some x) y e = (x, refl, e)

-- what is seen after a statement
pub in_after : (m : Result (Effect Database) Failure) (f : Database → Environment → List ReadView) (s : ReadView)
    → In s (seen_after m f) → (d : Database) × (v : Environment) × In s (f d v)
in_after (Ok effect) f s at = (effect.database, effect.environment, at)
in_after (Err failure) f s at = absurd at

-- a run goes on only after an effect
pub record GoesOn (m : Result (Effect Database) Failure) (more : Database → Environment → Option Run) (r : Run)
    : Type 0 where
  pub effect : Effect Database
  pub is : m ≡ Ok effect
  pub rest : Run
  pub rests : more effect.database effect.environment ≡ Some rest
  pub whole : r ≡ answered_first effect.answer rest

pub goes_on : (m : Result (Effect Database) Failure) (more : Database → Environment → Option Run) (r : Run)
    → after m more ≡ Some r → GoesOn m more r
goes_on (Ok effect) more r e =
    let x = mapped_some (answered_first effect.answer) (more effect.database effect.environment) r e in
    record { effect = effect; is = refl; rest = x.0; rests = x.1; whole = x.2 }
goes_on (Err failure) more r e = cc (e)

-- ---- what a statement sees

pub record SeenOne (tx place : ℕ) (st : Statement) (valuation : Valuation) (s : ReadView) : Type 0 where
  pub own : s.tx ≡ tx
  pub here : s.place ≡ place
  pub is : st ≡ statements.Entangled s.entangled
  pub value : s.valuation ≡ valuation

pub seen_one : (tx place : ℕ) (st : Statement) (valuation : Valuation) (d : Database) (v : Environment) (s : ReadView)
    → In s (seen tx place (record { statement = st; valuation = valuation }) d v) → SeenOne tx place st valuation s
seen_one tx place (statements.Entangled entangled) valuation d v s (inl same) =
    record {
      own = ap (λ (x : ReadView). x.tx) same;
      here = ap (λ (x : ReadView). x.place) same;
      is = ap (λ (x : ReadView). statements.Entangled x.entangled) (sym same);
      value = ap (λ (x : ReadView). x.valuation) same;
    }
seen_one tx place (statements.Entangled entangled) valuation d v s (inr bad) = absurd bad
seen_one tx place (statements.Select select) valuation d v s at = absurd at
seen_one tx place (statements.Insert insert) valuation d v s at = absurd at
seen_one tx place (statements.Delete delete) valuation d v s at = absurd at
seen_one tx place (statements.Update update) valuation d v s at = absurd at
seen_one tx place (statements.Set setting) valuation d v s at = absurd at

abbrev SeesAt : ℕ → ℕ → List ReadView → Type 0
SeesAt tx place seen_here = (s : ReadView) × In s seen_here × (s.tx ≡ tx) × (s.place ≡ place)

sees_one : (tx place : ℕ) (st : Statement) (valuation : Valuation) (d : Database) (v : Environment)
    → is_entangled st ≡ true
    → (s : ReadView) × In s (seen tx place (record { statement = st; valuation = valuation }) d v)
    × SeenOne tx place st valuation s
sees_one tx place (statements.Entangled entangled) valuation d v is = (
  record {
    tx = tx;
    place = place;
    valuation = valuation;
    entangled = entangled;
    database = d;
    environment = v;
  },
  inl refl,
  record { own = refl; here = refl; is = refl; value = refl },
)
sees_one tx place (statements.Select select) valuation d v is = cc (is)
sees_one tx place (statements.Insert insert) valuation d v is = cc (is)
sees_one tx place (statements.Delete delete) valuation d v is = cc (is)
sees_one tx place (statements.Update update) valuation d v is = cc (is)
sees_one tx place (statements.Set setting) valuation d v is = cc (is)

entangled_so : (st : Statement) (entangled : Entangled) → st ≡ statements.Entangled entangled → is_entangled st ≡ true
entangled_so st entangled e = ap is_entangled e

-- ---- the operations that an oracle's answers make

pub record SplitOperations (st : Statement) (more : List Statement) (operations : List Operation) : Type 0 where
  pub valuation : Valuation
  pub rest : List Operation
  pub others : List Valuation
  pub rests : operations_of more others ≡ Some rest
  pub whole : operations ≡ record { statement = st; valuation = valuation } ∷ rest
  pub plain : is_entangled st ≡ false → valuation ≡ []

split_plain : (st : Statement) (more : List Statement) (oracle : List Valuation) (operations : List Operation)
    → operation_first st [] (operations_of more oracle) ≡ Some operations → SplitOperations st more operations
split_plain st more oracle operations e =
    let x = mapped_some (λ (ds : List Operation). record { statement = st; valuation = [] } ∷ ds)
    (operations_of more oracle)
    operations e in
    record { valuation = []; rest = x.0; others = oracle; rests = x.1; whole = x.2; plain = λ p. refl }

split_operations : (st : Statement) (more : List Statement) (oracle : List Valuation) (operations : List Operation)
    → operations_of (st ∷ more) oracle ≡ Some operations → SplitOperations st more operations
split_operations (statements.Entangled entangled) more [] operations e = cc (e)
split_operations (statements.Entangled entangled) more (valuation ∷ oracle) operations e =
    let x = mapped_some
    (λ (ds : List Operation). record { statement = statements.Entangled entangled; valuation = valuation } ∷ ds)
    (operations_of more oracle) operations e in
    record {
      valuation = valuation;
      rest = x.0;
      others = oracle;
      rests = x.1;
      whole = x.2;
      plain = λ p. cc (p);
    }
split_operations (statements.Select select) more oracle operations e =
    split_plain (statements.Select select) more oracle operations e
split_operations (statements.Insert insert) more oracle operations e =
    split_plain (statements.Insert insert) more oracle operations e
split_operations (statements.Delete delete) more oracle operations e =
    split_plain (statements.Delete delete) more oracle operations e
split_operations (statements.Update update) more oracle operations e =
    split_plain (statements.Update update) more oracle operations e
split_operations (statements.Set setting) more oracle operations e =
    split_plain (statements.Set setting) more oracle operations e

abbrev pub oracle_of : List Operation → List Valuation
oracle_of [] = []
oracle_of (operation ∷ more) = cond (is_entangled operation.statement) (operation.valuation ∷ oracle_of more)
    (oracle_of more)

module _ (declared : List Create) (members : List Placed) where
  abbrev pub Stands : ℕ → ℕ → Type 0
  Stands tx place = (one : Placed) × (member_at members tx place ≡ Some one)

  -- each entangled statement stands in a joint answer
  abbrev pub AllStand : ℕ → ℕ → List Statement → Type 0
  AllStand tx place [] = Unit {0}
  AllStand tx place (st ∷ more) = (is_entangled st ≡ true → Stands tx place) × AllStand tx (suc place) more

  abbrev told_valuation : ℕ → ℕ → Statement → Valuation
  told_valuation tx place st = cond (is_entangled st) (grounding_of (member_at members tx place)) []

  -- ---- the oracle that gives the groundings that are told

  again : (st : Statement) (valuation : Valuation) (sts : List Statement) (more : List Operation)
      → operations_of sts (oracle_of more) ≡ Some more
      → operations_of (st ∷ sts)
      (cond (is_entangled st) (cond (is_entangled st) valuation [] ∷ oracle_of more) (oracle_of more))
      ≡ Some (record { statement = st; valuation = cond (is_entangled st) valuation [] } ∷ more)
  again (statements.Entangled entangled) valuation sts more rest =
      ap (operation_first (statements.Entangled entangled) valuation) rest
  again (statements.Select select) valuation sts more rest = ap (operation_first (statements.Select select) []) rest
  again (statements.Insert insert) valuation sts more rest = ap (operation_first (statements.Insert insert) []) rest
  again (statements.Delete delete) valuation sts more rest = ap (operation_first (statements.Delete delete) []) rest
  again (statements.Update update) valuation sts more rest = ap (operation_first (statements.Update update) []) rest
  again (statements.Set setting) valuation sts more rest = ap (operation_first (statements.Set setting) []) rest

  pub operations_told : (tx place : ℕ) (sts : List Statement)
      → operations_of sts (oracle_of (told_operations members tx place sts)) ≡ Some
      (told_operations members tx place sts)
  operations_told tx place [] = refl
  operations_told tx place (st ∷ sts) =
      again st (grounding_of (member_at members tx place)) sts (told_operations members tx (suc place) sts)
      (operations_told tx (suc place) sts)

  -- ---- nothing is found

  grounded_one : (s : ReadView) → Stands s.tx s.place → ungrounded declared members s ≡ [] → IsGrounded declared s
  grounded_one s stands none =
      let holds = is_grounding declared s.database s.environment s.entangled s.valuation in
      let one = stands.0 in
      unless_holds holds rule.Ground (thing.Member one.joint one.number)
      ((λ i. ground_finding (sym stands.1 i) holds) ∙ none)

  grounded_all : (ss : List ReadView) → ((s : ReadView) → In s ss → Stands s.tx s.place)
      → flat_map (ungrounded declared members) ss ≡ [] → AllByRecursion (IsGrounded declared) ss
  grounded_all [] stands none = tt
  grounded_all (s ∷ ss) stands none = (
    grounded_one s (stands s (inl refl))
        (none_first (ungrounded declared members s) (flat_map (ungrounded declared members) ss) none),
    grounded_all ss (λ x at. stands x (inr at))
        (none_second (ungrounded declared members s) (flat_map (ungrounded declared members) ss) none),
  )

  none_where_grounded : (o : Option Placed) (holds : Bool) → holds ≡ true → ground_finding o holds ≡ []
  none_where_grounded None holds is = refl
  none_where_grounded (Some one) holds is = holds_unless holds rule.Ground (thing.Member one.joint one.number) is

  all_grounded : (ss : List ReadView) → AllByRecursion (IsGrounded declared) ss
      → flat_map (ungrounded declared members) ss ≡ []
  all_grounded [] grounded = refl
  all_grounded (s ∷ ss) grounded =
      both_none (ungrounded declared members s) (flat_map (ungrounded declared members) ss)
      (none_where_grounded (member_at members s.tx s.place)
      (is_grounding declared s.database s.environment s.entangled s.valuation) grounded.0)
      (all_grounded ss grounded.1)

  -- statements of which nothing is found run, answer what is told, and have groundings
  pub record IsClean (tx place : ℕ) (operations : List Operation) (answers : List Answer) (d : Database)
      (v : Environment)
      : Type 0 where
    pub left : Run
    pub runs : run declared operations d v ≡ Some left
    pub same : left.answers ≡ answers
    pub grounded : AllByRecursion (IsGrounded declared) (read_views declared tx place operations d v)

  stands_now : (tx place : ℕ) (st : Statement) (valuation : Valuation) (d : Database) (v : Environment)
      → (is_entangled st ≡ true → Stands tx place) → (s : ReadView)
      → In s (seen tx place (record { statement = st; valuation = valuation }) d v) → Stands s.tx s.place
  stands_now tx place st valuation d v stands s at =
      let one = seen_one tx place st valuation d v s at in
      let r = stands (entangled_so st s.entangled one.is) in
      (r.0, (λ i. member_at members (one.own i) (one.here i)) ∙ r.1)

  abbrev Later : ℕ → ℕ → List Operation → List Answer → Type 0
  Later tx place operations answers =
      (d : Database) (v : Environment) → operations_findings declared members tx place operations answers d v ≡ []
      → IsClean tx place operations answers d v

  clean_step : (tx place : ℕ) (st : Statement) (valuation : Valuation) (more : List Operation) (answer : Answer)
      (others : List Answer) (d : Database) (v : Environment) (m : Result (Effect Database) Failure)
      → statement_meaning declared st valuation d v ≡ m
      → operations_findings declared members tx place (record { statement = st; valuation = valuation } ∷ more)
      (answer ∷ others) d v ≡ []
      → (is_entangled st ≡ true → Stands tx place) → Later tx (suc place) more others
      → IsClean tx place (record { statement = st; valuation = valuation } ∷ more) (answer ∷ others) d v
  clean_step tx place st valuation more answer others d v m is none stands next =
      let meaning = statement_meaning declared st valuation d v in
      let unmet = flat_map (ungrounded declared members)
      (seen tx place (record { statement = st; valuation = valuation }) d v) in
      let wrong = unless (is_answered meaning (answer ∷ others)) rule.Answer (thing.Answer tx place) in
      let later = found_after meaning (operations_findings declared members tx (suc place) more others) in
      let behind = none_second unmet (wrong ++ later) none in
      by m is (none_first unmet (wrong ++ later) none)
      (unless_holds (is_answered meaning (answer ∷ others)) rule.Answer (thing.Answer tx place)
      (none_first wrong later behind))
      (none_second wrong later behind)
    where
      by : (m : Result (Effect Database) Failure) → statement_meaning declared st valuation d v ≡ m
          → flat_map (ungrounded declared members)
          (seen tx place (record { statement = st; valuation = valuation }) d v) ≡ []
          → is_answered (statement_meaning declared st valuation d v) (answer ∷ others) ≡ true
          → found_after (statement_meaning declared st valuation d v)
          (operations_findings declared members tx (suc place) more others) ≡ []
          → IsClean tx place (record { statement = st; valuation = valuation } ∷ more) (answer ∷ others) d v
      by (Err failure) is unmet answered later =
          clash (is_answered (statement_meaning declared st valuation d v) (answer ∷ others)) answered
          (ap (λ m. is_answered m (answer ∷ others)) is)
      by (Ok effect) is unmet answered later =
          let same = equal_answers effect.answer answer
          (ap (λ m. is_answered m (answer ∷ others)) (sym is) ∙ answered) in
          let rest = next effect.database effect.environment
          (ap (λ m. found_after m (operations_findings declared members tx (suc place) more others)) (sym is)
          ∙ later) in
          record {
            left = answered_first effect.answer rest.left;
            runs = ap (λ m. after m (run declared more)) is
                ∙ ap (option_map (answered_first effect.answer)) rest.runs;
            same = λ i. same i ∷ rest.same i;
            grounded = all_joined (IsGrounded declared)
                (seen tx place (record { statement = st; valuation = valuation }) d v)
                (seen_after (statement_meaning declared st valuation d v) (read_views declared tx (suc place) more))
                (grounded_all (seen tx place (record { statement = st; valuation = valuation }) d v)
                (stands_now tx place st valuation d v stands) unmet)
                (subst (λ m. AllByRecursion (IsGrounded declared)
                (seen_after m (read_views declared tx (suc place) more))) (sym is) rest.grounded);
          }

  pub clean_operations : (tx place : ℕ) (sts : List Statement) (answers : List Answer) (d : Database) (v : Environment)
      → operations_findings declared members tx place (told_operations members tx place sts) answers d v ≡ []
      → length answers ≡ length sts → AllStand tx place sts
      → IsClean tx place (told_operations members tx place sts) answers d v
  clean_operations tx place [] [] d v none counts stands =
      record {
        left = record { database = d; environment = v; answers = [] };
        runs = refl;
        same = refl;
        grounded = tt;
      }
  clean_operations tx place [] (answer ∷ others) d v none counts stands = absurd (omega (arith, counts))
  clean_operations tx place (st ∷ sts) [] d v none counts stands = absurd (omega (arith, counts))
  clean_operations tx place (st ∷ sts) (answer ∷ others) d v none counts stands =
      clean_step tx place st (told_valuation tx place st) (told_operations members tx (suc place) sts) answer others d v
      (statement_meaning declared st (told_valuation tx place st) d v) refl none stands.0
      (λ e w found. clean_operations tx (suc place) sts others e w found (omega (arith, counts)) stands.1)

  -- and of statements that run so nothing is found
  right_step : (tx place : ℕ) (st : Statement) (valuation : Valuation) (more : List Operation) (d : Database)
      (v : Environment) (r : Run)
      (on : GoesOn (statement_meaning declared st valuation d v) (run declared more) r)
      → AllByRecursion (IsGrounded declared) (seen tx place (record { statement = st; valuation = valuation }) d v)
      → operations_findings declared members tx (suc place) more on.rest.answers on.effect.database
      on.effect.environment
      ≡ []
      → operations_findings declared members tx place (record { statement = st; valuation = valuation } ∷ more)
      (on.effect.answer ∷ on.rest.answers) d v ≡ []
  right_step tx place st valuation more d v r on grounded rest =
      let answers = on.effect.answer ∷ on.rest.answers in
      let meaning = statement_meaning declared st valuation d v in
      both_none
      (flat_map (ungrounded declared members)
      (seen tx place (record { statement = st; valuation = valuation }) d v))
      (unless (is_answered meaning answers) rule.Answer (thing.Answer tx place)
      ++ found_after meaning (operations_findings declared members tx (suc place) more (later answers)))
      (all_grounded (seen tx place (record { statement = st; valuation = valuation }) d v) grounded)
      (both_none (unless (is_answered meaning answers) rule.Answer (thing.Answer tx place))
      (found_after meaning (operations_findings declared members tx (suc place) more (later answers)))
      (holds_unless (is_answered meaning answers) rule.Answer (thing.Answer tx place)
      (ap (λ m. is_answered m answers) on.is ∙ answer_itself on.effect.answer))
      (ap (λ m. found_after m (operations_findings declared members tx (suc place) more (later answers))) on.is ∙ rest))

  pub right_operations : (tx place : ℕ) (operations : List Operation) (answers : List Answer) (d : Database)
      (v : Environment)
      (r : Run) → run declared operations d v ≡ Some r → r.answers ≡ answers
      → AllByRecursion (IsGrounded declared) (read_views declared tx place operations d v)
      → operations_findings declared members tx place operations answers d v ≡ []
  right_operations tx place [] answers d v r runs same grounded = refl
  right_operations tx place (operation ∷ more) answers d v r runs same grounded =
      let on = goes_on (statement_meaning declared operation.statement operation.valuation d v) (run declared more) r
      runs in
      let here = seen tx place operation d v in
      let parts = all_parts here
      (seen_after (statement_meaning declared operation.statement operation.valuation d v)
      (read_views declared tx (suc place) more))
      grounded in
      subst (λ told. operations_findings declared members tx place (operation ∷ more) told d v ≡ [])
      (ap (λ (x : Run). x.answers) (sym on.whole) ∙ same)
      (right_step tx place operation.statement operation.valuation more d v r on parts.0
      (right_operations tx (suc place) more on.rest.answers on.effect.database on.effect.environment on.rest on.rests
      refl
      (subst (λ m. AllByRecursion (IsGrounded declared) (seen_after m (read_views declared tx (suc place) more))) on.is
      parts.1)))
    where
      all_parts : (xs ys : List ReadView) → AllByRecursion (IsGrounded declared) (xs ++ ys)
          → AllByRecursion (IsGrounded declared) xs × AllByRecursion (IsGrounded declared) ys
      all_parts [] ys all = (tt, all)
      all_parts (x ∷ xs) ys all = let r = all_parts xs ys all.1 in ((all.0, r.0), r.1)

  -- ---- what such statements see

  pub record SeenTold (tx place : ℕ) (sts : List Statement) (s : ReadView) : Type 0 where
    pub before : ℕ
    pub own : s.tx ≡ tx
    pub here : s.place ≡ place + before
    pub there : slice_get sts before ≡ Some (statements.Entangled s.entangled)
    pub value : s.valuation ≡ grounding_of (member_at members s.tx s.place)

  seen_told_now : (tx place : ℕ) (st : Statement) (more : List Statement) (s : ReadView)
      → SeenOne tx place st (told_valuation tx place st) s → SeenTold tx place (st ∷ more) s
  seen_told_now tx place st more s one =
      record {
        before = 0;
        own = one.own;
        here = one.here ∙ plus_zero place;
        there = ap (λ x. Some x) one.is;
        value = one.value
            ∙ ap (λ b. cond b (grounding_of (member_at members tx place)) []) (entangled_so st s.entangled one.is)
            ∙ (λ i. grounding_of (member_at members (sym one.own i) (sym one.here i)));
      }

  pub read_view_told : (tx place : ℕ) (sts : List Statement) (d : Database) (v : Environment) (s : ReadView)
      → In s (read_views declared tx place (told_operations members tx place sts) d v) → SeenTold tx place sts s
  read_view_told tx place [] d v s at = absurd at
  read_view_told tx place (st ∷ sts) d v s at =
      let operation : Operation = record { statement = st; valuation = told_valuation tx place st } in
      let more = read_views declared tx (suc place) (told_operations members tx (suc place) sts) in
      elim (in_either (seen tx place operation d v)
      (seen_after (statement_meaning declared st (told_valuation tx place st) d v) more) s at) [
        | inl a ↦ seen_told_now tx place st sts s (seen_one tx place st (told_valuation tx place st) d v s a)
        | inr b ↦
            let next = in_after (statement_meaning declared st (told_valuation tx place st) d v) more s b in
            let r = read_view_told tx (suc place) sts next.0 next.1 s next.2 in
            record {
              before = suc r.before;
              own = r.own;
              here = r.here ∙ plus_suc place r.before;
              there = r.there;
              value = r.value;
            }
      ]

  -- each entangled statement of a run that comes to its end sees something
  pub told_read_view : (tx place : ℕ) (sts : List Statement) (d : Database) (v : Environment) (r : Run)
      → run declared (told_operations members tx place sts) d v ≡ Some r → (k : ℕ) (st : Statement)
      → slice_get sts k ≡ Some st → is_entangled st ≡ true
      → SeesAt tx (place + k) (read_views declared tx place (told_operations members tx place sts) d v)
  told_read_view tx place [] d v r runs k st at is = cc (at)
  told_read_view tx place (x ∷ sts) d v r runs zero st at is =
      let one : x ≡ st = cc in
      let s = sees_one tx place x (told_valuation tx place x) d v (ap is_entangled one ∙ is) in (
        s.0,
        in_first (seen tx place (record { statement = x; valuation = told_valuation tx place x }) d v)
            (seen_after (statement_meaning declared x (told_valuation tx place x) d v)
            (read_views declared tx (suc place) (told_operations members tx (suc place) sts))) s.0 s.1,
        s.2.own,
        s.2.here ∙ plus_zero place,
      )
  told_read_view tx place (x ∷ sts) d v r runs (suc k) st at is =
      let meaning = statement_meaning declared x (told_valuation tx place x) d v in
      let more = told_operations members tx (suc place) sts in
      let on = goes_on meaning (run declared more) r runs in
      let s = told_read_view tx (suc place) sts on.effect.database on.effect.environment on.rest on.rests k st
      at is in (
        s.0,
        in_second (seen tx place (record { statement = x; valuation = told_valuation tx place x }) d v)
            (seen_after meaning (read_views declared tx (suc place) more)) s.0
            (subst (λ m. In s.0 (seen_after m (read_views declared tx (suc place) more))) (sym on.is) s.1),
        s.2,
        s.3 ∙ plus_suc place k,
      )

  -- ---- statements whose answers are those that are told are the told ones

  told_by_cases : (tx place : ℕ) (st : Statement) (valuation : Valuation) (b : Bool) → is_entangled st ≡ b
      → (is_entangled st ≡ false → valuation ≡ [])
      → (is_entangled st ≡ true → valuation ≡ grounding_of (member_at members tx place))
      → valuation ≡ told_valuation tx place st
  told_by_cases tx place st valuation true is plain told =
      told is ∙ ap (λ b. cond b (grounding_of (member_at members tx place)) []) (sym is)
  told_by_cases tx place st valuation false is plain told =
      plain is ∙ ap (λ b. cond b (grounding_of (member_at members tx place)) []) (sym is)

  abbrev pub AreTold : List ReadView → Type 0
  AreTold ss = (s : ReadView) → In s ss → s.valuation ≡ grounding_of (member_at members s.tx s.place)

  pub operations_are_told : (tx place : ℕ) (sts : List Statement) (oracle : List Valuation)
      (operations : List Operation)
      (d : Database) (v : Environment) (r : Run) → operations_of sts oracle ≡ Some operations
      → run declared operations d v ≡ Some r → AreTold (read_views declared tx place operations d v)
      → operations ≡ told_operations members tx place sts
  operations_are_told tx place [] [] operations d v r are runs told = cc (are)
  operations_are_told tx place [] (valuation ∷ oracle) operations d v r are runs told = cc (are)
  operations_are_told tx place (st ∷ sts) oracle operations d v r are runs told =
      let split = split_operations st sts oracle operations are in
      let operation : Operation = record { statement = st; valuation = split.valuation } in
      let meaning = statement_meaning declared st split.valuation d v in
      let on = goes_on meaning (run declared split.rest) r
      (ap (λ ds. run declared ds d v) (sym split.whole) ∙ runs) in
      let now : AreTold (read_views declared tx place (operation ∷ split.rest) d v) =
      subst (λ ds. AreTold (read_views declared tx place ds d v)) split.whole told in
      let rest = operations_are_told tx (suc place) sts split.others split.rest on.effect.database on.effect.environment
      on.rest split.rests on.rests (λ s at.
      now s (in_second (seen tx place operation d v)
      (seen_after meaning (read_views declared tx (suc place) split.rest)) s
      (subst (λ m. In s (seen_after m (read_views declared tx (suc place) split.rest))) (sym on.is) at))) in
      let value = told_by_cases tx place st split.valuation (is_entangled st) refl split.plain (λ is.
      let s = sees_one tx place st split.valuation d v is in
      sym s.2.value
      ∙ now s.0 (in_first (seen tx place operation d v)
      (seen_after meaning (read_views declared tx (suc place) split.rest)) s.0
      s.1)
      ∙ (λ i. grounding_of (member_at members (s.2.own i) (s.2.here i)))) in
      split.whole ∙ (λ i. record { statement = st; valuation = value i } ∷ rest i)
