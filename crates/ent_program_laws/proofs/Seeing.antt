-- What a text knows stays so in a serial run.
use Rattle.std.proofs.Common.{◌≡◌, ℕ, suc, ◌+◌, Bool, true, false, List, [], ◌∷◌, ◌++◌, map, Option, Some, None}
use Rattle.std.proofs.Common.{Result, Ok, Err, take, slice_get, refl, sym, ap, subst, ◌∙◌, inl, inr, arith, cond}
use Rattle.std.specs.Prelude.{nat_le}
use Rattle.std.specs.List.{flat_map}
use Rattle.ent_lists.specs.Elements.{In, in_either}
use Rattle.ent_lists.specs.Sets as set
use Rattle.ent_value.specs.declared.limits.TheConstants.{MOST_ROWS}
use Rattle.ent_value.specs.declared.value.Value.{Value}
use Rattle.ent_tree.specs.declared.declaration.Create.{Create}
use Rattle.ent_tree.specs.declared.entangled.EntangledItem.{EntangledItem}
use Rattle.ent_tree.specs.declared.entangled.Term.{Term}
use Rattle.ent_tree.specs.declared.operand.Expression.{Expression}
use Rattle.ent_tree.specs.declared.operand.Expression.TheVariants.{Single, Sum, Difference}
use Rattle.ent_tree.specs.declared.operand.Identifier.{Identifier}
use Rattle.ent_tree.specs.declared.operand.ValueSpecification.{ValueSpecification}
use Rattle.ent_tree.specs.declared.operand.ValueSpecification.TheVariants as specifications
use Rattle.ent_tree.specs.declared.script.Statement.{Statement}
use Rattle.ent_tree.specs.declared.script.Statement.TheVariants as statements
use Rattle.ent_semantics.specs.declared.answer.Answer.{Answer}
use Rattle.ent_semantics.specs.declared.answer.Answer.TheVariants as answers
use Rattle.ent_semantics.specs.declared.answer.Failure.{Failure}
use Rattle.ent_semantics.specs.declared.answer.Failure.TheVariants.{TableFull}
use Rattle.ent_semantics.specs.Database.{Database, Environment, Name, Rows, Table, nothing_bound, same_name}
use Rattle.ent_semantics.specs.Database.{table_named}
use Rattle.ent_semantics.specs.Database.{with_value, with_values}
use Rattle.ent_semantics.specs.Change.{image, matched, updated}
use Rattle.ent_semantics.specs.Selection.{meets}
use Rattle.ent_semantics.specs.Effect.{Effect, changed, or_overflow, replacement, setting}
use Rattle.ent_semantics.specs.Entangled.{Valuation, bound_values, item_binds, term_worth}
use Rattle.ent_semantics.specs.Serial.{Operation, ReadView, Turn, is_entangled, numbered, operation_first}
use Rattle.ent_semantics.specs.Serial.{operations_of}
use Rattle.ent_semantics.specs.Serial.{read_views, script_read_views, script_run, scripts_read_views, seen, seen_after}
use Rattle.ent_semantics.specs.Serial.{Run, seen_from, with_answer}
use Rattle.ent_semantics.specs.Statement.{statement_meaning, table_worth}
use Rattle.ent_semantics.specs.Term.{expression_value, known_value as worth_of, table_columns}
use Rattle.ent_meetings.specs.Known.{forgotten, known_after, known_after_binding, known_after_items, known_after_set}
use Rattle.ent_program_laws.specs.Known.{Agrees, IsKnownThere, known_after_all, known_before}

one_value : (a b : Value) → Some a ≡ Some b → a ≡ b
one_value a b e = cc

-- ---- one host variable

value_put : (b : Bool) (value own : Value) (known now : Option Value) → (known ≡ Some own → now ≡ Some own)
    → cond b (Some value) known ≡ Some own → cond b (Some value) now ≡ Some own
value_put true value own known now so is = is
value_put false value own known now so is = so is

value_forgotten : (b : Bool) (value own : Value) (known now : Option Value) → (known ≡ Some own → now ≡ Some own)
    → cond b None known ≡ Some own → cond b (Some value) now ≡ Some own
value_forgotten true value own known now so is = cc (is)
value_forgotten false value own known now so is = so is

module _ (known environment : Environment) (agrees : Agrees known environment) (variable : Name) (value : Value) where
  put_agrees : Agrees (with_value known variable value) (with_value environment variable value)
  put_agrees other own is =
      value_put (same_name variable other) value own (known other) (environment other) (agrees other own) is

  forgotten_agrees : Agrees (forgotten known variable) (with_value environment variable value)
  forgotten_agrees other own is =
      value_forgotten (same_name variable other) value own (known other) (environment other) (agrees other own) is

-- ---- what an entangled statement binds

binding_agrees : (known environment : Environment) (worth : Term → Value) (term : Term) (binds : Option Identifier)
    (after : Environment → Environment) (rest : List (Name × Value)) → Agrees known environment
    → ((known environment : Environment) → Agrees known environment
    → Agrees (after known) (with_values environment rest))
    → Agrees (after (known_after_binding known binds))
    (with_values environment (item_binds worth (record { term = term; binds = binds }) ++ rest))
binding_agrees known environment worth term (Some variable) after rest agrees more =
    more (forgotten known variable.name) (with_value environment variable.name (worth term))
    (forgotten_agrees known environment agrees variable.name (worth term))
binding_agrees known environment worth term None after rest agrees more = more known environment agrees

items_agree : (items : List EntangledItem) (known environment : Environment) (worth : Term → Value)
    → Agrees known environment
    → Agrees (known_after_items known items) (with_values environment (flat_map (item_binds worth) items))
items_agree [] known environment worth agrees = agrees
items_agree (item ∷ more) known environment worth agrees =
    binding_agrees known environment worth item.term item.binds (λ next. known_after_items next more)
    (flat_map (item_binds worth) more) agrees (λ k e a. items_agree more k e worth a)

-- ---- statements

abbrev Outcome : Type 0
Outcome = Result (Effect Database) Failure

abbrev done : Effect Database → Outcome
done effect = Ok effect

one_effect : (first second : Effect Database) → done first ≡ done second → first ≡ second
one_effect first second e = cc

-- an effect of this environment
abbrev Leaves : Environment → Outcome → Type 0
Leaves environment outcome = (effect : Effect Database) → outcome ≡ Ok effect → effect.environment ≡ environment

leaves_ok : (database : Database) (environment : Environment) (answer : Answer)
    → Leaves environment (Ok (record { database = database; environment = environment; answer = answer }))
leaves_ok database environment answer effect is =
    ap (λ (e : Effect Database). e.environment)
    (one_effect effect (record { database = database; environment = environment; answer = answer }) (sym is))

leaves_if : (b : Bool) (database : Database) (environment : Environment) (answer : Answer) (failure : Failure)
    → Leaves environment (cond b (Ok (record { database = database; environment = environment; answer = answer }))
    (Err failure))
leaves_if true database environment answer failure effect is = leaves_ok database environment answer effect is
leaves_if false database environment answer failure effect is = cc (is)

leaves_rows : (table : Table Database) (count : ℕ) (given : Option Rows) (database : Database)
    (environment : Environment) → Leaves environment (or_overflow given (changed table count) database environment)
leaves_rows table count (Some rows) database environment =
    leaves_if (nat_le (set.len rows) MOST_ROWS) (table.replaced database rows) environment (answers.Count count)
    TableFull
leaves_rows table count None database environment = λ effect is. cc (is)

leaves_replacement : (table : Table Database) (matches : List Value → Bool)
    (image : List Value → Option (List Value)) (database : Database) (environment : Environment)
    → Leaves environment (replacement table matches image database environment)
leaves_replacement table matches image database environment =
    leaves_rows table (set.len (matched matches (table.rows database))) (updated matches image (table.rows database))
    database environment

-- what is left where the environment stays
stays : (known environment : Environment) (outcome : Outcome) (effect : Effect Database) → Agrees known environment
    → Leaves environment outcome → outcome ≡ Ok effect → Agrees known effect.environment
stays known environment outcome effect agrees leaves is =
    subst (λ (e : Environment). Agrees known e) (sym (leaves effect is)) agrees

-- a value that is set
set_to : (variable : Name) (value : Option Value) (database : Database) (environment after : Environment)
    (effect : Effect Database) (known : Environment)
    → ((own : Value) → value ≡ Some own → Agrees known (with_value environment variable own))
    → setting variable value database environment ≡ Ok effect → Agrees known effect.environment
set_to variable (Some value) database environment after effect known so is =
    subst (λ (e : Environment). Agrees known e)
    (sym (leaves_ok database (with_value environment variable value) (answers.Value value) effect is)) (so value refl)
set_to variable None database environment after effect known so is = cc (is)

module _ (known environment : Environment) (agrees : Agrees known environment) where
  set_agrees : (variable : Name) (expression : Expression ValueSpecification) (own : Value)
      → expression_value (worth_of environment) expression ≡ Some own
      → Agrees (known_after_set known variable expression) (with_value environment variable own)
  set_agrees variable (Single (specifications.Literal literal)) own is =
      subst (λ (v : Value). Agrees (with_value known variable literal.value) (with_value environment variable v))
      (one_value literal.value own is) (put_agrees known environment agrees variable literal.value)
  set_agrees variable (Single (specifications.HostVariable other)) own is =
      forgotten_agrees known environment agrees variable own
  set_agrees variable (Sum left right) own is = forgotten_agrees known environment agrees variable own
  set_agrees variable (Difference left right) own is = forgotten_agrees known environment agrees variable own

  statement_agrees : (declared : List Create) (statement : Statement) (valuation : Valuation) (database : Database)
      (effect : Effect Database) → statement_meaning declared statement valuation database environment ≡ Ok effect
      → Agrees (known_after known statement) effect.environment
  statement_agrees declared (statements.Select select) valuation database effect is =
      stays known environment (statement_meaning declared (statements.Select select) valuation database environment)
      effect agrees (leaves_ok database environment _) is
  statement_agrees declared (statements.Entangled entangled) valuation database effect is =
      subst (λ (e : Environment). Agrees (known_after_items known entangled.items) e)
      (sym (leaves_ok database (with_values environment (bound_values environment entangled valuation)) _ effect is))
      (items_agree entangled.items known environment (term_worth environment entangled valuation) agrees)
  statement_agrees declared (statements.Insert insert) valuation database effect is =
      stays known environment (statement_meaning declared (statements.Insert insert) valuation database environment)
      effect agrees (leaves_if _ _ environment _ _) is
  statement_agrees declared (statements.Delete delete) valuation database effect is =
      stays known environment (statement_meaning declared (statements.Delete delete) valuation database environment)
      effect agrees (leaves_ok _ environment _) is
  statement_agrees declared (statements.Update update) valuation database effect is =
      stays known environment (statement_meaning declared (statements.Update update) valuation database environment)
      effect agrees (leaves_replacement (table_named update.table.name)
      (meets (table_worth declared environment update.table.name) update.tests)
      (image (table_worth declared environment update.table.name) update.assignments
      (table_columns declared update.table.name update.table.name)) database environment) is
  statement_agrees declared (statements.Set set) valuation database effect is =
      set_to set.variable.name (expression_value (worth_of environment) set.expression) database environment environment
      effect (known_after_set known set.variable.name set.expression) (set_agrees set.variable.name set.expression) is

-- ---- the statements of a script

abbrev pub statement_of : Operation → Statement
statement_of operation = operation.statement

-- an entangled statement behind so many others, and what is known before it
pub record IsSeenBehind (tx place : ℕ) (known : Environment) (texts : List Statement) (read_view : ReadView) :
    Type 0 where
  pub own : read_view.tx ≡ tx
  pub earlier : ℕ
  pub at_place : read_view.place ≡ place + earlier
  pub statement : slice_get texts earlier ≡ Some (statements.Entangled read_view.entangled)
  pub agrees : Agrees (known_after_all known (take earlier texts)) read_view.environment

sees_here : (tx place : ℕ) (statement : Statement) (valuation : Valuation) (more : List Statement)
    (database : Database) (known environment : Environment) (read_view : ReadView) → Agrees known environment
    → In read_view (seen tx place (record { statement = statement; valuation = valuation }) database environment)
    → IsSeenBehind tx place known (statement ∷ more) read_view
sees_here tx place (statements.Select select) valuation more database known environment read_view agrees at = absurd at
sees_here tx place (statements.Entangled entangled) valuation more database known environment read_view agrees
    (inl same) =
    record {
      own = ap (λ (r : ReadView). r.tx) same;
      earlier = 0;
      at_place = ap (λ (r : ReadView). r.place) same ∙ omega arith;
      statement = ap (λ (r : ReadView). Some (statements.Entangled r.entangled)) (sym same);
      agrees = subst (λ (r : ReadView). Agrees known r.environment) (sym same) agrees;
    }
sees_here tx place (statements.Entangled entangled) valuation more database known environment read_view agrees (inr at)
    = absurd at
sees_here tx place (statements.Insert insert) valuation more database known environment read_view agrees at = absurd at
sees_here tx place (statements.Delete delete) valuation more database known environment read_view agrees at = absurd at
sees_here tx place (statements.Update update) valuation more database known environment read_view agrees at = absurd at
sees_here tx place (statements.Set set) valuation more database known environment read_view agrees at = absurd at

goes_on : (outcome : Outcome) (more : Database → Environment → List ReadView) (read_view : ReadView)
    → In read_view (seen_after outcome more)
    → (effect : Effect Database) × (outcome ≡ Ok effect) × In read_view (more effect.database effect.environment)
goes_on (Ok effect) more read_view at = (effect, refl, at)
goes_on (Err failure) more read_view at = absurd at

pub sees_behind : (declared : List Create) (tx place : ℕ) (operations : List Operation) (database : Database)
    (known environment : Environment) (read_view : ReadView) → Agrees known environment
    → In read_view (read_views declared tx place operations database environment)
    → IsSeenBehind tx place known (map statement_of operations) read_view
sees_behind declared tx place [] database known environment read_view agrees at = absurd at
sees_behind declared tx place (operation ∷ more) database known environment read_view agrees at =
    let rest = read_views declared tx (suc place) more in
    let outcome = statement_meaning declared operation.statement operation.valuation database environment in
    elim (in_either (seen tx place operation database environment) (seen_after outcome rest) read_view at) [
      | inl here ↦
          sees_here tx place operation.statement operation.valuation (map statement_of more) database known environment
          read_view agrees here
      | inr later ↦
          let next = goes_on outcome rest read_view later in
          let r = sees_behind declared tx (suc place) more next.0.database (known_after known operation.statement)
          next.0.environment read_view
          (statement_agrees known environment agrees declared operation.statement operation.valuation database
          next.0 next.1) next.2 in
          let at_place : suc place + r.earlier ≡ place + suc r.earlier = omega arith in
          record {
            own = r.own;
            earlier = suc r.earlier;
            at_place = r.at_place ∙ at_place;
            statement = r.statement;
            agrees = r.agrees;
          }
    ]

-- ---- the oracle's answers leave the statements

one_list : (first second : List Operation) → Some first ≡ Some second → first ≡ second
one_list first second e = cc

put_first : (statement : Statement) (valuation : Valuation) (texts : List Statement) (more : Option (List Operation))
    (operations : List Operation)
    → ((others : List Operation) → more ≡ Some others → map statement_of others ≡ texts)
    → operation_first statement valuation more ≡ Some operations → map statement_of operations ≡ statement ∷ texts
put_first statement valuation texts (Some others) operations so is =
    ap (map statement_of) (sym (one_list (record { statement = statement; valuation = valuation } ∷ others)
    operations is))
    ∙ ap (λ (rest : List Statement). statement ∷ rest) (so others refl)
put_first statement valuation texts None operations so is = cc (is)

answered : (statement : Statement) (b : Bool) (texts : List Statement) (oracle : List Valuation)
    (operations : List Operation)
    → ((oracle : List Valuation) (others : List Operation) → operations_of texts oracle ≡ Some others
    → map statement_of others ≡ texts)
    → with_answer statement b oracle (λ others. operations_of texts others) ≡ Some operations
    → map statement_of operations ≡ statement ∷ texts
answered statement false texts oracle operations so is =
    put_first statement [] texts (operations_of texts oracle) operations (so oracle) is
answered statement true texts [] operations so is = cc (is)
answered statement true texts (valuation ∷ oracle) operations so is =
    put_first statement valuation texts (operations_of texts oracle) operations (so oracle) is

pub operations_are : (texts : List Statement) (oracle : List Valuation) (operations : List Operation)
    → operations_of texts oracle ≡ Some operations → map statement_of operations ≡ texts
operations_are [] [] operations is = ap (map statement_of) (sym (one_list [] operations is))
operations_are [] (valuation ∷ oracle) operations is = cc (is)
operations_are (statement ∷ more) oracle operations is =
    answered statement (is_entangled statement) more oracle operations
    (λ oracle others there. operations_are more oracle others there) is

-- ---- scripts

pub nothing_agrees : (environment : Environment) → Agrees nothing_bound environment
nothing_agrees environment variable value is = cc (is)

module _ (declared : List Create) where
  pub script_views : (turn : Turn) (database : Database) (operations : List Operation)
      → operations_of turn.script.statements turn.oracle ≡ Some operations
      → script_read_views declared turn database ≡ read_views declared turn.tx 1 operations database nothing_bound
  script_views turn database operations is = rw is refl

  script_sees : (turn : Turn) (database : Database) (read_view : ReadView)
      → In read_view (script_read_views declared turn database)
      → (turn.tx ≡ read_view.tx) × IsKnownThere turn.script read_view
  script_sees turn database read_view at = by (operations_of turn.script.statements turn.oracle) refl
    where
      of_operations : (operations : List Operation)
          → operations_of turn.script.statements turn.oracle ≡ Some operations
          → In read_view (read_views declared turn.tx 1 operations database nothing_bound)
          → (turn.tx ≡ read_view.tx) × IsKnownThere turn.script read_view
      of_operations operations is there =
          let r = sees_behind declared turn.tx 1 operations database nothing_bound nothing_bound read_view
          (nothing_agrees nothing_bound) there in
          let texts = operations_are turn.script.statements turn.oracle operations is in
          let n : 1 + r.earlier ≡ suc r.earlier = omega arith in
          let place = r.at_place ∙ n in (
            sym r.own,
            record {
              statement = ap (numbered turn.script.statements) place
                  ∙ ap (λ (sts : List Statement). slice_get sts r.earlier) (sym texts) ∙ r.statement;
              agrees = subst (λ (p : ℕ). Agrees (known_before turn.script p) read_view.environment) (sym place)
                  (subst (λ (sts : List Statement). Agrees (known_after_all nothing_bound (take r.earlier sts))
                  read_view.environment) texts r.agrees);
            },
          )

      by : (operations : Option (List Operation)) → operations_of turn.script.statements turn.oracle ≡ operations
          → (turn.tx ≡ read_view.tx) × IsKnownThere turn.script read_view
      by (Some operations) is =
          of_operations operations is (subst (In read_view) (script_views turn database operations is) at)
      by None is =
          let same : script_read_views declared turn database ≡ [] = rw is refl in
          absurd (subst (In read_view) same at)

  in_from : (run : Option Run) (more : Database → List ReadView) (read_view : ReadView)
      → In read_view (seen_from run more) → (database : Database) × In read_view (more database)
  in_from (Some run) more read_view at = (run.database, at)
  in_from None more read_view at = absurd at

  pub scripts_see : (turns : List Turn) (database : Database) (read_view : ReadView)
      → In read_view (scripts_read_views declared turns database)
      → (turn : Turn) × In turn turns × (turn.tx ≡ read_view.tx) × IsKnownThere turn.script read_view
  scripts_see [] database read_view at = absurd at
  scripts_see (turn ∷ more) database read_view at =
      let run = script_run declared turn.script turn.oracle database in
      let rest = scripts_read_views declared more in
      elim (in_either (script_read_views declared turn database) (seen_from run rest) read_view at) [
        | inl here ↦ let r = script_sees turn database read_view here in (turn, inl refl, r.0, r.1)
        | inr later ↦
            let next = in_from run rest read_view later in
            let r = scripts_see more next.0 read_view next.1 in
            (r.0, inr r.1, r.2, r.3)
      ]
