-- A member does one statement more: an ordinary one, or an entangled one that is answered.
use Rattle.std.proofs.Common.{◌≡◌, ◌<◌, ℕ, suc, ◌==◌, true, false, ◌||◌, ◌&&◌, List, [], ◌∷◌, ◌++◌, map, length, arith}
use Rattle.std.proofs.Common.{take, refl, sym, ap, subst, ◌∙◌, Some, Result, Ok, slice_get}
use Rattle.std.proofs.lemmas.Bool.{and_parts}
use Rattle.std.specs.List.{AllByRecursion}
use Rattle.std.proofs.lemmas.List.{length_push}
use Rattle.ent_value.specs.declared.value.Value.{Value}
use Rattle.ent_tree.specs.declared.declaration.Create.{Create}
use Rattle.ent_tree.specs.declared.entangled.Entangled.{Entangled as TreeEntangled}
use Rattle.ent_tree.specs.declared.script.Statement.{Statement as TreeStatement}
use Rattle.ent_tree.specs.declared.script.Statement.TheVariants as tree
use Rattle.ent_semantics.specs.declared.answer.Answer.{Answer}
use Rattle.ent_semantics.specs.declared.answer.Answer.TheVariants as answers
use Rattle.ent_semantics.specs.declared.answer.Failure.{Failure}
use Rattle.ent_semantics.specs.Database.{Name, Database, Environment, nothing_bound, with_values}
use Rattle.ent_semantics.specs.Effect.{Effect}
use Rattle.ent_semantics.specs.Entangled.{Valuation, written_variables, heads, bound_values, is_grounding}
use Rattle.ent_semantics.specs.Joint.{IsGrounded}
use Rattle.ent_semantics.specs.Serial.{Operation, seen, numbered}
use Rattle.ent_semantics.specs.Statement.{statement_meaning}
use Rattle.ent_semantics.specs.Uses.{Covers, CoversAll}
use Rattle.ent_semantics.specs.Closing.{closed, closed_entangled}
use Rattle.ent_semantics.specs.Form.{Tables, closed_worth, known_worth, form_meaning, form_heads, form_bound}
use Rattle.ent_semantics.specs.Form.{is_form_grounding}
use Rattle.ent_semantics.specs.FormKinds.{changed_tables}
use Rattle.ent_semantics.specs.declared.entangled.Entangled.{Entangled}
use Rattle.ent_semantics.specs.declared.operand.Known.{Known}
use Rattle.ent_semantics.specs.declared.statement.Statement.{Statement}
use Rattle.ent_semantics.specs.declared.statement.Statement.TheVariants as statements
use Rattle.ent_semantics.proofs.Environments.{values_joined}
use Rattle.ent_form.specs.Tables.{database_of, AreWide, effect_of, Answers}
use Rattle.ent_protocol.specs.Finish.{with_change, with_bound}
use Rattle.ent_protocol.specs.Member.{Ordinary, statement_next, environment_of}
use Rattle.ent_protocol.specs.State.{Submitted, Member, Use}
use Rattle.ent_protocol.specs.Uses.{exclusive, statement_uses}
use Rattle.ent_protocol_laws.specs.Faithful.{table_number, is_used, is_owned}
use Rattle.ent_protocol_laws.specs.Faithful.{IsFaithful, IsFaithfulEntangled, AreAlike}
use Rattle.ent_protocol_laws.specs.History.{History}
use Rattle.ent_protocol_laws.specs.SerialState.{IsOracled, Follows}
use Rattle.ent_lists.specs.Elements.{all_joined, same_number, number_itself}
use Rattle.ent_protocol_laws.proofs.Asks.{asks_at}
use Rattle.ent_protocol_laws.proofs.Frame.{Laws, held, WritesWithin, IsCovered}
use Rattle.ent_protocol_laws.proofs.SerialActs.{OwnsFirst, Makes}
use Rattle.ent_protocol_laws.proofs.Scripts.{replays_pushed, take_one}

-- a member holds the uses that are asked for
abbrev pub HoldsUses : Member → List Use → Type 0
HoldsUses member asked =
    (table : ℕ) → (is_used asked table ≡ true → is_used member.uses table ≡ true)
    × (is_owned asked table ≡ true → is_owned member.uses table ≡ true)

pub owns_one : (table : ℕ) → is_owned (exclusive table ∷ []) table ≡ true
owns_one table = ap (λ b. (b && true) || false) (number_itself table)

-- the table that a statement changes is owned
pub owns_table : (statement : Statement Value) (member : Member) → HoldsUses member (statement_uses statement)
    → OwnsFirst member.uses (changed_tables statement)
owns_table (statements.Select select) member holds = tt
owns_table (statements.Entangled entangled) member holds = tt
owns_table (statements.Insert table values) member holds = (holds table).1 (owns_one table)
owns_table (statements.Delete table tests) member holds = (holds table).1 (owns_one table)
owns_table (statements.Update table image tests) member holds = (holds table).1 (owns_one table)
owns_table (statements.Set variable expression) member holds = tt

pub values_bound : (variables : List Name) (value : Value) (bound : List (Name × Value))
    → with_values nothing_bound (with_bound variables value bound)
    ≡ with_values (with_values nothing_bound bound) (with_bound variables value [])
values_bound [] value bound = refl
values_bound (variable ∷ more) value bound = values_joined nothing_bound bound ((variable, value) ∷ [])

-- ---- statements that aren't entangled

abbrev IsPlain : TreeStatement → Type 0
IsPlain (tree.Entangled entangled) = ⊥
IsPlain (tree.Select select) = Unit {0}
IsPlain (tree.Insert insert) = Unit {0}
IsPlain (tree.Delete delete) = Unit {0}
IsPlain (tree.Update update) = Unit {0}
IsPlain (tree.Set setting) = Unit {0}

plain_of : (creates : List Create) (st : TreeStatement) (f : Statement Known) (environment : Environment)
    (c : Statement Value) → AreAlike creates st f → statement_next (closed environment f) ≡ Ordinary c → IsPlain st
plain_of creates (tree.Select select) f environment c alike next = tt
plain_of creates (tree.Insert insert) f environment c alike next = tt
plain_of creates (tree.Delete delete) f environment c alike next = tt
plain_of creates (tree.Update update) f environment c alike next = tt
plain_of creates (tree.Set setting) f environment c alike next = tt
plain_of creates (tree.Entangled entangled) (statements.Entangled form) environment c alike next = cc
plain_of creates (tree.Entangled entangled) (statements.Select select) environment c alike next = alike
plain_of creates (tree.Entangled entangled) (statements.Insert table values) environment c alike next = alike
plain_of creates (tree.Entangled entangled) (statements.Delete table tests) environment c alike next = alike
plain_of creates (tree.Entangled entangled) (statements.Update table image tests) environment c alike next = alike
plain_of creates (tree.Entangled entangled) (statements.Set variable expression) environment c alike next = alike

plain_answers : (st : TreeStatement) → IsPlain st → Answers st []
plain_answers (tree.Entangled entangled) plain = absurd plain
plain_answers (tree.Select select) plain = tt
plain_answers (tree.Insert insert) plain = tt
plain_answers (tree.Delete delete) plain = tt
plain_answers (tree.Update update) plain = tt
plain_answers (tree.Set setting) plain = tt

plain_oracled : (st : TreeStatement) → IsPlain st → IsOracled (record { statement = st; valuation = [] })
plain_oracled (tree.Entangled entangled) plain = tt
plain_oracled (tree.Select select) plain = refl
plain_oracled (tree.Insert insert) plain = refl
plain_oracled (tree.Delete delete) plain = refl
plain_oracled (tree.Update update) plain = refl
plain_oracled (tree.Set setting) plain = refl

plain_grounded : (creates : List Create) (st : TreeStatement) (tx place : ℕ) (database : Database)
    (environment : Environment) → IsPlain st → AllByRecursion (IsGrounded creates)
    (seen tx place (record { statement = st; valuation = [] }) database environment)
plain_grounded creates (tree.Entangled entangled) tx place database environment plain = absurd plain
plain_grounded creates (tree.Select select) tx place database environment plain = tt
plain_grounded creates (tree.Insert insert) tx place database environment plain = tt
plain_grounded creates (tree.Delete delete) tx place database environment plain = tt
plain_grounded creates (tree.Update update) tx place database environment plain = tt
plain_grounded creates (tree.Set setting) tx place database environment plain = tt

plain_asks : (st : TreeStatement) → IsPlain st → (tx place : ℕ) (environment : Environment)
    → asks_at tx place st [] environment ≡ []
plain_asks (tree.Entangled entangled) plain tx place environment = absurd plain
plain_asks (tree.Select select) plain tx place environment = refl
plain_asks (tree.Insert insert) plain tx place environment = refl
plain_asks (tree.Delete delete) plain tx place environment = refl
plain_asks (tree.Update update) plain tx place environment = refl
plain_asks (tree.Set setting) plain tx place environment = refl

-- a member with one operation more
abbrev pub with_operation : History → Member → Operation → History
with_operation x member operation = record { member = member; operations = x.operations ++ operation ∷ [] }

module _ (creates : List Create) (x : History) (member : Member) (st : TreeStatement) (f : Statement Known)
    (valuation : Valuation) (faithful : IsFaithful creates st f)
    (holds : HoldsUses x.member (statement_uses (closed (environment_of x.member) f)))
    (uses : member.uses ≡ x.member.uses) where
  pub covers_pushed : IsCovered creates x
      → IsCovered creates (with_operation x member (record { statement = st; valuation = valuation }))
  covers_pushed covered =
      record {
        reads = subst (λ held_uses. CoversAll (held creates held_uses)
            (x.operations ++ record { statement = st; valuation = valuation } ∷ [])) (sym uses)
            (all_joined (λ d. Covers (held creates x.member.uses) d.statement) x.operations
            (record { statement = st; valuation = valuation } ∷ []) covered.reads (
              (λ name used. (holds (table_number creates name)).0
                  (faithful.reads (environment_of x.member) name used)),
              tt,
            ));
        writes = subst (λ held_uses. AllByRecursion (WritesWithin creates held_uses)
            (x.operations ++ record { statement = st; valuation = valuation } ∷ [])) (sym uses)
            (all_joined (WritesWithin creates x.member.uses) x.operations
            (record { statement = st; valuation = valuation } ∷ []) covered.writes (
              (λ name used. (holds (table_number creates name)).1
                  (faithful.writes (environment_of x.member) name used)),
              tt,
            ));
        within = subst (λ (held_uses : List Use). (table : ℕ) → is_used held_uses table ≡ true
            → table < length creates) (sym uses) covered.within;
      }

pub follows_pushed : (all : List Submitted) (x : History) (member : Member) (operation : Operation)
    (follows : Follows all x)
    → member.tx ≡ x.member.tx → member.place ≡ suc x.member.place → IsOracled operation
    → slice_get follows.own.script.statements (length x.operations) ≡ Some operation.statement
    → Follows all (with_operation x member operation)
follows_pushed all x member operation follows tx place oracled at =
    record {
      own = follows.own;
      submitted = ap (numbered all) tx ∙ follows.submitted;
      beginning = map_pushed x.operations ∙ ap (λ more. more ++ operation.statement ∷ []) follows.beginning
          ∙ sym (take_one follows.own.script.statements (length x.operations) operation.statement at)
          ∙ ap (λ n. take n follows.own.script.statements) (sym longer);
      place = place ∙ ap suc (follows.place ∙ sym longer);
      oracled = all_joined IsOracled x.operations (operation ∷ []) follows.oracled (oracled, tt);
    }
  where
    map_pushed : (operations : List Operation)
        → map (λ (d : Operation). d.statement) (operations ++ operation ∷ [])
        ≡ map (λ (d : Operation). d.statement) operations ++ operation.statement ∷ []
    map_pushed [] = refl
    map_pushed (d ∷ ds) = ap (λ more. d.statement ∷ more) (map_pushed ds)

    longer : length (x.operations ++ operation ∷ []) ≡ suc (length x.operations)
    longer = omega (arith, length_push x.operations operation)

-- ---- an ordinary statement

module _ (creates : List Create) (laws : Laws) (x : History) (member : Member) (st : TreeStatement)
    (f : Statement Known) (c : Statement Value) (faithful : IsFaithful creates st f)
    (closes : closed (environment_of x.member) f ≡ c)
    (next : statement_next (closed (environment_of x.member) f) ≡ Ordinary c)
    (holds : HoldsUses x.member (statement_uses c)) (uses : member.uses ≡ x.member.uses)
    (tx : member.tx ≡ x.member.tx) (group : member.group ≡ x.member.group) (tables new : Tables) (answer : Answer)
    (told : member.answers ≡ x.member.answers ++ answer ∷ []) (wide : AreWide creates tables)
    (meaning : form_meaning closed_worth c [] tables (environment_of x.member)
    ≡ Ok (record { database = new; environment = environment_of member; answer = answer })) where
  plain : IsPlain st
  plain = plain_of creates st f (environment_of x.member) c faithful.alike next

  resolved : form_meaning known_worth f [] tables (environment_of x.member)
      ≡ Ok (record { database = new; environment = environment_of member; answer = answer })
  resolved =
      sym (laws.closes f [] tables (environment_of x.member))
      ∙ ap (λ s. form_meaning closed_worth s [] tables (environment_of x.member)) closes ∙ meaning

  pub ordinary_oracled : IsOracled (record { statement = st; valuation = [] })
  ordinary_oracled = plain_oracled st plain

  pub ordinary_asks : (number index : ℕ) (environment : Environment) → asks_at number index st [] environment ≡ []
  ordinary_asks number index environment = plain_asks st plain number index environment

  pub ordinary_makes : (table : List ℕ) (removed added : List (List Value))
      → with_change table removed added tables ≡ new → OwnsFirst x.member.uses table
      → Makes creates x (with_operation x member (record { statement = st; valuation = [] })) tables new table removed
      added
  ordinary_makes table removed added is owns =
      record {
        tables_are = is;
        one = owns;
        replays = λ before replays.
            replays_pushed creates laws x (with_operation x member (record { statement = st; valuation = [] }))
            (record { statement = st; valuation = [] }) before (database_of creates tables) (database_of creates new)
            answer refl tx told
            (faithful.means tables (environment_of x.member) [] wide (plain_answers st plain)
            ∙ ap (effect_of creates) resolved)
            (λ place. plain_grounded creates st x.member.tx place (database_of creates tables)
            (environment_of x.member) plain) replays;
        covers = covers_pushed creates x member st f [] faithful
            (subst (λ s. HoldsUses x.member (statement_uses s)) (sym closes) holds) uses;
        tx = tx;
        group = group;
        uses = uses;
        wide = faithful.keeps_width tables (environment_of x.member) [] _ wide resolved;
      }

-- ---- an entangled statement

-- an entangled statement, its form, and that closed
pub record IsPair (creates : List Create) (st : TreeStatement) (f : Statement Known) (environment : Environment)
    (asked : Entangled Value) : Type 0 where
  pub entangled : TreeEntangled
  pub form : Entangled Known
  pub is : st ≡ tree.Entangled entangled
  pub form_is : f ≡ statements.Entangled form
  pub faithful : IsFaithfulEntangled creates entangled form
  pub closes : closed_entangled environment form ≡ asked

same_entangled : (one other : Entangled Value) → statements.Entangled one ≡ statements.Entangled other → one ≡ other
same_entangled one other e = cc

pub pair_of : (creates : List Create) (st : TreeStatement) (f : Statement Known) (environment : Environment)
    (asked : Entangled Value) → AreAlike creates st f → closed environment f ≡ statements.Entangled asked
    → IsPair creates st f environment asked
pair_of creates (tree.Entangled entangled) (statements.Entangled form) environment asked alike closes =
    record {
      entangled = entangled;
      form = form;
      is = refl;
      form_is = refl;
      faithful = alike;
      closes = same_entangled (closed_entangled environment form) asked closes;
    }
pair_of creates (tree.Select select) (statements.Entangled form) environment asked alike closes = absurd alike
pair_of creates (tree.Insert insert) (statements.Entangled form) environment asked alike closes = absurd alike
pair_of creates (tree.Delete delete) (statements.Entangled form) environment asked alike closes = absurd alike
pair_of creates (tree.Update update) (statements.Entangled form) environment asked alike closes = absurd alike
pair_of creates (tree.Set setting) (statements.Entangled form) environment asked alike closes = absurd alike
pair_of creates st (statements.Select select) environment asked alike closes = cc (closes)
pair_of creates st (statements.Insert table values) environment asked alike closes = cc (closes)
pair_of creates st (statements.Delete table tests) environment asked alike closes = cc (closes)
pair_of creates st (statements.Update table image tests) environment asked alike closes = cc (closes)
pair_of creates st (statements.Set variable expression) environment asked alike closes = cc (closes)

abbrev AreOne : {D : Type 0} → Result (Effect D) Failure → Result (Effect D) Failure → Type 0
AreOne one other = one ≡ other

same_effect : {D : Type 0} (one other : Effect D) → AreOne (Ok one) (Ok other) → one ≡ other
same_effect one other e = cc

module _ (creates : List Create) (laws : Laws) (x : History) (asked : Entangled Value) (values : Valuation)
    (entangled : TreeEntangled) (form : Entangled Known)
    (faithful : IsFaithful creates (tree.Entangled entangled) (statements.Entangled form))
    (pair : IsFaithfulEntangled creates entangled form)
    (closes : closed_entangled (environment_of x.member) form ≡ asked) (tables : Tables)
    (wide : AreWide creates tables) (grounds : is_form_grounding (λ value. value) tables asked values ≡ true) where
  form_grounds : is_form_grounding (known_worth (environment_of x.member)) tables form values ≡ true
  form_grounds =
      sym (laws.closes_grounds (environment_of x.member) tables form values)
      ∙ ap (λ s. is_form_grounding (λ value. value) tables s values) closes ∙ grounds

  pub asked_length : length values ≡ length (written_variables entangled)
  asked_length =
      same_number (length values) (length form.variables)
      (and_parts (length values == length form.variables) _ form_grounds).0 ∙ pair.variables

  pub asked_grounds : is_grounding creates (database_of creates tables) (environment_of x.member) entangled values
      ≡ true
  asked_grounds = pair.grounds tables (environment_of x.member) values wide ∙ form_grounds

  abbrev of_tree : Effect Database
  of_tree =
      record {
        database = database_of creates tables;
        environment = with_values (environment_of x.member) (bound_values (environment_of x.member) entangled values);
        answer = answers.Heads (heads (environment_of x.member) entangled values);
      }

  abbrev of_form : Effect Database
  of_form =
      record {
        database = database_of creates tables;
        environment = with_values (environment_of x.member) (form_bound (λ value. value) asked values);
        answer = answers.Heads (form_heads (λ value. value) asked values);
      }

  effects : of_tree ≡ of_form
  effects =
      same_effect of_tree of_form
      (faithful.means tables (environment_of x.member) values wide asked_length
      ∙ ap (effect_of creates) (sym (laws.closes (statements.Entangled form) values tables (environment_of x.member))
      ∙ ap (λ s. form_meaning closed_worth (statements.Entangled s) values tables (environment_of x.member)) closes))

  -- its meaning over any database
  pub asked_meaning : (database : Database)
      → statement_meaning creates (tree.Entangled entangled) values database (environment_of x.member)
      ≡ Ok (record {
        database = database;
        environment = with_values nothing_bound (x.member.bound ++ form_bound (λ value. value) asked values);
        answer = answers.Heads (form_heads (λ value. value) asked values);
      })
  asked_meaning database =
      let bound = ap (λ (effect : Effect Database). effect.environment) effects
      ∙ sym (values_joined nothing_bound x.member.bound (form_bound (λ value. value) asked values)) in
      let told = ap (λ (effect : Effect Database). effect.answer) effects in
      λ i. Ok (record { database = database; environment = bound i; answer = told i })
