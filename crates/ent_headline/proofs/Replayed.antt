-- What a run of resolved statements leaves has the kinds that resolving knows.
use Rattle.std.proofs.Common.{◌≡◌, ℕ, suc, true, false, List, [], ◌∷◌, ◌++◌, length, map, take}
use Rattle.std.proofs.Common.{Option, Some, None, Result, Ok, Err, refl, sym, ap, subst, ◌∙◌}
use Rattle.std.specs.List.{AllByRecursion}
use Rattle.std.specs.Option.{option_map}
use Rattle.std.proofs.lemmas.List.{length-map}
use Rattle.ent_lists.proofs.Lists.{all_parts}
use Rattle.ent_value.specs.Refusal.{◌>>=◌}
use Rattle.ent_value.specs.Value.{kind_of, kinds_of}
use Rattle.ent_value.specs.declared.value.Kind.{Kind}
use Rattle.ent_tree.specs.declared.declaration.Create.{Create}
use Rattle.ent_tree.specs.declared.entangled.Entangled.{Entangled as TreeEntangled}
use Rattle.ent_tree.specs.declared.script.Statement.{Statement as TreeStatement}
use Rattle.ent_tree.specs.declared.script.Statement.TheVariants as trees
use Rattle.ent_semantics.specs.declared.answer.Answer.{Answer}
use Rattle.ent_semantics.specs.declared.answer.Failure.{Failure}
use Rattle.ent_semantics.specs.Database.{Database, Environment}
use Rattle.ent_semantics.specs.Effect.{Effect}
use Rattle.ent_semantics.specs.Entangled.{Valuation, written_variables, is_grounding}
use Rattle.ent_semantics.specs.Joint.{IsGrounded}
use Rattle.ent_semantics.specs.Serial.{Operation, Run, after, answered_first, is_entangled, run, seen, seen_after}
use Rattle.ent_semantics.specs.Serial.{read_views}
use Rattle.ent_semantics.specs.Statement.{statement_meaning}
use Rattle.ent_semantics.specs.Closing.{closed, closed_entangled}
use Rattle.ent_semantics.specs.Form.{Tables, form_meaning, is_form_grounding, known_worth}
use Rattle.ent_semantics.specs.declared.entangled.Entangled.{Entangled}
use Rattle.ent_semantics.specs.declared.operand.Known.{Known}
use Rattle.ent_semantics.specs.declared.statement.Statement.{Statement}
use Rattle.ent_semantics.specs.declared.statement.Statement.TheVariants as statements
use Rattle.ent_semantics.specs.FormKinds.{Fits, tables_named}
use Rattle.ent_form.specs.Catalogue.{schemas_of}
use Rattle.ent_form.specs.Entangled.{entangled_in}
use Rattle.ent_form.specs.Form.{statement_in, statements_from}
use Rattle.ent_form.specs.Kinds.{Bound}
use Rattle.ent_form.specs.declared.catalogue.TableSchema.{TableSchema}
use Rattle.ent_form.specs.declared.fault.FormFault.{FormFault}
use Rattle.ent_form.proofs.Heads.{found_of}
use Rattle.ent_form.specs.TableKinds.{kinds_numbered, AnswersInKind, AreKinded, HasKinds}
use Rattle.ent_form.specs.Tables.{database_of, effect_of, Answers, AreWide, HaveDistinctColumns}
use Rattle.ent_form.proofs.ResolvedSteps.{one_answer}
use Rattle.ent_headline.specs.Kinds.{bound_behind}
use Rattle.ent_headline.proofs.FormLaws.{FormLaws}

-- an ordinary statement fits the tables that it names
abbrev pub FitsLaw : Type 0
FitsLaw =
    (schemas : List TableSchema) (bound after : Bound) (statement : TreeStatement)
    → (form : Statement Known) (environment : Environment)
    → statement_in schemas bound statement ≡ Ok (form, after) → is_entangled statement ≡ false
    → HasKinds bound environment
    → Fits (map (kinds_numbered schemas) (tables_named (closed environment form))) (closed environment form)

-- what lower crates say of resolved statements
pub record Laws : Type 0 where
  pub forms : FormLaws
  pub closing : (environment : Environment) (tables : Tables) (entangled : Entangled Known) (valuation : Valuation)
      → is_form_grounding (λ value. value) tables (closed_entangled environment entangled) valuation
      ≡ is_form_grounding (known_worth environment) tables entangled valuation
  pub groundings : (schemas : List TableSchema) (bound after : Bound) (entangled : TreeEntangled)
      → (form : Entangled Known) (environment : Environment) (tables : Tables) (valuation : Valuation)
      → entangled_in schemas bound entangled ≡ Ok (form, after) → AreKinded schemas tables
      → HasKinds bound environment
      → is_form_grounding (λ value. value) tables (closed_entangled environment form) valuation ≡ true
      → kinds_of valuation ≡ form.variables
  pub fits : FitsLaw
  pub tables : (schemas : List TableSchema) (bound after : Bound) (statement : TreeStatement)
      → (form : Statement Known) (valuation : Valuation) (tables : Tables) (environment : Environment)
      → (effect : Effect Tables)
      → statement_in schemas bound statement ≡ Ok (form, after) → AreKinded schemas tables
      → HasKinds bound environment → form_meaning known_worth form valuation tables environment ≡ Ok effect
      → AreKinded schemas effect.database
  pub bound : (schemas : List TableSchema) (bound after : Bound) (statement : TreeStatement)
      → (form : Statement Known) (valuation : Valuation) (tables : Tables) (environment : Environment)
      → (effect : Effect Tables)
      → statement_in schemas bound statement ≡ Ok (form, after) → HasKinds bound environment
      → AnswersInKind form valuation → form_meaning known_worth form valuation tables environment ≡ Ok effect
      → HasKinds after effect.environment

-- ---- steps

effect_given : (creates : List Create) (result : Result (Effect Tables) Failure) (effect : Effect Database)
    → effect_of creates result ≡ Ok effect
    → (over : Effect Tables) × (result ≡ Ok over) × (effect.database ≡ database_of creates over.database)
    × (effect.environment ≡ over.environment)
effect_given creates (Ok over) effect e =
    let same = one_answer _ effect e in (
      over,
      refl,
      sym (ap (λ (x : Effect Database). x.database) same),
      sym (ap (λ (x : Effect Database). x.environment) same),
    )
effect_given creates (Err failure) effect e = cc

-- ---- answers

none_entangled : (form : Statement Known) (environment : Environment) (valuation : Valuation)
    (kinds : List (List Kind)) → Fits kinds (closed environment form) → AnswersInKind form valuation
none_entangled (statements.Entangled entangled) environment valuation kinds fits = absurd fits
none_entangled (statements.Select select) environment valuation kinds fits = tt
none_entangled (statements.Insert table values) environment valuation kinds fits = tt
none_entangled (statements.Delete table tests) environment valuation kinds fits = tt
none_entangled (statements.Update table image tests) environment valuation kinds fits = tt
none_entangled (statements.Set variable expression) environment valuation kinds fits = tt

module _ (laws : Laws) (creates : List Create) (apart : HaveDistinctColumns creates) where
  abbrev pub schemas : List TableSchema
  schemas = schemas_of creates

  -- a database is that of tables of the declared kinds, under their names
  pub record Stands (database : Database) : Type 0 where
    pub tables : Tables
    pub kinded : AreKinded schemas tables
    pub is : database ≡ database_of creates tables

  abbrev IsAnswered : TreeStatement → Statement Known → Valuation → Type 0
  IsAnswered statement form valuation = Answers statement valuation × AnswersInKind form valuation

  asked : (tree : TreeEntangled) (bound after : Bound) (form : Statement Known) (valuation : Valuation)
      (database : Database) (environment : Environment)
      → statement_in schemas bound (trees.Entangled tree) ≡ Ok (form, after) → Stands database
      → HasKinds bound environment → is_grounding creates database environment tree valuation ≡ true
      → IsAnswered (trees.Entangled tree) form valuation
  unfolding statement_in
  asked tree bound after form valuation database environment e stands have grounded =
      let found = found_of (entangled_in schemas bound tree) _ (form, after) e in
      let there : is_form_grounding (λ value. value) stands.tables (closed_entangled environment found.0.0) valuation
      ≡ true =
      laws.closing environment stands.tables found.0.0 valuation
      ∙ sym (laws.forms.grounds creates stands.tables environment bound found.0.1 tree found.0.0 valuation
      (laws.forms.wide creates stands.tables stands.kinded) found.1)
      ∙ subst (λ (over : Database). is_grounding creates over environment tree valuation ≡ true) stands.is grounded in
      let kinds : kinds_of valuation ≡ found.0.0.variables =
      laws.groundings schemas bound found.0.1 tree found.0.0 environment stands.tables valuation found.1 stands.kinded
      have there in
      let same : statements.Entangled found.0.0 ≡ form =
      ap (λ (f : Statement Known × Bound). f.0)
      (one_answer (statements.Entangled found.0.0, found.0.1) (form, after) found.2) in (
        sym (length-map valuation kind_of) ∙ ap length kinds
            ∙ laws.forms.variables schemas bound found.0.1 tree found.0.0 found.1,
        subst (λ (f : Statement Known). AnswersInKind f valuation) same kinds,
      )

  answered : (statement : TreeStatement) (bound after : Bound) (form : Statement Known) (valuation : Valuation)
      (database : Database) (environment : Environment) (tx place : ℕ)
      → statement_in schemas bound statement ≡ Ok (form, after) → Stands database → HasKinds bound environment
      → AllByRecursion (IsGrounded creates)
      (seen tx place (record { statement = statement; valuation = valuation }) database environment)
      → IsAnswered statement form valuation
  answered (trees.Entangled tree) bound after form valuation database environment tx place e stands have grounded =
      asked tree bound after form valuation database environment e stands have grounded.0
  answered (trees.Select select) bound after form valuation database environment tx place e stands have grounded = (
    tt,
    none_entangled form environment valuation _
        (laws.fits schemas bound after (trees.Select select) form environment e refl have),
  )
  answered (trees.Insert insert) bound after form valuation database environment tx place e stands have grounded = (
    tt,
    none_entangled form environment valuation _
        (laws.fits schemas bound after (trees.Insert insert) form environment e refl have),
  )
  answered (trees.Delete delete) bound after form valuation database environment tx place e stands have grounded = (
    tt,
    none_entangled form environment valuation _
        (laws.fits schemas bound after (trees.Delete delete) form environment e refl have),
  )
  answered (trees.Update update) bound after form valuation database environment tx place e stands have grounded = (
    tt,
    none_entangled form environment valuation _
        (laws.fits schemas bound after (trees.Update update) form environment e refl have),
  )
  answered (trees.Set setting) bound after form valuation database environment tx place e stands have grounded = (
    tt,
    none_entangled form environment valuation _
        (laws.fits schemas bound after (trees.Set setting) form environment e refl have),
  )

  -- ---- one statement

  effect_kept : (statement : TreeStatement) (bound after : Bound) (form : Statement Known) (valuation : Valuation)
      (database : Database) (environment : Environment) (effect : Effect Database)
      → statement_in schemas bound statement ≡ Ok (form, after) → Stands database → HasKinds bound environment
      → IsAnswered statement form valuation
      → statement_meaning creates statement valuation database environment ≡ Ok effect
      → Stands effect.database × HasKinds after effect.environment
  effect_kept statement bound after form valuation database environment effect e stands have answers is =
      let tables = stands.tables in
      let over = effect_given creates (form_meaning known_worth form valuation tables environment) effect
      (sym (laws.forms.means creates tables environment valuation bound after statement form
      (laws.forms.wide creates tables stands.kinded) apart e answers.0)
      ∙ subst (λ (over : Database). statement_meaning creates statement valuation over environment ≡ Ok effect)
      stands.is is) in (
        record {
          tables = over.0.database;
          kinded = laws.tables schemas bound after statement form valuation tables environment over.0 e stands.kinded
              have over.1;
          is = over.2;
        },
        subst (HasKinds after) (sym over.3)
            (laws.bound schemas bound after statement form valuation tables environment over.0 e have answers.1 over.1),
      )

  -- ---- statements one after the other

  abbrev pub IsLeft : Bound → List TreeStatement → ℕ → Run → Type 0
  IsLeft bound all count last =
      Stands last.database × ((left : Bound) × (bound_behind schemas bound all count ≡ Ok left)
      × HasKinds left last.environment)

  one_run : (x y : Run) → Some x ≡ Some y → x ≡ y
  one_run x y e = cc

  run_given : (answer : Answer) (rest : Option Run) (last : Run) → option_map (answered_first answer) rest ≡ Some last
      → (r : Run) × (rest ≡ Some r) × (last ≡ answered_first answer r)
  run_given answer (Some r) last e = (r, refl, sym (one_run (answered_first answer r) last e))
  run_given answer None last e = cc

  same_first : {A : Type 0} (x y : A) (xs ys : List A) → x ∷ xs ≡ y ∷ ys → (x ≡ y) × (xs ≡ ys)
  same_first x y xs ys e = (cc, cc)

  pub run_kept : (all : List TreeStatement) (operations : List Operation)
      → map (λ operation. operation.statement) operations
      ≡ take (length operations) all
      → (bound : Bound) (made out : List (Statement Known)) → statements_from schemas bound made all ≡ Ok out
      → (database : Database) (environment : Environment) → Stands database → HasKinds bound environment
      → (tx place : ℕ) (last : Run) → run creates operations database environment ≡ Some last
      → AllByRecursion (IsGrounded creates) (read_views creates tx place operations database environment)
      → IsLeft bound all (length operations) last
  run_kept all [] begin bound made out e database environment stands have tx place last ran grounded =
      let same = one_run (record { database = database; environment = environment; answers = [] }) last ran in
      subst (IsLeft bound all 0) same (stands, (bound, refl, have))
  run_kept [] (operation ∷ operations) begin bound made out e database environment stands have tx place last ran
      grounded = cc
  run_kept (statement ∷ all) (operation ∷ operations) begin bound made out e database environment stands have tx place
      last ran
      grounded =
      let both = same_first operation.statement statement _ _ begin in
      let w = found_of (statement_in schemas bound statement) _ out e in
      let own : statement_in schemas bound operation.statement ≡ Ok w.0 =
      subst (λ tree. statement_in schemas bound tree ≡ Ok w.0) (sym both.0) w.1 in
      let parts = all_parts (IsGrounded creates) (seen tx place operation database environment) _ grounded in
      let answers = answered operation.statement bound w.0.1 w.0.0 operation.valuation database environment tx place own
      stands
      have parts.0 in
      by w.0 own w.1 answers
      (λ effect stood have_now r is grounded_now.
      run_kept all operations both.1 w.0.1 (made ++ w.0.0 ∷ []) out w.2 effect.database effect.environment stood
      have_now tx
      (suc place) r is grounded_now)
      (statement_meaning creates operation.statement operation.valuation database environment) refl ran parts.1
    where
      by : (w : Statement Known × Bound) → statement_in schemas bound operation.statement ≡ Ok w
          → statement_in schemas bound statement ≡ Ok w
          → IsAnswered operation.statement w.0 operation.valuation
          → ((effect : Effect Database) → Stands effect.database → HasKinds w.1 effect.environment → (r : Run)
          → run creates operations effect.database effect.environment ≡ Some r
          → AllByRecursion (IsGrounded creates)
          (read_views creates tx (suc place) operations effect.database effect.environment)
          → IsLeft w.1 all (length operations) r)
          → (result : Result (Effect Database) Failure)
          → statement_meaning creates operation.statement operation.valuation database environment ≡ result
          → after result (run creates operations) ≡ Some last
          → AllByRecursion (IsGrounded creates) (seen_after result (read_views creates tx (suc place) operations))
          → IsLeft bound (statement ∷ all) (suc (length operations)) last
      by w own there answers again (Err failure) is ran grounded = cc
      by w own there answers again (Ok effect) is ran grounded =
          let kept = effect_kept operation.statement bound w.1 w.0 operation.valuation database environment effect own
          stands
          have answers is in
          let r = run_given effect.answer (run creates operations effect.database effect.environment) last ran in
          let rest = again effect kept.0 kept.1 r.0 r.1 grounded in
          subst (IsLeft bound (statement ∷ all) (suc (length operations))) (sym r.2) (
            rest.0,
            (
              rest.1.0,
              ap (λ (form : Result (Statement Known × Bound) FormFault).
                  form >>= λ (form : Statement Known × Bound). bound_behind schemas form.1 all (length operations))
                  there
                  ∙ rest.1.1,
              rest.1.2,
            ),
          )
