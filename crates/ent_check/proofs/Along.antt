-- A transaction on its way: what is found, left and offered from a statement on.
use Rattle.std.proofs.Common.{◌≡◌, ℕ, suc, ◌+◌, ◌<◌, true, false, List, [], ◌∷◌, ◌++◌, map, length}
use Rattle.std.proofs.Common.{refl, sym, ap, ◌∙◌, subst, Option, Some, None, Result, Ok, Err, append-nil}
use Rattle.std.proofs.Common.{append_assoc, drop}
use Rattle.std.specs.Prelude.{slice_get, slice_index_or, unwrap_or}
use Rattle.std.specs.List.{AllByRecursion, flat_map}
use Rattle.std.specs.Option.{option_map}
use Rattle.std.proofs.lemmas.List.{length-map, map-append}
use Rattle.ent_value.specs.declared.value.Kind.{Kind}
use Rattle.ent_value.specs.declared.value.Value.{Value}
use Rattle.ent_tree.specs.declared.declaration.Create.{Create}
use Rattle.ent_tree.specs.declared.script.Script.{Script}
use Rattle.ent_tree.specs.declared.script.Statement.{Statement as TreeStatement}
use Rattle.ent_tree.specs.declared.script.Statement.TheVariants as trees
use Rattle.ent_rel.specs.Relation.{Relation}
use Rattle.ent_semantics.specs.declared.answer.Answer.{Answer}
use Rattle.ent_semantics.specs.declared.answer.Failure.{Failure}
use Rattle.ent_semantics.specs.Database.{Database, Environment, nothing_bound}
use Rattle.ent_semantics.specs.Effect.{Effect}
use Rattle.ent_semantics.specs.Serial.{Operation, Run, ReadView, after, answered_first, is_entangled, run, seen}
use Rattle.ent_semantics.specs.Serial.{seen_after}
use Rattle.ent_semantics.specs.Serial.{read_views}
use Rattle.ent_semantics.specs.Closing.{closed}
use Rattle.ent_semantics.specs.Form.{Tables, closed_worth, form_meaning}
use Rattle.ent_semantics.specs.FormKinds.{Fits, tables_named}
use Rattle.ent_semantics.specs.declared.operand.Known.{Known}
use Rattle.ent_semantics.specs.declared.statement.Statement.{Statement}
use Rattle.ent_semantics.specs.declared.statement.Statement.TheVariants as forms
use Rattle.ent_form.specs.Catalogue.{schemas_of}
use Rattle.ent_form.specs.Entangled.{entangled_in}
use Rattle.ent_form.specs.Form.{script_in, statement_in, statements_from}
use Rattle.ent_form.specs.Kinds.{Bound, none_bound}
use Rattle.ent_form.specs.declared.catalogue.TableSchema.{TableSchema}
use Rattle.ent_form.specs.declared.fault.FormFault.{FormFault}
use Rattle.ent_form.specs.declared.script.Plain.{Plain}
use Rattle.ent_form.proofs.Heads.{found_of}
use Rattle.ent_form.specs.TableKinds.{AreDeclared, HasKinds, column_kinds}
use Rattle.ent_form.specs.Tables.{database_of, HaveDistinctColumns}
use Rattle.ent_history.specs.Placed.{Placed, member_at, told_operations}
use Rattle.ent_history.specs.Replay.{operations_findings, found_after, is_answered, later, ungrounded}
use Rattle.ent_history.specs.Verdict.{first_of}
use Rattle.ent_history.specs.declared.finding.Finding.{Finding}
use Rattle.ent_ordinary.specs.Tables.{kinds_in, rows_in}
use Rattle.ent_check.specs.Alone.{AreSeated, StandAsDeclared}
use Rattle.ent_check.specs.Closed.{HasSeat, IsSeated, Leaves, closed_findings, closed_offers, grounding_in}
use Rattle.ent_check.specs.Sorts.{CanRun}
use Rattle.ent_check.specs.Laws.{Laws}
use Rattle.ent_check.specs.Offers.{offer_of}
use Rattle.ent_check.specs.declared.offer.StatementOffer.{StatementOffer}
use Rattle.ent_check.specs.Alike.{IsAlike, answer_unless, operation_of, tree_findings, tree_meaning, tree_offers}
use Rattle.ent_check.proofs.Numbers.{first_none, first_some}
use Rattle.ent_check.proofs.Step.{one_answer, statement_alike}

-- ---- behind a statement

module _ (database : Database) (environment : Environment) where
  found_there : (meaning : Result (Effect Database) Failure) (more : Database → Environment → List Finding)
      → Leaves meaning database environment → found_after meaning more ≡ more database environment
  found_there (Ok effect) more leaves = λ i. more (leaves.0 i) (leaves.1 i)
  found_there (Err failure) more leaves = absurd leaves

  seen_there : (meaning : Result (Effect Database) Failure) (more : Database → Environment → List ReadView)
      → Leaves meaning database environment → seen_after meaning more ≡ more database environment
  seen_there (Ok effect) more leaves = λ i. more (leaves.0 i) (leaves.1 i)
  seen_there (Err failure) more leaves = absurd leaves

  abbrev database_left : Option Run → Option Database
  database_left left = option_map (λ (of : Run). of.database) left

  same_database : (answer : Answer) (left : Option Run)
      → database_left (option_map (answered_first answer) left) ≡ database_left left
  same_database answer (Some of) = refl
  same_database answer None = refl

  left_there : (meaning : Result (Effect Database) Failure) (more : Database → Environment → Option Run)
      → Leaves meaning database environment
      → database_left (after meaning more) ≡ database_left (more database environment)
  left_there (Ok effect) more leaves =
      same_database effect.answer (more effect.database effect.environment)
      ∙ (λ i. database_left (more (leaves.0 i) (leaves.1 i)))
  left_there (Err failure) more leaves = absurd leaves

module _ (creates : List Create) (members : List Placed) (tx : ℕ) where
  abbrev pub run_left : List Operation → Database → Environment → Option Database
  run_left operations database environment =
      option_map (λ (of : Run). of.database) (run creates operations database environment)

  module _ (operations : List Operation) (answers : List Answer) (database : Database)
      (offers : List StatementOffer) where
    -- from here on it is found, left and offered what is from the first statement on
    pub record Along (place : ℕ) (rest : List Operation) (others : List Answer) (now : Database)
        (environment : Environment) (made : List StatementOffer) : Type 0 where
      pub found : first_of (operations_findings creates members tx 1 operations answers database nothing_bound)
          ≡ first_of (operations_findings creates members tx place rest others now environment)
      pub left : run_left operations database nothing_bound ≡ run_left rest now environment
      pub offered : offers ++ map offer_of (read_views creates tx 1 operations database nothing_bound)
          ≡ made ++ map offer_of (read_views creates tx place rest now environment)

    pub along_on : (place : ℕ) (tree : TreeStatement) (rest : List Operation) (others : List Answer)
        (now behind : Database) (environment environment' : Environment) (made : List StatementOffer)
        → first_of (tree_findings creates members tx place tree others now environment) ≡ None
        → Leaves (tree_meaning creates members tx place tree now environment) behind environment'
        → Along place (operation_of creates members tx place tree ∷ rest) others now environment made
        → Along (suc place) rest (later others) behind environment'
        (made ++ tree_offers creates members tx place tree now environment)
    along_on place tree rest others now behind environment environment' made none leaves along =
        let operation = operation_of creates members tx place tree in
        let meaning = tree_meaning creates members tx place tree now environment in
        let read_view = seen tx place operation now environment in
        let grounds = flat_map (ungrounded creates members) read_view in
        let answer = answer_unless creates members tx place (is_answered meaning others) in
        let found_later = operations_findings creates members tx (suc place) rest (later others) in
        let seen_later = read_views creates tx (suc place) rest in
        record {
          found = along.found
              ∙ ap first_of (sym (append_assoc grounds answer (found_after meaning found_later)))
              ∙ first_none (grounds ++ answer) (found_after meaning found_later) none
              ∙ ap first_of (found_there behind environment' meaning found_later leaves);
          left = along.left ∙ left_there behind environment' meaning (run creates rest) leaves;
          offered = along.offered
              ∙ ap (λ (xs : List StatementOffer). made ++ xs)
              (map-append offer_of read_view (seen_after meaning seen_later)
              ∙ ap (λ (xs : List ReadView). map offer_of read_view ++ map offer_of xs)
              (seen_there behind environment' meaning seen_later leaves))
              ∙ sym (append_assoc made (map offer_of read_view) (map offer_of (seen_later behind environment')));
        }

    pub along_off : (place : ℕ) (tree : TreeStatement) (rest : List Operation) (others : List Answer) (now : Database)
        (environment : Environment) (made : List StatementOffer) (finding : Finding)
        → first_of (tree_findings creates members tx place tree others now environment) ≡ Some finding
        → Along place (operation_of creates members tx place tree ∷ rest) others now environment made
        → first_of (operations_findings creates members tx 1 operations answers database nothing_bound) ≡ Some finding
    along_off place tree rest others now environment made finding is along =
        let operation = operation_of creates members tx place tree in
        let meaning = tree_meaning creates members tx place tree now environment in
        let grounds = flat_map (ungrounded creates members) (seen tx place operation now environment) in
        let answer = answer_unless creates members tx place (is_answered meaning others) in
        let more = found_after meaning (operations_findings creates members tx (suc place) rest (later others)) in
        along.found
        ∙ ap first_of (sym (append_assoc grounds answer more))
        ∙ first_some (grounds ++ answer) more finding is

-- ---- forms of statements

abbrev pub Resolves : List TableSchema → Bound → List TreeStatement → List (Statement Known) → Type 0
Resolves schemas bound [] [] = Unit {0}
Resolves schemas bound [] (form ∷ made) = ⊥
Resolves schemas bound (tree ∷ more) [] = ⊥
Resolves schemas bound (tree ∷ more) (form ∷ made) =
    (behind : Bound) × (statement_in schemas bound tree ≡ Ok (form, behind)) × Resolves schemas behind more made

made_so : (schemas : List TableSchema) (more : List TreeStatement) (bound : Bound) (made out : List (Statement Known))
    → statements_from schemas bound made more ≡ Ok out
    → (rest : List (Statement Known)) × (out ≡ made ++ rest) × Resolves schemas bound more rest
made_so schemas [] bound made out e =
    ([], sym (one_answer {E = FormFault} made out e) ∙ sym (append-nil made), tt)
made_so schemas (tree ∷ more) bound made out e =
    let w = found_of (statement_in schemas bound tree) _ out e in
    let behind = made_so schemas more w.0.1 (made ++ w.0.0 ∷ []) out w.2 in (
      w.0.0 ∷ behind.0,
      behind.1 ∙ append_assoc made (w.0.0 ∷ []) behind.0,
      (w.0.1, w.1, behind.2),
    )

pub resolved_so : (schemas : List TableSchema) (script : Script) (plain : Plain)
    → script_in schemas script ≡ Ok plain → Resolves schemas none_bound script.statements plain.statements
resolved_so schemas script plain e =
    let w = found_of (statements_from schemas none_bound [] script.statements) _ plain e in
    let made = made_so schemas script.statements none_bound [] w.0 w.1 in
    let same : made.0 ≡ plain.statements =
    sym made.1 ∙ ap (λ (p : Plain). p.statements) (one_answer {E = FormFault} _ plain w.2) in
    subst (Resolves schemas none_bound script.statements) same made.2

-- ---- what is asked of a statement that is run

can_run : (statement : Statement Value) (kinds : List (List Kind)) → Fits kinds statement → CanRun kinds statement
can_run (forms.Entangled entangled) kinds fits = tt
can_run (forms.Select select) kinds fits = fits
can_run (forms.Insert table values) kinds fits = fits
can_run (forms.Delete table tests) kinds fits = fits
can_run (forms.Update table image tests) kinds fits = fits
can_run (forms.Set variable expression) kinds fits = fits

no_seat : (seat : Option Placed) (statement : Statement Value) (kinds : List (List Kind)) → Fits kinds statement
    → HasSeat seat statement
no_seat seat (forms.Entangled entangled) kinds fits = absurd fits
no_seat seat (forms.Select select) kinds fits = tt
no_seat seat (forms.Insert table values) kinds fits = tt
no_seat seat (forms.Delete table tests) kinds fits = tt
no_seat seat (forms.Update table image tests) kinds fits = tt
no_seat seat (forms.Set variable expression) kinds fits = tt

asks_entangled : (schemas : List TableSchema) (environment : Environment) (seat : Option Placed)
    (kinds : List (List Kind)) (tree : TreeStatement) (bound behind : Bound) (form : Statement Known)
    → statement_in schemas bound tree ≡ Ok (form, behind) → is_entangled tree ≡ true → IsSeated seat tree
    → CanRun kinds (closed environment form) × HasSeat seat (closed environment form)
unfolding statement_in
asks_entangled schemas environment seat kinds (trees.Entangled tree) bound behind form is entangled seated =
    let w = found_of (entangled_in schemas bound tree) _ (form, behind) is in
    let P : Statement Known × Bound → Type 0 =
    λ p. CanRun kinds (closed environment p.0) × HasSeat seat (closed environment p.0) in
    subst P (one_answer {E = FormFault} (forms.Entangled w.0.0, w.0.1) (form, behind) w.2) (tt, seated)
asks_entangled schemas environment seat kinds (trees.Select select) bound behind form is entangled seated =
    cc (entangled)
asks_entangled schemas environment seat kinds (trees.Insert insert) bound behind form is entangled seated =
    cc (entangled)
asks_entangled schemas environment seat kinds (trees.Delete delete) bound behind form is entangled seated =
    cc (entangled)
asks_entangled schemas environment seat kinds (trees.Update update) bound behind form is entangled seated =
    cc (entangled)
asks_entangled schemas environment seat kinds (trees.Set setting) bound behind form is entangled seated =
    cc (entangled)

one_database : (x y : Database) → Some x ≡ Some y → x ≡ y
one_database x y is = ap (λ (o : Option Database). unwrap_or o x) is

-- ---- a transaction from a statement on

module _ (creates : List Create) (members : List Placed) (tx : ℕ) (statements : List TreeStatement)
    (answers : List Answer) (database : Database) (offers : List StatementOffer) where
  abbrev pub schemas : List TableSchema
  schemas = schemas_of creates

  pub record Midway (place : ℕ) (rest : List TreeStatement) (made_forms : List (Statement Known))
      (others : List Answer) (tables : List Relation) (environment : Environment) (made : List StatementOffer)
      : Type 0 where
    pub bound : Bound
    pub resolved : Resolves schemas bound rest made_forms
    pub kinds : HasKinds bound environment
    pub stand : StandAsDeclared creates tables
    pub seated : AreSeated members tx place rest
    pub along : Along creates members tx (told_operations members tx 1 statements) answers database offers place
        (told_operations members tx place rest) others (database_of creates (rows_in tables)) environment made

  module _ (laws : Laws) (distinct : HaveDistinctColumns creates) (place : ℕ) (form : Statement Known)
      (more_forms : List (Statement Known)) (others : List Answer) (tables : List Relation)
      (environment : Environment) (made : List StatementOffer) where
    abbrev statement : Statement Value
    statement = closed environment form

    abbrev seat : Option Placed
    seat = member_at members tx place

    abbrev found_here : Option Finding
    found_here =
        first_of (closed_findings tx place seat statement (slice_get others 0) (rows_in tables) environment)

    abbrev its_meaning : Result (Effect Tables) Failure
    its_meaning = form_meaning closed_worth statement (grounding_in seat statement) (rows_in tables) environment

    abbrev Here : List TreeStatement → Type 0
    Here rest = Midway place rest (form ∷ more_forms) others tables environment made

    alike_here : (tree : TreeStatement) (more : List TreeStatement) (m : Here (tree ∷ more))
        → IsAlike creates members tx place m.bound m.resolved.0 tree statement others (rows_in tables) environment
    alike_here tree more m =
        statement_alike laws creates distinct members tx place m.bound m.resolved.0 tree form m.resolved.1 others
        (rows_in tables) m.stand.rows environment m.kinds m.seated.0

    -- nothing is found of this statement
    pub midway_on : (rest : List TreeStatement) (behind : List Relation) (environment' : Environment)
        (more_made : List StatementOffer) → found_here ≡ None → Leaves its_meaning (rows_in behind) environment'
        → more_made ≡ made ++ closed_offers tx place seat statement → kinds_in behind ≡ kinds_in tables → Here rest
        → Midway (suc place) (drop 1 rest) more_forms (later others) behind environment' more_made
    midway_on [] behind environment' more_made none leaves offered kept m = absurd m.resolved
    midway_on (tree ∷ more) behind environment' more_made none leaves offered kept m =
        let alike = alike_here tree more m in
        let now = database_of creates (rows_in tables) in
        record {
          bound = m.resolved.0;
          resolved = m.resolved.2;
          kinds = alike.binds none (rows_in behind) environment' leaves;
          stand = record {
            kinds = kept ∙ m.stand.kinds;
            rows = alike.rows none (rows_in behind) environment' leaves;
          };
          seated = m.seated.1;
          along = subst (Along creates members tx (told_operations members tx 1 statements) answers database offers
              (suc place) (told_operations members tx (suc place) more) (later others)
              (database_of creates (rows_in behind)) environment')
              (sym (offered ∙ ap (λ (xs : List StatementOffer). made ++ xs) (alike.offers none)))
              (along_on creates members tx (told_operations members tx 1 statements) answers database offers place tree
              (told_operations members tx (suc place) more) others now (database_of creates (rows_in behind))
              environment
              environment' made (alike.found ∙ none) (alike.left none (rows_in behind) environment' leaves) m.along);
        }

    -- this is what is found first
    pub midway_off : (rest : List TreeStatement) (finding : Finding) → found_here ≡ Some finding → Here rest
        → first_of (operations_findings creates members tx 1 (told_operations members tx 1 statements) answers database
        nothing_bound) ≡ Some finding
    midway_off [] finding is m = absurd m.resolved
    midway_off (tree ∷ more) finding is m =
        along_off creates members tx (told_operations members tx 1 statements) answers database offers place tree
        (told_operations members tx (suc place) more) others (database_of creates (rows_in tables)) environment made
        finding
        ((alike_here tree more m).found ∙ is) m.along

    -- ---- what is asked of the statement

    numbers_there : (numbers : List ℕ) → kinds_in tables ≡ map column_kinds schemas → AreDeclared schemas numbers
        → AllByRecursion (λ number. number < length tables) numbers
    numbers_there [] same all = tt
    numbers_there (number ∷ numbers) same all =
        let many : length tables ≡ length schemas =
        sym (length-map tables (λ (t : Relation). t.kinds)) ∙ ap length same ∙ length-map schemas column_kinds in
        (subst (λ n. number < n) (sym many) all.0, numbers_there numbers same all.1)

    pub midway_there : (rest : List TreeStatement) → Here rest
        → AllByRecursion (λ number. number < length tables) (tables_named statement)
    midway_there [] m = absurd m.resolved
    midway_there (tree ∷ more) m =
        subst (AllByRecursion (λ number. number < length tables)) (sym (laws.closes_tables form environment))
        (numbers_there (tables_named form) m.stand.kinds
        (laws.declared schemas m.bound m.resolved.0 tree form m.resolved.1))

    abbrev kinds_here : List (List Kind)
    kinds_here = map (λ number. slice_index_or (kinds_in tables) number []) (tables_named statement)

    asks : (tree : TreeStatement) (bound behind : Bound) → statement_in schemas bound tree ≡ Ok (form, behind)
        → IsSeated seat tree → HasKinds bound environment → kinds_in tables ≡ map column_kinds schemas
        → CanRun kinds_here statement × HasSeat seat statement
    asks tree bound behind is seated kinds same =
        elim (is_entangled tree)
        as (λ b. is_entangled tree ≡ b → CanRun kinds_here statement × HasSeat seat statement) [
          | true ↦ λ entangled. asks_entangled schemas environment seat kinds_here tree bound behind form is entangled
              seated
          | false ↦ λ plain.
              let P : List (List Kind) → Type 0 =
              λ all. Fits (map (λ number. slice_index_or all number []) (tables_named statement)) statement in
              let fits : Fits kinds_here statement =
              subst P (sym same) (laws.fits schemas bound behind tree form environment is plain kinds) in
              (can_run statement kinds_here fits, no_seat seat statement kinds_here fits)
        ] refl

    pub midway_asks : (rest : List TreeStatement) → Here rest → CanRun kinds_here statement × HasSeat seat statement
    midway_asks [] m = absurd m.resolved
    midway_asks (tree ∷ more) m =
        asks tree m.bound m.resolved.0 m.resolved.1 m.seated.0 m.kinds m.stand.kinds

  -- ---- at both ends

  pub midway_begun : (made_forms : List (Statement Known)) (tables : List Relation)
      → Resolves schemas none_bound statements made_forms → StandAsDeclared creates tables
      → AreSeated members tx 1 statements → database ≡ database_of creates (rows_in tables)
      → Midway 1 statements made_forms answers tables nothing_bound offers
  midway_begun made_forms tables resolved stand seated same = record {
    bound = none_bound;
    resolved = resolved;
    kinds = λ name kind is. cc (is);
    stand = stand;
    seated = seated;
    along = record {
      found = ap (λ (d : Database). first_of
          (operations_findings creates members tx 1 (told_operations members tx 1 statements)
          answers d nothing_bound)) same;
      left = ap (λ (d : Database). run_left creates members tx (told_operations members tx 1 statements) d
          nothing_bound)
          same;
      offered = ap (λ (d : Database). offers
          ++ map offer_of (read_views creates tx 1 (told_operations members tx 1 statements) d
          nothing_bound)) same;
    };
  }

  module _ (place : ℕ) (rest : List TreeStatement) (others : List Answer) (tables : List Relation)
      (environment : Environment) (made : List StatementOffer)
      (m : Midway place rest [] others tables environment made) where
    abbrev Ended : List TreeStatement → Type 0
    Ended left =
        Along creates members tx (told_operations members tx 1 statements) answers database offers place
        (told_operations members tx place left) others (database_of creates (rows_in tables)) environment made

    at_end : (left : List TreeStatement) → Resolves schemas m.bound left [] → Ended left → Ended []
    at_end [] resolved along = along
    at_end (tree ∷ more) resolved along = absurd resolved

    abbrev end_along : Ended []
    end_along = at_end rest m.resolved m.along

    pub ended_found : first_of
        (operations_findings creates members tx 1 (told_operations members tx 1 statements) answers
        database nothing_bound) ≡ None
    ended_found = end_along.found

    pub ended_left : (of : Run)
        × (run creates (told_operations members tx 1 statements) database nothing_bound ≡ Some of)
        × (of.database ≡ database_of creates (rows_in tables))
    ended_left = by (run creates (told_operations members tx 1 statements) database nothing_bound) refl end_along.left
      where
        by : (left : Option Run) → run creates (told_operations members tx 1 statements) database nothing_bound ≡ left
            → run_left creates members tx (told_operations members tx 1 statements) database nothing_bound
            ≡ Some (database_of creates (rows_in tables))
            → (of : Run) × (run creates (told_operations members tx 1 statements) database nothing_bound ≡ Some of)
            × (of.database ≡ database_of creates (rows_in tables))
        by (Some of) is same = (
          of,
          is,
          one_database of.database (database_of creates (rows_in tables))
              (sym (ap (option_map (λ (x : Run). x.database)) is) ∙ same),
        )
        by None is same = let wrong = sym (ap (option_map (λ (x : Run). x.database)) is) ∙ same in cc (wrong)

    pub ended_offered : made ≡ offers ++ map offer_of
        (read_views creates tx 1 (told_operations members tx 1 statements) database nothing_bound)
    ended_offered = sym (end_along.offered ∙ append-nil made)
