-- What is found of a statement is what is found of its form, closed; and that keeps kinds.
use Rattle.std.proofs.Common.{◌≡◌, ℕ, Bool, true, false, cond, List, [], ◌∷◌, ◌++◌, map, length}
use Rattle.std.proofs.Common.{refl, sym, ap, ◌∙◌, subst, Option, Some, None, Result, Ok, Err, is_some}
use Rattle.std.specs.Prelude.{slice_get}
use Rattle.std.specs.List.{flat_map}
use Rattle.std.proofs.lemmas.Bool.{eqb-true, and_parts}
use Rattle.ent_value.specs.Refusal.{◌>>=◌}
use Rattle.ent_value.specs.declared.value.Kind.{Kind}
use Rattle.ent_value.specs.declared.value.Value.{Value}
use Rattle.ent_tree.specs.declared.declaration.Create.{Create}
use Rattle.ent_tree.specs.declared.entangled.Entangled.{Entangled as TreeEntangled}
use Rattle.ent_tree.specs.declared.script.Statement.{Statement as TreeStatement}
use Rattle.ent_tree.specs.declared.script.Statement.TheVariants as trees
use Rattle.ent_semantics.specs.declared.answer.Answer.{Answer}
use Rattle.ent_semantics.specs.declared.answer.Failure.{Failure}
use Rattle.ent_semantics.specs.Database.{Database, Environment}
use Rattle.ent_semantics.specs.Effect.{Effect}
use Rattle.ent_semantics.specs.Entangled.{Valuation, is_grounding, written_variables}
use Rattle.ent_semantics.specs.Serial.{ReadView, is_entangled, seen}
use Rattle.ent_semantics.specs.Statement.{statement_meaning}
use Rattle.ent_semantics.specs.Closing.{closed, closed_entangled}
use Rattle.ent_semantics.specs.Form.{Tables, closed_worth, form_meaning, is_form_grounding}
use Rattle.ent_semantics.specs.Form.{known_worth}
use Rattle.ent_semantics.specs.FormKinds.{Fits}
use Rattle.ent_semantics.specs.declared.entangled.Entangled.{Entangled}
use Rattle.ent_semantics.specs.declared.operand.Known.{Known}
use Rattle.ent_semantics.specs.declared.statement.Statement.{Statement}
use Rattle.ent_semantics.specs.declared.statement.Statement.TheVariants as forms
use Rattle.ent_form.specs.Catalogue.{schemas_of}
use Rattle.ent_form.specs.Entangled.{entangled_in}
use Rattle.ent_form.specs.Form.{statement_in}
use Rattle.ent_form.specs.Kinds.{Bound}
use Rattle.ent_form.specs.declared.fault.FormFault.{FormFault}
use Rattle.ent_form.proofs.Heads.{found_of}
use Rattle.ent_form.specs.TableKinds.{AreKinded, AnswersInKind, HasKinds}
use Rattle.ent_form.specs.Tables.{database_of, effect_of, Answers, HaveDistinctColumns}
use Rattle.ent_form.proofs.Ordinary.{answers_any, in_any_kind}
use Rattle.ent_history.specs.Placed.{Placed, grounding_of, member_at}
use Rattle.ent_history.specs.Replay.{ground_finding, is_answered, ungrounded}
use Rattle.ent_history.specs.Verdict.{first_of}
use Rattle.ent_history.specs.declared.finding.Finding.{Finding}
use Rattle.ent_history.specs.declared.finding.Rule.TheVariants as rules
use Rattle.ent_history.specs.declared.finding.Thing.TheVariants as things
use Rattle.ent_ordinary.specs.Worth.{itself}
use Rattle.ent_check.specs.Closed.{IsSeated, Leaves, answer_in, closed_offers, grounding_in, is_told}
use Rattle.ent_check.specs.Closed.{seat_findings}
use Rattle.ent_check.specs.Alike.{IsAlike, answer_unless, found_closed, told_valuation, tree_findings}
use Rattle.ent_check.specs.Alike.{tree_offers}
use Rattle.ent_check.specs.Laws.{Laws}
use Rattle.ent_check.specs.Offers.{offer_of}

abbrev SameResult : {A E : Type 0} → Result A E → Result A E → Type 0
SameResult x y = x ≡ y

pub one_answer : {A E : Type 0} (x y : A) → SameResult {A = A} {E = E} (Ok x) (Ok y) → x ≡ y
one_answer x y e = cc

-- ---- answers

answered_so : (creates : List Create) (meaning : Result (Effect Tables) Failure) (answers : List Answer)
    → is_answered (effect_of creates meaning) answers ≡ is_told (answer_in meaning) (slice_get answers 0)
answered_so creates (Ok effect) [] = refl
answered_so creates (Ok effect) (answer ∷ more) = refl
answered_so creates (Err failure) answers = refl

left_so : (creates : List Create) (meaning : Result (Effect Tables) Failure) (later : Tables)
    (environment : Environment) → Leaves meaning later environment
    → Leaves (effect_of creates meaning) (database_of creates later) environment
left_so creates (Ok effect) later environment leaves = (ap (database_of creates) leaves.0, leaves.1)
left_so creates (Err failure) later environment leaves = absurd leaves

module _ (laws : Laws) (creates : List Create) (distinct : HaveDistinctColumns creates) (members : List Placed)
    (tx place : ℕ) (bound after : Bound) (tree : TreeStatement) (form : Statement Known)
    (is : statement_in (schemas_of creates) bound tree ≡ Ok (form, after)) (answers : List Answer) (tables : Tables)
    (kinded : AreKinded (schemas_of creates) tables) (environment : Environment) (kinds : HasKinds bound environment)
  where
    abbrev own : Valuation
    own = told_valuation creates members tx place tree

    abbrev statement : Statement Value
    statement = closed environment form

    abbrev its_seat : Option Placed
    its_seat = member_at members tx place

    -- under the same answer of the oracle
    module _ (right : Answers tree own) (same : own ≡ grounding_in its_seat statement) where
      meaning_is : statement_meaning creates tree own (database_of creates tables) environment
          ≡ effect_of creates (form_meaning closed_worth statement own tables environment)
      meaning_is =
          laws.means creates tables environment own bound after tree form (laws.wide creates tables kinded) distinct is
          right
          ∙ ap (effect_of creates) (sym (laws.closes form own tables environment))

      same_found : answer_unless creates members tx place
          (is_answered (statement_meaning creates tree own (database_of creates tables) environment) answers)
          ≡ answer_unless creates members tx place
          (is_told (answer_in (form_meaning closed_worth statement (grounding_in its_seat statement) tables
          environment))
          (slice_get answers 0))
      same_found =
          ap (answer_unless creates members tx place)
          (ap (λ (m : Result (Effect Database) Failure). is_answered m answers) meaning_is
          ∙ answered_so creates (form_meaning closed_worth statement own tables environment) answers
          ∙ ap (λ (v : Valuation). is_told (answer_in (form_meaning closed_worth statement v tables environment))
          (slice_get answers 0)) same)

      own_leaves : (later : Tables) (environment' : Environment)
          → Leaves (form_meaning closed_worth statement (grounding_in its_seat statement) tables environment) later
          environment'
          → Leaves (form_meaning closed_worth statement own tables environment) later environment'
      own_leaves later environment' leaves =
          subst (λ (v : Valuation). Leaves (form_meaning closed_worth statement v tables environment) later
          environment')
          (sym same) leaves

      same_left : (later : Tables) (environment' : Environment)
          → Leaves (form_meaning closed_worth statement (grounding_in its_seat statement) tables environment) later
          environment'
          → Leaves (statement_meaning creates tree own (database_of creates tables) environment)
          (database_of creates later) environment'
      same_left later environment' leaves =
          subst (λ (m : Result (Effect Database) Failure). Leaves m (database_of creates later) environment')
          (sym meaning_is)
          (left_so creates (form_meaning closed_worth statement own tables environment) later environment'
          (own_leaves later environment' leaves))

    kept_rows : (meaning : Result (Effect Tables) Failure)
        → form_meaning known_worth form own tables environment ≡ meaning → (later : Tables) (environment' : Environment)
        → Leaves meaning later environment' → AreKinded (schemas_of creates) later
    kept_rows (Ok effect) so later environment' leaves =
        subst (AreKinded (schemas_of creates)) leaves.0
        (laws.keeps (schemas_of creates) bound after tree form own tables environment effect is kinded kinds so)
    kept_rows (Err failure) so later environment' leaves = absurd leaves

    kept_bound : AnswersInKind form own → (meaning : Result (Effect Tables) Failure)
        → form_meaning known_worth form own tables environment ≡ meaning → (later : Tables) (environment' : Environment)
        → Leaves meaning later environment' → HasKinds after environment'
    kept_bound inside (Ok effect) so later environment' leaves =
        subst (HasKinds after) leaves.1
        (laws.binds (schemas_of creates) bound after tree form own tables environment effect is kinds inside so)
    kept_bound inside (Err failure) so later environment' leaves = absurd leaves

    -- where nothing is found before its answer
    module _ (right : Answers tree own) (same : own ≡ grounding_in its_seat statement) (inside : AnswersInKind form own)
        (grounds : first_of (tree_findings creates members tx place tree answers (database_of creates tables)
        environment)
        ≡ first_of (answer_unless creates members tx place
        (is_answered (statement_meaning creates tree own (database_of creates tables) environment) answers)))
        (closed_grounds : seat_findings its_seat statement tables ≡ [])
        (offers : closed_offers tx place its_seat statement
        ≡ tree_offers creates members tx place tree (database_of creates tables) environment) where
      alike : IsAlike creates members tx place bound after tree statement answers tables environment
      alike = record {
        found = grounds ∙ ap first_of (same_found right same)
            ∙ sym (ap (λ (found : List Finding). first_of (found ++ answer_unless creates members tx place
            (is_told (answer_in (form_meaning closed_worth statement (grounding_in its_seat statement) tables
            environment)) (slice_get answers 0)))) closed_grounds);
        left = λ none later environment' leaves. same_left right same later environment' leaves;
        rows = λ none later environment' leaves.
            kept_rows (form_meaning closed_worth statement own tables environment)
            (sym (laws.closes form own tables environment)) later environment'
            (own_leaves right same later environment' leaves);
        binds = λ none later environment' leaves.
            kept_bound inside (form_meaning closed_worth statement own tables environment)
            (sym (laws.closes form own tables environment)) later environment'
            (own_leaves right same later environment' leaves);
        offers = λ none. offers;
      }

-- ---- ordinary statements

unseen : (tx place : ℕ) (tree : TreeStatement) (valuation : Valuation) (database : Database)
    (environment : Environment) → is_entangled tree ≡ false
    → seen tx place (record { statement = tree; valuation = valuation }) database environment ≡ []
unseen tx place (trees.Entangled entangled) valuation database environment plain = cc (plain)
unseen tx place (trees.Select select) valuation database environment plain = refl
unseen tx place (trees.Insert insert) valuation database environment plain = refl
unseen tx place (trees.Delete delete) valuation database environment plain = refl
unseen tx place (trees.Update update) valuation database environment plain = refl
unseen tx place (trees.Set setting) valuation database environment plain = refl

no_grounding : (seat : Option Placed) (statement : Statement Value) (kinds : List (List Kind)) → Fits kinds statement
    → grounding_in seat statement ≡ []
no_grounding seat (forms.Entangled entangled) kinds fits = absurd fits
no_grounding seat (forms.Select select) kinds fits = refl
no_grounding seat (forms.Insert table values) kinds fits = refl
no_grounding seat (forms.Delete table tests) kinds fits = refl
no_grounding seat (forms.Update table image tests) kinds fits = refl
no_grounding seat (forms.Set variable expression) kinds fits = refl

no_seat_finding : (seat : Option Placed) (statement : Statement Value) (tables : Tables) (kinds : List (List Kind))
    → Fits kinds statement → seat_findings seat statement tables ≡ []
no_seat_finding seat (forms.Entangled entangled) tables kinds fits = absurd fits
no_seat_finding seat (forms.Select select) tables kinds fits = refl
no_seat_finding seat (forms.Insert table values) tables kinds fits = refl
no_seat_finding seat (forms.Delete table tests) tables kinds fits = refl
no_seat_finding seat (forms.Update table image tests) tables kinds fits = refl
no_seat_finding seat (forms.Set variable expression) tables kinds fits = refl

no_offer : (tx place : ℕ) (seat : Option Placed) (statement : Statement Value) (kinds : List (List Kind))
    → Fits kinds statement → closed_offers tx place seat statement ≡ []
no_offer tx place seat (forms.Entangled entangled) kinds fits = absurd fits
no_offer tx place seat (forms.Select select) kinds fits = refl
no_offer tx place seat (forms.Insert table values) kinds fits = refl
no_offer tx place seat (forms.Delete table tests) kinds fits = refl
no_offer tx place seat (forms.Update table image tests) kinds fits = refl
no_offer tx place seat (forms.Set variable expression) kinds fits = refl

ordinary_alike : (laws : Laws) (creates : List Create) → HaveDistinctColumns creates → (members : List Placed)
    (tx place : ℕ) (bound after : Bound) (tree : TreeStatement) (form : Statement Known)
    → statement_in (schemas_of creates) bound tree ≡ Ok (form, after) → (answers : List Answer) (tables : Tables)
    → AreKinded (schemas_of creates) tables → (environment : Environment) → HasKinds bound environment
    → is_entangled tree ≡ false
    → IsAlike creates members tx place bound after tree (closed environment form) answers tables environment
ordinary_alike laws creates distinct members tx place bound after tree form is answers tables kinded environment kinds
    plain =
    let seat = member_at members tx place in
    let statement = closed environment form in
    let fits = laws.fits (schemas_of creates) bound after tree form environment is plain kinds in
    let database = database_of creates tables in
    let own = told_valuation creates members tx place tree in
    let none : own ≡ [] = ap (λ b. cond b (grounding_of seat) []) plain in
    let unseen_here = unseen tx place tree own database environment plain in
    alike laws creates distinct members tx place bound after tree form is answers tables kinded environment kinds
    (answers_any tree own plain)
    (none ∙ sym (no_grounding seat statement _ fits))
    (in_any_kind environment form own _ fits)
    (ap (λ (read_views : List ReadView). first_of (flat_map (ungrounded creates members) read_views
    ++ answer_unless creates members tx place
    (is_answered (statement_meaning creates tree own database environment) answers))) unseen_here)
    (no_seat_finding seat statement tables _ fits)
    (no_offer tx place seat statement _ fits ∙ sym (ap (map offer_of) unseen_here))

-- ---- entangled statements

module _ (laws : Laws) (creates : List Create) (distinct : HaveDistinctColumns creates) (members : List Placed)
    (tx place : ℕ) (bound after : Bound) (tree : TreeEntangled) (form : Entangled Known)
    (is : statement_in (schemas_of creates) bound (trees.Entangled tree) ≡ Ok (forms.Entangled form, after))
    (made : entangled_in (schemas_of creates) bound tree ≡ Ok (form, after)) (answers : List Answer) (tables : Tables)
    (kinded : AreKinded (schemas_of creates) tables) (environment : Environment) (kinds : HasKinds bound environment)
    (one : Placed) (sits : member_at members tx place ≡ Some one) where
  abbrev grounding : Valuation
  grounding = grounding_of (member_at members tx place)

  abbrev itself_closed : Entangled Value
  itself_closed = closed_entangled environment form

  abbrev is_one : Bool
  is_one = is_form_grounding itself tables itself_closed grounding

  grounds_so : is_grounding creates (database_of creates tables) environment tree grounding ≡ is_one
  grounds_so =
      laws.grounds creates tables environment bound after tree form grounding (laws.wide creates tables kinded) made
      ∙ sym (laws.closes_grounds environment tables form grounding)

  abbrev Alike : Type 0
  Alike =
      IsAlike creates members tx place bound after (trees.Entangled tree) (closed environment (forms.Entangled form))
      answers tables environment

  right_one : is_one ≡ true → Alike
  right_one holds =
      let many : length grounding ≡ length form.variables = eqb-true _ _ (and_parts _ _ holds).0 in
      let right : length grounding ≡ length (written_variables tree) =
      many ∙ laws.variables (schemas_of creates) bound after tree form made in
      let P : Bool → Type 0 = λ b. ground_finding (member_at members tx place) b ≡ [] in
      let none : ground_finding (member_at members tx place) true ≡ [] =
      ap (λ (seat : Option Placed). ground_finding seat true) sits in
      let fine : P is_one = subst P (sym holds) none in
      let fine_tree : P (is_grounding creates (database_of creates tables) environment tree grounding) =
      subst P (sym grounds_so) fine in
      let heads_are = laws.closes_offers environment form grounding
      ∙ sym (laws.offers (schemas_of creates) bound after tree form environment grounding made right) in
      let posts_are = laws.closes_demands environment form grounding
      ∙ sym (laws.demands (schemas_of creates) bound after tree form environment grounding made right) in
      alike laws creates distinct members tx place bound after (trees.Entangled tree) (forms.Entangled form) is answers
      tables kinded environment kinds right refl
      (laws.grounded (schemas_of creates) bound after tree form environment tables grounding made kinded kinds holds)
      (ap (λ (found : List Finding). first_of ((found ++ []) ++ answer_unless creates members tx place
      (is_answered (statement_meaning creates (trees.Entangled tree) grounding (database_of creates tables) environment)
      answers))) fine_tree)
      fine
      (λ i. record { tx = tx; place = place; heads = heads_are i; posts = posts_are i } ∷ [])

  wrong_one : is_one ≡ false → Alike
  wrong_one fails =
      let finding : Finding = record { rule = rules.Ground; thing = things.Member one.joint one.number } in
      let P : Bool → Type 0 = λ b. ground_finding (member_at members tx place) b ≡ finding ∷ [] in
      let there : ground_finding (member_at members tx place) false ≡ finding ∷ [] =
      ap (λ (seat : Option Placed). ground_finding seat false) sits in
      let bad : P is_one = subst P (sym fails) there in
      let bad_tree : P (is_grounding creates (database_of creates tables) environment tree grounding) =
      subst P (sym grounds_so) bad in
      let told = is_told (answer_in (form_meaning closed_worth (forms.Entangled itself_closed) grounding tables
      environment)) (slice_get answers 0) in
      let found : first_of (found_closed creates members tx place bound after (trees.Entangled tree)
      (closed environment (forms.Entangled form)) answers tables environment) ≡ Some finding =
      ap (λ (found : List Finding). first_of (found ++ answer_unless creates members tx place told)) bad in
      record {
        found = ap (λ (found : List Finding). first_of ((found ++ []) ++ answer_unless creates members tx place
            (is_answered (statement_meaning creates (trees.Entangled tree) grounding (database_of creates tables)
            environment) answers))) bad_tree ∙ sym found;
        left = λ none later environment' leaves. nothing (sym found ∙ none);
        rows = λ none later environment' leaves. nothing (sym found ∙ none);
        binds = λ none later environment' leaves. nothing (sym found ∙ none);
        offers = λ none. nothing (sym found ∙ none);
      }
    where
      nothing : {A : Type 0} {finding : Finding} → Some finding ≡ None → A
      nothing wrong = cc (wrong)

  entangled_alike : Alike
  entangled_alike = by is_one refl
    where
      by : (b : Bool) → is_one ≡ b → Alike
      by true holds = right_one holds
      by false fails = wrong_one fails

there_is : (seat : Option Placed) → is_some seat ≡ true → (one : Placed) × (seat ≡ Some one)
there_is (Some one) is = (one, refl)
there_is None is = cc (is)

-- a statement without a fault of form, over tables and host variables of their kinds
pub statement_alike : (laws : Laws) (creates : List Create) → HaveDistinctColumns creates → (members : List Placed)
    (tx place : ℕ) (bound after : Bound) (tree : TreeStatement) (form : Statement Known)
    → statement_in (schemas_of creates) bound tree ≡ Ok (form, after) → (answers : List Answer) (tables : Tables)
    → AreKinded (schemas_of creates) tables → (environment : Environment) → HasKinds bound environment
    → IsSeated (member_at members tx place) tree
    → IsAlike creates members tx place bound after tree (closed environment form) answers tables environment
unfolding statement_in
statement_alike laws creates distinct members tx place bound after (trees.Entangled tree) form is answers tables kinded
    environment kinds seated =
    let w = found_of (entangled_in (schemas_of creates) bound tree) _ (form, after) is in
    let one = there_is (member_at members tx place) seated in
    let P : Statement Known × Bound → Type 0 =
    λ p. IsAlike creates members tx place bound p.1 (trees.Entangled tree) (closed environment p.0) answers tables
    environment in
    subst P (one_answer {E = FormFault} (forms.Entangled w.0.0, w.0.1) (form, after) w.2)
    (entangled_alike laws creates distinct members tx place bound w.0.1 tree w.0.0
    (ap (λ (r : Result (Entangled Known × Bound) FormFault). r >>= λ (f : Entangled Known × Bound).
    Ok (forms.Entangled f.0, f.1)) w.1) w.1 answers tables kinded environment kinds one.0 one.1)
statement_alike laws creates distinct members tx place bound after (trees.Select select) form is answers tables kinded
    environment kinds seated =
    ordinary_alike laws creates distinct members tx place bound after (trees.Select select) form is answers tables
    kinded environment kinds refl
statement_alike laws creates distinct members tx place bound after (trees.Insert insert) form is answers tables kinded
    environment kinds seated =
    ordinary_alike laws creates distinct members tx place bound after (trees.Insert insert) form is answers tables
    kinded environment kinds refl
statement_alike laws creates distinct members tx place bound after (trees.Delete delete) form is answers tables kinded
    environment kinds seated =
    ordinary_alike laws creates distinct members tx place bound after (trees.Delete delete) form is answers tables
    kinded environment kinds refl
statement_alike laws creates distinct members tx place bound after (trees.Update update) form is answers tables kinded
    environment kinds seated =
    ordinary_alike laws creates distinct members tx place bound after (trees.Update update) form is answers tables
    kinded environment kinds refl
statement_alike laws creates distinct members tx place bound after (trees.Set setting) form is answers tables kinded
    environment kinds seated =
    ordinary_alike laws creates distinct members tx place bound after (trees.Set setting) form is answers tables
    kinded environment kinds refl
