-- A transaction's next statement, by index, and its end.
use Rattle.std.proofs.Common.{◌≡◌, ℕ, zero, suc, ◌+◌, ◌<◌, ◌≤◌, true, false, List, [], ◌∷◌, ◌++◌, map, length}
use Rattle.std.proofs.Common.{refl, sym, ap, ◌∙◌, subst, arith, Option, Some, None, drop, get_or, is_some, Bor}
use Rattle.std.specs.Prelude.{slice_get, slice_index_or}
use Rattle.std.specs.List.{AllByRecursion}
use Rattle.std.specs.Option.{option_map}
use Rattle.std.specs.Slice.{IsItemAt}
use Rattle.std.proofs.lemmas.List.{drop-drop, drop_all, drop_more}
use Rattle.std.proofs.lemmas.Option.{slice_get_past, slice_get_read}
use Rattle.ent_value.specs.declared.value.Value.{Value}
use Rattle.ent_tree.specs.declared.declaration.Create.{Create}
use Rattle.ent_tree.specs.declared.script.Script.{Script}
use Rattle.ent_tree.specs.declared.script.Statement.{Statement as TreeStatement}
use Rattle.ent_rel.specs.Relation.{Relation}
use Rattle.ent_history.specs.declared.history.Told.{Told}
use Rattle.ent_semantics.specs.declared.answer.Answer.{Answer}
use Rattle.ent_semantics.specs.Database.{Database, Environment}
use Rattle.ent_semantics.specs.Closing.{closed}
use Rattle.ent_semantics.specs.Form.{closed_worth, form_meaning}
use Rattle.ent_semantics.specs.FormKinds.{tables_named}
use Rattle.ent_semantics.specs.declared.operand.Known.{Known}
use Rattle.ent_semantics.specs.declared.statement.Statement.{Statement}
use Rattle.ent_form.specs.Tables.{database_of, HaveDistinctColumns}
use Rattle.ent_history.specs.Placed.{Placed, member_at}
use Rattle.ent_history.specs.Replay.{later}
use Rattle.ent_history.specs.Verdict.{first_of}
use Rattle.ent_history.specs.declared.finding.Finding.{Finding}
use Rattle.ent_ordinary.specs.Tables.{kinds_in, rows_in}
use Rattle.ent_check.specs.declared.offer.StatementOffer.{StatementOffer}
use Rattle.ent_check.specs.Alone.{IsReplayed, account_at}
use Rattle.ent_check.specs.Closed.{HasSeat, Leaves, closed_findings, closed_offers, grounding_in}
use Rattle.ent_check.specs.Laws.{Laws}
use Rattle.ent_check.specs.Sorts.{CanRun}
use Rattle.ent_check.proofs.Along.{Midway, ended_found, ended_left, ended_offered, midway_asks, midway_off}
use Rattle.ent_check.proofs.Along.{midway_on, midway_there}

later_is : (xs : List Answer) → later xs ≡ drop 1 xs
later_is [] = refl
later_is (x ∷ xs) = refl

got_there : {A : Type 0} (i : ℕ) (xs : List A) → slice_get (drop i xs) 0 ≡ slice_get xs i
got_there zero xs = refl
got_there (suc i) [] = refl
got_there (suc i) (x ∷ xs) = got_there i xs

-- what is told of an index
pub told_there : (xs : List Answer) (i : ℕ) (told : Option (Bor Answer)) → IsItemAt xs i told
    → option_map (λ (one : Bor Answer). one.now) told ≡ slice_get xs i
told_there xs i (Some one) is = sym (slice_get_read xs (length xs) i one.now refl is.3.0 is.1)
told_there xs i None is = sym (slice_get_past xs i is.3)

moved : (P : ℕ → List TreeStatement → List Answer → Type 0) (n n' : ℕ) (a a' : List TreeStatement) (b b' : List Answer)
    → n ≡ n' → a ≡ a' → b ≡ b' → P n a b → P n' a' b'
moved P n n' a a' b b' en ea eb p =
    subst (λ x. P x a' b') en (subst (λ x. P n x b') ea (subst (λ x. P n a x) eb p))

some_or_none : (finding : Option Finding) → is_some finding ≡ true → finding ≡ None → ⊥
some_or_none (Some finding) is none = cc (none)
some_or_none None is none = cc (is)

pub none_there : (finding : Option Finding) → is_some finding ≡ false → finding ≡ None
none_there (Some finding) is = cc (is)
none_there None is = refl

module _ (creates : List Create) (members : List Placed) (tx : ℕ) (script : Script) (told : Told) (database : Database)
    (offers : List StatementOffer) where
  -- the statements so far are run, and nothing was found of them
  abbrev pub At : ℕ → List (Statement Known) → List Relation → Environment → List StatementOffer → Type 0
  At i forms tables environment made =
      Midway creates members tx script.statements told.answers database offers (i + 1) (drop i script.statements)
      (drop i forms) (drop i told.answers) tables environment made

  module _ (laws : Laws) (distinct : HaveDistinctColumns creates) (i : ℕ) (forms : List (Statement Known))
      (form : Statement Known) (low : i < length forms) (is_form : form ≡ get_or forms i form) (tables : List Relation)
      (environment : Environment) (made : List StatementOffer) (statement : Statement Value)
      (is : statement ≡ closed environment form) (m : At i forms tables environment made) where
    abbrev seat : Option Placed
    seat = member_at members tx (i + 1)

    abbrev now : List (Statement Known) → Type 0
    now some =
        Midway creates members tx script.statements told.answers database offers (i + 1) (drop i script.statements) some
        (drop i told.answers) tables environment made

    at_form : now (form ∷ drop (i + 1) forms)
    at_form =
        subst now (drop_more forms i form low ∙ ap (λ (x : Statement Known). x ∷ drop (i + 1) forms) (sym is_form)) m

    pub next_there : AllByRecursion (λ number. number < length tables) (tables_named statement)
    next_there =
        subst (λ (s : Statement Value). AllByRecursion (λ number. number < length tables) (tables_named s)) (sym is)
        (midway_there creates members tx script.statements told.answers database offers laws distinct (i + 1) form
        (drop (i + 1) forms) (drop i told.answers) tables environment made (drop i script.statements) at_form)

    pub next_asks : CanRun (map (λ number. slice_index_or (kinds_in tables) number []) (tables_named statement))
        statement × HasSeat seat statement
    next_asks =
        subst (λ (s : Statement Value). CanRun (map (λ number. slice_index_or (kinds_in tables) number [])
        (tables_named s)) s × HasSeat seat s) (sym is)
        (midway_asks creates members tx script.statements told.answers database offers laws distinct (i + 1) form
        (drop (i + 1) forms) (drop i told.answers) tables environment made (drop i script.statements) at_form)

    module _ (answer : Option Answer) (answer_is : answer ≡ slice_get told.answers i) (finding : Option Finding)
        (found : finding
        ≡ first_of (closed_findings tx (i + 1) seat statement answer (rows_in tables) environment)) where
      found_form : finding ≡ first_of (closed_findings tx (i + 1) seat (closed environment form)
          (slice_get (drop i told.answers) 0) (rows_in tables) environment)
      found_form =
          found ∙ (λ j. first_of (closed_findings tx (i + 1) seat (is j)
          ((answer_is ∙ sym (got_there i told.answers)) j) (rows_in tables) environment))

      pub next_on : (behind : List Relation) (environment' : Environment) (more_made : List StatementOffer)
          → finding ≡ None
          → Leaves (form_meaning closed_worth statement (grounding_in seat statement) (rows_in tables) environment)
          (rows_in behind) environment'
          → more_made ≡ made ++ closed_offers tx (i + 1) seat statement → kinds_in behind ≡ kinds_in tables
          → At (i + 1) forms behind environment' more_made
      next_on behind environment' more_made none leaves offered kept =
          let after : suc (i + 1) ≡ (i + 1) + 1 = omega arith in
          let left = subst (λ (s : Statement Value). Leaves (form_meaning closed_worth s (grounding_in seat s)
          (rows_in tables) environment) (rows_in behind) environment') is leaves in
          moved (λ place rest others. Midway creates members tx script.statements told.answers database offers
          place rest (drop (i + 1) forms) others behind environment' more_made) (suc (i + 1)) ((i + 1) + 1)
          (drop 1 (drop i script.statements)) (drop (i + 1) script.statements)
          (later (drop i told.answers)) (drop (i + 1) told.answers) after (drop-drop 1 i script.statements)
          (later_is (drop i told.answers) ∙ drop-drop 1 i told.answers)
          (midway_on creates members tx script.statements told.answers database offers laws distinct (i + 1) form
          (drop (i + 1) forms) (drop i told.answers) tables environment made (drop i script.statements) behind
          environment' more_made (sym found_form ∙ none) left
          (offered ∙ ap (λ (s : Statement Value). made ++ closed_offers tx (i + 1) seat s) is) kept at_form)

      pub off_replayed : is_some finding ≡ true → (after : Database) (more_made : List StatementOffer)
          → IsReplayed creates members (account_at tx script told) database finding after offers more_made
      off_replayed some after more_made = by finding found_form some
        where
          by : (one : Option Finding) → one ≡ first_of (closed_findings tx (i + 1) seat (closed environment form)
              (slice_get (drop i told.answers) 0) (rows_in tables) environment) → is_some one ≡ true
              → IsReplayed creates members (account_at tx script told) database one after offers more_made
          by (Some one) same is_one = record {
            found = sym (midway_off creates members tx script.statements told.answers database offers laws distinct
                (i + 1) form (drop (i + 1) forms) (drop i told.answers) tables environment made
                (drop i script.statements) one (sym same) at_form);
            left = λ none. absurd (some_or_none (Some one) is_one none);
            offered = λ none. absurd (some_or_none (Some one) is_one none);
          }
          by None same is_one = cc (is_one)

  pub end_replayed : (i : ℕ) (forms : List (Statement Known)) (tables : List Relation) (environment : Environment)
      (made : List StatementOffer) → length forms ≤ i → At i forms tables environment made
      → IsReplayed creates members (account_at tx script told) database None (database_of creates (rows_in tables))
      offers made
  end_replayed i forms tables environment made over m =
      let ended = subst (λ (some : List (Statement Known)). Midway creates members tx script.statements told.answers
      database offers (i + 1) (drop i script.statements) some (drop i told.answers) tables environment made)
      (drop_all i forms over) m in
      record {
        found = sym (ended_found creates members tx script.statements told.answers database offers (i + 1)
            (drop i script.statements) (drop i told.answers) tables environment made ended);
        left = λ none. ended_left creates members tx script.statements told.answers database offers (i + 1)
            (drop i script.statements) (drop i told.answers) tables environment made ended;
        offered = λ none. ended_offered creates members tx script.statements told.answers database offers (i + 1)
            (drop i script.statements) (drop i told.answers) tables environment made ended;
      }
