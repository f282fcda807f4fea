-- An outcome over the tables that a job saw is one over the present tables, where the two are alike.
use Rattle.std.proofs.Common.{◌≡◌, ◌<◌, ℕ, zero, suc, ◌==◌, Bool, true, false, cond, ◌||◌, ◌&&◌, List, [], ◌∷◌, ◌++◌}
use Rattle.std.proofs.Common.{map, length, refl, sym, ap, subst, ◌∙◌, inl, inr, arith, Option, Some, None, Result}
use Rattle.std.proofs.Common.{Ok, Err}
use Rattle.std.proofs.Common.{slice_set, flat_map, nat_le}
use Rattle.std.specs.List.{list_all}
use Rattle.std.proofs.lemmas.List.{get_or-set_same}
use Rattle.ent_lists.specs.Sets as set
use Rattle.ent_value.specs.declared.limits.TheConstants.{MOST_ROWS}
use Rattle.ent_value.specs.declared.value.Value.{Value}
use Rattle.ent_tree.specs.declared.declaration.Create.{Create}
use Rattle.ent_semantics.specs.declared.answer.Answer.TheVariants as answers
use Rattle.ent_semantics.specs.declared.answer.Failure.{Failure}
use Rattle.ent_semantics.specs.declared.answer.Failure.TheVariants.{TableFull}
use Rattle.ent_semantics.specs.Change.{matched, unmatched, updated, all_there}
use Rattle.ent_semantics.specs.Database.{Name, Rows, Environment, nothing_bound, with_value, with_values}
use Rattle.ent_semantics.specs.Effect.{Effect, changed, or_overflow, insertion, deletion, replacement, setting}
use Rattle.ent_semantics.specs.Entangled.{Valuation}
use Rattle.ent_semantics.specs.Selection.{meets, selection, holds}
use Rattle.ent_semantics.specs.Term.{expression_value}
use Rattle.ent_semantics.specs.FormKinds.{changed_tables}
use Rattle.ent_semantics.specs.declared.entangled.Entangled.{Entangled}
use Rattle.ent_semantics.specs.declared.entangled.Membership.{Membership}
use Rattle.ent_semantics.specs.declared.statement.Statement.{Statement}
use Rattle.ent_semantics.specs.declared.statement.Statement.TheVariants as statements
use Rattle.ent_semantics.specs.Form.{Tables, table_numbered, closed_worth, operand_worth, term_worth, form_rows}
use Rattle.ent_semantics.specs.Form.{membership_holds, is_form_grounding, form_meaning}
use Rattle.ent_protocol.specs.Finish.{variable_of, with_change, with_bound}
use Rattle.ent_protocol.specs.Job.{Outcome, Shown, Changed, Bound, Choice, Fault, laid, tables_of}
use Rattle.ent_protocol.specs.Job.{applied, rows_to_change, IsEffect}
use Rattle.ent_protocol.specs.Member.{seen_now}
use Rattle.ent_protocol.specs.State.{Use}
use Rattle.ent_protocol.specs.Uses.{shared, exclusive, statement_uses, entangled_uses, membership_uses}
use Rattle.ent_protocol_laws.specs.Faithful.{is_used}
use Rattle.ent_lists.specs.Elements.{or_first, or_second, or_cases, same_number, number_itself, differ}
use Rattle.ent_protocol_laws.proofs.Undo.{at_number}

-- ---- what a job sees

laid_here : (table : ℕ) (rows : Rows) (tables : Tables) → at_number (laid table rows tables) table ≡ rows
laid_here zero rows [] = refl
laid_here zero rows (other ∷ more) = refl
laid_here (suc n) rows [] = laid_here n rows []
laid_here (suc n) rows (other ∷ more) = laid_here n rows more

laid_elsewhere : (table number : ℕ) (rows : Rows) (tables : Tables) → (table ≡ number → ⊥)
    → at_number (laid table rows tables) number ≡ at_number tables number
laid_elsewhere zero zero rows tables differs = absurd (differs refl)
laid_elsewhere zero (suc k) rows [] differs = refl
laid_elsewhere zero (suc k) rows (other ∷ more) differs = refl
laid_elsewhere (suc n) zero rows [] differs = refl
laid_elsewhere (suc n) zero rows (other ∷ more) differs = refl
laid_elsewhere (suc n) (suc k) rows [] differs = laid_elsewhere n k rows [] (λ e. differs (ap suc e))
laid_elsewhere (suc n) (suc k) rows (other ∷ more) differs = laid_elsewhere n k rows more (λ e. differs (ap suc e))

laid_room : (table : ℕ) (rows : Rows) (tables : Tables) → table < length (laid table rows tables)
laid_room zero rows [] = omega arith
laid_room zero rows (other ∷ more) = omega arith
laid_room (suc n) rows [] = let h = laid_room n rows [] in omega (arith, h)
laid_room (suc n) rows (other ∷ more) = let h = laid_room n rows more in omega (arith, h)

laid_longer : (table number : ℕ) (rows : Rows) (tables : Tables) → number < length tables
    → number < length (laid table rows tables)
laid_longer zero number rows [] low = absurd (omega (arith, low))
laid_longer zero number rows (other ∷ more) low = low
laid_longer (suc n) number rows [] low = absurd (omega (arith, low))
laid_longer (suc n) zero rows (other ∷ more) low = omega arith
laid_longer (suc n) (suc k) rows (other ∷ more) low =
    let h = laid_longer n k rows more (omega (arith, low)) in omega (arith, h)

-- two lists of tables are alike in the tables that are used
abbrev pub SameAt : List Use → Tables → Tables → Type 0
SameAt uses one other = (table : ℕ) → is_used uses table ≡ true → at_number one table ≡ at_number other table

-- the tables that are used are there
abbrev pub HasRoom : List Use → Tables → Type 0
HasRoom uses tables = (table : ℕ) → is_used uses table ≡ true → table < length tables

pub seen_same : (declared : List Create) (tables : Tables) (uses : List Use)
    → SameAt uses (tables_of (seen_now declared tables uses)) tables
seen_same declared tables [] table used = cc
seen_same declared tables (own ∷ uses) table used =
    by (own.table == table) refl used (seen_same declared tables uses table)
  where
    rest : Tables
    rest = tables_of (seen_now declared tables uses)

    by : (b : Bool) → (own.table == table) ≡ b → (b || is_used uses table) ≡ true
        → (is_used uses table ≡ true
        → at_number (tables_of (seen_now declared tables uses)) table ≡ at_number tables table)
        → at_number (laid own.table (at_number tables own.table) (tables_of (seen_now declared tables uses))) table
        ≡ at_number tables table
    by true is h more =
        let same = same_number own.table table is in
        ap (λ n. at_number (laid n (at_number tables n) (tables_of (seen_now declared tables uses))) table) same
        ∙ laid_here table (at_number tables table) (tables_of (seen_now declared tables uses))
    by false is h more =
        laid_elsewhere own.table table (at_number tables own.table) (tables_of (seen_now declared tables uses))
        (differ own.table table is) ∙ more h

pub seen_room : (declared : List Create) (tables : Tables) (uses : List Use)
    → HasRoom uses (tables_of (seen_now declared tables uses))
seen_room declared tables [] table used = cc
seen_room declared tables (own ∷ uses) table used =
    by (own.table == table) refl used (seen_room declared tables uses table)
  where
    by : (b : Bool) → (own.table == table) ≡ b → (b || is_used uses table) ≡ true
        → (is_used uses table ≡ true → table < length (tables_of (seen_now declared tables uses)))
        → table < length (laid own.table (at_number tables own.table) (tables_of (seen_now declared tables uses)))
    by true is h more =
        subst (λ n. table < length (laid n (at_number tables own.table) (tables_of (seen_now declared tables uses))))
        (sym (same_number own.table table is))
        (laid_room table (at_number tables own.table) (tables_of (seen_now declared tables uses)))
    by false is h more =
        laid_longer own.table table (at_number tables own.table) (tables_of (seen_now declared tables uses)) (more h)

-- ---- outcomes

-- what a statement leaves and answers, where its outcome is this
abbrev pub Lands : Statement Value → Tables → Environment → Result (Effect Tables) Failure → Outcome → Type 0
Lands statement tables environment result (Shown rows) =
    result ≡ Ok (record { database = tables; environment = environment; answer = answers.Rows rows })
Lands statement tables environment result (Changed count removed added) =
    result ≡ Ok (record {
      database = with_change (changed_tables statement) removed added tables;
      environment = environment;
      answer = answers.Count count;
    })
Lands statement tables environment result (Bound value) =
    result ≡ Ok (record {
      database = tables;
      environment = with_values environment (with_bound (variable_of statement) value []);
      answer = answers.Value value;
    })
Lands statement tables environment result (Choice groundings) = Unit {0}
Lands statement tables environment result (Fault failure) = Unit {0}

sources_same : (one other : Tables) (sources : List ℕ) → SameAt (map shared sources) one other
    → map (at_number one) sources ≡ map (at_number other) sources
sources_same one other [] same = refl
sources_same one other (source ∷ more) same =
    let first = same source (or_first (source == source) (is_used (map shared more) source) (number_itself source)) in
    let rest = sources_same one other more
    (λ table used. same table (or_second (source == table) (is_used (map shared more) table) used)) in
    λ i. first i ∷ rest i

module _ (statement : Statement Value) (table : ℕ) (seen tables : Tables)
    (is_at : (there : Tables) → rows_to_change statement there ≡ at_number there table)
    (is_table : changed_tables statement ≡ table ∷ []) (room : table < length seen)
    (same : at_number seen table ≡ at_number tables table) (environment : Environment) where
  applied_there : (rows : Rows) (removed added : List (List Value))
      → rows_to_change statement (slice_set seen table rows) ≡ applied removed added (rows_to_change statement seen)
      → slice_set tables table rows ≡ with_change (changed_tables statement) removed added tables
  applied_there rows removed added e =
      let rows_are : rows ≡ applied removed added (at_number tables table) =
      sym (get_or-set_same seen table rows set.empty room) ∙ sym (is_at (slice_set seen table rows)) ∙ e
      ∙ ap (applied removed added) (is_at seen ∙ same) in
      ap (slice_set tables table) rows_are
      ∙ ap (λ of_statement. with_change of_statement removed added tables) (sym is_table)

  put_there : (count : ℕ) (rows : Rows) (outcome : Outcome)
      → IsEffect statement seen (Ok (record {
        database = slice_set seen table rows;
        environment = nothing_bound;
        answer = answers.Count count;
      })) outcome
      → Lands statement tables environment (Ok (record {
        database = slice_set tables table rows;
        environment = environment;
        answer = answers.Count count;
      })) outcome
  put_there count rows (Shown shown_rows) h = absurd (cc (h))
  put_there count rows (Bound value) h = absurd (cc (h))
  put_there count rows (Choice groundings) h = tt
  put_there count rows (Fault failure) h = tt
  put_there count rows (Changed other removed added) h =
      let e = applied_there rows removed added h.1 in
      λ i. Ok (record { database = e i; environment = environment; answer = h.0 i })

  refused : (failure : Failure) (outcome : Outcome) → IsEffect statement seen (Err failure) outcome
      → Lands statement tables environment (Err failure) outcome
  refused failure (Shown shown_rows) h = absurd h
  refused failure (Bound value) h = absurd h
  refused failure (Choice groundings) h = tt
  refused failure (Fault other) h = tt
  refused failure (Changed count removed added) h = absurd h

  pub changed_there : (count : ℕ) (rows : Rows) (outcome : Outcome)
      → IsEffect statement seen (changed (table_numbered table) count rows seen nothing_bound) outcome
      → Lands statement tables environment (changed (table_numbered table) count rows tables environment) outcome
  changed_there count rows outcome h = by (nat_le (set.len rows) MOST_ROWS) h
    where
      by : (b : Bool) → IsEffect statement seen (cond b (Ok (record {
        database = slice_set seen table rows;
        environment = nothing_bound;
        answer = answers.Count count;
      })) (Err TableFull)) outcome
          → Lands statement tables environment (cond b (Ok (record {
            database = slice_set tables table rows;
            environment = environment;
            answer = answers.Count count;
          })) (Err TableFull)) outcome
      by true g = put_there count rows outcome g
      by false g = refused TableFull outcome g

  pub inserted_there : (row : List Value) (outcome : Outcome)
      → IsEffect statement seen (insertion (table_numbered table) row seen nothing_bound) outcome
      → Lands statement tables environment (insertion (table_numbered table) row tables environment) outcome
  inserted_there row outcome h =
      subst (λ (rows : Rows). Lands statement tables environment (changed (table_numbered table)
      (cond (set.contains rows row) 0 1) (set.insert rows row) tables environment) outcome) same
      (changed_there _ _ outcome h)

  pub deleted_there : (matches : List Value → Bool) (outcome : Outcome)
      → IsEffect statement seen (deletion (table_numbered table) matches seen nothing_bound) outcome
      → Lands statement tables environment (deletion (table_numbered table) matches tables environment) outcome
  deleted_there matches outcome h =
      subst (λ (rows : Rows). Lands statement tables environment (Ok (record {
        database = slice_set tables table (unmatched matches rows);
        environment = environment;
        answer = answers.Count (set.len (matched matches rows));
      })) outcome) same (put_there _ _ outcome h)

  or_changed : (x : Option Rows) (count : ℕ) (outcome : Outcome)
      → IsEffect statement seen (or_overflow x (changed (table_numbered table) count) seen nothing_bound) outcome
      → Lands statement tables environment (or_overflow x (changed (table_numbered table) count) tables environment)
      outcome
  or_changed (Some rows) count outcome h = changed_there count rows outcome h
  or_changed None count outcome h = refused _ outcome h

  pub replaced_there : (matches : List Value → Bool) (image : List Value → Option (List Value)) (outcome : Outcome)
      → IsEffect statement seen (replacement (table_numbered table) matches image seen nothing_bound) outcome
      → Lands statement tables environment (replacement (table_numbered table) matches image tables environment)
      outcome
  replaced_there matches image outcome h =
      subst (λ (rows : Rows). Lands statement tables environment (or_overflow (updated matches image rows)
      (changed (table_numbered table) (set.len (matched matches rows))) tables environment) outcome) same
      (or_changed _ _ outcome h)

set_there : (variable : Name) (expression : Option Value) (statement : Statement Value)
    → variable_of statement ≡ variable ∷ [] → (seen tables : Tables) (environment : Environment) (outcome : Outcome)
    → IsEffect statement seen (setting variable expression seen nothing_bound) outcome
    → Lands statement tables environment (setting variable expression tables environment) outcome
set_there variable None statement is seen tables environment (Shown rows) h = absurd h
set_there variable None statement is seen tables environment (Changed count removed added) h = absurd h
set_there variable None statement is seen tables environment (Bound value) h = absurd h
set_there variable None statement is seen tables environment (Choice groundings) h = tt
set_there variable None statement is seen tables environment (Fault failure) h = tt
set_there variable (Some value) statement is seen tables environment (Shown rows) h = absurd (cc (h))
set_there variable (Some value) statement is seen tables environment (Changed count removed added) h =
    absurd (cc (h.0))
set_there variable (Some value) statement is seen tables environment (Bound other) h =
    let same : value ≡ other = cc in
    let e : with_value environment variable value
    ≡ with_values environment (with_bound (variable_of statement) other []) =
    ap (with_value environment variable) same
    ∙ ap (λ variables. with_values environment (with_bound variables other [])) (sym is) in
    λ i. Ok (record { database = tables; environment = e i; answer = answers.Value (same i) })
set_there variable (Some value) statement is seen tables environment (Choice groundings) h = tt
set_there variable (Some value) statement is seen tables environment (Fault failure) h = tt

one_used : (table : ℕ) → is_used (exclusive table ∷ []) table ≡ true
one_used table = or_first (table == table) false (number_itself table)

-- an outcome that is the effect over what was seen is the effect over the present tables
pub lands : (statement : Statement Value) (seen tables : Tables) (environment : Environment) (outcome : Outcome)
    → SameAt (statement_uses statement) seen tables → HasRoom (statement_uses statement) seen
    → IsEffect statement seen (form_meaning closed_worth statement [] seen nothing_bound) outcome
    → Lands statement tables environment (form_meaning closed_worth statement [] tables environment) outcome
lands (statements.Select select) seen tables environment (Shown rows) same room h =
    let sources = sources_same seen tables select.sources same in
    let e : answers.Rows (set.ascending (form_rows (closed_worth environment) tables select)) ≡ answers.Rows rows =
    ap (λ there. answers.Rows (set.ascending (selection (meets (operand_worth (λ value. value)) select.tests)
    (λ row. map (operand_worth (λ value. value) row) select.items) there))) (sym sources) ∙ h in
    λ i. Ok (record { database = tables; environment = environment; answer = e i })
lands (statements.Select select) seen tables environment (Changed count removed added) same room h =
    absurd (cc (h.0))
lands (statements.Select select) seen tables environment (Bound value) same room h = absurd (cc (h))
lands (statements.Select select) seen tables environment (Choice groundings) same room h = tt
lands (statements.Select select) seen tables environment (Fault failure) same room h = tt
lands (statements.Entangled entangled) seen tables environment (Shown rows) same room h = absurd (cc (h))
lands (statements.Entangled entangled) seen tables environment (Changed count removed added) same room h =
    absurd (cc (h.0))
lands (statements.Entangled entangled) seen tables environment (Bound value) same room h = absurd (cc (h))
lands (statements.Entangled entangled) seen tables environment (Choice groundings) same room h = tt
lands (statements.Entangled entangled) seen tables environment (Fault failure) same room h = tt
lands (statements.Insert table values) seen tables environment outcome same room h =
    inserted_there (statements.Insert table values) table seen tables (λ there. refl) refl
    (room table (one_used table)) (same table (one_used table)) environment (map (λ value. value) values) outcome h
lands (statements.Delete table tests) seen tables environment outcome same room h =
    deleted_there (statements.Delete table tests) table seen tables (λ there. refl) refl
    (room table (one_used table)) (same table (one_used table)) environment
    (meets (operand_worth (λ value. value)) tests) outcome h
lands (statements.Update table image tests) seen tables environment outcome same room h =
    replaced_there (statements.Update table image tests) table seen tables (λ there. refl) refl
    (room table (one_used table)) (same table (one_used table)) environment
    (meets (operand_worth (λ value. value)) tests)
    (λ row. all_there (map (expression_value (operand_worth (λ value. value) row)) image)) outcome h
lands (statements.Set variable expression) seen tables environment outcome same room h =
    set_there variable (expression_value (λ value. value) expression) (statements.Set variable expression) refl
    seen tables environment outcome h

-- ---- groundings

pub used_first : (xs ys : List Use) (table : ℕ) → is_used xs table ≡ true → is_used (xs ++ ys) table ≡ true
used_first [] ys table h = cc
used_first (x ∷ xs) ys table h =
    elim (or_cases (x.table == table) (is_used xs table) h) [
      | inl here ↦ or_first (x.table == table) (is_used (xs ++ ys) table) here
      | inr there ↦ or_second (x.table == table) (is_used (xs ++ ys) table) (used_first xs ys table there)
    ]

pub used_second : (xs ys : List Use) (table : ℕ) → is_used ys table ≡ true → is_used (xs ++ ys) table ≡ true
used_second [] ys table h = h
used_second (x ∷ xs) ys table h =
    or_second (x.table == table) (is_used (xs ++ ys) table) (used_second xs ys table h)

memberships_same : (one other : Tables) (values : Valuation) (atoms : List (Membership Value))
    → SameAt (flat_map membership_uses atoms) one other
    → list_all (membership_holds (λ value. value) one values) atoms
    ≡ list_all (membership_holds (λ value. value) other values) atoms
memberships_same one other values [] same = refl
memberships_same one other values (atom ∷ more) same =
    let sources = sources_same one other atom.select.sources
    (λ table used. same table (used_first (membership_uses atom) (flat_map membership_uses more) table used)) in
    let rest = memberships_same one other values more
    (λ table used. same table (used_second (membership_uses atom) (flat_map membership_uses more) table used)) in
    λ i. set.contains (selection (meets (operand_worth (λ value. value)) atom.select.tests)
    (λ row. map (operand_worth (λ value. value) row) atom.select.items) (sources i))
    (map (term_worth (λ value. value) values) atom.terms) && rest i

-- groundings of closed statements read their uses alone
pub grounding_same : (one other : Tables) (entangled : Entangled Value) (values : Valuation)
    → SameAt (entangled_uses entangled) one other
    → is_form_grounding (λ value. value) one entangled values
    ≡ is_form_grounding (λ value. value) other entangled values
grounding_same one other entangled values same =
    ap (λ b. (length values == length entangled.variables)
    && (b && list_all (holds (term_worth (λ value. value) values)) entangled.tests))
    (memberships_same one other values entangled.atoms same)
