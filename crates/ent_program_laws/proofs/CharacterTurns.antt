-- What scripts that run one after the other see, leave and answer has the property.
use Rattle.std.proofs.Common.{◌≡◌, ℤ, List, [], ◌∷◌, refl, sym, subst, inl, inr, Option, Some, None}
use Rattle.std.specs.List.{AllByRecursion, flat_map}
use Rattle.std.specs.Option.{option_map}
use Rattle.ent_value.specs.declared.value.Value.{Value}
use Rattle.ent_value.specs.declared.value.Value.TheVariants.{Int}
use Rattle.ent_tree.specs.declared.declaration.Create.{Create}
use Rattle.ent_tree.specs.declared.script.Script.{Script}
use Rattle.ent_tree.specs.declared.script.Statement.{Statement}
use Rattle.ent_print.specs.Spelling.{end_word, line_spelling, sign, statement_spelling, word}
use Rattle.ent_text.specs.declared.symbol.Symbol.TheVariants as symbols
use Rattle.ent_semantics.specs.Database.{Database, nothing_bound}
use Rattle.ent_semantics.specs.Serial.{Operation, Run, Runs, ReadView, Turn, ran_first, script_run}
use Rattle.ent_semantics.specs.Serial.{script_read_views, scripts_run, scripts_read_views, seen_from}
use Rattle.ent_form.specs.Catalogue.{schemas_of}
use Rattle.ent_form.specs.Kinds.{none_bound}
use Rattle.ent_form.specs.ScriptFaults.{script_faults}
use Rattle.ent_history.proofs.Operations.{mapped_some, then_some}
use Rattle.ent_lists.specs.Elements.{In, all_first, all_second, contains_in, in_contains, in_either, in_first}
use Rattle.ent_lists.specs.Elements.{in_second}
use Rattle.ent_program_laws.proofs.Turns.{from_run, no_turn_read_views, one_runs, operations_in, operations_run}
use Rattle.ent_program_laws.proofs.Turns.{turn_read_views}
use Rattle.ent_program_laws.proofs.Walking.{operations_so}
use Rattle.ent_program_laws.specs.Kept.{CanKeep, RunsKeep, ReadViewsKeep}
use Rattle.ent_program_laws.specs.Values.{AnswersValues, BindsValues, HoldsValues, IsWritten, ScriptWrites}
use Rattle.ent_program_laws.specs.Values.{WritesValues}
use Rattle.ent_program_laws.proofs.CharacterGrounding.{IsFaultless, all_faultless}
use Rattle.ent_program_laws.proofs.CharacterRuns.{AllGrounded, AreSeen, IsLeft, IsReady, RunKeeps, run_keeps}

module _ (P : Value → Type 0) where
  -- ---- scripts

  lines_are_written : (all : List Statement) → AllByRecursion (IsWritten P) (flat_map line_spelling all)
      → AllByRecursion (WritesValues P) all
  lines_are_written [] writes = tt
  lines_are_written (statement ∷ more) writes = (
    all_first (IsWritten P) (statement_spelling statement) (sign symbols.Semicolon ∷ [])
        (all_first (IsWritten P) (line_spelling statement) (flat_map line_spelling more) writes),
    lines_are_written more (all_second (IsWritten P) (line_spelling statement) (flat_map line_spelling more) writes),
  )

  statements_are_written : (script : Script) → ScriptWrites P script
      → AllByRecursion (WritesValues P) script.statements
  statements_are_written script writes =
      lines_are_written script.statements
      (all_first (IsWritten P) (flat_map line_spelling script.statements)
      (word (end_word script.end) ∷ sign symbols.Semicolon ∷ []) writes.1.1.1.1.1.1)

  nothing_binds : BindsValues P nothing_bound
  nothing_binds name value e = cc (e)

  module _ (numbers : (number : ℤ) → P (Int number)) (declared : List Create) where
    each_ready : (all : List Statement) → AllByRecursion (WritesValues P) all
        → AllByRecursion (IsFaultless (schemas_of declared)) all
        → AllByRecursion (IsReady P numbers declared) all
    each_ready [] writes faultless = tt
    each_ready (statement ∷ more) writes faultless =
        ((writes.0, faultless.0), each_ready more writes.1 faultless.1)

    -- ---- one turn

    record TurnKeeps (turn : Turn) (database : Database) : Type 0 where
      pub sees : AreSeen P numbers declared (script_read_views declared turn database)
      pub leaves : (over : Run) → script_run declared turn.script turn.oracle database ≡ Some over
          → IsLeft P numbers declared over

    turn_keeps : (turn : Turn) → script_faults (schemas_of declared) turn.script ≡ [] → ScriptWrites P turn.script
        → (database : Database) → HoldsValues P database
        → AllGrounded P numbers declared (script_read_views declared turn database) → TurnKeeps turn database
    turn_keeps turn resolved writes database holds grounded =
        record { sees = sees_so (operations_in turn) refl; leaves = leaves_so }
      where
        onward : (operations : List Operation) → operations_in turn ≡ Some operations
            → RunKeeps P numbers declared turn.tx 1 operations database nothing_bound
        onward operations is =
            let so = operations_so turn.script.statements turn.oracle operations is in
            run_keeps P numbers declared turn.tx 1 operations so.1
            (subst (λ (all : List Statement). AllByRecursion (IsReady P numbers declared) all) (sym so.0)
            (each_ready turn.script.statements (statements_are_written turn.script writes)
            (all_faultless (schemas_of declared) none_bound turn.script.statements resolved)))
            database holds nothing_bound nothing_binds
            (λ read_view at. grounded read_view (subst (λ (all : List ReadView). In read_view all)
            (sym (turn_read_views declared turn database operations is)) at))

        sees_so : (o : Option (List Operation)) → operations_in turn ≡ o
            → AreSeen P numbers declared (script_read_views declared turn database)
        sees_so (Some operations) is read_view at =
            (onward operations is).sees read_view
            (subst (In read_view) (turn_read_views declared turn database operations is) at)
        sees_so None is read_view at =
            absurd (subst (In read_view) (no_turn_read_views declared turn database is) at)

        leaves_so : (over : Run) → script_run declared turn.script turn.oracle database ≡ Some over
            → IsLeft P numbers declared over
        leaves_so over e =
            let operations = operations_run declared turn database over e in
            (onward operations.0 operations.1).leaves over operations.2

    -- ---- one turn after the other

    record TurnsKeep (turns : List Turn) (database : Database) : Type 0 where
      pub sees : AreSeen P numbers declared (scripts_read_views declared turns database)
      pub leaves : (over : Runs) → scripts_run declared turns database ≡ Some over
          → HoldsValues P over.database × AllByRecursion (AllByRecursion (AnswersValues P)) over.answers

    abbrev IsRunLeft : Runs → Type 0
    IsRunLeft over = HoldsValues P over.database × AllByRecursion (AllByRecursion (AnswersValues P)) over.answers

    turns_keep : (turns : List Turn)
        → ((turn : Turn) → In turn turns → script_faults (schemas_of declared) turn.script ≡ [])
        → ((turn : Turn) → In turn turns → ScriptWrites P turn.script) → (database : Database)
        → HoldsValues P database → AllGrounded P numbers declared (scripts_read_views declared turns database)
        → TurnsKeep turns database
    turns_keep [] resolved writes database holds grounded =
        let still : Runs = record { database = database; answers = [] } in
        record {
          sees = λ read_view nowhere. absurd nowhere;
          leaves = λ over e. subst IsRunLeft (one_runs still over e) (holds, tt);
        }
    turns_keep (turn ∷ more) resolved writes database holds grounded =
        let alone = script_run declared turn.script turn.oracle database in
        let here = script_read_views declared turn database in
        let later = seen_from alone (scripts_read_views declared more) in
        let first = turn_keeps turn (resolved turn (inl refl)) (writes turn (inl refl)) database holds
        (λ read_view at. grounded read_view (in_first here later read_view at)) in
        let behind : (over : Run) → alone ≡ Some over → TurnsKeep more over.database =
        λ over is.
        turns_keep more (λ other at. resolved other (inr at)) (λ other at. writes other (inr at)) over.database
        (first.leaves over is).0
        (λ read_view at. grounded read_view (in_second here later read_view
        (subst (λ (o : Option Run). In read_view (seen_from o (scripts_read_views declared more))) (sym is) at))) in
        record {
          sees = λ read_view at. elim (in_either here later read_view at) [
            | inl now ↦ first.sees read_view now
            | inr then ↦
                let over = from_run alone (scripts_read_views declared more) read_view then in
                (behind over.0 over.1).sees read_view over.2
          ];
          leaves = λ over e.
              let r = then_some (λ (r : Run). option_map (ran_first r.answers) (scripts_run declared more r.database))
              alone over e in
              let m = mapped_some (ran_first r.0.answers) (scripts_run declared more r.0.database) over r.2 in
              let rest = (behind r.0 r.1).leaves m.0 m.1 in
              subst IsRunLeft (sym m.2) (rest.0, ((first.leaves r.0 r.1).1, rest.1));
        }

  -- ---- the laws

  module _ (numbers : (number : ℤ) → P (Int number)) where
    all_keep : (declared : List Create) (turns : List Turn) (database : Database) → CanKeep P declared turns
        → HoldsValues P database
        → AllGrounded P numbers declared (scripts_read_views declared turns database)
        → TurnsKeep numbers declared turns database
    all_keep declared turns database can holds grounded =
        turns_keep numbers declared turns (λ turn at. can.resolved turn (in_contains turns turn at))
        (λ turn at. can.writes turn (in_contains turns turn at)) database holds grounded

    pub runs_keep : RunsKeep P
    runs_keep declared turns database runs can holds grounded e =
        (all_keep declared turns database can holds
        (λ read_view at. grounded read_view
        (in_contains (scripts_read_views declared turns database) read_view at))).leaves runs e

    pub read_views_keep : ReadViewsKeep P
    read_views_keep declared turns database read_view can holds grounded there =
        (all_keep declared turns database can holds
        (λ read_view at. grounded read_view
        (in_contains (scripts_read_views declared turns database) read_view at))).sees read_view
        (contains_in (scripts_read_views declared turns database) read_view there)
