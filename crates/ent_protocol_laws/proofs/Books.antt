-- The run of the committed transactions gives the book.
use Rattle.std.proofs.Common.{◌≡◌, ℕ, zero, suc, cond, List, [], ◌∷◌, map, refl, sym, ap, subst}
use Rattle.std.proofs.Common.{◌∙◌, inl, inr, Some, Contains, slice_get}
use Rattle.std.specs.List.{AllByRecursion}
use Rattle.std.specs.Option.{option_map, option_and_then}
use Rattle.std.proofs.lemmas.Simd.{map-map}
use Rattle.ent_tree.specs.declared.declaration.Create.{Create}
use Rattle.ent_tree.specs.declared.script.Statement.{Statement}
use Rattle.ent_tree.specs.declared.script.Statement.TheVariants as statements
use Rattle.ent_semantics.specs.declared.book.Entry.{Entry}
use Rattle.ent_semantics.specs.Book.{RunGivesBook, book_read_views}
use Rattle.ent_semantics.specs.Database.{Name, Database, nothing_bound, opening_database, same_name}
use Rattle.ent_semantics.specs.Entangled.{Valuation}
use Rattle.ent_semantics.specs.Joint.{IsGrounded}
use Rattle.ent_semantics.specs.Serial.{Operation, Run, Turn, ReadView, is_entangled, operation_first, operations_of}
use Rattle.ent_semantics.specs.Serial.{run}
use Rattle.ent_semantics.specs.Serial.{ended, script_run, ran_first, scripts_run, read_views, script_read_views}
use Rattle.ent_semantics.specs.Serial.{seen_from}
use Rattle.ent_semantics.specs.Serial.{scripts_read_views, numbered}
use Rattle.ent_semantics.specs.Form.{Tables}
use Rattle.ent_form.specs.Tables.{database_of}
use Rattle.ent_protocol.specs.Member.{environment_of}
use Rattle.ent_protocol.specs.Reached.{IsReached, book_of, named_tables, settled}
use Rattle.ent_protocol.specs.Run.{Forms}
use Rattle.ent_protocol.specs.State.{State, Submitted}
use Rattle.ent_protocol_laws.specs.Faithful.{AreFaithful}
use Rattle.ent_protocol_laws.specs.History.{History, Replays, AreSerial}
use Rattle.ent_protocol_laws.specs.SerialState.{IsOracled, IsWhole}
use Rattle.ent_lists.specs.Elements.{In, all_joined, all_first, of_all}
use Rattle.ent_protocol_laws.proofs.Frame.{Laws}
use Rattle.ent_protocol_laws.proofs.SerialKept.{Kept, entry_from}
use Rattle.ent_lists.specs.Elements.{contains_in}
use Rattle.ent_protocol_laws.proofs.Reached.{reached_kept}

-- ---- the oracle's answers of operations

abbrev pub oracle_of : List Operation → List Valuation
oracle_of [] = []
oracle_of (operation ∷ more) = cond (is_entangled operation.statement) (operation.valuation ∷ oracle_of more)
    (oracle_of more)

-- an operation is its statement with the answer that the oracle gives it
operation_again : (st : Statement) (valuation : Valuation) (more : List Operation) (sts : List Statement)
    → IsOracled (record { statement = st; valuation = valuation })
    → operations_of sts (oracle_of more) ≡ Some more
    → operations_of (st ∷ sts) (cond (is_entangled st) (valuation ∷ oracle_of more) (oracle_of more))
    ≡ Some (record { statement = st; valuation = valuation } ∷ more)
operation_again (statements.Entangled entangled) valuation more sts oracled rest =
    ap (operation_first (statements.Entangled entangled) valuation) rest
operation_again (statements.Select select) valuation more sts oracled rest =
    ap (operation_first (statements.Select select) []) rest
    ∙ (λ i. Some (record { statement = statements.Select select; valuation = sym oracled i } ∷ more))
operation_again (statements.Insert insert) valuation more sts oracled rest =
    ap (operation_first (statements.Insert insert) []) rest
    ∙ (λ i. Some (record { statement = statements.Insert insert; valuation = sym oracled i } ∷ more))
operation_again (statements.Delete delete) valuation more sts oracled rest =
    ap (operation_first (statements.Delete delete) []) rest
    ∙ (λ i. Some (record { statement = statements.Delete delete; valuation = sym oracled i } ∷ more))
operation_again (statements.Update update) valuation more sts oracled rest =
    ap (operation_first (statements.Update update) []) rest
    ∙ (λ i. Some (record { statement = statements.Update update; valuation = sym oracled i } ∷ more))
operation_again (statements.Set setting) valuation more sts oracled rest =
    ap (operation_first (statements.Set setting) []) rest
    ∙ (λ i. Some (record { statement = statements.Set setting; valuation = sym oracled i } ∷ more))

pub operations_again : (operations : List Operation) → AllByRecursion IsOracled operations
    → operations_of (map (λ (operation : Operation). operation.statement) operations) (oracle_of operations) ≡ Some
    operations
operations_again [] oracled = refl
operations_again (operation ∷ more) oracled =
    operation_again operation.statement operation.valuation more (map (λ (d : Operation). d.statement) more) oracled.0
    (operations_again more oracled.1)

-- ---- turns

abbrev pub turn_of : (all : List Submitted) (history : History) → IsWhole all history → Turn
turn_of all history whole =
    record { tx = history.member.tx; script = whole.own.script; oracle = oracle_of history.operations }

abbrev pub turns_of : (all : List Submitted) (histories : List History)
    → AllByRecursion (IsWhole all) histories → List Turn
turns_of all [] whole = []
turns_of all (history ∷ more) whole = turn_of all history whole.0 ∷ turns_of all more whole.1

module _ (declared : List Create) (all : List Submitted) where
  turn_operations : (history : History) (whole : IsWhole all history)
      → operations_of whole.own.script.statements (oracle_of history.operations) ≡ Some history.operations
  turn_operations history whole =
      ap (λ sts. operations_of sts (oracle_of history.operations)) (sym whole.whole)
      ∙ operations_again history.operations whole.oracled

  pub turn_run : (history : History) (whole : IsWhole all history) (first last : Database)
      → Replays declared history first last
      → script_run declared whole.own.script (oracle_of history.operations) first
      ≡ Some (record {
        database = last;
        environment = environment_of history.member;
        answers = history.member.answers;
      })
  turn_run history whole first last replays =
      ap (λ end. ended end (option_and_then (λ operations. run declared operations first nothing_bound)
      (operations_of whole.own.script.statements (oracle_of history.operations)))) whole.commits
      ∙ ap (option_and_then (λ operations. run declared operations first nothing_bound)) (turn_operations history whole)
      ∙ replays.runs

  turns_run : (histories : List History) (whole : AllByRecursion (IsWhole all) histories) (first last : Database)
      → AreSerial declared histories first last
      → scripts_run declared (turns_of all histories whole) first
      ≡ Some (record {
        database = last;
        answers = map (λ (h : History). h.member.answers) histories;
      })
  turns_run [] whole first last serial = λ i. Some (record { database = serial i; answers = [] })
  turns_run (history ∷ more) whole first last serial =
      ap (option_and_then (λ (r : Run). option_map (ran_first r.answers)
      (scripts_run declared (turns_of all more whole.1) r.database))) (turn_run history whole.0 first serial.0 serial.1)
      ∙ ap (option_map (ran_first history.member.answers)) (turns_run more whole.1 serial.0 last serial.2)

  pub turn_read_views : (history : History) (whole : IsWhole all history) (first : Database)
      → script_read_views declared (turn_of all history whole) first
      ≡ read_views declared history.member.tx 1 history.operations first nothing_bound
  turn_read_views history whole first = rw (turn_operations history whole) refl

  turns_grounded : (histories : List History) (whole : AllByRecursion (IsWhole all) histories) (first last : Database)
      → AreSerial declared histories first last
      → AllByRecursion (IsGrounded declared) (scripts_read_views declared (turns_of all histories whole) first)
  turns_grounded [] whole first last serial = tt
  turns_grounded (history ∷ more) whole first last serial =
      all_joined (IsGrounded declared) (script_read_views declared (turn_of all history whole.0) first)
      (seen_from (script_run declared whole.0.own.script (oracle_of history.operations) first)
      (scripts_read_views declared (turns_of all more whole.1)))
      (subst (AllByRecursion (IsGrounded declared)) (sym (turn_read_views history whole.0 first)) serial.1.grounded)
      (subst (λ r. AllByRecursion (IsGrounded declared)
      (seen_from r (scripts_read_views declared (turns_of all more whole.1))))
      (sym (turn_run history whole.0 first serial.0 serial.1))
      (turns_grounded more whole.1 serial.0 last serial.2))

turns_order : (all : List Submitted) (histories : List History) (whole : AllByRecursion (IsWhole all) histories)
    → map (λ (turn : Turn). turn.tx) (turns_of all histories whole)
    ≡ map (λ (h : History). h.member.tx) histories
turns_order all [] whole = refl
turns_order all (history ∷ more) whole = ap (λ txs. history.member.tx ∷ txs) (turns_order all more whole.1)

pub numbered_map : {X Y : Type 0} (f : X → Y) (xs : List X) (n : ℕ) (x : X) → numbered xs n ≡ Some x
    → numbered (map f xs) n ≡ Some (f x)
numbered_map f xs zero x e = cc (e)
numbered_map {X} f xs (suc n) x e = found xs n e
  where
    found : (ys : List X) (n : ℕ) → slice_get ys n ≡ Some x → slice_get (map f ys) n ≡ Some (f x)
    found [] n e = cc (e)
    found (y ∷ ys) zero e = let same : y ≡ x = cc in ap (λ z. Some (f z)) same
    found (y ∷ ys) (suc n) e = found ys n e

turns_scripts : (all : List Submitted) (histories : List History) (whole : AllByRecursion (IsWhole all) histories)
    (turn : Turn) → In turn (turns_of all histories whole)
    → numbered (map (λ (own : Submitted). own.script) all) turn.tx ≡ Some turn.script
turns_scripts all [] whole turn at = absurd at
turns_scripts all (history ∷ more) whole turn (inl same) =
    (λ i. numbered (map (λ (own : Submitted). own.script) all) (same i).tx)
    ∙ numbered_map (λ (own : Submitted). own.script) all history.member.tx whole.0.own whole.0.submitted
    ∙ (λ i. Some (sym same i).script)
turns_scripts all (history ∷ more) whole turn (inr at) = turns_scripts all more whole.1 turn at

pub named_same : (creates : List Create) (tables : Tables) (name : Name)
    → named_tables (map (λ (create : Create). create.name.name) creates) tables name ≡ database_of creates tables name
named_same [] tables name = refl
named_same (create ∷ more) [] name = refl
named_same (create ∷ more) (rows ∷ tables) name =
    ap (λ rest. cond (same_name create.name.name name) rows rest) (named_same more tables name)

module _ {F : Type 0} (forms : Forms F) (s : State) (kept : Kept forms s) where
  pub committed_whole : AllByRecursion (IsWhole s.submitted) kept.committed
  committed_whole = all_first (IsWhole s.submitted) kept.committed kept.prepared kept.whole

  database_is : kept.base ≡ (book_of s).database
  database_is = sym kept.sound.undo ∙ (λ i name. sym (named_same s.opening.tables (settled s) name) i)

  pub run_gives_book : RunGivesBook (book_of s) (turns_of s.submitted kept.committed committed_whole)
  run_gives_book =
      record {
        in_order = turns_order s.submitted kept.committed committed_whole
            ∙ sym (map-map (λ (e : Entry). e.tx) entry_from kept.committed)
            ∙ ap (map (λ (e : Entry). e.tx)) kept.journal;
        own_scripts = λ turn at.
            turns_scripts s.submitted kept.committed committed_whole turn
            (contains_in (turns_of s.submitted kept.committed committed_whole) turn at);
        run = turns_run s.opening.tables s.submitted kept.committed committed_whole
            (opening_database s.opening) kept.base kept.settles
            ∙ (λ i. Some (record {
              database = database_is i;
              answers = (sym (map-map (λ (e : Entry). e.answers) entry_from kept.committed)
                  ∙ ap (map (λ (e : Entry). e.answers)) kept.journal) i;
            }));
      }

  pub read_views_grounded : (read_view : ReadView)
      → Contains (book_read_views (book_of s) (turns_of s.submitted kept.committed committed_whole)) read_view
      → IsGrounded s.opening.tables read_view
  read_views_grounded read_view at =
      of_all (IsGrounded s.opening.tables)
      (book_read_views (book_of s) (turns_of s.submitted kept.committed committed_whole)) read_view
      (turns_grounded s.opening.tables s.submitted kept.committed committed_whole (opening_database s.opening)
      kept.base kept.settles)
      (contains_in (book_read_views (book_of s) (turns_of s.submitted kept.committed committed_whole)) read_view at)

pub reached_run : {F : Type 0} (forms : Forms F) (laws : Laws) (s : State) → AreFaithful forms s.opening
    → IsReached forms s → (turns : List Turn) × RunGivesBook (book_of s) turns
    × ((read_view : ReadView) → Contains (book_read_views (book_of s) turns) read_view
    → IsGrounded s.opening.tables read_view)
reached_run forms laws s faithful reached =
    let kept = reached_kept forms laws s faithful reached in (
      turns_of s.submitted kept.committed (committed_whole forms s kept),
      run_gives_book forms s kept,
      read_views_grounded forms s kept,
    )
