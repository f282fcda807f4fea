-- The database of a legal book has no rows under names that aren't declared.
use Rattle.std.proofs.Common.{◌≡◌, false, List, [], ◌∷◌, map, refl, sym, ap, subst, ◌∙◌, inl}
use Rattle.std.proofs.Common.{inr, Some, None, Result, Ok}
use Rattle.std.specs.List.{AllByRecursion}
use Rattle.std.specs.Option.{option_and_then, option_map}
use Rattle.ent_lists.specs.Sets as set
use Rattle.ent_tree.specs.declared.declaration.Create.{Create}
use Rattle.ent_tree.specs.declared.declaration.Opening.{Opening}
use Rattle.ent_tree.specs.declared.script.Script.{Script}
use Rattle.ent_tree.specs.declared.script.Statement.{Statement}
use Rattle.ent_semantics.specs.declared.answer.Failure.{Failure}
use Rattle.ent_semantics.specs.declared.book.Book.{Book}
use Rattle.ent_semantics.specs.declared.book.Entry.{Entry}
use Rattle.ent_semantics.specs.Book.{IsLegal}
use Rattle.ent_semantics.specs.Database.{Database, Environment, Name, nothing_bound, opening_database}
use Rattle.ent_semantics.specs.Effect.{Effect}
use Rattle.ent_semantics.specs.Entangled.{Valuation}
use Rattle.ent_semantics.specs.Serial.{Operation, Run, Runs, Turn, operations_of, numbered}
use Rattle.ent_semantics.specs.Serial.{ran_first, run, script_run, scripts_run}
use Rattle.ent_semantics.specs.Statement.{statement_meaning}
use Rattle.ent_semantics.specs.Uses.{KeepsOthers, changes}
use Rattle.ent_semantics.proofs.Numbered.{numbered_in}
use Rattle.ent_form.specs.AllFaults.{head_of}
use Rattle.ent_form.specs.Catalogue.{schemas_of}
use Rattle.ent_form.specs.Form.{script_in}
use Rattle.ent_form.specs.OpeningFault.{opening_fault}
use Rattle.ent_form.specs.ScriptFaults.{script_faults}
use Rattle.ent_form.specs.declared.script.Plain.{Plain}
use Rattle.ent_lists.specs.Elements.{In, clash, in_contains, not_so, of_all, to_map}
use Rattle.ent_report_laws.proofs.Sound.{Laws}
use Rattle.ent_program_laws.proofs.Turns.{ended_some, resolves}
use Rattle.ent_program_laws.proofs.Walking.{operations_so}
use Rattle.ent_history.specs.Formed.{is_declared}
use Rattle.ent_history.proofs.Operations.{goes_on, mapped_some, then_some}
use Rattle.ent_history.proofs.Tables.{Keeps}

-- ---- the statements of a script that ran

abbrev pub statement_of : Operation → Statement
statement_of operation = operation.statement

pub record ScriptRan (declared : List Create) (script : Script) (oracle : List Valuation) (d : Database) (r : Run)
    : Type 0 where
  pub operations : List Operation
  pub are : operations_of script.statements oracle ≡ Some operations
  pub runs : run declared operations d nothing_bound ≡ Some r

pub script_ran : (declared : List Create) (script : Script) (oracle : List Valuation) (d : Database) (r : Run)
    → script_run declared script oracle d ≡ Some r → ScriptRan declared script oracle d r
script_ran declared script oracle d r e =
    let x = then_some (λ operations. run declared operations d nothing_bound) (operations_of script.statements oracle) r
    (ended_some script.end
    (option_and_then (λ operations. run declared operations d nothing_bound) (operations_of script.statements oracle)) r
    e) in
    record { operations = x.0; are = x.1; runs = x.2 }

-- the first of several scripts ran, and the others behind it
pub record FirstRan (declared : List Create) (turn : Turn) (more : List Turn) (d : Database) (all : Runs)
    : Type 0 where
  pub first : Run
  pub ran : script_run declared turn.script turn.oracle d ≡ Some first
  pub others : Runs
  pub rest : scripts_run declared more first.database ≡ Some others
  pub whole : all ≡ ran_first first.answers others

pub first_ran : (declared : List Create) (turn : Turn) (more : List Turn) (d : Database) (all : Runs)
    → scripts_run declared (turn ∷ more) d ≡ Some all → FirstRan declared turn more d all
first_ran declared turn more d all e =
    let x = then_some (λ (r : Run). option_map (ran_first r.answers) (scripts_run declared more r.database))
    (script_run declared turn.script turn.oracle d) all e in
    let y = mapped_some (ran_first x.0.answers) (scripts_run declared more x.0.database) all x.2 in
    record { first = x.0; ran = x.1; others = y.0; rest = y.1; whole = y.2 }

-- ---- a table that no statement changes

module _ (keeps : Keeps) (declared : List Create) (name : Name) where
  abbrev Stays : Statement → Type 0
  Stays st = changes st name ≡ false

  kept_effect : (st : Statement) (d : Database) (m : Result (Effect Database) Failure) → KeepsOthers st d m
      → Stays st → (effect : Effect Database) → m ≡ Ok effect → effect.database name ≡ d name
  kept_effect st d m kept stays effect is = subst (KeepsOthers st d) is kept name stays

  kept_run : (operations : List Operation) (d : Database) (v : Environment) (r : Run)
      → run declared operations d v ≡ Some r
      → ((operation : Operation) → In operation operations → Stays operation.statement) → r.database name ≡ d name
  kept_run [] d v r runs stay = ap (λ (x : Run). x.database name) (sym (one runs))
    where
      one : Some (record { database = d; environment = v; answers = [] }) ≡ Some r
          → record { database = d; environment = v; answers = [] } ≡ r
      one e = cc
  kept_run (operation ∷ more) d v r runs stay =
      let on = goes_on (statement_meaning declared operation.statement operation.valuation d v) (run declared more) r
      runs in
      ap (λ (x : Run). x.database name) on.whole
      ∙ kept_run more on.effect.database on.effect.environment on.rest on.rests (λ x at. stay x (inr at))
      ∙ kept_effect operation.statement d (statement_meaning declared operation.statement operation.valuation d v)
      (keeps declared operation.statement operation.valuation v d) (stay operation (inl refl)) on.effect on.is

  kept_script : (script : Script) (oracle : List Valuation) (d : Database) (r : Run)
      → script_run declared script oracle d ≡ Some r
      → ((st : Statement) → In st script.statements → Stays st) → r.database name ≡ d name
  kept_script script oracle d r e stay =
      let ran = script_ran declared script oracle d r e in
      kept_run ran.operations d nothing_bound r ran.runs (λ operation at.
      stay operation.statement
      (subst (In operation.statement) (operations_so script.statements oracle ran.operations ran.are).0
      (to_map statement_of ran.operations operation at)))

  kept_scripts : (turns : List Turn) (d : Database) (all : Runs) → scripts_run declared turns d ≡ Some all
      → ((turn : Turn) → In turn turns → (st : Statement) → In st turn.script.statements → Stays st)
      → all.database name ≡ d name
  kept_scripts [] d all e stay = ap (λ (x : Runs). x.database name) (sym (one e))
    where
      one : Some (record { database = d; answers = [] }) ≡ Some all → record { database = d; answers = [] } ≡ all
      one e = cc
  kept_scripts (turn ∷ more) d all e stay =
      let first = first_ran declared turn more d all e in
      ap (λ (x : Runs). x.database name) first.whole
      ∙ kept_scripts more first.first.database first.others first.rest (λ t at. stay t (inr at))
      ∙ kept_script turn.script turn.oracle d first.first first.ran (stay turn (inl refl))

-- ---- names that aren't declared

abbrev pub IsFaultless : Opening → Script → Type 0
IsFaultless opening script = script_faults (schemas_of opening.tables) script ≡ []

module _ (laws : Laws) (keeps : Keeps) (book : Book Database) (legal : IsLegal book) where
  pub turn_script : (turn : Turn) → In turn legal.turns → numbered book.scripts turn.tx ≡ Some turn.script
  turn_script turn at = legal.runs.own_scripts turn (in_contains legal.turns turn at)

  pub script_form : AllByRecursion (IsFaultless book.opening) book.scripts → (script : Script)
      → In script book.scripts → (plain : Plain) × (script_in (schemas_of book.opening.tables) script ≡ Ok plain)
  script_form faultless script at =
      resolves (script_in (schemas_of book.opening.tables) script)
      (laws.first (schemas_of book.opening.tables) script
      ∙ ap head_of (of_all (IsFaultless book.opening) book.scripts script faultless at))

  pub none_undeclared : opening_fault book.opening ≡ None
      → AllByRecursion (IsFaultless book.opening) book.scripts → (name : Name)
      → is_declared book.opening.tables name ≡ false → book.database name ≡ set.empty
  none_undeclared opened faultless name undeclared =
      kept_scripts keeps book.opening.tables name legal.turns (opening_database book.opening)
      (record { database = book.database; answers = map (λ (e : Entry). e.answers) book.journal }) legal.runs.run
      (λ turn at st within. not_so (changes st name) (λ changed.
      let script = numbered_in book.scripts turn.tx turn.script (turn_script turn at) in
      let form = script_form faultless turn.script script in
      clash (is_declared book.opening.tables name)
      (laws.within book.opening.tables turn.script form.0 form.1 st
      (in_contains turn.script.statements st within) name changed)
      undeclared))
      ∙ laws.opens book.opening opened name undeclared
