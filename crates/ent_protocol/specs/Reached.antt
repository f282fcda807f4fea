-- The states that events lead to, and their books.
use Rattle.std.specs.Prelude.{◌≡◌, ℕ, zero, suc, Bool, true, false, not, List, [], ◌∷◌, map, length}
use Rattle.std.specs.Prelude.{Option, Some, None, if◌then◌else◌}
use Rattle.std.specs.List.{filter}
use Rattle.ent_lists.specs.Sets as set
use Rattle.ent_tree.specs.declared.declaration.Opening.{Opening}
use Rattle.ent_tree.specs.declared.script.Script.{Script}
use Rattle.ent_semantics.specs.declared.book.Book.{Book}
use Rattle.ent_semantics.specs.declared.book.JointAnswer.{JointAnswer}
use Rattle.ent_semantics.specs.Database.{Name, Database, opening_database, same_name}
use Rattle.ent_semantics.specs.Form.{Tables}
use Rattle.ent_protocol.specs.Event.{Event, Reply, Submit, Submitted}
use Rattle.ent_protocol.specs.Rollback.{put_back, is_joint_of}
use Rattle.ent_protocol.specs.Run.{Forms}
use Rattle.ent_protocol.specs.State.{State, Dormant, members, by_number}
use Rattle.ent_protocol.specs.Step.{Step}

-- ---- books

abbrev pub table_names : Opening → List Name
table_names opening = map (λ create. create.name.name) opening.tables

-- tables, in the order of their declaration, under their names
abbrev pub named_tables : List Name → Tables → Database
named_tables [] tables name = set.empty
named_tables (first ∷ names) [] name = set.empty
named_tables (first ∷ names) (rows ∷ tables) name =
    if same_name first name then rows else named_tables names tables name

-- the settled database: each table as before the first change of a member, or as it is
abbrev pub settled : State → Tables
settled s = put_back s.changes s.tables

-- the joint answers of members
abbrev pub live_joints : State → List JointAnswer
live_joints s = filter (is_joint_of (members s)) s.joints

-- the joint answers of committed transactions, in the order in which they were made
abbrev pub committed_joints : State → List JointAnswer
committed_joints s = filter (λ joint. not (is_joint_of (members s) joint)) s.joints

-- the scripts that were submitted, by number from 1
abbrev pub scripts_of : State → List Script
scripts_of s = map (λ own. own.script) s.submitted

abbrev pub book_of : State → Book Database
book_of s =
    record {
      opening = s.opening;
      scripts = scripts_of s;
      journal = s.journal;
      joint_answers = committed_joints s;
      fates = by_number (λ fated. fated.tx) s.fates;
      database = named_tables (table_names s.opening) (settled s);
    }

-- no run is on, and nothing is dormant
abbrev pub CanClose : State → Type 0
CanClose s = (s.running ≡ false) × (s.dormant ≡ [])

-- a book, unless a run is on or some transaction is dormant
abbrev pub book_unless : Bool → List Dormant → Book Database → Option (Book Database)
book_unless true dormant book = None
book_unless false [] book = Some book
book_unless false (first ∷ more) book = None

-- what closing gives; where it gives nothing, the core is handed back as it was
abbrev pub closing : State → Option (Book Database)
closing s = book_unless s.running s.dormant (book_of s)

-- ---- reached states

-- the opening's own state: no script, no run
abbrev pub opened : Opening → State
opened opening =
    record {
      opening = opening;
      submitted = [];
      dormant = [];
      running = false;
      prepared = [];
      active = [];
      joints = [];
      tried = [];
      lent = [];
      tables = map (opening_database opening) (table_names opening);
      changes = [];
      journal = [];
      fates = [];
    }

module _ {F : Type 0} (forms : Forms F) where
  -- in so many events one state leads to another
  abbrev pub LeadsTo : ℕ → State → State → Type 0
  LeadsTo zero first last = last ≡ first
  LeadsTo (suc n) first last =
      (s : State) × (event : Event) × (reply : Reply F) × LeadsTo n first s × Step forms s event reply last

  abbrev pub IsReached : State → Type 0
  IsReached s = (n : ℕ) × LeadsTo n (opened s.opening) s

  -- so many scripts were submitted to the opening's own state, and accepted
  abbrev pub IsGatheredState : ℕ → State → Type 0
  IsGatheredState zero s = s ≡ opened s.opening
  IsGatheredState (suc n) s =
      (before : State) × (script : Script) × IsGatheredState n before
      × Step forms before (Submit script) (Submitted (suc n)) s

  -- reached from such a state
  abbrev pub IsGatheredAt : ℕ → State → Type 0
  IsGatheredAt k s = (first : State) × (n : ℕ) × IsGatheredState k first × LeadsTo n first s

  -- all scripts were submitted before anything else
  abbrev pub IsGathered : State → Type 0
  IsGathered s = IsGatheredAt (length s.submitted) s

  -- no run is on, and nothing is dormant
  pub record IsFinished (s : State) : Type 0 where
    pub reached : IsReached s
    pub no_run : s.running ≡ false
    pub none_dormant : s.dormant ≡ []

  -- the book of a finished state, over an opening and scripts
  pub record IsFinishedBook (opening : Opening) (scripts : List Script) (book : Book Database) : Type 0 where
    pub last : State
    pub finished : IsFinished last
    pub of_opening : last.opening ≡ opening
    pub of_scripts : scripts_of last ≡ scripts
    pub is : book ≡ book_of last
