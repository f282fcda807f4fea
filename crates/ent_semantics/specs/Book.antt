-- Legal books: the committed transactions, run alone in the order of their commits, give what the book says.
use Rattle.std.specs.Prelude.{◌≡◌, ◌≢◌, ◌↔◌, ℕ, List, map, Some, AllPairs, Contains}
use Rattle.std.specs.List.{flat_map}
use Rattle.ent_tree.specs.declared.script.Script.{Script}
use Rattle.ent_semantics.specs.declared.book.Book.{Book}
use Rattle.ent_semantics.specs.declared.book.Entry.{Entry}
use Rattle.ent_semantics.specs.declared.book.Fate.TheVariants.{Committed}
use Rattle.ent_semantics.specs.declared.book.Fated.{Fated}
use Rattle.ent_semantics.specs.declared.book.JointAnswer.{JointAnswer}
use Rattle.ent_semantics.specs.declared.book.Member.{Member}
use Rattle.ent_semantics.specs.Database.{Database, opening_database}
use Rattle.ent_semantics.specs.Joint.{member_of, IsGood}
use Rattle.ent_semantics.specs.Serial.{Turn, ReadView, numbered, scripts_run, scripts_read_views}

-- the members of all joint answers
abbrev pub all_members : List JointAnswer → List Member
all_members joint_answers = flat_map (λ joint. joint.members) joint_answers

-- two members are of different statements
abbrev pub AreApart : Member → Member → Type 0
AreApart first second = first.tx ≡ second.tx → first.place ≢ second.place

-- a transaction has the fate of having committed with this number
abbrev pub HasCommitted : List Fated → ℕ → ℕ → Type 0
HasCommitted fates tx number =
    (runs : ℕ) × Contains fates (record { tx = tx; fate = Committed number runs })

-- the entry of this number is of this transaction
abbrev pub IsEntryOf : List Entry → ℕ → ℕ → Type 0
IsEntryOf journal tx number = (entry : Entry) × (numbered journal number ≡ Some entry) × (entry.tx ≡ tx)

-- The journal holds distinct transactions of the list, and a transaction has committed with a number exactly where the
-- entry of that number is its own.
pub record JournalIsRight (book : Book Database) : Type 0 where
  pub distinct : AllPairs (λ (first second : Entry). first.tx ≢ second.tx) book.journal
  pub of_list : (entry : Entry) → Contains book.journal entry
      → (script : Script) × (numbered book.scripts entry.tx ≡ Some script)
  pub one_fate : AllPairs (λ (first second : Fated). first.tx ≢ second.tx) book.fates
  pub committed : (tx number : ℕ) → HasCommitted book.fates tx number ↔ IsEntryOf book.journal tx number

-- The turns are those of the journal's transactions, in its order, with their scripts; run alone, they give each
-- entry's answers and the book's database.
pub record RunGivesBook (book : Book Database) (turns : List Turn) : Type 0 where
  pub in_order : map (λ turn. turn.tx) turns ≡ map (λ entry. entry.tx) book.journal
  pub own_scripts : (turn : Turn) → Contains turns turn → numbered book.scripts turn.tx ≡ Some turn.script
  pub run : scripts_run book.opening.tables turns (opening_database book.opening)
      ≡ Some (record { database = book.database; answers = map (λ entry. entry.answers) book.journal })

-- the entangled statements of that run
abbrev pub book_read_views : Book Database → List Turn → List ReadView
book_read_views book turns = scripts_read_views book.opening.tables turns (opening_database book.opening)

pub record IsLegal (book : Book Database) : Type 0 where
  -- 1. The journal and the fates fit together.
  pub journal : JournalIsRight book
  -- 2. With some answers of an oracle the run in the journal's order gives the book.
  pub turns : List Turn
  pub runs : RunGivesBook book turns
  -- 3. Each entangled statement of that run stands in a joint answer, with the oracle's answer, and in no other.
  pub answered : (read_view : ReadView) → Contains (book_read_views book turns) read_view
      → Contains (all_members book.joint_answers) (member_of read_view)
  pub once : AllPairs AreApart (all_members book.joint_answers)
  -- 4. Nothing else stands in one: nobody's partner is missing.
  pub no_widow : (member : Member) → Contains (all_members book.joint_answers) member
      → (read_view : ReadView) × Contains (book_read_views book turns) read_view × (member ≡ member_of read_view)
  -- 5. Each joint answer is good over that run.
  pub good : (joint : JointAnswer) → Contains book.joint_answers joint
      → IsGood book.opening.tables (book_read_views book turns) joint.members
