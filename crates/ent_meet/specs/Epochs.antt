-- The epochs that ended, by the joint answers of their books.
use Rattle.std.specs.Prelude.{◌≡◌, ◌+◌, ℕ, List, [], ◌∷◌}
use Rattle.ent_book.specs.Tables.{book_seen}
use Rattle.ent_room.specs.declared.epoch_book.EpochBook.{EpochBook}
use Rattle.ent_semantics.specs.Book.{IsLegal}
use Rattle.ent_meet.specs.Joints.{epoch_joints}
use Rattle.ent_meet.specs.declared.epochs.EpochJoints.{EpochJoints}

-- the joint answers are those of a legal book of the epoch of this number
pub record IsOfBook (number : ℕ) (ended : EpochJoints) : Type 0 where
  pub last : EpochBook
  pub number_is : last.epoch ≡ number
  pub legal : IsLegal (book_seen last.book)
  pub is : ended ≡ epoch_joints last

-- the joint answers are those of legal books of the epochs from one number on, up to the one before another
abbrev pub AreOfBooks : ℕ → List EpochJoints → ℕ → Type 0
AreOfBooks number [] next = number ≡ next
AreOfBooks number (ended ∷ more) next = IsOfBook number ended × AreOfBooks (number + 1) more next
