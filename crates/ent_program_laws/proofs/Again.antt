-- A book is what its report tells, but for the order and the places of its opening.
use Rattle.std.proofs.Common.{◌≡◌, false, List, [], ◌∷◌, map, refl, ap}
use Rattle.ent_lists.specs.Sets as set
use Rattle.ent_tree.specs.declared.script.Script.{Script}
use Rattle.ent_semantics.specs.declared.book.Book.{Book}
use Rattle.ent_semantics.specs.declared.book.JointAnswer.{JointAnswer}
use Rattle.ent_semantics.specs.declared.book.Member.{Member}
use Rattle.ent_semantics.specs.Book.{JournalIsRight}
use Rattle.ent_semantics.specs.Database.{Database, Name}
use Rattle.ent_history.specs.Told.{book_of, joint_answer_of, told_by, told_joint, told_member, told_opening}
use Rattle.ent_history.specs.Formed.{is_declared}
use Rattle.ent_program_laws.proofs.Entries.{AreFrom, fates_again, journal_again}
use Rattle.ent_program_laws.proofs.Shown.{database_again}

members_again : (scripts : List Script) (members : List Member)
    → map (λ told. told.member) (map (told_member scripts) members) ≡ members
members_again scripts [] = refl
members_again scripts (member ∷ more) = ap (λ others. member ∷ others) (members_again scripts more)

joints_again : (scripts : List Script) (joints : List JointAnswer)
    → map joint_answer_of (map (told_joint scripts) joints) ≡ joints
joints_again scripts [] = refl
joints_again scripts (joint ∷ more) =
    λ i. record { members = members_again scripts joint.members i } ∷ joints_again scripts more i

pub book_again : (book : Book Database) → AreFrom 1 book.fates → JournalIsRight book
    → ((name : Name) → is_declared book.opening.tables name ≡ false → book.database name ≡ set.empty)
    → book_of (told_by book) ≡ record book { opening = told_opening book.opening }
book_again book from right empty = λ i. record {
  opening = told_opening book.opening;
  scripts = book.scripts;
  journal = journal_again book right from i;
  joint_answers = joints_again book.scripts book.joint_answers i;
  fates = fates_again book.journal 1 book.fates from i;
  database = database_again book.opening book.database empty i;
}
