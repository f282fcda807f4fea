-- Epochs that ended, one after the other.
use Rattle.std.proofs.Common.{◌≡◌, ◌+◌, ◌∙◌, ℕ, List, [], ◌∷◌, ◌++◌, length, refl, ap, arith, subst, sym, length-append}
use Rattle.ent_admission.specs.Passed.{Epoch}
use Rattle.ent_room.specs.Room.{Follows}
use Rattle.ent_room.specs.declared.epoch_book.EpochBook.{EpochBook}
use Rattle.ent_meet.specs.Epochs.{AreOfBooks, IsOfBook}
use Rattle.ent_meet.specs.Joints.{epoch_joints}
use Rattle.ent_meet.specs.declared.epochs.EpochJoints.{EpochJoints}

-- one epoch more
one_more_ended : (number next : ℕ) (before : List EpochJoints) (ended : EpochJoints)
    → AreOfBooks number before next → IsOfBook next ended → AreOfBooks number (before ++ ended ∷ []) (next + 1)
one_more_ended number next [] ended is of =
    (subst (λ (n : ℕ). IsOfBook n ended) (sym is) of, ap (λ n. n + 1) is)
one_more_ended number next (first ∷ more) ended are of =
    (are.0, one_more_ended (number + 1) next more ended are.1 of)

-- one more is kept
pub one_longer : (before after : List EpochJoints) (ended : EpochJoints) → after ≡ before ++ ended ∷ []
    → length after ≡ length before + 1
one_longer before after ended is = ap length is ∙ length-append before (ended ∷ [])

-- the epoch that ended last is the first that isn't kept
pub last_ended : (epoch : Epoch) (last : EpochBook) (before after : List EpochJoints) → Follows epoch last
    → epoch.number ≡ length before + 2 → AreOfBooks 1 before (length before + 1)
    → after ≡ before ++ epoch_joints last ∷ [] → AreOfBooks 1 after (length after + 1)
last_ended epoch last before after follows number are is =
    subst (λ (n : ℕ). AreOfBooks 1 after (n + 1)) (sym (one_longer before after (epoch_joints last) is))
    (subst (λ (xs : List EpochJoints). AreOfBooks 1 xs (length before + 1 + 1)) (sym is)
    (one_more_ended 1 (length before + 1) before (epoch_joints last) are
    (record { last = last; number_is = number_is; legal = follows.legal; is = refl })))
  where
    number_is : last.epoch ≡ length before + 1
    number_is = let e = follows.number in omega (arith, e, number)
