-- Epochs that keep their number and their opening.
use Rattle.std.proofs.Common.{◌≡◌, ◌∙◌, ℕ, zero, suc, Option, Some, None, IfSome, refl, sym, ap, subst, ⊎_elim}
use Rattle.std.specs.BTreeSet.{BTreeSet, contains}
use Rattle.std.specs.Ordering.{nat_cmp}
use Rattle.ent_admission.specs.Admission.{Admission, IsAllTold, IsAtRest}
use Rattle.ent_admission.specs.Moves.{Chain, Chooses, Enters, Goes, Moves, Runs, Settles, Tells}
use Rattle.ent_admission.specs.Moves.{TellsCommits, TellsEndings}
use Rattle.ent_admission.specs.Passed.{Epoch, begun}
use Rattle.ent_protocol.specs.Reached.{CanClose}
use Rattle.ent_semantics.specs.Database.{opening_database}
use Rattle.ent_tree.specs.declared.declaration.Opening.{Opening}
use Rattle.ent_waiting.specs.WaitingList.{WaitingList, is_stationed, waiter_of}
use Rattle.ent_waiting.specs.declared.queues.Station.TheVariants.{Batch}
use Rattle.ent_room.specs.Room.{Follows}
use Rattle.ent_room.specs.declared.epoch_book.EpochBook.{EpochBook}

abbrev number_of : Epoch → ℕ
number_of epoch = epoch.number

-- ---- a batch that goes on

one_move : (old new : Admission) → Moves old new → new.epoch.number ≡ old.epoch.number
one_move old new move =
    ⊎_elim
    (λ (chooses : Chooses old new). ap number_of chooses.epoch)
    (λ others. ⊎_elim
    (λ (enters : Enters old new). enters.takes.number)
    (λ over. ⊎_elim
    (λ (runs : Runs old new). ap number_of runs.epoch)
    (λ last. ⊎_elim
    (λ (settles : Settles old new). ap number_of settles.epoch)
    (λ (tells : Tells old new). ⊎_elim
    (λ (commits : TellsCommits old new). ap number_of commits.publishes.all_told)
    (λ (endings : TellsEndings old new). ap (λ (a : Admission). a.epoch.number) endings.is)
    tells)
    last)
    over)
    others)
    move

all_moves : (count : ℕ) (old new : Admission) → Chain Moves count old new → new.epoch.number ≡ old.epoch.number
all_moves zero old new e = ap (λ (a : Admission). a.epoch.number) e
all_moves (suc count) old new chain = one_move chain.0 new chain.2 ∙ all_moves count old chain.0 chain.1

pub same_number : (old new : Admission) → Goes old new → new.epoch.number ≡ old.epoch.number
same_number old new goes = all_moves goes.0 old new goes.1

-- ---- an epoch that begins

-- who was at rest is so before the next epoch, in which nothing is to be told yet
pub rests_turned : (old new : Admission) (number : ℕ) (opening : Opening) → IsAtRest old
    → new.epoch ≡ begun number opening → new.list ≡ old.list → new.coming ≡ old.coming → new.news ≡ old.news
    → IsAtRest new
rests_turned old new number opening rest epoch list coming news =
    record {
      over = record {
        coming = λ t. ap (λ (s : BTreeSet ℕ). contains nat_cmp s t) coming ∙ rest.over.coming t;
        closes = subst (λ (e : Epoch). CanClose e.core) (sym epoch) (refl, refl);
        idle = λ t. ap (λ (l : WaitingList). is_stationed Batch (waiter_of l t)) list ∙ rest.over.idle t;
      };
      told = subst (λ (e : Epoch). IsAllTold (record new { epoch = e })) (sym epoch)
          (record { commits = record { entries = refl; tables = refl }; endings = news ∙ rest.told.endings });
    }

-- ---- the book of the epoch before

still_after : (old new : Epoch) (last : EpochBook) → new.number ≡ old.number → new.core.opening ≡ old.core.opening
    → Follows old last → Follows new last
still_after old new last number opening follows =
    record {
      number = number ∙ follows.number;
      legal = follows.legal;
      emptied = follows.emptied;
      begins = ap (λ (o : Opening). opening_database o) opening ∙ follows.begins;
    }

pub still_follows : (old new : Epoch) (last : Option EpochBook) → new.number ≡ old.number
    → new.core.opening ≡ old.core.opening → IfSome last (Follows old) → IfSome last (Follows new)
still_follows old new None number opening follows = follows
still_follows old new (Some last) number opening follows = still_after old new last number opening follows
