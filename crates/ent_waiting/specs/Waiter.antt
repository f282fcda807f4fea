-- The patience of those who wait.
use Rattle.std.specs.Prelude.{ℕ, List, [], ◌∷◌, ◌++◌, ◌+◌, ◌-◌, ◌^◌, Bool, true, false, nat_le, min}
use Rattle.ent_tree.specs.declared.script.Script.{Script}
use Rattle.ent_waiting.specs.declared.queues.Rank.{Rank}
use Rattle.ent_waiting.specs.declared.waiter.WaitingPlace.{WaitingPlace}
use Rattle.ent_waiting.specs.declared.waiter.WaitingPlace.TheVariants.{Resting, Queued, Chosen, Submitted}
use Rattle.ent_waiting.specs.declared.waiter.Submission.{Submission}
use Rattle.ent_waiting.specs.declared.waiter.Waiter.{Waiter}
use Rattle.ent_waiting.specs.declared.waiter.Patience.{Patience}
use Rattle.ent_waiting.specs.declared.waiter.Patience.TheVariants.{Batches, UntilWithdrawn}

-- a script that was in no batch of this process yet
abbrev pub newcomer : Script → Patience → ℕ → Rank → Waiter
newcomer script patience batches rank =
    record {
      script = script;
      patience = patience;
      batches = batches;
      submissions = [];
      place = Queued rank;
      alone = false;
    }

-- the patience is used up after so many batches
abbrev pub is_over : Patience → ℕ → Bool
is_over (Batches most) batches = nat_le most batches
is_over UntilWithdrawn batches = false

-- one batch more is over, which counts or doesn't; the count stays at the greatest number that it can hold
abbrev pub with_batch : Bool → ℕ → ℕ
with_batch true batches = min (batches + 1) (2 ^ 64 - 1)
with_batch false batches = batches

-- in no batch
abbrev pub is_idle : WaitingPlace → Bool
is_idle Resting = true
is_idle (Queued rank) = true
is_idle Chosen = false
is_idle (Submitted submission) = false

-- ---- after a batch

-- the transactions that a script became, with that of its place
abbrev pub noted : WaitingPlace → List Submission → List Submission
noted (Submitted submission) submissions = submissions ++ submission ∷ []
noted other submissions = submissions

abbrev pub with_place_noted : Waiter → Waiter
with_place_noted waiter = record waiter { submissions = noted waiter.place waiter.submissions }

-- it waits again, in the queue of this rank
abbrev pub back_in : Rank → Bool → Bool → Waiter → Waiter
back_in rank counts alone waiter =
    record waiter {
      batches = with_batch counts waiter.batches;
      submissions = noted waiter.place waiter.submissions;
      place = Queued rank;
      alone = alone;
    }
