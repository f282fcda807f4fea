-- A deadlock is broken.
use Rattle.std.proofs.Common.{◌≡◌, ℕ, List, inl, ap, ◌∙◌}
use Rattle.ent_protocol.specs.Event as replies
use Rattle.ent_protocol.specs.Rollback.{NoOne, group_numbers, rolled_back}
use Rattle.ent_protocol.specs.Run.{BreaksIfAny}
use Rattle.ent_protocol.specs.State.{State}
use Rattle.ent_waits.specs.Victim.{IsVictim}
use Rattle.ent_waits.specs.declared.victim.Victim.{Victim}

pub broken : (F : Type 0) (s new : State) (found : Victim) (cycle group : List ℕ) → IsVictim s found
    → cycle ≡ found.cycle → group ≡ group_numbers s found.group → new ≡ rolled_back found.group NoOne s
    → BreaksIfAny {F = F} s (replies.Broken cycle group) new
broken F s new found cycle group is told numbers state =
    inl (record {
      cycle = found.cycle;
      deadlock = is.deadlock;
      victim = is.victim;
      is_victim = is.is_victim;
      replies = λ i. replies.Broken (told i) ((numbers ∙ ap (group_numbers s) is.group) i);
      is = state ∙ ap (λ (g : ℕ). rolled_back g NoOne s) is.group;
    })
