-- How often transactions may still try.
use Rattle.std.specs.Prelude.{ℕ, ◌+◌, ◌-◌, Bool, true, false, List, Option, Some, None}
use Rattle.std.specs.List.{sum_by}
use Rattle.ent_semantics.specs.Serial.{numbered}
use Rattle.ent_protocol.specs.State.{State, Submitted, members}

-- the runs that a transaction's script asks for, without so many
abbrev pub runs_beyond : List Submitted → ℕ → ℕ → ℕ
runs_beyond submitted tx runs = beyond (numbered submitted tx)
  where
    beyond : Option Submitted → ℕ
    beyond (Some own) = own.script.within - runs
    beyond None = 0

-- the present run, where one is on
abbrev pub present_run : Bool → ℕ
present_run true = 1
present_run false = 0

-- the runs in which dormant transactions and members may still take part, and the present one
abbrev pub tries_left : State → ℕ
tries_left s =
    sum_by (λ dormant. runs_beyond s.submitted dormant.tx dormant.runs) s.dormant
    + sum_by (λ member. runs_beyond s.submitted member.tx member.attempt) (members s)
    + present_run s.running
