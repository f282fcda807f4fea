-- What becomes of those who leave a run, of whom their numbers and their runs are known.
use Rattle.std.specs.Prelude.{◌≡◌, ◌≤◌, false, List, [], Some}
use Rattle.ent_members.specs.declared.run_attempts.RunAttempt.{RunAttempt}
use Rattle.ent_protocol.specs.State.{Submitted, Member}
use Rattle.ent_semantics.specs.Serial.{numbered}

-- a member of this number in this run
abbrev pub as_member : RunAttempt → Member
as_member run_attempt =
    record {
      tx = run_attempt.tx;
      attempt = run_attempt.attempt;
      group = run_attempt.tx;
      place = 1;
      bound = [];
      answers = [];
      uses = [];
      posted = false;
    }

-- it took part in no more runs than its script asks for
abbrev pub IsWithin : List Submitted → RunAttempt → Type 0
IsWithin submitted run_attempt =
    (own : Submitted) → numbered submitted run_attempt.tx ≡ Some own → run_attempt.attempt ≤ own.script.within
