-- Members that are to leave the run.
use Rattle.std.specs.Prelude.{ℕ, ◌==◌, Bool, true, List, [], ◌∷◌, map, Option, Some, None, if◌then◌else◌}
use Rattle.ent_members.specs.declared.run_attempts.RunAttempt.{RunAttempt}
use Rattle.ent_protocol.specs.State.{Member, inserted}

abbrev pub run_attempt_of : Member → RunAttempt
run_attempt_of member = record { tx = member.tx; attempt = member.attempt }

abbrev pub number_of : RunAttempt → ℕ
number_of run_attempt = run_attempt.tx

abbrev pub numbers_in : List RunAttempt → List ℕ
numbers_in run_attempts = map number_of run_attempts

-- of a group, where one is named
abbrev pub is_within : Option ℕ → Member → Bool
is_within None member = true
is_within (Some group) member = member.group == group

-- put in among others, by number
abbrev pub gathered : Option ℕ → List Member → List RunAttempt → List RunAttempt
gathered group [] run_attempts = run_attempts
gathered group (member ∷ members) run_attempts =
    if is_within group member then inserted number_of (run_attempt_of member) (gathered group members run_attempts)
    else gathered group members run_attempts

-- the members of the group, or all, by number
abbrev pub run_attempts_in : Option ℕ → List Member → List RunAttempt
run_attempts_in group members = gathered group members []
