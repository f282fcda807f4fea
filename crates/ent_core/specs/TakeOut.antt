-- Members that are taken out of the run.
use Rattle.std.specs.Prelude.{ℕ, ◌==◌, Bool, not, List, ◌++◌, length, map, nat_eq}
use Rattle.std.specs.List.{AllByRecursion, IsDistinct, list_any}
use Rattle.ent_members.specs.declared.run_attempts.RunAttempt.{RunAttempt}
use Rattle.ent_members.specs.RunAttempts.{numbers_in}
use Rattle.ent_protocol.specs.State.{State}
use Rattle.ent_members.specs.ByNumber.{IsNumbered}
use Rattle.ent_members.specs.Leaving.{IsWithin}
use Rattle.ent_semantics.specs.declared.book.JointAnswer.{JointAnswer}

-- one of these transactions is a member of a joint answer
abbrev pub is_joint_of_any : List ℕ → JointAnswer → Bool
is_joint_of_any numbers joint =
    list_any (λ member. list_any (λ n. n == member.tx) numbers) joint.members

abbrev pub is_joint_of_others : List ℕ → JointAnswer → Bool
is_joint_of_others numbers joint = not (is_joint_of_any numbers joint)

-- Those who leave were submitted, and took part in no more runs than their scripts ask for; none of them waits for a
-- run, is finished, or stands there twice.
pub record MayLeave (run_attempts : List RunAttempt) (s : State) : Type 0 where
  pub arrived : AllByRecursion (λ (own : RunAttempt). IsNumbered (length s.submitted) own.tx) run_attempts
  pub within : AllByRecursion (IsWithin s.submitted) run_attempts
  pub distinct : IsDistinct nat_eq (map (λ own. own.tx) s.dormant ++ numbers_in run_attempts)
  pub unfinished : IsDistinct nat_eq (map (λ fated. fated.tx) s.fates ++ numbers_in run_attempts)
