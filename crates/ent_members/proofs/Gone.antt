-- What becomes of members is what becomes of any of their numbers and attempts.
use Rattle.std.proofs.Common.{◌≡◌, List, [], ◌∷◌, map, refl}
use Rattle.std.specs.Prelude.{Option}
use Rattle.std.specs.List.{filter_map, cons_option}
use Rattle.ent_members.specs.declared.run_attempts.RunAttempt.{RunAttempt}
use Rattle.ent_members.specs.RunAttempts.{run_attempt_of}
use Rattle.ent_protocol.specs.Rollback.{Cause, NoOne, Asked, Failing, dormant_by, fated_by}
use Rattle.ent_protocol.specs.State.{Submitted, Member}
use Rattle.ent_members.specs.Leaving.{as_member}

same_dormant : (submitted : List Submitted) (cause : Cause) (member : Member)
    → dormant_by submitted cause (as_member (run_attempt_of member)) ≡ dormant_by submitted cause member
same_dormant submitted NoOne member = refl
same_dormant submitted (Asked tx) member = refl
same_dormant submitted (Failing tx failure) member = refl

same_fated : (submitted : List Submitted) (cause : Cause) (member : Member)
    → fated_by submitted cause (as_member (run_attempt_of member)) ≡ fated_by submitted cause member
same_fated submitted NoOne member = refl
same_fated submitted (Asked tx) member = refl
same_fated submitted (Failing tx failure) member = refl

module _ {A B C : Type 0} where
  filter_mapped : (v : A → B) (f : B → Option C) (g : A → Option C) → ((x : A) → f (v x) ≡ g x) → (xs : List A)
      → filter_map f (map v xs) ≡ filter_map g xs
  filter_mapped v f g same [] = refl
  filter_mapped v f g same (x ∷ xs) = λ i. cons_option (same x i) (filter_mapped v f g same xs i)

pub dormant_of_gone : (submitted : List Submitted) (cause : Cause) (gone : List Member)
    → filter_map (λ run_attempt. dormant_by submitted cause (as_member run_attempt)) (map run_attempt_of gone)
    ≡ filter_map (dormant_by submitted cause) gone
dormant_of_gone submitted cause gone =
    filter_mapped run_attempt_of (λ (run_attempt : RunAttempt). dormant_by submitted cause (as_member run_attempt))
    (dormant_by submitted cause)
    (same_dormant submitted cause) gone

pub fates_of_gone : (submitted : List Submitted) (cause : Cause) (gone : List Member)
    → filter_map (λ run_attempt. fated_by submitted cause (as_member run_attempt)) (map run_attempt_of gone)
    ≡ filter_map (fated_by submitted cause) gone
fates_of_gone submitted cause gone =
    filter_mapped run_attempt_of (λ (run_attempt : RunAttempt). fated_by submitted cause (as_member run_attempt))
    (fated_by submitted cause)
    (same_fated submitted cause) gone
