-- The component that grows, event by event.
use Rattle.std.proofs.Common.{◌≡◌, inl, inr, [], ◌∷◌, ◌++◌, map, refl, arith, ap, sym, ◌∙◌}
use Rattle.ent_tree.specs.declared.script.End.TheVariants.{Commit}
use Rattle.ent_semantics.specs.Pool.{Posted}
use Rattle.ent_protocol.specs.Begin.{posting}
use Rattle.ent_protocol.specs.Commit.{preparing, committing}
use Rattle.ent_protocol.specs.Play.{Plays}
use Rattle.ent_protocol.specs.PoolEvents.{joining}
use Rattle.ent_protocol.specs.Reached.{opened}
use Rattle.ent_protocol.specs.Finish.{IsTaken}
use Rattle.ent_protocol.specs.Job.{Job, Joint}
use Rattle.ent_protocol.specs.PoolEvents.{IsOut, IsOutstandingJoint}
use Rattle.ent_protocol.specs.Run.{Forms, submitting, starting, ending}
use Rattle.ent_protocol.specs.State.{State}
use Rattle.ent_examples.specs.Partners.{partners_opening}
use Rattle.ent_examples.specs.Grown.{A_for_B, B_for_A, C_for_A, A_and_B, A_B_and_C, job_is_late, all_are_answered}
use Rattle.ent_examples.specs.Scripts.{ScriptOf, asks_form, script}
use Rattle.ent_examples.specs.Wish.{posted, wants, first_asks, joint_job, joint_done}
use Rattle.ent_examples.proofs.Answered.{AreTogether, lends, joins, nothing_out, grown, gone, one_lent}
use Rattle.ent_examples.proofs.Choice.{taken}
use Rattle.ent_examples.proofs.Component.{everyone}
use Rattle.ent_examples.proofs.Members.{fresh, answered}
use Rattle.ent_examples.proofs.Safe.{safe}
use Rattle.ent_examples.proofs.Steps.{◌▸◌, plays_on, submits}
use Rattle.ent_examples.proofs.Waiting.{quiet}

pub two_together : AreTogether A_and_B everyone (first_asks 1 A_for_B) (first_asks 2 B_for_A ∷ [])
two_together = record { are = refl; served = refl; closed = refl; star = refl; by_number = refl }

three_together : AreTogether A_B_and_C everyone (first_asks 1 A_for_B)
    (first_asks 2 B_for_A ∷ first_asks 3 C_for_A ∷ [])
three_together = record { are = refl; served = refl; closed = refl; star = refl; by_number = refl }

two_of_three : (x y z w v : Posted) → Joint (x ∷ y ∷ []) ≡ Joint (z ∷ w ∷ v ∷ []) → ⊥
two_of_three x y z w v e = cc

module _ {F : Type 0} {resolved : Forms F} (one : ScriptOf resolved 8 (asks_form A_for_B ∷ []) Commit)
    (two : ScriptOf resolved 8 (asks_form B_for_A ∷ []) Commit)
    (three : ScriptOf resolved 8 (asks_form C_for_A ∷ []) Commit) where
  abbrev one_in : State
  one_in = submitting (opened partners_opening) (script one) (asks_form A_for_B ∷ [])

  abbrev two_in : State
  two_in = submitting one_in (script two) (asks_form B_for_A ∷ [])

  abbrev three_in : State
  three_in = submitting two_in (script three) (asks_form C_for_A ∷ [])

  abbrev started : State
  started = starting three_in

  abbrev one_posted : State
  one_posted = posting started (fresh 1 1) (wants A_for_B)

  abbrev two_posted : State
  two_posted = posting one_posted (fresh 2 1) (wants B_for_A)

  abbrev picked : State
  picked = record two_posted { lent = joint_job A_and_B ∷ [] }

  abbrev three_posted : State
  three_posted = posting picked (fresh 3 1) (wants C_for_A)

  late_for_three : IsOutstandingJoint three_posted (joint_done A_and_B) → ⊥
  late_for_three =
      grown three_posted A_B_and_C refl everyone refl A_and_B (first_asks 1 A_for_B) (first_asks 3 C_for_A)
      (0, omega arith, refl) (2, omega arith, refl) refl refl

  late : Plays resolved (opened partners_opening) (job_is_late one two three) three_posted
  late =
      (one_in, submits resolved one (opened partners_opening) refl refl)
      ▸ (two_in, submits resolved two one_in refl refl)
      ▸ (three_in, submits resolved three two_in refl refl)
      ▸ (started, (refl, refl))
      ▸ (one_posted, inl (safe (first_asks 1 A_for_B ∷ []) refl, refl, refl))
      ▸ (two_posted, inl (safe A_and_B refl, refl, refl))
      ▸ (
        picked,
        inl (lends two_posted A_and_B refl everyone _ _ two_together refl
            (nothing_out two_posted _ refl) refl),
      )
      ▸ (three_posted, inl (safe A_B_and_C refl, refl, refl))
      ▸ (three_posted, inr (late_for_three, (refl, refl)))
      ▸ refl

  abbrev again : State
  again = record three_posted { lent = joint_job A_and_B ∷ joint_job A_B_and_C ∷ [] }

  abbrev joined : State
  joined =
      joining (record three_posted { lent = joint_job A_and_B ∷ [] }) (map posted A_B_and_C) (taken A_B_and_C)

  behind : IsTaken (joint_job A_B_and_C) again.lent (joint_job A_and_B ∷ [])
  behind = record { before = joint_job A_and_B ∷ []; behind = []; is_there = refl; others = refl }

  not_out : IsOut three_posted (map posted A_B_and_C) → ⊥
  not_out h = two_of_three _ _ _ _ _ (sym (ap (λ (job : Job). job.work) (one_lent _ h.0 h.1)) ∙ h.2)

  abbrev two_prepared : State
  two_prepared = preparing (preparing joined (answered 1 1 1 A_for_B)) (answered 2 1 1 B_for_A)

  abbrev committed : State
  committed = committing (preparing two_prepared (answered 3 1 1 C_for_A)) 1

  abbrev pub last : State
  last = ending committed

  answers_all : Plays resolved three_posted all_are_answered last
  answers_all =
      (again, inl (lends three_posted A_B_and_C refl everyone _ _ three_together refl not_out refl))
      ▸ (joined, inl (joins again A_B_and_C refl everyone _ _ three_together refl (joint_job A_and_B ∷ []) behind))
      ▸ (preparing joined (answered 1 1 1 A_for_B), (refl, refl))
      ▸ (two_prepared, (refl, refl))
      ▸ (committed, (refl, refl))
      ▸ (committed, inr (gone committed refl (joint_done A_and_B), (refl, refl)))
      ▸ (last, inl (quiet committed [] refl refl (λ tx. refl) refl refl, refl, refl))
      ▸ refl

  pub played : Plays resolved (opened partners_opening) (job_is_late one two three ++ all_are_answered) last
  played =
      plays_on resolved (job_is_late one two three) all_are_answered (opened partners_opening) three_posted last late
      answers_all
