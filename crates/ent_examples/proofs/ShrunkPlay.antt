-- The component that shrinks back, event by event.
use Rattle.std.proofs.Common.{inl, inr, List, [], ◌∷◌, ◌++◌, map, refl, arith}
use Rattle.ent_tree.specs.declared.script.End.TheVariants.{Commit, Rollback}
use Rattle.ent_protocol.specs.Begin.{posting}
use Rattle.ent_protocol.specs.Commit.{preparing, committing}
use Rattle.ent_protocol.specs.Play.{Plays}
use Rattle.ent_protocol.specs.Event as replies
use Rattle.ent_protocol.specs.PoolEvents.{joining, IsOutstandingJoint, Joins, Lends}
use Rattle.ent_protocol.specs.Reached.{opened}
use Rattle.ent_protocol.specs.Rollback.{Asked, rolled_back}
use Rattle.ent_protocol.specs.Run.{Forms, submitting, starting, ending}
use Rattle.ent_protocol.specs.State.{State}
use Rattle.ent_examples.specs.Partners.{partners_opening}
use Rattle.ent_examples.specs.Grown.{A_for_B, B_for_A, C_for_A, A_and_B}
use Rattle.ent_examples.specs.Scripts.{ScriptOf, asks_form, script}
use Rattle.ent_examples.specs.Shrunk.{C_for_D, D_for_C, C_and_D, group_forms, comes_and_goes, is_picked_again}
use Rattle.ent_examples.specs.Wish.{Friend, posted, wants, first_asks, joint_job, joint_done}
use Rattle.ent_examples.proofs.Alone.{alone}
use Rattle.ent_examples.proofs.Answered.{AreTogether, lends, joins, nothing_out, grown, stale_joint}
use Rattle.ent_examples.proofs.Choice.{taken}
use Rattle.ent_examples.proofs.Component.{everyone}
use Rattle.ent_examples.proofs.GrownPlay.{two_together}
use Rattle.ent_examples.proofs.Members.{fresh, answered}
use Rattle.ent_examples.proofs.Safe.{safe}
use Rattle.ent_examples.proofs.Steps.{◌▸◌, plays_on, submits}
use Rattle.ent_examples.proofs.Waiting.{quiet}

C_and_D_together : AreTogether C_and_D everyone (first_asks 3 C_for_D) (first_asks 4 D_for_C ∷ [])
C_and_D_together = record { are = refl; served = refl; closed = refl; star = refl; by_number = refl }

-- C at its next statement
abbrev C_again : Friend
C_again = record { tx = 3; attempt = 1; place = 2; wish = C_for_A }

abbrev with_C : List Friend
with_C = first_asks 1 A_for_B ∷ first_asks 2 B_for_A ∷ C_again ∷ []

module _ {F : Type 0} {resolved : Forms F} (one : ScriptOf resolved 8 (asks_form A_for_B ∷ []) Commit)
    (two : ScriptOf resolved 8 (asks_form B_for_A ∷ []) Commit)
    (three : ScriptOf resolved 8 (asks_form C_for_D ∷ asks_form C_for_A ∷ []) Commit)
    (four : ScriptOf resolved 8 (asks_form D_for_C ∷ []) Rollback) where
  abbrev one_in : State
  one_in = submitting (opened partners_opening) (script one) (asks_form A_for_B ∷ [])

  abbrev two_in : State
  two_in = submitting one_in (script two) (asks_form B_for_A ∷ [])

  abbrev three_in : State
  three_in = submitting two_in (script three) (asks_form C_for_D ∷ asks_form C_for_A ∷ [])

  abbrev four_in : State
  four_in = submitting three_in (script four) (asks_form D_for_C ∷ [])

  abbrev started : State
  started = starting four_in

  abbrev C_posted : State
  C_posted = posting started (fresh 3 1) (wants C_for_D)

  abbrev D_posted : State
  D_posted = posting C_posted (fresh 4 1) (wants D_for_C)

  abbrev C_and_D_picked : State
  C_and_D_picked = record D_posted { lent = joint_job C_and_D ∷ [] }

  abbrev group_formed : State
  group_formed = joining D_posted (map posted C_and_D) (taken C_and_D)

  first_lent : Lends {F = F} D_posted (replies.Lent (joint_job C_and_D)) C_and_D_picked
  first_lent = lends D_posted C_and_D refl everyone _ _ C_and_D_together refl (nothing_out D_posted _ refl) refl

  first_joined : Joins {F = F} C_and_D_picked (joint_done C_and_D) replies.Answered group_formed
  first_joined = joins C_and_D_picked C_and_D refl everyone _ _ C_and_D_together refl [] (alone _)

  forms : Plays resolved (opened partners_opening) (group_forms one two three four) group_formed
  forms =
      (one_in, submits resolved one (opened partners_opening) refl refl)
      ▸ (two_in, submits resolved two one_in refl refl)
      ▸ (three_in, submits resolved three two_in refl refl)
      ▸ (four_in, submits resolved four three_in refl refl)
      ▸ (started, (refl, refl))
      ▸ (C_posted, inl (safe (first_asks 3 C_for_D ∷ []) refl, refl, refl))
      ▸ (D_posted, inl (safe C_and_D refl, refl, refl))
      ▸ (C_and_D_picked, inl first_lent)
      ▸ (group_formed, inl first_joined)
      ▸ refl

  abbrev A_posted : State
  A_posted = posting group_formed (fresh 1 1) (wants A_for_B)

  abbrev B_posted : State
  B_posted = posting A_posted (fresh 2 1) (wants B_for_A)

  abbrev picked : State
  picked = record B_posted { lent = joint_job A_and_B ∷ [] }

  abbrev C_comes : State
  C_comes = posting picked (answered 3 1 3 C_for_D) (wants C_for_A)

  abbrev gone_back : State
  gone_back = rolled_back 3 (Asked 4) C_comes

  late_for_C : IsOutstandingJoint C_comes (joint_done A_and_B) → ⊥
  late_for_C =
      grown C_comes with_C refl everyone refl A_and_B (first_asks 1 A_for_B) C_again (0, omega arith, refl)
      (2, omega arith, refl) refl refl

  comes : Plays resolved group_formed comes_and_goes gone_back
  comes =
      (A_posted, inl (safe (first_asks 1 A_for_B ∷ []) refl, refl, refl))
      ▸ (B_posted, inl (safe A_and_B refl, refl, refl))
      ▸ (picked, inl (lends B_posted A_and_B refl everyone _ _ two_together refl (nothing_out B_posted _ refl) refl))
      ▸ (C_comes, inl (safe with_C refl, refl, refl))
      ▸ (C_comes, inr (late_for_C, (refl, refl)))
      ▸ (gone_back, (refl, refl))
      ▸ (gone_back, inr (stale_joint gone_back (joint_done A_and_B) refl, (refl, refl)))
      ▸ refl

  abbrev picked_again : State
  picked_again = record gone_back { lent = joint_job A_and_B ∷ [] }

  abbrev joined : State
  joined = joining gone_back (map posted A_and_B) (taken A_and_B)

  abbrev A_prepared : State
  A_prepared = preparing joined (answered 1 1 1 A_for_B)

  abbrev committed : State
  committed = committing (preparing A_prepared (answered 2 1 1 B_for_A)) 1

  abbrev pub last : State
  last = ending committed

  again : Plays resolved gone_back is_picked_again last
  again = (
    picked_again,
    inl (lends gone_back A_and_B refl everyone _ _ two_together refl
        (nothing_out gone_back _ refl) refl),
  )
      ▸ (joined, inl (joins picked_again A_and_B refl everyone _ _ two_together refl [] (alone _)))
      ▸ (A_prepared, (refl, refl))
      ▸ (committed, (refl, refl))
      ▸ (last, inl (quiet committed [] refl refl (λ tx. refl) refl refl, refl, refl))
      ▸ refl

  pub played : Plays resolved (opened partners_opening)
      (group_forms one two three four ++ (comes_and_goes ++ is_picked_again)) last
  played =
      plays_on resolved (group_forms one two three four) (comes_and_goes ++ is_picked_again) (opened partners_opening)
      group_formed last forms (plays_on resolved comes_and_goes is_picked_again group_formed gone_back last comes again)
