-- A job that outlives its attempt, event by event.
use Rattle.std.proofs.Common.{inl, inr, [], ◌∷◌, ◌++◌, map, refl}
use Rattle.std.specs.Prelude.{codes}
use Rattle.ent_tree.specs.declared.script.End.TheVariants.{Commit, Rollback}
use Rattle.ent_protocol.specs.Begin.{lending, posting}
use Rattle.ent_protocol.specs.Rollback.{Asked, rolled_back}
use Rattle.ent_protocol.specs.Play.{Plays}
use Rattle.ent_protocol.specs.PoolEvents.{joining}
use Rattle.ent_protocol.specs.Reached.{opened}
use Rattle.ent_protocol.specs.Run.{Forms, submitting, starting, ending}
use Rattle.ent_protocol.specs.State.{State}
use Rattle.ent_examples.specs.Partners.{partners_opening}
use Rattle.ent_examples.specs.Earlier.{first_booked, job_outlives, next_attempt}
use Rattle.ent_examples.specs.Grown.{A_for_B, B_for_A, A_and_B}
use Rattle.ent_examples.specs.Scripts.{ScriptOf, asks_form, books_form, script}
use Rattle.ent_examples.specs.Wish.{Friend, posted, wants, first_asks, joint_job}
use Rattle.ent_examples.proofs.Alone.{alone}
use Rattle.ent_examples.proofs.Answered.{lends, joins, nothing_out, stale_single}
use Rattle.ent_examples.proofs.Choice.{taken}
use Rattle.ent_examples.proofs.Component.{everyone}
use Rattle.ent_examples.proofs.GrownPlay.{two_together}
use Rattle.ent_examples.proofs.Members.{fresh, answered, books}
use Rattle.ent_examples.proofs.Safe.{safe}
use Rattle.ent_examples.proofs.Steps.{◌▸◌, plays_on, submits}
use Rattle.ent_examples.proofs.Waiting.{quiet}

-- the first one in its second attempt
abbrev A_again : Friend
A_again = record { tx = 1; attempt = 2; place = 1; wish = A_for_B }

module _ {F : Type 0} {resolved : Forms F}
    (one : ScriptOf resolved 8 (asks_form A_for_B ∷ books_form (codes "A") ∷ []) Commit)
    (two : ScriptOf resolved 8 (asks_form B_for_A ∷ []) Rollback) where
  abbrev one_in : State
  one_in = submitting (opened partners_opening) (script one) (asks_form A_for_B ∷ books_form (codes "A") ∷ [])

  abbrev started : State
  started = starting (submitting one_in (script two) (asks_form B_for_A ∷ []))

  abbrev one_posted : State
  one_posted = posting started (fresh 1 1) (wants A_for_B)

  abbrev two_posted : State
  two_posted = posting one_posted (fresh 2 1) (wants B_for_A)

  abbrev picked : State
  picked = record two_posted { lent = joint_job A_and_B ∷ [] }

  abbrev joined : State
  joined = joining two_posted (map posted A_and_B) (taken A_and_B)

  abbrev books_now : State
  books_now = lending joined (answered 1 1 1 A_for_B) (books (codes "A"))

  abbrev gone_back : State
  gone_back = rolled_back 1 (Asked 2) books_now

  outlives : Plays resolved (opened partners_opening) (job_outlives one two) gone_back
  outlives =
      (one_in, submits resolved one (opened partners_opening) refl refl)
      ▸ (submitting one_in (script two) (asks_form B_for_A ∷ []), submits resolved two one_in refl refl)
      ▸ (started, (refl, refl))
      ▸ (one_posted, inl (safe (first_asks 1 A_for_B ∷ []) refl, refl, refl))
      ▸ (two_posted, inl (safe A_and_B refl, refl, refl))
      ▸ (
        picked,
        inl (lends two_posted A_and_B refl everyone _ _ two_together refl
            (nothing_out two_posted _ refl) refl),
      )
      ▸ (joined, inl (joins picked A_and_B refl everyone _ _ two_together refl [] (alone _)))
      ▸ (books_now, (refl, refl))
      ▸ (books_now, (refl, refl))
      ▸ (gone_back, (refl, refl))
      ▸ (gone_back, inr (stale_single gone_back first_booked refl, (refl, refl)))
      ▸ refl

  abbrev started_again : State
  started_again = starting (ending gone_back)

  abbrev posted_again : State
  posted_again = posting started_again (fresh 1 2) (wants A_for_B)

  abbrev pub last : State
  last = ending posted_again

  next : Plays resolved gone_back next_attempt last
  next =
      (ending gone_back, inl (quiet gone_back [] refl refl (λ tx. refl) refl refl, refl, refl))
      ▸ (started_again, (refl, refl))
      ▸ (posted_again, inl (safe (A_again ∷ []) refl, refl, refl))
      ▸ (posted_again, inr (stale_single posted_again first_booked refl, (refl, refl)))
      ▸ (last, inl (quiet posted_again (A_again ∷ []) refl refl (λ tx. refl) refl refl, refl, refl))
      ▸ refl

  pub played : Plays resolved (opened partners_opening) (job_outlives one two ++ next_attempt) last
  played =
      plays_on resolved (job_outlives one two) next_attempt (opened partners_opening) gone_back last outlives next
