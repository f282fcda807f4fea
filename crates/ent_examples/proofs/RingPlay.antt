-- The ring of three, event by event.
use Rattle.std.proofs.Common.{inl, [], ◌∷◌, ◌++◌, map, refl}
use Rattle.ent_tree.specs.declared.script.End.TheVariants.{Commit}
use Rattle.ent_protocol.specs.Begin.{posting}
use Rattle.ent_protocol.specs.Commit.{preparing, committing}
use Rattle.ent_protocol.specs.Play.{Plays}
use Rattle.ent_protocol.specs.PoolEvents.{joining}
use Rattle.ent_protocol.specs.Reached.{opened}
use Rattle.ent_protocol.specs.Run.{Forms, submitting, starting, ending}
use Rattle.ent_protocol.specs.State.{State}
use Rattle.ent_examples.specs.Partners.{partners_opening}
use Rattle.ent_examples.specs.Grown.{A_for_B, C_for_A}
use Rattle.ent_examples.specs.Ring.{B_for_C, ring_of_three, ring_closes, ring_commits}
use Rattle.ent_examples.specs.Scripts.{ScriptOf, asks_form, script}
use Rattle.ent_examples.specs.Wish.{posted, wants, first_asks, joint_job}
use Rattle.ent_examples.proofs.Alone.{alone}
use Rattle.ent_examples.proofs.Answered.{AreTogether, lends, joins, nothing_out}
use Rattle.ent_examples.proofs.Choice.{taken}
use Rattle.ent_examples.proofs.Component.{everyone}
use Rattle.ent_examples.proofs.Members.{fresh, answered}
use Rattle.ent_examples.proofs.Safe.{safe}
use Rattle.ent_examples.proofs.Steps.{◌▸◌, plays_on, submits}
use Rattle.ent_examples.proofs.Waiting.{quiet}

three_together : AreTogether ring_of_three everyone (first_asks 1 A_for_B)
    (first_asks 2 B_for_C ∷ first_asks 3 C_for_A ∷ [])
three_together = record { are = refl; served = refl; closed = refl; star = refl; by_number = refl }

module _ {F : Type 0} {resolved : Forms F} (one : ScriptOf resolved 8 (asks_form A_for_B ∷ []) Commit)
    (two : ScriptOf resolved 8 (asks_form B_for_C ∷ []) Commit)
    (three : ScriptOf resolved 8 (asks_form C_for_A ∷ []) Commit) where
  abbrev one_in : State
  one_in = submitting (opened partners_opening) (script one) (asks_form A_for_B ∷ [])

  abbrev two_in : State
  two_in = submitting one_in (script two) (asks_form B_for_C ∷ [])

  abbrev three_in : State
  three_in = submitting two_in (script three) (asks_form C_for_A ∷ [])

  abbrev started : State
  started = starting three_in

  abbrev one_posted : State
  one_posted = posting started (fresh 1 1) (wants A_for_B)

  abbrev two_posted : State
  two_posted = posting one_posted (fresh 2 1) (wants B_for_C)

  abbrev three_posted : State
  three_posted = posting two_posted (fresh 3 1) (wants C_for_A)

  abbrev picked : State
  picked = record three_posted { lent = joint_job ring_of_three ∷ [] }

  abbrev joined : State
  joined = joining (record picked { lent = [] }) (map posted ring_of_three) (taken ring_of_three)

  closes : Plays resolved (opened partners_opening) (ring_closes one two three) joined
  closes =
      (one_in, submits resolved one (opened partners_opening) refl refl)
      ▸ (two_in, submits resolved two one_in refl refl)
      ▸ (three_in, submits resolved three two_in refl refl)
      ▸ (started, (refl, refl))
      ▸ (one_posted, inl (safe (first_asks 1 A_for_B ∷ []) refl, refl, refl))
      ▸ (two_posted, inl (safe (first_asks 1 A_for_B ∷ first_asks 2 B_for_C ∷ []) refl, refl, refl))
      ▸ (three_posted, inl (safe ring_of_three refl, refl, refl))
      ▸ (
        picked,
        inl (lends three_posted ring_of_three refl everyone _ _ three_together refl
            (nothing_out three_posted _ refl) refl),
      )
      ▸ (joined, inl (joins picked ring_of_three refl everyone _ _ three_together refl [] (alone _)))
      ▸ refl

  abbrev two_prepared : State
  two_prepared = preparing (preparing joined (answered 1 1 1 A_for_B)) (answered 2 1 1 B_for_C)

  abbrev committed : State
  committed = committing (preparing two_prepared (answered 3 1 1 C_for_A)) 1

  abbrev pub last : State
  last = ending committed

  commits : Plays resolved joined ring_commits last
  commits =
      (preparing joined (answered 1 1 1 A_for_B), (refl, refl))
      ▸ (two_prepared, (refl, refl))
      ▸ (committed, (refl, refl))
      ▸ (last, inl (quiet committed [] refl refl (λ tx. refl) refl refl, refl, refl))
      ▸ refl

  pub played : Plays resolved (opened partners_opening) (ring_closes one two three ++ ring_commits) last
  played =
      plays_on resolved (ring_closes one two three) ring_commits (opened partners_opening) joined last closes commits
