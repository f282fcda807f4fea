-- The third who is held back, event by event.
use Rattle.std.proofs.Common.{inl, inr, List, [], ◌∷◌, ◌++◌, map, refl, arith}
use Rattle.ent_protocol.specs.Begin.{posting}
use Rattle.ent_protocol.specs.Commit.{preparing, committing}
use Rattle.ent_protocol.specs.Play.{Plays}
use Rattle.ent_protocol.specs.Event as replies
use Rattle.ent_protocol.specs.PoolEvents.{joining, Lends}
use Rattle.ent_protocol.specs.Reached.{opened}
use Rattle.ent_protocol.specs.Run.{Forms, submitting, starting, ending}
use Rattle.ent_protocol.specs.State.{State}
use Rattle.ent_tree.specs.declared.script.End.TheVariants.{Commit}
use Rattle.ent_examples.specs.Partners.{partners_opening}
use Rattle.ent_examples.specs.HeldBack.{mickey, minnie, two_friends, holds_back, posts_later}
use Rattle.ent_examples.specs.Scripts.{ScriptOf, asks_form, script}
use Rattle.ent_examples.specs.Wish.{Friend, posted, wants, joint_job, first_asks}
use Rattle.ent_examples.proofs.Alone.{alone}
use Rattle.ent_examples.proofs.Answered.{AreTogether, lends, joins, nothing_out}
use Rattle.ent_examples.proofs.Choice.{taken}
use Rattle.ent_examples.proofs.Component.{everyone}
use Rattle.ent_examples.proofs.Members.{fresh, answered}
use Rattle.ent_examples.proofs.Safe.{safe, first_unsafe}
use Rattle.ent_examples.proofs.Steps.{◌▸◌, plays_on, submits}
use Rattle.ent_examples.proofs.Waiting.{quiet}

abbrev three_friends : List Friend
three_friends = first_asks 1 mickey ∷ first_asks 2 minnie ∷ first_asks 3 minnie ∷ []

pub together : AreTogether two_friends everyone (first_asks 1 mickey) (first_asks 2 minnie ∷ [])
together = record { are = refl; served = refl; closed = refl; star = refl; by_number = refl }

module _ {F : Type 0} {resolved : Forms F} (one : ScriptOf resolved 8 (asks_form mickey ∷ []) Commit)
    (two : ScriptOf resolved 8 (asks_form minnie ∷ []) Commit)
    (third : ScriptOf resolved 1 (asks_form minnie ∷ []) Commit) where
  abbrev one_in : State
  one_in = submitting (opened partners_opening) (script one) (asks_form mickey ∷ [])

  abbrev two_in : State
  two_in = submitting one_in (script two) (asks_form minnie ∷ [])

  abbrev three_in : State
  three_in = submitting two_in (script third) (asks_form minnie ∷ [])

  abbrev started : State
  started = starting three_in

  abbrev one_posted : State
  one_posted = posting started (fresh 1 1) (wants mickey)

  abbrev two_posted : State
  two_posted = posting one_posted (fresh 2 1) (wants minnie)

  abbrev picked : State
  picked = record two_posted { lent = joint_job two_friends ∷ [] }

  abbrev joined : State
  joined = joining two_posted (map posted two_friends) (taken two_friends)

  lends_both : Lends {F = F} two_posted (replies.Lent (joint_job two_friends)) picked
  lends_both = lends two_posted two_friends refl everyone _ _ together refl (nothing_out two_posted _ refl) refl

  held : Plays resolved (opened partners_opening) (holds_back one two third) joined
  held =
      (one_in, submits resolved one (opened partners_opening) refl refl)
      ▸ (two_in, submits resolved two one_in refl refl)
      ▸ (three_in, submits resolved third two_in refl refl)
      ▸ (started, (refl, refl))
      ▸ (one_posted, inl (safe (first_asks 1 mickey ∷ []) refl, refl, refl))
      ▸ (two_posted, inl (safe two_friends refl, refl, refl))
      ▸ (
        two_posted,
        inr (
          _,
          first_unsafe three_friends (first_asks 1 mickey) (first_asks 2 minnie) (first_asks 3 minnie)
              (0, omega arith, refl) (1, omega arith, refl) (2, omega arith, refl) (omega arith) refl refl refl,
          (refl, refl),
        ),
      )
      ▸ (picked, inl lends_both)
      ▸ (joined, inl (joins picked two_friends refl everyone _ _ together refl [] (alone _)))
      ▸ refl

  abbrev one_prepared : State
  one_prepared = preparing joined (answered 1 1 1 mickey)

  abbrev committed : State
  committed = committing (preparing one_prepared (answered 2 1 1 minnie)) 1

  abbrev third_posted : State
  third_posted = posting committed (fresh 3 1) (wants minnie)

  abbrev pub last : State
  last = ending third_posted

  ended : Plays resolved joined posts_later last
  ended =
      (one_prepared, (refl, refl))
      ▸ (committed, (refl, refl))
      ▸ (third_posted, inl (safe (first_asks 3 minnie ∷ []) refl, refl, refl))
      ▸ (last, inl (quiet third_posted (first_asks 3 minnie ∷ []) refl refl (λ tx. refl) refl refl, refl, refl))
      ▸ refl

  pub played : Plays resolved (opened partners_opening) (holds_back one two third ++ posts_later) last
  played =
      plays_on resolved (holds_back one two third) posts_later (opened partners_opening) joined last held ended
