-- A failure, event by event.
use Rattle.std.proofs.Common.{inl, [], ◌∷◌, ◌++◌, map, refl}
use Rattle.ent_tree.specs.declared.script.End.TheVariants.{Commit}
use Rattle.ent_semantics.specs.declared.operand.Known.TheVariants as known
use Rattle.ent_semantics.specs.declared.answer.Failure.TheVariants.{Overflow}
use Rattle.ent_protocol.specs.Begin.{lending, posting}
use Rattle.ent_protocol.specs.Commit.{preparing}
use Rattle.ent_protocol.specs.Job.{IsEvaluated}
use Rattle.ent_protocol.specs.Play.{Plays}
use Rattle.ent_protocol.specs.PoolEvents.{joining}
use Rattle.ent_protocol.specs.Reached.{opened}
use Rattle.ent_protocol.specs.Rollback.{Failing, rolled_back}
use Rattle.ent_protocol.specs.Run.{Forms, submitting, starting, ending}
use Rattle.ent_protocol.specs.State.{State}
use Rattle.ent_examples.specs.Partners.{partners_opening}
use Rattle.ent_examples.specs.Failure.{sets_too_much, set_done, set_fails, partner_gives_up}
use Rattle.ent_examples.specs.HeldBack.{mickey, minnie, two_friends}
use Rattle.ent_examples.specs.Scripts.{ScriptOf, asks_form, script}
use Rattle.ent_examples.specs.Wish.{Friend, posted, wants, first_asks, joint_job}
use Rattle.ent_examples.proofs.Alone.{alone}
use Rattle.ent_examples.proofs.Answered.{lends, joins, nothing_out}
use Rattle.ent_examples.proofs.Choice.{taken}
use Rattle.ent_examples.proofs.Component.{everyone}
use Rattle.ent_examples.proofs.HeldBackPlay.{together}
use Rattle.ent_examples.proofs.Members.{fresh, answered}
use Rattle.ent_examples.proofs.Safe.{safe}
use Rattle.ent_examples.proofs.Steps.{◌▸◌, plays_on, submits}
use Rattle.ent_examples.proofs.Waiting.{quiet}

evaluated : IsEvaluated set_done
evaluated = refl

-- the second one in its second attempt
abbrev again : Friend
again = record { tx = 2; attempt = 2; place = 1; wish = minnie }

module _ {F : Type 0} {resolved : Forms F}
    (one : ScriptOf resolved 8 (asks_form mickey ∷ sets_too_much known.Constant ∷ []) Commit)
    (two : ScriptOf resolved 2 (asks_form minnie ∷ []) Commit) where
  abbrev one_in : State
  one_in = submitting (opened partners_opening) (script one) (asks_form mickey ∷ sets_too_much known.Constant ∷ [])

  abbrev two_in : State
  two_in = submitting one_in (script two) (asks_form minnie ∷ [])

  abbrev started : State
  started = starting two_in

  abbrev one_posted : State
  one_posted = posting started (fresh 1 1) (wants mickey)

  abbrev two_posted : State
  two_posted = posting one_posted (fresh 2 1) (wants minnie)

  abbrev picked : State
  picked = record two_posted { lent = joint_job two_friends ∷ [] }

  abbrev joined : State
  joined = joining two_posted (map posted two_friends) (taken two_friends)

  abbrev prepared : State
  prepared = preparing joined (answered 2 1 1 minnie)

  abbrev lent : State
  lent = lending prepared (answered 1 1 1 mickey) (sets_too_much (λ value. value))

  abbrev gone_back : State
  gone_back = rolled_back 1 (Failing 1 Overflow) (record lent { lent = [] })

  fails : Plays resolved (opened partners_opening) (set_fails one two) gone_back
  fails =
      (one_in, submits resolved one (opened partners_opening) refl refl)
      ▸ (two_in, submits resolved two one_in refl refl)
      ▸ (started, (refl, refl))
      ▸ (one_posted, inl (safe (first_asks 1 mickey ∷ []) refl, refl, refl))
      ▸ (two_posted, inl (safe two_friends refl, refl, refl))
      ▸ (
        picked,
        inl (lends two_posted two_friends refl everyone _ _ together refl
            (nothing_out two_posted _ refl) refl),
      )
      ▸ (joined, inl (joins picked two_friends refl everyone _ _ together refl [] (alone _)))
      ▸ (prepared, (refl, refl))
      ▸ (lent, (refl, refl))
      ▸ (
        gone_back,
        inl (
          _,
          refl,
          record {
            meant = evaluated;
            left = [];
            taken = alone _;
            member = answered 1 1 1 mickey;
            is_member = refl;
            steps = (refl, refl);
          },
        ),
      )
      ▸ refl

  abbrev posted_again : State
  posted_again = posting (starting (ending gone_back)) (fresh 2 2) (wants minnie)

  abbrev pub last : State
  last = ending posted_again

  gives_up : Plays resolved gone_back partner_gives_up last
  gives_up =
      (ending gone_back, inl (quiet gone_back [] refl refl (λ tx. refl) refl refl, refl, refl))
      ▸ (starting (ending gone_back), (refl, refl))
      ▸ (posted_again, inl (safe (again ∷ []) refl, refl, refl))
      ▸ (last, inl (quiet posted_again (again ∷ []) refl refl (λ tx. refl) refl refl, refl, refl))
      ▸ refl

  pub played : Plays resolved (opened partners_opening) (set_fails one two ++ partner_gives_up) last
  played =
      plays_on resolved (set_fails one two) partner_gives_up (opened partners_opening) gone_back last fails gives_up
