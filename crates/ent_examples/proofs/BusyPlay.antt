-- A run that can't end, event by event.
use Rattle.std.proofs.Common.{◌≡◌, inl, inr, ℕ, true, [], ◌∷◌, ◌++◌, map, refl, subst, arith, Option, Some, None}
use Rattle.ent_lists.proofs.Contained.{contains_none}
use Rattle.ent_tree.specs.declared.script.End.TheVariants.{Commit}
use Rattle.ent_protocol.specs.Begin.{posting}
use Rattle.ent_protocol.specs.Event as replies
use Rattle.ent_protocol.specs.Play.{Plays}
use Rattle.ent_protocol.specs.PoolEvents.{joining, Lends}
use Rattle.ent_protocol.specs.Quiet.{NoneIs, IsReason, CanMove, IsUntried, MovesBy}
use Rattle.ent_protocol.specs.Member.{next_of}
use Rattle.ent_protocol.specs.Reached.{opened}
use Rattle.ent_protocol.specs.Rollback.{NoOne, rolled_back}
use Rattle.ent_protocol.specs.Run.{Forms, submitting, starting, ending}
use Rattle.ent_protocol.specs.State.{State}
use Rattle.ent_examples.specs.Partners.{partners_opening}
use Rattle.ent_examples.specs.Busy.{deletes_form, is_busy, cycle_stands}
use Rattle.ent_examples.specs.HeldBack.{mickey, minnie, two_friends}
use Rattle.ent_examples.specs.Scripts.{ScriptOf, asks_form, script}
use Rattle.ent_examples.specs.Wish.{posted, wants, first_asks, joint_job}
use Rattle.ent_examples.proofs.Alone.{alone}
use Rattle.ent_examples.proofs.Answered.{lends, joins, nothing_out, present}
use Rattle.ent_examples.proofs.Choice.{taken}
use Rattle.ent_examples.proofs.Component.{everyone}
use Rattle.ent_examples.proofs.HeldBackPlay.{together}
use Rattle.ent_examples.proofs.Listed.{by_first, each_passes}
use Rattle.ent_examples.proofs.Members.{fresh, answered}
use Rattle.ent_examples.proofs.Reasons.{none_out, least_mover, least_untried, least_out, two_wait}
use Rattle.ent_examples.proofs.Safe.{safe}
use Rattle.ent_examples.proofs.Steps.{◌▸◌, plays_on, submits}
use Rattle.ent_examples.proofs.Waiting.{quiet, none_remains, false_true, all_wait}

no_mover : (s : State) → all_wait s ≡ true → NoneIs (CanMove s)
no_mover s wait tx can = false_true _ _ (each_passes _ s.active can.member wait can.active) can.waiting

is_none : (holder : ℕ) → ◌≡◌ {A = Option ℕ} (Some holder) None → ⊥
is_none holder e = cc

module _ {F : Type 0} {resolved : Forms F} (one : ScriptOf resolved 8 (asks_form mickey ∷ deletes_form ∷ []) Commit)
    (two : ScriptOf resolved 8 (asks_form minnie ∷ deletes_form ∷ []) Commit) where
  abbrev one_in : State
  one_in = submitting (opened partners_opening) (script one) (asks_form mickey ∷ deletes_form ∷ [])

  abbrev two_in : State
  two_in = submitting one_in (script two) (asks_form minnie ∷ deletes_form ∷ [])

  abbrev started : State
  started = starting two_in

  abbrev one_posted : State
  one_posted = posting started (fresh 1 1) (wants mickey)

  abbrev two_posted : State
  two_posted = posting one_posted (fresh 2 1) (wants minnie)

  abbrev picked : State
  picked = record two_posted { lent = joint_job two_friends ∷ [] }

  abbrev joined : State
  joined = joining two_posted (map posted two_friends) (taken two_friends)

  first_can : IsReason started (replies.CanBegin 1)
  first_can = (
    none_out started refl (λ tx. refl),
    least_mover started 1 refl (record {
      member = fresh 1 1;
      active = (0, omega arith, refl);
      own = refl;
      waiting = refl;
      moves = safe (first_asks 1 mickey ∷ []) refl;
    }),
  )

  both_untried : IsReason two_posted (replies.Untried 1)
  both_untried = (
    none_out two_posted refl (λ tx. refl),
    no_mover two_posted refl,
    least_untried two_posted two_friends refl 1 refl (record {
      asked = map posted two_friends;
      component = present two_posted two_friends refl everyone _ _ together;
      untried = λ tried. contains_none _ tried;
      first = refl;
    }),
  )

  both_out : IsReason picked (replies.JobOut 1)
  both_out =
      least_out picked two_friends refl 1 refl (λ tx. refl) (record {
        asked = map posted two_friends;
        out = (joint_job two_friends, (0, omega arith, refl), refl);
        component = present picked two_friends refl everyone _ _ together;
        query = posted (first_asks 1 mickey);
        is_in = (0, omega arith, refl);
        own = refl;
      })

  lends_both : Lends {F = F} two_posted (replies.Lent (joint_job two_friends)) picked
  lends_both = lends two_posted two_friends refl everyone _ _ together refl (nothing_out two_posted _ refl) refl

  busy : Plays resolved (opened partners_opening) (is_busy one two) joined
  busy =
      (one_in, submits resolved one (opened partners_opening) refl refl)
      ▸ (two_in, submits resolved two one_in refl refl)
      ▸ (two_in, (refl, refl))
      ▸ (started, (refl, refl))
      ▸ (started, (refl, refl))
      ▸ (started, inr (_, first_can, (refl, refl)))
      ▸ (one_posted, inl (safe (first_asks 1 mickey ∷ []) refl, refl, refl))
      ▸ (two_posted, inl (safe two_friends refl, refl, refl))
      ▸ (two_posted, inr (_, both_untried, (refl, refl)))
      ▸ (picked, inl lends_both)
      ▸ (picked, inr (_, both_out, (refl, refl)))
      ▸ (joined, inl (joins picked two_friends refl everyone _ _ together refl [] (alone _)))
      ▸ refl

  -- ---- the cycle

  abbrev pub last : State
  last = ending (rolled_back 1 NoOne joined)

  -- of the two who are answered each is blocked
  blocked : NoneIs (CanMove joined)
  blocked tx can =
      by_first (answered 1 1 1 mickey) can.member (answered 2 1 1 minnie ∷ [])
      (λ e. is_none 2 (subst (λ member. MovesBy joined member (next_of joined member)) e can.moves)) (λ later.
      by_first (answered 2 1 1 minnie) can.member []
      (λ e. is_none 1 (subst (λ member. MovesBy joined member (next_of joined member)) e can.moves))
      (λ more. absurd (contains_none _ more)) later) can.active

  no_component : NoneIs (IsUntried joined)
  no_component tx untried =
      none_remains [] refl untried.component.first untried.component.in_remainder

  in_cycle : IsReason joined (replies.Cycle (2 ∷ 1 ∷ []))
  in_cycle = (none_out joined refl (λ tx. refl), blocked, no_component, two_wait joined refl)

  cycle : Plays resolved joined cycle_stands last
  cycle =
      (joined, (refl, refl))
      ▸ (joined, (refl, refl))
      ▸ (joined, inr (_, in_cycle, (refl, refl)))
      ▸ (
        rolled_back 1 NoOne joined,
        inl (
            record {
              cycle = 2 ∷ 1 ∷ [];
              deadlock = two_wait joined refl;
              victim = answered 2 1 1 minnie;
              is_victim = refl;
              replies = refl;
              is = refl;
            }),
      )
      ▸ (last, inl (quiet (rolled_back 1 NoOne joined) [] refl refl (λ tx. refl) refl refl, refl, refl))
      ▸ refl

  pub played : Plays resolved (opened partners_opening) (is_busy one two ++ cycle_stands) last
  played = plays_on resolved (is_busy one two) cycle_stands (opened partners_opening) joined last busy cycle
