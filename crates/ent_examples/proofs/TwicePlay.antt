-- Results that come twice, event by event.
use Rattle.std.proofs.Common.{inl, inr, List, [], ◌∷◌, ◌++◌, map, refl}
use Rattle.std.specs.Prelude.{codes}
use Rattle.ent_lists.specs.Sets as set
use Rattle.ent_value.specs.declared.value.Value.{Value}
use Rattle.ent_tree.specs.declared.script.End.TheVariants.{Commit}
use Rattle.ent_protocol.specs.Begin.{lending, posting}
use Rattle.ent_protocol.specs.Commit.{preparing, committing}
use Rattle.ent_protocol.specs.Job.{IsEvaluated, tables_of}
use Rattle.ent_protocol.specs.Play.{Plays}
use Rattle.ent_protocol.specs.PoolEvents.{joining}
use Rattle.ent_protocol.specs.Reached.{opened}
use Rattle.ent_protocol.specs.Run.{Forms, submitting, starting, ending}
use Rattle.ent_protocol.specs.State.{State}
use Rattle.ent_examples.specs.Partners.{partners_opening, Mickey, Minnie, flight_122, first_booked, booking_job}
use Rattle.ent_examples.specs.HeldBack.{mickey, minnie, two_friends}
use Rattle.ent_examples.specs.Scripts.{ScriptOf, asks_form, books_form, script}
use Rattle.ent_examples.specs.Twice.{Mickey_booked, Minnie_booked, joint_comes_twice, single_comes_twice}
use Rattle.ent_examples.specs.Wish.{posted, wants, first_asks, joint_job, joint_done}
use Rattle.ent_examples.proofs.Alone.{alone}
use Rattle.ent_examples.proofs.Inserted.{one_row, only_row}
use Rattle.ent_examples.proofs.Answered.{lends, joins, nothing_out, stale_joint, stale_single, not_joint, not_single}
use Rattle.ent_examples.proofs.Changed.{inserted, no_row}
use Rattle.ent_examples.proofs.Choice.{taken}
use Rattle.ent_examples.proofs.Component.{everyone}
use Rattle.ent_examples.proofs.HeldBackPlay.{together}
use Rattle.ent_examples.proofs.Members.{fresh, answered, books, holds, booked, books_in}
use Rattle.ent_examples.proofs.Safe.{safe}
use Rattle.ent_examples.proofs.Steps.{◌▸◌, plays_on, submits}
use Rattle.ent_examples.proofs.Waiting.{quiet}

abbrev Mickeys : List Value
Mickeys = Mickey ∷ flight_122 ∷ []

one_evaluated : IsEvaluated Mickey_booked
one_evaluated =
    inserted 1 (tables_of (booking_job 1 Mickey set.empty).tables) [] refl (λ other. refl) Mickeys refl no_row refl

two_evaluated : IsEvaluated Minnie_booked
two_evaluated =
    inserted 1 (tables_of (booking_job 2 Minnie first_booked).tables) (Mickeys ∷ []) (only_row Mickeys) (λ other. refl)
    (Minnie ∷ flight_122 ∷ []) refl (one_row Mickeys) refl

module _ {F : Type 0} {resolved : Forms F}
    (one : ScriptOf resolved 8 (asks_form mickey ∷ books_form (codes "Mickey") ∷ []) Commit)
    (two : ScriptOf resolved 8 (asks_form minnie ∷ books_form (codes "Minnie") ∷ []) Commit) where
  abbrev one_in : State
  one_in = submitting (opened partners_opening) (script one) (asks_form mickey ∷ books_form (codes "Mickey") ∷ [])

  abbrev two_in : State
  two_in = submitting one_in (script two) (asks_form minnie ∷ books_form (codes "Minnie") ∷ [])

  abbrev started : State
  started = starting two_in

  abbrev one_posted : State
  one_posted = posting started (fresh 1 1) (wants mickey)

  abbrev two_posted : State
  two_posted = posting one_posted (fresh 2 1) (wants minnie)

  abbrev picked : State
  picked = record two_posted { lent = joint_job two_friends ∷ [] }

  abbrev joined : State
  joined = joining two_posted (map posted two_friends) (taken two_friends)

  joins_once : Plays resolved (opened partners_opening) (joint_comes_twice one two) joined
  joins_once =
      (one_in, submits resolved one (opened partners_opening) refl refl)
      ▸ (two_in, submits resolved two one_in refl refl)
      ▸ (started, (refl, refl))
      ▸ (one_posted, inl (safe (first_asks 1 mickey ∷ []) refl, refl, refl))
      ▸ (two_posted, inl (safe two_friends refl, refl, refl))
      ▸ (
        picked,
        inl (lends two_posted two_friends refl everyone _ _ together refl
            (nothing_out two_posted _ refl) refl),
      )
      ▸ (picked, inr (not_single picked (joint_done two_friends) _ refl, (refl, refl)))
      ▸ (joined, inl (joins picked two_friends refl everyone _ _ together refl [] (alone _)))
      ▸ (joined, inr (stale_joint joined (joint_done two_friends) refl, (refl, refl)))
      ▸ refl

  abbrev Mickey_books : State
  Mickey_books = lending joined (answered 1 1 1 mickey) (books (codes "Mickey"))

  abbrev Mickey_done : State
  Mickey_done = books_in joined (answered 1 1 1 mickey) (codes "Mickey")

  abbrev Mickey_prepared : State
  Mickey_prepared = preparing Mickey_done (booked (answered 1 1 1 mickey))

  abbrev Minnie_done : State
  Minnie_done = books_in Mickey_prepared (answered 2 1 1 minnie) (codes "Minnie")

  abbrev committed : State
  committed = committing (preparing Minnie_done (booked (answered 2 1 1 minnie))) 1

  abbrev pub last : State
  last = ending committed

  steps_once : Plays resolved joined single_comes_twice last
  steps_once =
      (Mickey_books, (refl, refl))
      ▸ (Mickey_books, inr (not_joint Mickey_books Mickey_booked _ refl, (refl, refl)))
      ▸ (
        Mickey_done,
        inl (
          _,
          refl,
          record {
            meant = one_evaluated;
            left = [];
            taken = alone _;
            member = holds (answered 1 1 1 mickey);
            is_member = refl;
            steps = (refl, refl);
          },
        ),
      )
      ▸ (Mickey_done, inr (stale_single Mickey_done Mickey_booked refl, (refl, refl)))
      ▸ (Mickey_done, (refl, refl))
      ▸ (Mickey_prepared, (refl, refl))
      ▸ (lending Mickey_prepared (answered 2 1 1 minnie) (books (codes "Minnie")), (refl, refl))
      ▸ (
        Minnie_done,
        inl (
          _,
          refl,
          record {
            meant = two_evaluated;
            left = [];
            taken = alone _;
            member = holds (answered 2 1 1 minnie);
            is_member = refl;
            steps = (refl, refl);
          },
        ),
      )
      ▸ (Minnie_done, (refl, refl))
      ▸ (committed, (refl, refl))
      ▸ (committed, (refl, refl))
      ▸ (last, inl (quiet committed [] refl refl (λ tx. refl) refl refl, refl, refl))
      ▸ refl

  pub played : Plays resolved (opened partners_opening) (joint_comes_twice one two ++ single_comes_twice) last
  played =
      plays_on resolved (joint_comes_twice one two) single_comes_twice (opened partners_opening) joined last joins_once
      steps_once
