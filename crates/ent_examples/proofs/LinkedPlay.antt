-- Three who are linked roll back, event by event.
use Rattle.std.proofs.Common.{inl, ℕ, Bool, List, [], ◌∷◌, ◌++◌, map, refl}
use Rattle.std.specs.Prelude.{codes, nat_lt, pos}
use Rattle.ent_lists.specs.Sets as set
use Rattle.ent_value.specs.declared.value.Value.{Value}
use Rattle.ent_value.specs.declared.value.Value.TheVariants.{Int}
use Rattle.ent_semantics.specs.declared.statement.Statement.{Statement}
use Rattle.ent_semantics.specs.declared.statement.Statement.TheVariants as forms
use Rattle.ent_tree.specs.declared.script.End.TheVariants.{Commit, Rollback}
use Rattle.ent_protocol.specs.Begin.{lending, posting}
use Rattle.ent_protocol.specs.Commit.{preparing}
use Rattle.ent_protocol.specs.Finish.{finished}
use Rattle.ent_protocol.specs.Job.{Changed, IsEvaluated, tables_of}
use Rattle.ent_protocol.specs.Play.{Plays}
use Rattle.ent_protocol.specs.Event as replies
use Rattle.ent_protocol.specs.PoolEvents.{joining, Lends}
use Rattle.ent_protocol.specs.Reached.{opened}
use Rattle.ent_protocol.specs.Run.{Forms, submitting, starting}
use Rattle.ent_protocol.specs.State.{State}
use Rattle.ent_protocol.specs.Rollback.{Asked, rolled_back}
use Rattle.ent_examples.specs.Partners.{partners_opening, flight_122, booking_job, booking_done}
use Rattle.ent_examples.specs.Grown.{A_for_B, B_for_A, A_and_B}
use Rattle.ent_examples.specs.Linked.{A, B_for_C, C_for_B, B_and_C, sets_136, updates_form, update_job, update_done}
use Rattle.ent_examples.specs.Linked.{first_link, second_link}
use Rattle.ent_examples.specs.Scripts.{ScriptOf, asks_form, books_form, script}
use Rattle.ent_examples.specs.Wish.{Friend, posted, wants, first_asks, joint_job}
use Rattle.ent_examples.proofs.Alone.{alone}
use Rattle.ent_examples.proofs.Inserted.{only_row}
use Rattle.ent_examples.proofs.Answered.{AreTogether, lends, joins, nothing_out}
use Rattle.ent_examples.proofs.Changed.{inserted, updated, no_row}
use Rattle.ent_examples.proofs.Choice.{taken}
use Rattle.ent_examples.proofs.Component.{everyone}
use Rattle.ent_examples.proofs.Members.{fresh, answered, books, holds, booked, books_in}
use Rattle.ent_examples.proofs.Safe.{safe}
use Rattle.ent_examples.proofs.Steps.{◌▸◌, plays_on, submits}

abbrev all_three : List Friend
all_three = first_asks 1 A_for_B ∷ first_asks 2 B_for_A ∷ first_asks 3 C_for_B ∷ []

-- the first two transactions
abbrev first_two : ℕ → Bool
first_two tx = nat_lt tx 3

first_together : AreTogether all_three first_two (first_asks 1 A_for_B) (first_asks 2 B_for_A ∷ [])
first_together = record { are = refl; served = refl; closed = refl; star = refl; by_number = refl }

abbrev B_again : Friend
B_again = record { tx = 2; attempt = 1; place = 2; wish = B_for_C }

second_together : AreTogether B_and_C everyone B_again (first_asks 3 C_for_B ∷ [])
second_together = record { are = refl; served = refl; closed = refl; star = refl; by_number = refl }

-- ---- the results

abbrev booking : List Value
booking = A ∷ flight_122 ∷ []

one_evaluated : IsEvaluated (booking_done 1 A set.empty)
one_evaluated =
    inserted 1 (tables_of (booking_job 1 A set.empty).tables) [] refl (λ other. refl) booking refl no_row refl

update_evaluated : IsEvaluated update_done
update_evaluated =
    updated 1 (tables_of update_job.tables) booking (A ∷ Int (pos 136) ∷ []) (sets_136 (λ value. value))
    (only_row booking) (λ other. refl) refl

module _ {F : Type 0} {resolved : Forms F}
    (one : ScriptOf resolved 2 (asks_form A_for_B ∷ books_form (codes "A") ∷ []) Commit)
    (two : ScriptOf resolved 2 (asks_form B_for_A ∷ asks_form B_for_C ∷ []) Commit)
    (three : ScriptOf resolved 8 (asks_form C_for_B ∷ updates_form ∷ []) Rollback) where
  abbrev one_in : State
  one_in = submitting (opened partners_opening) (script one) (asks_form A_for_B ∷ books_form (codes "A") ∷ [])

  abbrev two_in : State
  two_in = submitting one_in (script two) (asks_form B_for_A ∷ asks_form B_for_C ∷ [])

  abbrev started : State
  started = starting (submitting two_in (script three) (asks_form C_for_B ∷ updates_form ∷ []))

  abbrev one_posted : State
  one_posted = posting started (fresh 1 1) (wants A_for_B)

  abbrev two_posted : State
  two_posted = posting one_posted (fresh 2 1) (wants B_for_A)

  abbrev three_posted : State
  three_posted = posting two_posted (fresh 3 1) (wants C_for_B)

  abbrev picked : State
  picked = record three_posted { lent = joint_job A_and_B ∷ [] }

  abbrev joined : State
  joined = joining three_posted (map posted A_and_B) (taken A_and_B)

  abbrev A_booked : State
  A_booked = books_in joined (answered 1 1 1 A_for_B) (codes "A")

  first_lent : Lends {F = F} three_posted (replies.Lent (joint_job A_and_B)) picked
  first_lent =
      lends three_posted all_three refl first_two _ _ first_together refl (nothing_out three_posted _ refl) refl

  links : Plays resolved (opened partners_opening) (first_link one two three) A_booked
  links =
      (one_in, submits resolved one (opened partners_opening) refl refl)
      ▸ (two_in, submits resolved two one_in refl refl)
      ▸ (
        submitting two_in (script three) (asks_form C_for_B ∷ updates_form ∷ []),
        submits resolved three two_in refl refl,
      )
      ▸ (started, (refl, refl))
      ▸ (one_posted, inl (safe (first_asks 1 A_for_B ∷ []) refl, refl, refl))
      ▸ (two_posted, inl (safe A_and_B refl, refl, refl))
      ▸ (three_posted, inl (safe all_three refl, refl, refl))
      ▸ (picked, inl first_lent)
      ▸ (joined, inl (joins picked all_three refl first_two _ _ first_together refl [] (alone _)))
      ▸ (lending joined (answered 1 1 1 A_for_B) (books (codes "A")), (refl, refl))
      ▸ (
        A_booked,
        inl (
          _,
          refl,
          record {
            meant = one_evaluated;
            left = [];
            taken = alone _;
            member = holds (answered 1 1 1 A_for_B);
            is_member = refl;
            steps = (refl, refl);
          },
        ),
      )
      ▸ refl

  abbrev B_posted : State
  B_posted = posting A_booked (answered 2 1 1 B_for_A) (wants B_for_C)

  abbrev picked_again : State
  picked_again = record B_posted { lent = joint_job B_and_C ∷ [] }

  abbrev all_joined : State
  all_joined = joining B_posted (map posted B_and_C) (taken B_and_C)

  abbrev A_prepared : State
  A_prepared = preparing all_joined (booked (answered 1 1 1 A_for_B))

  abbrev updates : Statement Value
  updates = forms.Update 1 (sets_136 (λ value. value)) []

  abbrev C_updates : State
  C_updates = lending A_prepared (answered 3 1 1 C_for_B) updates

  abbrev C_updated : State
  C_updated =
      finished (record C_updates { lent = [] }) (holds (answered 3 1 1 C_for_B)) updates
      (Changed 1 (booking ∷ []) ((A ∷ Int (pos 136) ∷ []) ∷ []))

  abbrev pub last : State
  last = rolled_back 1 (Asked 3) C_updated

  rolls_back : Plays resolved A_booked second_link last
  rolls_back =
      (B_posted, inl (safe (first_asks 3 C_for_B ∷ B_again ∷ []) refl, refl, refl))
      ▸ (
        picked_again,
        inl (lends B_posted B_and_C refl everyone _ _ second_together refl
            (nothing_out B_posted _ refl) refl),
      )
      ▸ (all_joined, inl (joins picked_again B_and_C refl everyone _ _ second_together refl [] (alone _)))
      ▸ (A_prepared, (refl, refl))
      ▸ (C_updates, (refl, refl))
      ▸ (
        C_updated,
        inl (
          _,
          refl,
          record {
            meant = update_evaluated;
            left = [];
            taken = alone _;
            member = holds (answered 3 1 1 C_for_B);
            is_member = refl;
            steps = (refl, refl);
          },
        ),
      )
      ▸ (last, (refl, refl))
      ▸ refl

  pub played : Plays resolved (opened partners_opening) (first_link one two three ++ second_link) last
  played =
      plays_on resolved (first_link one two three) second_link (opened partners_opening) A_booked last links rolls_back
