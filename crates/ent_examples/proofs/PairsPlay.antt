-- Two pairs, the second of which commits first, event by event.
use Rattle.std.proofs.Common.{inl, ℕ, [], ◌∷◌, refl, sym, subst, arith}
use Rattle.ent_value.specs.declared.value.Value.{Value}
use Rattle.ent_protocol.specs.Begin.{posting}
use Rattle.ent_protocol.specs.Commit.{preparing, committing}
use Rattle.ent_protocol.specs.Event as events
use Rattle.ent_protocol.specs.Play.{Plays}
use Rattle.ent_protocol.specs.PoolEvents.{joining}
use Rattle.ent_protocol.specs.Reached.{opened}
use Rattle.ent_protocol.specs.Run.{Forms, SubmitsForm, submitting, starting}
use Rattle.ent_protocol.specs.State.{State, Member}
use Rattle.ent_examples.specs.Pairs.{Askers, asks_form, pairs_commit}
use Rattle.ent_examples.specs.Partners.{partners_opening, committing_script, Mickey, Minnie, pair, pair_job}
use Rattle.ent_examples.proofs.PairAnswered.{lends_pair, joins_pair}
use Rattle.ent_examples.proofs.PartnersChoice.{taken}
use Rattle.ent_examples.proofs.PartnersPlay.{wants, answered}
use Rattle.ent_examples.proofs.PartnersPool.{safe_one, safe_two}
use Rattle.ent_examples.proofs.WritersPlay.{fresh}

-- a member that was answered, of the group of this label
abbrev answered_in : ℕ → ℕ → Value → Member
answered_in group tx own = record (answered tx own) { group = group }

module _ {F : Type 0} {resolved : Forms F} (askers : Askers resolved) where
  abbrev with_first : State → State
  with_first s = submitting s (committing_script askers.first) (asks_form Mickey Minnie)

  abbrev with_second : State → State
  with_second s = submitting s (committing_script askers.second) (asks_form Minnie Mickey)

  abbrev one_in : State
  one_in = with_first (opened partners_opening)

  abbrev two_in : State
  two_in = with_second one_in

  abbrev three_in : State
  three_in = with_first two_in

  abbrev four_in : State
  four_in = with_second three_in

  abbrev started : State
  started = starting four_in

  -- the two are in the pool
  abbrev one_posted : State → ℕ → State
  one_posted s tx = posting s (fresh tx) (wants Mickey Minnie)

  abbrev two_posted : State → ℕ → ℕ → State
  two_posted s one two = posting (one_posted s one) (fresh two) (wants Minnie Mickey)

  abbrev picked : State → ℕ → ℕ → State
  picked s one two = record (two_posted s one two) { lent = pair_job one two ∷ [] }

  abbrev joined : State → ℕ → ℕ → State
  joined s one two = joining (two_posted s one two) (pair one two) taken

  abbrev first_joined : State
  first_joined = joined started 1 2

  abbrev both_joined : State
  both_joined = joined first_joined 3 4

  -- the two commit
  abbrev prepared : State → ℕ → State
  prepared s one = preparing s (answered_in one one Mickey)

  abbrev committed : State → ℕ → ℕ → State
  committed s one two = committing (preparing (prepared s one) (answered_in one two Minnie)) one

  abbrev second_committed : State
  second_committed = committed both_joined 3 4

  abbrev pub last : State
  last = committed second_committed 1 2

  pub played : Plays resolved (opened partners_opening) (pairs_commit askers) last
  played = (
    one_in,
    subst (λ form. SubmitsForm (opened partners_opening) (committing_script askers.first) form
        (events.Submitted 1) one_in) (sym askers.first_is) (refl, refl),
    (
      two_in,
      subst (λ form. SubmitsForm one_in (committing_script askers.second) form
          (events.Submitted 2) two_in) (sym askers.second_is) (refl, refl),
      (
        three_in,
        subst (λ form. SubmitsForm two_in (committing_script askers.first) form
            (events.Submitted 3) three_in) (sym askers.first_is) (refl, refl),
        (
          four_in,
          subst (λ form. SubmitsForm three_in (committing_script askers.second) form
              (events.Submitted 4) four_in) (sym askers.second_is) (refl, refl),
          (
            started,
            (refl, refl),
            (
              one_posted started 1,
              inl (safe_one 1, refl, refl),
              (
                two_posted started 1 2,
                inl (safe_two 1 2, refl, refl),
                (
                  picked started 1 2,
                  inl (lends_pair (two_posted started 1 2) 1 2 (omega arith) refl refl refl),
                  (
                    first_joined,
                    inl (joins_pair (picked started 1 2) 1 2 (omega arith) refl refl),
                    (
                      one_posted first_joined 3,
                      inl (safe_one 3, refl, refl),
                      (
                        two_posted first_joined 3 4,
                        inl (safe_two 3 4, refl, refl),
                        (
                          picked first_joined 3 4,
                          inl (lends_pair (two_posted first_joined 3 4) 3 4 (omega arith) refl refl refl),
                          (
                            both_joined,
                            inl (joins_pair (picked first_joined 3 4) 3 4 (omega arith) refl refl),
                            (
                              prepared both_joined 3,
                              (refl, refl),
                              (
                                second_committed,
                                (refl, refl),
                                (
                                  prepared second_committed 1,
                                  (refl, refl),
                                  (last, (refl, refl), refl),
                                ),
                              ),
                            ),
                          ),
                        ),
                      ),
                    ),
                  ),
                ),
              ),
            ),
          ),
        ),
      ),
    ),
  )
