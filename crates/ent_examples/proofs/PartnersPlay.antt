-- The partners and the reader, event by event.
use Rattle.std.proofs.Common.{◌≡◌, inl, ℕ, ◌+◌, false, cond, ◌||◌, List, [], ◌∷◌}
use Rattle.std.proofs.Common.{refl, sym, ap, subst, ◌∙◌, arith}
use Rattle.std.specs.Prelude.{codes, nat_le}
use Rattle.std.specs.Ordering.{eq_by_cmp}
use Rattle.ent_lists.specs.Laws.{contains-empty, contains-insert, len-insert}
use Rattle.ent_lists.specs.Sets as set
use Rattle.ent_value.specs.Order.{rows_total, exact_rows}
use Rattle.ent_value.specs.Value.{row_cmp}
use Rattle.ent_value.specs.declared.limits.TheConstants.{MOST_ROWS}
use Rattle.ent_value.specs.declared.value.Value.{Value}
use Rattle.ent_semantics.specs.declared.answer.Answer.TheVariants as answers
use Rattle.ent_semantics.specs.Database.{Rows, nothing_bound}
use Rattle.ent_semantics.specs.Closing.{closed_entangled}
use Rattle.ent_semantics.specs.declared.entangled.Entangled.{Entangled}
use Rattle.ent_semantics.specs.declared.statement.Statement.{Statement}
use Rattle.ent_semantics.specs.declared.statement.Statement.TheVariants as forms
use Rattle.ent_protocol.specs.Begin.{lending, holding, posting}
use Rattle.ent_protocol.specs.Commit.{preparing, committing}
use Rattle.ent_protocol.specs.Event as events
use Rattle.ent_protocol.specs.Event.{Reply}
use Rattle.ent_protocol.specs.Finish.{finished, stepped}
use Rattle.ent_protocol.specs.Job.{Changed, IsEvaluated, tables_of}
use Rattle.ent_protocol.specs.Play.{Plays}
use Rattle.ent_protocol.specs.PoolEvents.{joining}
use Rattle.ent_protocol.specs.Reached.{opened}
use Rattle.ent_protocol.specs.Run.{Forms, SubmitsForm, submitting, starting}
use Rattle.ent_protocol.specs.State.{State, Member}
use Rattle.ent_protocol.specs.Uses.{shared, exclusive}
use Rattle.ent_examples.specs.Partners.{Partners, partners_opening, committing_script, flies_form, reads_form, asks}
use Rattle.ent_examples.specs.Partners.{Mickey, Minnie, flight_122, pair, pair_job, booking_job}
use Rattle.ent_examples.specs.Partners.{booking_done, first_booked, partners_pass}
use Rattle.ent_examples.proofs.Alone.{alone}
use Rattle.ent_examples.proofs.Inserted.{another_row, new_row, one_row, only_row}
use Rattle.ent_examples.proofs.PairAnswered.{lends_pair, joins_pair}
use Rattle.ent_examples.proofs.PartnersChoice.{taken}
use Rattle.ent_examples.proofs.PartnersPool.{safe_one, safe_two}
use Rattle.ent_examples.proofs.WritersPlay.{fresh}

-- ---- members

abbrev pub wants : Value → Value → Entangled Value
wants own partner = closed_entangled nothing_bound (asks own partner)

abbrev books : Value → Statement Value
books own = forms.Insert 1 (own ∷ flight_122 ∷ [])

-- a partner that was answered, of the first one's group
abbrev pub answered : ℕ → Value → Member
answered tx own =
    record {
      tx = tx;
      attempt = 1;
      group = 1;
      place = 2;
      bound = (codes "f", flight_122) ∷ [];
      answers = answers.Heads (record { relation = codes "R"; values = own ∷ flight_122 ∷ [] } ∷ []) ∷ [];
      uses = shared 0 ∷ [];
      posted = false;
    }

abbrev holds : ℕ → Value → Member
holds tx own = holding (answered tx own) (exclusive 1 ∷ [])

abbrev booked : ℕ → Value → Member
booked tx own = stepped (answers.Count 1) (holds tx own)

-- ---- the results

abbrev Row : Type 0
Row = List Value

one_evaluated : IsEvaluated (booking_done 1 Mickey set.empty)
one_evaluated =
    new_row 1 (Mickey ∷ flight_122 ∷ []) (tables_of (booking_job 1 Mickey set.empty).tables) refl (λ other. refl)

abbrev mickeys : Row
mickeys = Mickey ∷ flight_122 ∷ []

abbrev minnies : Row
minnies = Minnie ∷ flight_122 ∷ []

abbrev no_rows : Rows
no_rows = set.empty

booked_is : first_booked ≡ set.insert no_rows mickeys
booked_is = only_row mickeys

absent : set.contains first_booked minnies ≡ false
absent =
    ap (λ rows. set.contains rows minnies) booked_is
    ∙ contains-insert rows_total exact_rows no_rows mickeys minnies
    ∙ ap (λ b. eq_by_cmp row_cmp minnies mickeys || b) (contains-empty row_cmp minnies)

two_rows : set.len (set.insert first_booked minnies) ≡ 1 + 1
two_rows =
    len-insert rows_total exact_rows first_booked minnies
    ∙ ap (λ b. cond b (set.len first_booked) (set.len first_booked + 1)) absent
    ∙ ap (λ n. n + 1) (ap (λ rows. set.len rows) booked_is ∙ one_row mickeys)

two_evaluated : IsEvaluated (booking_done 2 Minnie first_booked)
two_evaluated =
    another_row 1 (Minnie ∷ flight_122 ∷ []) (tables_of (booking_job 2 Minnie first_booked).tables) absent
    (ap (λ n. nat_le n MOST_ROWS) two_rows) (λ other. refl)

-- ---- states

module _ {F : Type 0} {resolved : Forms F} (partners : Partners resolved) where
  abbrev one_in : State
  one_in = submitting (opened partners_opening) (committing_script partners.first) (flies_form Mickey Minnie)

  abbrev two_in : State
  two_in = submitting one_in (committing_script partners.second) (flies_form Minnie Mickey)

  abbrev started : State
  started = starting (submitting two_in (committing_script partners.reader) reads_form)

  abbrev one_posted : State
  one_posted = posting started (fresh 1) (wants Mickey Minnie)

  abbrev posted : State
  posted = posting one_posted (fresh 2) (wants Minnie Mickey)

  abbrev picked : State
  picked = record posted { lent = pair_job 1 2 ∷ [] }

  abbrev joined : State
  joined = joining posted (pair 1 2) taken

  abbrev books_in : State → ℕ → Value → State
  books_in s tx own =
      finished (record (lending s (answered tx own) (books own)) { lent = [] }) (holds tx own) (books own)
      (Changed 1 [] ((own ∷ flight_122 ∷ []) ∷ []))

  abbrev one_prepared : State
  one_prepared = preparing (books_in joined 1 Mickey) (booked 1 Mickey)

  abbrev both_booked : State
  both_booked = books_in one_prepared 2 Minnie

  abbrev pub last : State
  last = committing (preparing both_booked (booked 2 Minnie)) 1

  -- ---- the play

  pub played : Plays resolved (opened partners_opening) (partners_pass partners) last
  played = (
    one_in,
    subst (λ form. SubmitsForm (opened partners_opening) (committing_script partners.first) form
        (events.Submitted 1) one_in) (sym partners.first_is) (refl, refl),
    (
      two_in,
      subst (λ form. SubmitsForm one_in (committing_script partners.second) form
          (events.Submitted 2) two_in) (sym partners.second_is) (refl, refl),
      (
        submitting two_in (committing_script partners.reader) reads_form,
        subst (λ form. SubmitsForm two_in (committing_script partners.reader) form (events.Submitted 3)
            (submitting two_in (committing_script partners.reader) reads_form)) (sym partners.reader_is) (refl, refl),
        (
          started,
          (refl, refl),
          (
            one_posted,
            inl (safe_one 1, refl, refl),
            (
              posted,
              inl (safe_two 1 2, refl, refl),
              (
                picked,
                inl (lends_pair posted 1 2 (omega arith) refl refl refl),
                (
                  joined,
                  inl (joins_pair picked 1 2 (omega arith) refl refl),
                  (
                    lending joined (answered 1 Mickey) (books Mickey),
                    (refl, refl),
                    (
                      books_in joined 1 Mickey,
                      inl (
                        _,
                        refl,
                        record {
                          meant = one_evaluated;
                          left = [];
                          taken = alone (booking_job 1 Mickey set.empty);
                          member = holds 1 Mickey;
                          is_member = refl;
                          steps = (refl, refl);
                        },
                      ),
                      (
                        one_prepared,
                        (refl, refl),
                        (
                          one_prepared,
                          (refl, refl),
                          (
                            lending one_prepared (answered 2 Minnie) (books Minnie),
                            (refl, refl),
                            (
                              both_booked,
                              inl (
                                _,
                                refl,
                                record {
                                  meant = two_evaluated;
                                  left = [];
                                  taken = alone (booking_job 2 Minnie first_booked);
                                  member = holds 2 Minnie;
                                  is_member = refl;
                                  steps = (refl, refl);
                                },
                              ),
                              (
                                both_booked,
                                (refl, refl),
                                (last, (refl, refl), refl),
                              ),
                            ),
                          ),
                        ),
                      ),
                    ),
                  ),
                ),
              ),
            ),
          ),
        ),
      ),
    ),
  )
