-- The two writers, event by event.
use Rattle.std.proofs.Common.{◌≡◌, ◌≢◌, ◌⊎◌, inl, inr, ℕ, zero, suc, ◌<◌, ◌≤◌, false, List, [], ◌∷◌, refl, sym}
use Rattle.std.proofs.Common.{ap, arith, ◌∙◌}
use Rattle.std.specs.Prelude.{All, AllPairs, Contains, codes, pos}
use Rattle.std.specs.List.{flat_map}
use Rattle.ent_value.specs.declared.value.Value.{Value}
use Rattle.ent_value.specs.declared.value.Value.TheVariants.{Int}
use Rattle.ent_tree.specs.declared.script.Script.{Script}
use Rattle.ent_semantics.specs.declared.operand.Known.{Known}
use Rattle.ent_semantics.specs.declared.statement.Statement.{Statement}
use Rattle.ent_semantics.specs.declared.statement.Statement.TheVariants as forms
use Rattle.ent_group.specs.Cycle.{IsOnCycle, links}
use Rattle.ent_semantics.specs.declared.answer.Answer.TheVariants as answers
use Rattle.ent_protocol.specs.Begin.{lending, holding}
use Rattle.ent_protocol.specs.Commit.{preparing, committing}
use Rattle.ent_protocol.specs.Finish.{finished, stepped}
use Rattle.ent_protocol.specs.Job.{Changed, IsEvaluated, tables_of}
use Rattle.ent_protocol.specs.Play.{Plays}
use Rattle.ent_protocol.specs.Reached.{opened, table_names}
use Rattle.ent_protocol.specs.Rollback.{NoOne, rolled_back}
use Rattle.ent_protocol.specs.Run.{submitting, starting}
use Rattle.ent_protocol.specs.State.{State, Member}
use Rattle.ent_protocol.specs.Uses.{exclusive}
use Rattle.ent_protocol.specs.Waits.{IsDeadlock}
use Rattle.ent_examples.specs.Writers.{writers_opening, writer, insert_forms, insert_form, two_writers, job, done}
use Rattle.ent_examples.proofs.Alone.{alone}
use Rattle.ent_examples.proofs.Inserted.{new_row}
use Rattle.ent_examples.proofs.OnCycles.{waits_itself}

-- ---- the states

-- a transaction's INSERT of its number
abbrev inserts : ℕ → ℕ → Statement Value
inserts tx table = forms.Insert table (Int (pos tx) ∷ [])

abbrev pub fresh : ℕ → Member
fresh tx =
    record {
      tx = tx;
      attempt = 1;
      group = tx;
      place = 1;
      bound = [];
      answers = [];
      uses = [];
      posted = false;
    }

abbrev lends : State → Member → ℕ → State
lends s member table = lending s member (inserts member.tx table)

abbrev holds : Member → ℕ → Member
holds member table = holding member (exclusive table ∷ [])

-- its job came back
abbrev steps : State → Member → ℕ → State
steps s member table =
    finished (record s { lent = [] }) member (inserts member.tx table) (Changed 1 [] ((Int (pos member.tx) ∷ []) ∷ []))

abbrev stepped_once : Member → Member
stepped_once member = stepped (answers.Count 1) member

abbrev resolved : Script → List (Statement Known)
resolved script = flat_map (insert_form (table_names writers_opening)) script.statements

abbrev submitted : State
submitted =
    let first = submitting (opened writers_opening) (writer 1 (codes "A") (codes "B"))
    (resolved (writer 1 (codes "A") (codes "B"))) in
    submitting first (writer 2 (codes "B") (codes "A")) (resolved (writer 2 (codes "B") (codes "A")))

abbrev started : State
started = starting submitted

-- each has changed its first table
abbrev both : State
both =
    let first = steps (lends started (fresh 1) 0) (holds (fresh 1) 0) 0 in
    steps (lends first (fresh 2) 1) (holds (fresh 2) 1) 1

abbrev first_writer : Member
first_writer = stepped_once (holds (fresh 1) 0)

abbrev broken : State
broken = rolled_back 2 NoOne both

abbrev done_writing : State
done_writing = steps (lends broken first_writer 1) (holds first_writer 1) 1

abbrev pub last : State
last = committing (preparing done_writing (stepped_once (holds first_writer 1))) 1

-- ---- the deadlock

two_cases : {A : Type 0} (x y z : A) → Contains (x ∷ y ∷ []) z → (z ≡ x) ⊎ (z ≡ y)
two_cases x y z (zero, h, e) = inl (sym e)
two_cases x y z (suc zero, h, e) = inr (sym e)
two_cases x y z (suc (suc k), h, e) = absurd (omega arith)

both_linked : All (Contains ((1, 2) ∷ (2, 1) ∷ [])) (links (2 ∷ 1 ∷ []))
both_linked zero d h = (1, omega arith, refl)
both_linked (suc zero) d h = (0, omega arith, refl)
both_linked (suc (suc k)) d h = absurd (let r : suc (suc k) < 2 = h in omega arith)

two_apart : AllPairs (λ (x y : ℕ). x ≢ y) (2 ∷ 1 ∷ [])
two_apart zero zero d i<j j<n = absurd (omega arith)
two_apart zero (suc zero) d i<j j<n = λ e. omega arith
two_apart zero (suc (suc j)) d i<j j<n = absurd (omega arith)
two_apart (suc i) zero d i<j j<n = absurd (omega arith)
two_apart (suc i) (suc zero) d i<j j<n = absurd (omega arith)
two_apart (suc i) (suc (suc j)) d i<j j<n = absurd (omega arith)

abbrev waits_of_both : List (ℕ × ℕ)
waits_of_both = (1, 2) ∷ (2, 1) ∷ []

abbrev first_waits : ℕ × ℕ
first_waits = (1, 2)

abbrev second_waits : ℕ × ℕ
second_waits = (2, 1)

either : (tx other : ℕ) (pair : ℕ × ℕ) → pair.0 ≡ tx → (pair ≡ first_waits) ⊎ (pair ≡ second_waits) → tx ≤ 2
either tx other pair is (inl e) = let r : 1 ≡ tx = sym (ap (λ p. p.0) e) ∙ is in omega arith
either tx other pair is (inr e) = let r : 2 ≡ tx = sym (ap (λ p. p.0) e) ∙ is in omega arith

at_most_2 : (tx : ℕ) → IsOnCycle waits_of_both tx → tx ≤ 2
at_most_2 tx h =
    let waiting = waits_itself waits_of_both tx h in
    either tx waiting.0 (tx, waiting.0) refl (two_cases first_waits second_waits (tx, waiting.0) waiting.1)

deadlock : IsDeadlock both (2 ∷ 1 ∷ [])
deadlock =
    record {
      is_cycle = record {
        closes = record { not_empty = omega arith; linked = both_linked };
        distinct = two_apart;
      };
      greatest = at_most_2;
    }

-- ---- the play

evaluated_in_A : IsEvaluated (done 1 1 0)
evaluated_in_A = new_row 0 (Int (pos 1) ∷ []) (tables_of (job 1 1 0).tables) refl (λ other. refl)

evaluated_in_B : (tx place : ℕ) → IsEvaluated (done tx place 1)
evaluated_in_B tx place = new_row 1 (Int (pos tx) ∷ []) (tables_of (job tx place 1).tables) refl (λ other. refl)

pub played : Plays insert_forms (opened writers_opening) two_writers last
played = (
  _,
  (refl, refl),
  (
    submitted,
    (refl, refl),
    (
      started,
      (refl, refl),
      (
        lends started (fresh 1) 0,
        (refl, refl),
        (
          steps (lends started (fresh 1) 0) (holds (fresh 1) 0) 0,
          inl (
            _,
            refl,
            record {
              meant = evaluated_in_A;
              left = [];
              taken = alone (job 1 1 0);
              member = holds (fresh 1) 0;
              is_member = refl;
              steps = (refl, refl);
            },
          ),
          (
            lends (steps (lends started (fresh 1) 0) (holds (fresh 1) 0) 0) (fresh 2) 1,
            (refl, refl),
            (
              both,
              inl (
                _,
                refl,
                record {
                  meant = evaluated_in_B 2 1;
                  left = [];
                  taken = alone (job 2 1 1);
                  member = holds (fresh 2) 1;
                  is_member = refl;
                  steps = (refl, refl);
                },
              ),
              (
                both,
                (refl, refl),
                (
                  both,
                  (refl, refl),
                  (
                    broken,
                    inl (record {
                      cycle = 2 ∷ 1 ∷ [];
                      deadlock = deadlock;
                      victim = stepped_once (holds (fresh 2) 1);
                      is_victim = refl;
                      replies = refl;
                      is = refl;
                    }),
                    (
                      lends broken first_writer 1,
                      (refl, refl),
                      (
                        done_writing,
                        inl (
                          _,
                          refl,
                          record {
                            meant = evaluated_in_B 1 2;
                            left = [];
                            taken = alone (job 1 2 1);
                            member = holds first_writer 1;
                            is_member = refl;
                            steps = (refl, refl);
                          },
                        ),
                        (last, (refl, refl), refl),
                      ),
                    ),
                  ),
                ),
              ),
            ),
          ),
        ),
      ),
    ),
  ),
)
