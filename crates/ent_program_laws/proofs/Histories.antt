-- What the members of a run saw so far agrees with what the texts of their scripts know there.
use Rattle.std.proofs.Common.{◌≡◌, ℕ, zero, suc, ◌+◌, List, [], ◌∷◌, ◌++◌, map, length, Option, Some, None, Contains}
use Rattle.std.proofs.Common.{take}
use Rattle.std.proofs.Common.{slice_get, refl, sym, ap, subst, ◌∙◌, inl, inr, arith}
use Rattle.std.specs.List.{AllByRecursion}
use Rattle.ent_lists.specs.Elements.{In, contains_in, in_either, in_first, in_second, of_all}
use Rattle.ent_tree.specs.declared.declaration.Create.{Create}
use Rattle.ent_tree.specs.declared.script.Script.{Script}
use Rattle.ent_tree.specs.declared.script.Statement.{Statement}
use Rattle.ent_tree.specs.declared.script.Statement.TheVariants as statements
use Rattle.ent_semantics.specs.Database.{Database, nothing_bound, opening_database}
use Rattle.ent_semantics.specs.Serial.{ReadView, Run, numbered, read_views, run, seen_from}
use Rattle.ent_protocol.specs.Reached.{scripts_of}
use Rattle.ent_protocol.specs.State.{State, Submitted}
use Rattle.ent_protocol_laws.specs.GoodAnswers.{histories_read_views, state_read_views}
use Rattle.ent_protocol_laws.specs.History.{History}
use Rattle.ent_protocol_laws.specs.SerialState.{Follows, IsSerialState, IsWhole}
use Rattle.ent_protocol_laws.proofs.Books.{numbered_map}
use Rattle.ent_program_laws.specs.Known.{Agrees, IsKnownThere, known_after_all, known_before}
use Rattle.ent_program_laws.proofs.Partners.{IsOfScript}
use Rattle.ent_program_laws.proofs.Seeing.{nothing_agrees, sees_behind, statement_of}

-- ---- beginnings of lists

begin_get : {X : Type 0} (n k : ℕ) (xs : List X) (x : X) → slice_get (take n xs) k ≡ Some x → slice_get xs k ≡ Some x
begin_get zero k xs x is = cc (is)
begin_get (suc n) k [] x is = cc (is)
begin_get (suc n) zero (y ∷ xs) x is = is
begin_get (suc n) (suc k) (y ∷ xs) x is = begin_get n k xs x is

begin_take : {X : Type 0} (n k : ℕ) (xs : List X) (x : X) → slice_get (take n xs) k ≡ Some x
    → take k (take n xs) ≡ take k xs
begin_take zero k xs x is = cc (is)
begin_take (suc n) k [] x is = refl
begin_take (suc n) zero (y ∷ xs) x is = refl
begin_take (suc n) (suc k) (y ∷ xs) x is = ap (λ ys. y ∷ ys) (begin_take n k xs x is)

take_all : {X : Type 0} (xs : List X) → take (length xs) xs ≡ xs
take_all [] = refl
take_all (x ∷ xs) = ap (λ ys. x ∷ ys) (take_all xs)

-- ---- histories

-- what was done is a beginning of a script that was submitted
record IsBeginning (all : List Submitted) (history : History) : Type 0 where
  own : Submitted
  submitted : numbered all history.member.tx ≡ Some own
  count : ℕ
  beginning : map statement_of history.operations ≡ take count own.script.statements

of_whole : (all : List Submitted) (history : History) → IsWhole all history → IsBeginning all history
of_whole all history whole =
    record {
      own = whole.own;
      submitted = whole.submitted;
      count = length whole.own.script.statements;
      beginning = whole.whole ∙ sym (take_all whole.own.script.statements);
    }

of_following : (all : List Submitted) (history : History) → Follows all history → IsBeginning all history
of_following all history follows =
    record {
      own = follows.own;
      submitted = follows.submitted;
      count = length history.operations;
      beginning = follows.beginning;
    }

abbrev script_in : Submitted → Script
script_in own = own.script

history_known : (declared : List Create) (all : List Submitted) (history : History) (database : Database)
    (read_view : ReadView) → IsBeginning all history
    → In read_view (read_views declared history.member.tx 1 history.operations database nothing_bound)
    → IsOfScript (map script_in all) read_view
history_known declared all history database read_view of at =
    let r = sees_behind declared history.member.tx 1 history.operations database nothing_bound nothing_bound read_view
    (nothing_agrees nothing_bound) at in
    let script = of.own.script in
    let there = ap (λ (sts : List Statement). slice_get sts r.earlier) (sym of.beginning) ∙ r.statement in
    let n : 1 + r.earlier ≡ suc r.earlier = omega arith in
    let place = r.at_place ∙ n in
    record {
      script = script;
      of_list = ap (numbered (map script_in all)) r.own
          ∙ numbered_map script_in all history.member.tx of.own of.submitted;
      known = record {
        statement = ap (numbered script.statements) place
            ∙ begin_get of.count r.earlier script.statements (statements.Entangled read_view.entangled) there;
        agrees = subst (λ (p : ℕ). Agrees (known_before script p) read_view.environment) (sym place)
            (subst (λ (sts : List Statement). Agrees (known_after_all nothing_bound sts) read_view.environment)
            (ap (take r.earlier) of.beginning ∙ begin_take of.count r.earlier script.statements
            (statements.Entangled read_view.entangled) there) r.agrees);
      };
    }

in_from : (run : Option Run) (more : Database → List ReadView) (read_view : ReadView)
    → In read_view (seen_from run more) → (database : Database) × In read_view (more database)
in_from (Some run) more read_view at = (run.database, at)
in_from None more read_view at = absurd at

histories_known : (declared : List Create) (all : List Submitted) (histories : List History) (database : Database)
    (read_view : ReadView) → ((history : History) → In history histories → IsBeginning all history)
    → In read_view (histories_read_views declared histories database) → IsOfScript (map script_in all) read_view
histories_known declared all [] database read_view of at = absurd at
histories_known declared all (history ∷ more) database read_view of at =
    let ran = run declared history.operations database nothing_bound in
    let rest = histories_read_views declared more in
    elim (in_either (read_views declared history.member.tx 1 history.operations database nothing_bound)
    (seen_from ran rest) read_view at) [
      | inl here ↦ history_known declared all history database read_view (of history (inl refl)) here
      | inr later ↦
          let next = in_from ran rest read_view later in
          histories_known declared all more next.0 read_view (λ own there. of own (inr there)) next.1
    ]

-- ---- a serial state

module _ (s : State) (serial : IsSerialState s) where
  whole_or_not : (history : History) → In history (serial.committed ++ (serial.prepared ++ serial.others))
      → IsBeginning s.submitted history
  whole_or_not history at =
      elim (in_either serial.committed (serial.prepared ++ serial.others) history at) [
        | inl committed ↦
            of_whole s.submitted history (of_all (IsWhole s.submitted) (serial.committed ++ serial.prepared) history
            serial.whole (in_first serial.committed serial.prepared history committed))
        | inr present ↦ elim (in_either serial.prepared serial.others history present) [
          | inl prepared ↦
              of_whole s.submitted history (of_all (IsWhole s.submitted) (serial.committed ++ serial.prepared) history
              serial.whole (in_second serial.committed serial.prepared history prepared))
          | inr other ↦
              of_following s.submitted history (of_all (Follows s.submitted) serial.others history serial.follow other)
        ]
      ]

  pub of_state : (read_view : ReadView) → Contains (state_read_views s serial) read_view
      → IsOfScript (scripts_of s) read_view
  of_state read_view has =
      histories_known s.opening.tables s.submitted (serial.committed ++ (serial.prepared ++ serial.others))
      (opening_database s.opening) read_view whole_or_not (contains_in (state_read_views s serial) read_view has)
