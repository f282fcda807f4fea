-- The line of a transaction is read as it is written.
use Rattle.std.proofs.Common.{◌≡◌, ℕ, Bool, true, false, cond, eqb, leb, List, [], ◌++◌, length, Ok, Err, Result, refl}
use Rattle.std.proofs.Common.{ap, sym, ◌∙◌, subst, arith}
use Rattle.std.specs.Prelude.{codes, slice_index}
use Rattle.std.specs.Fmt.{decimal}
use Rattle.std.proofs.lemmas.Bool.{leb-true, le-leb}
use Rattle.std.proofs.lemmas.List.{append-nil}
use Rattle.ent_value.specs.Refusal.{◌>>=◌}
use Rattle.ent_tree.specs.declared.limits.TheConstants.{MOST_RUNS}
use Rattle.ent_semantics.specs.Failure.{failure_name}
use Rattle.ent_semantics.specs.declared.answer.Failure.{Failure}
use Rattle.ent_semantics.specs.declared.answer.Failure.TheVariants as failures
use Rattle.ent_semantics.specs.declared.book.Fate.{Fate}
use Rattle.ent_semantics.specs.declared.book.Fate.TheVariants as fates
use Rattle.ent_book.specs.Report.{after_text, fate_text}
use Rattle.ent_history.specs.Parts.{IsNumber}
use Rattle.ent_text.specs.declared.line_fault.LineFault.{LineFault}
use Rattle.ent_text.specs.declared.line_fault.LineFault.TheVariants.{Misfit}
use Rattle.ent_text.specs.Pieces.{behind, number_at}
use Rattle.ent_text.proofs.Numbers.{chosen}
use Rattle.ent_text.proofs.Values.{bind_ok}
use Rattle.ent_history.specs.Answers.{AreRuns, IsFate}
use Rattle.ent_history.specs.Fates.{runs_at, committed_at, gave_up_at, rolled_back_at, failure_at, failed_at}
use Rattle.ent_history.specs.Fates.{fate_at, transaction_at, transaction_text}
use Rattle.ent_history.proofs.Steps.{Parts, bind_with, ok, same_ok, no_bytes}

-- what is read is written so, and can be
abbrev FateStands : List ℕ → Fate → Type 0
FateStands bytes fate = (bytes ≡ fate_text fate) × IsFate fate

abbrev kept_runs : ℕ × List ℕ → Result ℕ LineFault
kept_runs found =
    cond (eqb (length found.1) 0)
    (cond (leb 1 found.0) (cond (leb found.0 MOST_RUNS) (Ok found.0) (Err Misfit)) (Err Misfit)) (Err Misfit)

module _ (parts : Parts) where
  runs_found : (bytes : List ℕ) (runs : ℕ) → runs_at bytes ≡ Ok runs → (bytes ≡ after_text runs) × AreRuns runs
  unfolding runs_at
  runs_found bytes runs h =
      let rest = bind_ok (behind (codes " after ") bytes) (λ rest. number_at rest >>= kept_runs) runs h in
      let found = bind_ok (number_at rest.0) kept_runs runs rest.2 in
      let n = found.0.0 in
      let end = chosen (eqb (length found.0.1) 0) _ _ _ found.2 in
      let least = chosen (leb 1 n) _ _ _ end.1 in
      let most = chosen (leb n MOST_RUNS) _ _ _ least.1 in
      let same : n ≡ runs = same_ok n runs most.1 in
      let is = parts.number_found 9223372036854775807 rest.0 found.0.1 n (omega arith) found.1 in (
        parts.behind_found (codes " after ") bytes rest.0 rest.1
            ∙ ap (λ r. codes " after " ++ r)
            (is.0 ∙ ap (λ r. decimal n ++ r) (no_bytes found.0.1 end.0) ∙ append-nil (decimal n))
            ∙ ap after_text same,
        subst AreRuns same (leb-true 1 n least.0, leb-true n MOST_RUNS most.0),
      )

  runs_again : (runs : ℕ) → AreRuns runs → runs_at (after_text runs) ≡ Ok runs
  unfolding runs_at
  runs_again runs are =
      let number : number_at (decimal runs) ≡ Ok (runs, []) =
      ap number_at (sym (append-nil (decimal runs)))
      ∙ parts.number_again 9223372036854775807 runs [] (omega arith) (omega (arith, are.1)) tt in
      bind_with (behind (codes " after ") (after_text runs)) (decimal runs) (λ rest. number_at rest >>= kept_runs)
      (parts.behind_again (codes " after ") (decimal runs))
      ∙ bind_with (number_at (decimal runs)) (runs, []) kept_runs number
      ∙ rw (le-leb 1 runs are.0) (rw (le-leb runs MOST_RUNS are.1) refl)

  committed_found : (bytes : List ℕ) (fate : Fate) → committed_at bytes ≡ Ok fate → FateStands bytes fate
  unfolding committed_at
  committed_found bytes fate h =
      let rest = bind_ok (behind (codes "committed ") bytes)
      (λ rest. number_at rest >>= λ number. runs_at number.1 >>= λ runs. ok (fates.Committed number.0 runs)) fate h in
      let number = bind_ok (number_at rest.0)
      (λ number. runs_at number.1 >>= λ runs. ok (fates.Committed number.0 runs)) fate rest.2 in
      let n = number.0.0 in
      let runs = bind_ok (runs_at number.0.1) (λ runs. ok (fates.Committed n runs)) fate number.2 in
      let same = same_ok (fates.Committed n runs.0) fate runs.2 in
      let is = parts.number_found 9223372036854775807 rest.0 number.0.1 n (omega arith) number.1 in
      let took = runs_found number.0.1 runs.0 runs.1 in (
        parts.behind_found (codes "committed ") bytes rest.0 rest.1
            ∙ ap (λ r. codes "committed " ++ r) (is.0 ∙ ap (λ r. decimal n ++ r) took.0)
            ∙ ap fate_text same,
        subst IsFate same (is.1, took.1),
      )

  gave_up_found : (bytes : List ℕ) (fate : Fate) → gave_up_at bytes ≡ Ok fate → FateStands bytes fate
  unfolding gave_up_at
  gave_up_found bytes fate h =
      let rest = bind_ok (behind (codes "gave up") bytes) (λ rest. runs_at rest >>= λ runs. ok (fates.GaveUp runs))
      fate h in
      let runs = bind_ok (runs_at rest.0) (λ runs. ok (fates.GaveUp runs)) fate rest.2 in
      let same = same_ok (fates.GaveUp runs.0) fate runs.2 in
      let took = runs_found rest.0 runs.0 runs.1 in (
        parts.behind_found (codes "gave up") bytes rest.0 rest.1 ∙ ap (λ r. codes "gave up" ++ r) took.0
            ∙ ap fate_text same,
        subst IsFate same took.1,
      )

  rolled_back_found : (bytes : List ℕ) (fate : Fate) → rolled_back_at bytes ≡ Ok fate → FateStands bytes fate
  unfolding rolled_back_at
  rolled_back_found bytes fate h =
      let rest = bind_ok (behind (codes "rolled back") bytes)
      (λ rest. runs_at rest >>= λ runs. ok (fates.RolledBack runs)) fate h in
      let runs = bind_ok (runs_at rest.0) (λ runs. ok (fates.RolledBack runs)) fate rest.2 in
      let same = same_ok (fates.RolledBack runs.0) fate runs.2 in
      let took = runs_found rest.0 runs.0 runs.1 in (
        parts.behind_found (codes "rolled back") bytes rest.0 rest.1 ∙ ap (λ r. codes "rolled back" ++ r) took.0
            ∙ ap fate_text same,
        subst IsFate same took.1,
      )

  failure_found : (name : List ℕ) (failure : Failure)
      → ((more : List ℕ) → name ++ more ≡ codes "failed " ++ (failure_name failure ++ more))
      → (bytes : List ℕ) (fate : Fate) → failure_at name failure bytes ≡ Ok fate → FateStands bytes fate
  unfolding failure_at
  failure_found name failure named bytes fate h =
      let rest = bind_ok (behind name bytes) (λ rest. runs_at rest >>= λ runs. ok (fates.Failed failure runs)) fate h in
      let runs = bind_ok (runs_at rest.0) (λ runs. ok (fates.Failed failure runs)) fate rest.2 in
      let same = same_ok (fates.Failed failure runs.0) fate runs.2 in
      let took = runs_found rest.0 runs.0 runs.1 in (
        parts.behind_found name bytes rest.0 rest.1 ∙ ap (λ r. name ++ r) took.0 ∙ named (after_text runs.0)
            ∙ ap fate_text same,
        subst IsFate same took.1,
      )

  failed_by : (bytes : List ℕ) (fate : Fate) (first : Bool)
      → cond first (failure_at (codes "failed F1") failures.Overflow bytes)
      (failure_at (codes "failed F2") failures.TableFull bytes) ≡ Ok fate
      → FateStands bytes fate
  failed_by bytes fate true h = failure_found (codes "failed F1") failures.Overflow (λ more. refl) bytes fate h
  failed_by bytes fate false h = failure_found (codes "failed F2") failures.TableFull (λ more. refl) bytes fate h

  failed_found : (bytes : List ℕ) (fate : Fate) → failed_at bytes ≡ Ok fate → FateStands bytes fate
  unfolding failed_at
  failed_found bytes fate h = failed_by bytes fate (eqb (slice_index bytes 8) 49) h

  fate_by : (bytes : List ℕ) (fate : Fate) (c g r : Bool)
      → cond c (committed_at bytes) (cond g (gave_up_at bytes) (cond r (rolled_back_at bytes) (failed_at bytes)))
      ≡ Ok fate
      → FateStands bytes fate
  fate_by bytes fate true g r h = committed_found bytes fate h
  fate_by bytes fate false true r h = gave_up_found bytes fate h
  fate_by bytes fate false false true h = rolled_back_found bytes fate h
  fate_by bytes fate false false false h = failed_found bytes fate h

  fate_found : (bytes : List ℕ) (fate : Fate) → fate_at bytes ≡ Ok fate → FateStands bytes fate
  unfolding fate_at
  fate_found bytes fate h =
      fate_by bytes fate (eqb (slice_index bytes 0) 99) (eqb (slice_index bytes 0) 103) (eqb (slice_index bytes 0) 114)
      h

  pub transaction_found : (line : List ℕ) (tx : ℕ) (fate : Fate) → transaction_at line ≡ Ok (tx, fate)
      → (line ≡ transaction_text tx fate) × IsNumber tx × IsFate fate
  unfolding transaction_at
  transaction_found line tx fate h =
      let rest = bind_ok (behind (codes "tx ") line)
      (λ rest. number_at rest >>= λ tx. behind (codes " ") tx.1 >>= λ rest. fate_at rest >>= λ fate. ok (tx.0, fate))
      (tx, fate) h in
      let number = bind_ok (number_at rest.0)
      (λ tx. behind (codes " ") tx.1 >>= λ rest. fate_at rest >>= λ fate. ok (tx.0, fate)) (tx, fate) rest.2 in
      let n = number.0.0 in
      let space = bind_ok (behind (codes " ") number.0.1) (λ rest. fate_at rest >>= λ fate. ok (n, fate)) (tx, fate)
      number.2 in
      let came = bind_ok (fate_at space.0) (λ fate. ok (n, fate)) (tx, fate) space.2 in
      let same = same_ok (n, came.0) (tx, fate) came.2 in
      let is = parts.number_found 9223372036854775807 rest.0 number.0.1 n (omega arith) number.1 in
      let stands = fate_found space.0 came.0 came.1 in (
        parts.behind_found (codes "tx ") line rest.0 rest.1
            ∙ ap (λ r. codes "tx " ++ r)
            (is.0
            ∙ ap (λ r. decimal n ++ r)
            (parts.behind_found (codes " ") number.0.1 space.0 space.1 ∙ ap (λ r. codes " " ++ r) stands.0))
            ∙ ap (λ told. transaction_text told.0 told.1) same,
        subst (λ told. IsNumber told.0) same is.1,
        subst (λ told. IsFate told.1) same stands.1,
      )

  -- ---- and back

  failure_again : (name : List ℕ) (failure : Failure) (runs : ℕ) → AreRuns runs
      → failure_at name failure (name ++ after_text runs) ≡ Ok (fates.Failed failure runs)
  unfolding failure_at
  failure_again name failure runs are =
      bind_with (behind name (name ++ after_text runs)) (after_text runs)
      (λ rest. runs_at rest >>= λ runs. ok (fates.Failed failure runs)) (parts.behind_again name (after_text runs))
      ∙ bind_with (runs_at (after_text runs)) runs (λ runs. ok (fates.Failed failure runs)) (runs_again runs are)

  committed_again : (number runs : ℕ) → IsNumber number → AreRuns runs
      → committed_at (fate_text (fates.Committed number runs)) ≡ Ok (fates.Committed number runs)
  unfolding committed_at
  committed_again number runs small are =
      bind_with (behind (codes "committed ") (fate_text (fates.Committed number runs)))
      (decimal number ++ after_text runs)
      (λ rest. number_at rest >>= λ number. runs_at number.1 >>= λ runs. ok (fates.Committed number.0 runs))
      (parts.behind_again (codes "committed ") (decimal number ++ after_text runs))
      ∙ bind_with (number_at (decimal number ++ after_text runs)) (number, after_text runs)
      (λ number. runs_at number.1 >>= λ runs. ok (fates.Committed number.0 runs))
      (parts.number_again 9223372036854775807 number (after_text runs) (omega arith) small refl)
      ∙ bind_with (runs_at (after_text runs)) runs (λ runs. ok (fates.Committed number runs)) (runs_again runs are)

  gave_up_again : (runs : ℕ) → AreRuns runs → gave_up_at (fate_text (fates.GaveUp runs)) ≡ Ok (fates.GaveUp runs)
  unfolding gave_up_at
  gave_up_again runs are =
      bind_with (behind (codes "gave up") (fate_text (fates.GaveUp runs))) (after_text runs)
      (λ rest. runs_at rest >>= λ runs. ok (fates.GaveUp runs))
      (parts.behind_again (codes "gave up") (after_text runs))
      ∙ bind_with (runs_at (after_text runs)) runs (λ runs. ok (fates.GaveUp runs)) (runs_again runs are)

  rolled_back_again : (runs : ℕ) → AreRuns runs
      → rolled_back_at (fate_text (fates.RolledBack runs)) ≡ Ok (fates.RolledBack runs)
  unfolding rolled_back_at
  rolled_back_again runs are =
      bind_with (behind (codes "rolled back") (fate_text (fates.RolledBack runs))) (after_text runs)
      (λ rest. runs_at rest >>= λ runs. ok (fates.RolledBack runs))
      (parts.behind_again (codes "rolled back") (after_text runs))
      ∙ bind_with (runs_at (after_text runs)) runs (λ runs. ok (fates.RolledBack runs)) (runs_again runs are)

  fate_again : (fate : Fate) → IsFate fate → fate_at (fate_text fate) ≡ Ok fate
  unfolding fate_at failed_at
  fate_again (fates.Committed number runs) is = committed_again number runs is.0 is.1
  fate_again (fates.GaveUp runs) is = gave_up_again runs is
  fate_again (fates.RolledBack runs) is = rolled_back_again runs is
  fate_again (fates.Failed failures.Overflow runs) is = failure_again (codes "failed F1") failures.Overflow runs is
  fate_again (fates.Failed failures.TableFull runs) is = failure_again (codes "failed F2") failures.TableFull runs is

  pub transaction_again : (tx : ℕ) (fate : Fate) → IsNumber tx → IsFate fate
      → transaction_at (transaction_text tx fate) ≡ Ok (tx, fate)
  unfolding transaction_at
  transaction_again tx fate small is =
      bind_with (behind (codes "tx ") (transaction_text tx fate)) (decimal tx ++ (codes " " ++ fate_text fate))
      (λ rest. number_at rest >>= λ tx. behind (codes " ") tx.1 >>= λ rest. fate_at rest >>= λ fate. ok (tx.0, fate))
      (parts.behind_again (codes "tx ") (decimal tx ++ (codes " " ++ fate_text fate)))
      ∙ bind_with (number_at (decimal tx ++ (codes " " ++ fate_text fate))) (tx, codes " " ++ fate_text fate)
      (λ tx. behind (codes " ") tx.1 >>= λ rest. fate_at rest >>= λ fate. ok (tx.0, fate))
      (parts.number_again 9223372036854775807 tx (codes " " ++ fate_text fate) (omega arith) small refl)
      ∙ bind_with (behind (codes " ") (codes " " ++ fate_text fate)) (fate_text fate)
      (λ rest. fate_at rest >>= λ fate. ok (tx, fate)) (parts.behind_again (codes " ") (fate_text fate))
      ∙ bind_with (fate_at (fate_text fate)) fate (λ fate. ok (tx, fate)) (fate_again fate is)
