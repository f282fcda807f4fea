-- How the line of a transaction is read, and its text.
use Rattle.std.specs.Prelude.{◌==◌, ℕ, List, ◌++◌, length, Result, Ok, Err, nat_le, slice_index, codes, if◌then◌else◌}
use Rattle.std.specs.Fmt.{decimal}
use Rattle.ent_value.specs.Refusal.{◌>>=◌}
use Rattle.ent_tree.specs.declared.limits.TheConstants.{MOST_RUNS}
use Rattle.ent_semantics.specs.declared.answer.Failure.{Failure}
use Rattle.ent_semantics.specs.declared.answer.Failure.TheVariants as failures
use Rattle.ent_semantics.specs.declared.book.Fate.{Fate}
use Rattle.ent_semantics.specs.declared.book.Fate.TheVariants as fates
use Rattle.ent_book.specs.Report.{fate_text}
use Rattle.ent_text.specs.declared.line_fault.LineFault.{LineFault}
use Rattle.ent_text.specs.declared.line_fault.LineFault.TheVariants.{Misfit}
use Rattle.ent_text.specs.Pieces.{behind, number_at}

-- a number at the end, 1 to 1,000
unfoldable pub runs_at : List ℕ → Result ℕ LineFault
runs_at bytes =
    behind (codes " after ") bytes >>= λ rest. number_at rest >>= λ found.
    if length found.1 == 0 then
    (if nat_le 1 found.0 then (if nat_le found.0 MOST_RUNS then Ok found.0 else Err Misfit) else Err Misfit)
    else Err Misfit

unfoldable pub committed_at : List ℕ → Result Fate LineFault
committed_at bytes =
    behind (codes "committed ") bytes >>= λ rest. number_at rest >>= λ number. runs_at number.1 >>= λ runs.
    Ok (fates.Committed number.0 runs)

unfoldable pub gave_up_at : List ℕ → Result Fate LineFault
gave_up_at bytes = behind (codes "gave up") bytes >>= λ rest. runs_at rest >>= λ runs. Ok (fates.GaveUp runs)

unfoldable pub rolled_back_at : List ℕ → Result Fate LineFault
rolled_back_at bytes =
    behind (codes "rolled back") bytes >>= λ rest. runs_at rest >>= λ runs. Ok (fates.RolledBack runs)

unfoldable pub failure_at : List ℕ → Failure → List ℕ → Result Fate LineFault
failure_at name failure bytes = behind name bytes >>= λ rest. runs_at rest >>= λ runs. Ok (fates.Failed failure runs)

-- the digit tells
unfoldable pub failed_at : List ℕ → Result Fate LineFault
failed_at bytes =
    if slice_index bytes 8 == 49 then failure_at (codes "failed F1") failures.Overflow bytes
    else failure_at (codes "failed F2") failures.TableFull bytes

-- the first letter tells
unfoldable pub fate_at : List ℕ → Result Fate LineFault
fate_at bytes =
    if slice_index bytes 0 == 99 then committed_at bytes
    else (if slice_index bytes 0 == 103 then gave_up_at bytes
    else (if slice_index bytes 0 == 114 then rolled_back_at bytes else failed_at bytes))

unfoldable pub transaction_at : List ℕ → Result (ℕ × Fate) LineFault
transaction_at line =
    behind (codes "tx ") line >>= λ rest. number_at rest >>= λ tx. behind (codes " ") tx.1 >>= λ rest.
    fate_at rest >>= λ fate. Ok (tx.0, fate)

-- a transaction's number and its fate, without the end of the line
abbrev pub transaction_text : ℕ → Fate → List ℕ
transaction_text tx fate = codes "tx " ++ (decimal tx ++ (codes " " ++ fate_text fate))
