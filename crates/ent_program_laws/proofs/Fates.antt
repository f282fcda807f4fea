-- The fates of the book of a history.
use Rattle.std.proofs.Common.{◌≡◌, ℕ, zero, suc, ◌+◌, List, [], ◌∷◌, map, length, refl, sym, ap, ◌∙◌, arith, subst}
use Rattle.std.proofs.Common.{inl, inr, Some, slice_get}
use Rattle.std.specs.List.{AllByRecursion, range_with_len}
use Rattle.std.proofs.lemmas.Option.{same_Some}
use Rattle.ent_tree.specs.declared.limits.TheConstants.{MOST_RUNS}
use Rattle.ent_tree.specs.declared.script.Script.{Script}
use Rattle.ent_semantics.specs.declared.book.Fate.{Fate}
use Rattle.ent_semantics.specs.declared.book.Fate.TheVariants as fates
use Rattle.ent_semantics.specs.declared.book.Fated.{Fated}
use Rattle.ent_history.specs.declared.history.Told.{Told}
use Rattle.ent_history.specs.Told.{fates_from}
use Rattle.ent_history.specs.Answers.{IsFate}
use Rattle.ent_lists.specs.Elements.{In}
use Rattle.ent_report_laws.specs.Tellable.{AreTransactionsOf}
use Rattle.ent_program_laws.specs.Reportable.{CountsRuns}
use Rattle.ent_program_laws.proofs.Entries.{AreFrom}

-- ---- numbers

numbers_of : (number : ℕ) (all : List Told)
    → map (λ (fated : Fated). fated.tx) (fates_from number all) ≡ range_with_len number (length all)
numbers_of number [] = refl
numbers_of number (one ∷ more) = ap (λ (ns : List ℕ). number ∷ ns) (numbers_of (number + 1) more)

pub count_of : (number : ℕ) (all : List Told) → length (fates_from number all) ≡ length all
count_of number [] = refl
count_of number (one ∷ more) = ap suc (count_of (number + 1) more)

-- they are those of the transactions by number
pub are_from : (all : List Told) → AreFrom 1 (fates_from 1 all)
are_from all = numbers_of 1 all ∙ ap (range_with_len 1) (sym (count_of 1 all))

-- ---- runs

counts_runs : (fate : Fate) → IsFate fate → CountsRuns MOST_RUNS fate
counts_runs (fates.Committed number runs) is = is.1
counts_runs (fates.GaveUp runs) is = is
counts_runs (fates.RolledBack runs) is = is
counts_runs (fates.Failed failure runs) is = is

pub runs_counted : (number : ℕ) (scripts : List Script) (all : List Told) → AreTransactionsOf scripts all
    → AllByRecursion (λ fated. CountsRuns MOST_RUNS fated.fate) (fates_from number all)
runs_counted number [] [] told = tt
runs_counted number [] (one ∷ more) told = absurd told
runs_counted number (script ∷ scripts) [] told = absurd told
runs_counted number (script ∷ scripts) (one ∷ more) told =
    (counts_runs one.fate told.0.fate, runs_counted (number + 1) scripts more told.1)

-- ---- the fate of a transaction

later_number : (number k : ℕ) → (number + 1) + k ≡ number + suc k
later_number number k = omega arith

this_number : (number : ℕ) → number + 0 ≡ number
this_number number = omega arith

pub fate_at : (number : ℕ) (all : List Told) (k : ℕ) (one : Told) → slice_get all k ≡ Some one
    → In (record { tx = number + k; fate = one.fate }) (fates_from number all)
fate_at number [] k one at = cc (at)
fate_at number (first ∷ more) zero one at =
    inl (λ i. record { tx = this_number number i; fate = (sym (same_Some first one at) i).fate })
fate_at number (first ∷ more) (suc k) one at =
    inr (subst (λ (tx : ℕ). In (record { tx = tx; fate = one.fate }) (fates_from (number + 1) more))
    (later_number number k) (fate_at (number + 1) more k one at))
