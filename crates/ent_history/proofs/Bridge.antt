-- The book of a history, transaction by transaction.
use Rattle.std.proofs.Common.{◌≡◌, ℕ, zero, suc, ◌+◌, ◌==◌, Bool, true, false, cond, List, [], ◌∷◌, ◌++◌, map, length}
use Rattle.std.proofs.Common.{refl, sym, ap, ◌∙◌, arith, is_some, flat_map}
use Rattle.std.specs.List.{filter, range_with_len}
use Rattle.ent_tree.specs.declared.script.Script.{Script}
use Rattle.ent_semantics.specs.declared.answer.Answer.{Answer}
use Rattle.ent_semantics.specs.declared.book.Entry.{Entry}
use Rattle.ent_semantics.specs.declared.book.Fate.{Fate}
use Rattle.ent_semantics.specs.declared.book.Fate.TheVariants as fates
use Rattle.ent_semantics.specs.declared.book.Fated.{Fated}
use Rattle.ent_history.specs.declared.history.History.{History}
use Rattle.ent_history.specs.declared.history.Told.{Told}
use Rattle.ent_history.specs.Told.{fates_from, entry_if, entries_of, has_committed, commits, journal_of}
use Rattle.ent_history.specs.Account as own
use Rattle.ent_history.specs.Account.{Account, accounts_from, accounts, commit_number, is_number, committed_as}
use Rattle.ent_history.specs.Account.{numbers_from, commit_count, in_commit_order}
use Rattle.ent_lists.specs.Elements.{map_joined}
use Rattle.ent_lists.proofs.Numbers.{plus_one}

abbrev pub entry_of : Account → Entry
entry_of account = record { tx = account.tx; answers = account.answers }

abbrev pub fated_of : Account → Fated
fated_of account = record { tx = account.tx; fate = account.fate }

less : (n m : ℕ) → suc n ≡ suc m → n ≡ m
less n m e = omega (arith, e)

fates_same : (tx : ℕ) (scripts : List Script) (told : List Told) → length told ≡ length scripts
    → fates_from tx told ≡ map fated_of (accounts_from tx scripts told)
fates_same tx [] [] e = refl
fates_same tx [] (one ∷ told) e = absurd (omega (arith, e))
fates_same tx (script ∷ scripts) [] e = absurd (omega (arith, e))
fates_same tx (script ∷ scripts) (one ∷ told) e =
    ap (λ more. record { tx = tx; fate = one.fate } ∷ more)
    (ap (λ n. fates_from n told) (plus_one tx)
    ∙ fates_same (suc tx) scripts told (less (length told) (length scripts) e))

entry_same : (number tx : ℕ) (fate : Fate) (answers : List Answer) (more : List Account) (rest : List Entry)
    (a : Account) → a.tx ≡ tx → a.answers ≡ answers → rest ≡ map entry_of more
    → entry_if number tx (record { fate = fate; answers = answers }) ++ rest
    ≡ map entry_of (cond (is_number number (commit_number fate)) (a ∷ more) more)
entry_same number tx (fates.Committed n runs) answers more rest a same told e = by (n == number)
  where
    by : (b : Bool) → cond b (record { tx = tx; answers = answers } ∷ []) [] ++ rest
        ≡ map entry_of (cond b (a ∷ more) more)
    by true = λ i. record { tx = sym same i; answers = sym told i } ∷ e i
    by false = e
entry_same number tx (fates.GaveUp runs) answers more rest a same told e = e
entry_same number tx (fates.RolledBack runs) answers more rest a same told e = e
entry_same number tx (fates.Failed failure runs) answers more rest a same told e = e

entries_same : (number tx : ℕ) (scripts : List Script) (told : List Told) → length told ≡ length scripts
    → entries_of number tx told ≡ map entry_of (filter (committed_as number) (accounts_from tx scripts told))
entries_same number tx [] [] e = refl
entries_same number tx [] (one ∷ told) e = absurd (omega (arith, e))
entries_same number tx (script ∷ scripts) [] e = absurd (omega (arith, e))
entries_same number tx (script ∷ scripts) (one ∷ told) e =
    entry_same number tx one.fate one.answers
    (filter (committed_as number) (accounts_from (suc tx) scripts told)) (entries_of number (tx + 1) told)
    (record { tx = tx; script = script; fate = one.fate; answers = one.answers }) refl refl
    (ap (λ n. entries_of number n told) (plus_one tx)
    ∙ entries_same number (suc tx) scripts told (less (length told) (length scripts) e))

pub committed_same : (fate : Fate) → has_committed fate ≡ is_some (commit_number fate)
committed_same (fates.Committed n runs) = refl
committed_same (fates.GaveUp runs) = refl
committed_same (fates.RolledBack runs) = refl
committed_same (fates.Failed failure runs) = refl

count_same : (tx : ℕ) (scripts : List Script) (told : List Told) → length told ≡ length scripts
    → commits told ≡ commit_count (accounts_from tx scripts told)
count_same tx [] [] e = refl
count_same tx [] (one ∷ told) e = absurd (omega (arith, e))
count_same tx (script ∷ scripts) [] e = absurd (omega (arith, e))
count_same tx (script ∷ scripts) (one ∷ told) e =
    through (has_committed one.fate) (is_some (commit_number one.fate)) (committed_same one.fate)
    (count_same (suc tx) scripts told (less (length told) (length scripts) e))
  where
    through : (b c : Bool) → b ≡ c → commits told ≡ commit_count (accounts_from (suc tx) scripts told)
        → length (cond b (one ∷ filter (λ one. has_committed one.fate) told)
        (filter (λ one. has_committed one.fate) told))
        ≡ length (cond c (record { tx = tx; script = script; fate = one.fate; answers = one.answers }
        ∷ filter own.has_committed (accounts_from (suc tx) scripts told))
        (filter own.has_committed (accounts_from (suc tx) scripts told)))
    through true true same rest = ap (λ n. suc n) rest
    through true false same rest = cc (same)
    through false true same rest = cc (same)
    through false false same rest = rest

numbers_same : (first m : ℕ) → range_with_len first m ≡ numbers_from first m
numbers_same first zero = refl
numbers_same first (suc m) =
    ap (λ more. first ∷ more) (ap (λ n. range_with_len n m) (plus_one first) ∙ numbers_same (suc first) m)

flat_same : (f : ℕ → List Entry) (g : ℕ → List Account) (ns : List ℕ) → ((n : ℕ) → f n ≡ map entry_of (g n))
    → flat_map f ns ≡ map entry_of (flat_map g ns)
flat_same f g [] same = refl
flat_same f g (n ∷ ns) same =
    (λ i. same n i ++ flat_same f g ns same i) ∙ sym (map_joined entry_of (g n) (flat_map g ns))

pub counts_are : (history : History) → length history.transactions ≡ length history.scripts
    → commits history.transactions ≡ commit_count (accounts history)
counts_are history told = count_same 1 history.scripts history.transactions told

module _ (history : History) (told : length history.transactions ≡ length history.scripts) where
  pub fates_are : fates_from 1 history.transactions ≡ map fated_of (accounts history)
  fates_are = fates_same 1 history.scripts history.transactions told

  pub journal_is : journal_of history.transactions ≡ map entry_of (in_commit_order (accounts history))
  journal_is =
      (λ i. flat_map (λ number. entries_of number 1 history.transactions)
      (range_with_len 1 (count_same 1 history.scripts history.transactions told i)))
      ∙ ap (flat_map (λ number. entries_of number 1 history.transactions))
      (numbers_same 1 (commit_count (accounts history)))
      ∙ flat_same (λ number. entries_of number 1 history.transactions)
      (λ number. filter (committed_as number) (accounts history)) (numbers_from 1 (commit_count (accounts history)))
      (λ n. entries_same n 1 history.scripts history.transactions told)
