-- The rule of the journal, on the way through transactions.
use Rattle.std.proofs.Common.{◌≡◌, ℕ, suc, ◌+◌, ◌<◌, ◌≤◌, Bool, true, false, not, ◌&&◌, cond, List, [], ◌∷◌}
use Rattle.std.proofs.Common.{◌++◌, length, refl, sym, ap, subst, ◌∙◌, arith, Option, Some, None, ◌==◌, ◌||◌}
use Rattle.std.proofs.Common.{nat_lt, nat_le, filter, append-nil, is_some, slice_index_or, min}
use Rattle.ent_tree.specs.declared.script.Script.{Script}
use Rattle.ent_history.specs.declared.history.Told.{Told}
use Rattle.ent_check.proofs.Accounts.{account_of, accounts_behind, behind_here, behind_some, nothing_behind}
use Rattle.std.specs.List.{cons_option, list_any}
use Rattle.ent_history.specs.Account.{Account, accounts_from, commit_count, commit_number, has_committed}
use Rattle.ent_history.specs.Journal.{commits, journal_findings, journal_from, number_finding, unless}
use Rattle.ent_history.specs.Verdict.{first_of}
use Rattle.ent_history.specs.declared.finding.Finding.{Finding}
use Rattle.ent_history.specs.declared.finding.Rule.TheVariants as rules
use Rattle.ent_history.specs.declared.finding.Thing.TheVariants as things

-- a number stands among others
abbrev pub among : List ℕ → ℕ → Bool
among numbers number = list_any (λ other. other == number) numbers

-- lists of the same numbers
abbrev pub Alike : List ℕ → List ℕ → Type 0
Alike first second = (number : ℕ) → among first number ≡ among second number

pub among_more : (xs : List ℕ) (x n : ℕ) → among (xs ++ x ∷ []) n ≡ among (x ∷ xs) n
among_more [] x n = refl
among_more (y ∷ ys) x n = ap (λ b. (y == n) || b) (among_more ys x n) ∙ turn (y == n) (x == n) (among ys n)
  where
    turn : (a b c : Bool) → (a || (b || c)) ≡ (b || (a || c))
    turn true true c = refl
    turn true false c = refl
    turn false b c = refl

pub alike_more : (above made : List ℕ) (number : Option ℕ) → Alike above made
    → Alike (cons_option number above) (made ++ cons_option number [])
alike_more above made None same n = same n ∙ ap (λ xs. among xs n) (sym (append-nil made))
alike_more above made (Some x) same n = ap (λ b. (x == n) || b) (same n) ∙ sym (among_more made x n)

pub finding_alike : (count : ℕ) (above made : List ℕ) (account : Account) (number : Option ℕ) → Alike above made
    → number_finding count above account number ≡ number_finding count made account number
finding_alike count above made account None same = refl
finding_alike count above made account (Some n) same =
    ap (λ b. unless (((nat_lt 0 n && nat_le n count) && not b) && commits account.script.end) rules.Journal
    (things.Transaction account.tx)) (same n)

-- ---- transactions from an index on

-- what is found first of all of them is what is found first of those from an index on, behind others
abbrev pub JournalBehind : ℕ → List Account → List ℕ → List Account → Type 0
JournalBehind count all made rest =
    (above : List ℕ) × Alike above made
    × (first_of (journal_from count [] all) ≡ first_of (journal_from count above rest))

pub first_some : (xs ys : List Finding) (finding : Finding) → first_of xs ≡ Some finding
    → first_of (xs ++ ys) ≡ Some finding
first_some [] ys finding is = cc (is)
first_some (x ∷ xs) ys finding is = is

pub first_none : (xs ys : List Finding) → first_of xs ≡ None → first_of (xs ++ ys) ≡ first_of ys
first_none [] ys is = refl
first_none (x ∷ xs) ys is = cc (is)

pub journal_begun : (count : ℕ) (all : List Account) (made : List ℕ) → made ≡ [] → JournalBehind count all made all
journal_begun count all made none = ([], (λ n. ap (λ xs. among xs n) (sym none)), refl)

pub journal_on : (count : ℕ) (all : List Account) (made : List ℕ) (account : Account) (more : List Account)
    → first_of (number_finding count made account (commit_number account.fate)) ≡ None
    → JournalBehind count all made (account ∷ more)
    → JournalBehind count all (made ++ cons_option (commit_number account.fate) []) more
journal_on count all made account more is behind =
    let number = commit_number account.fate in
    let same = finding_alike count behind.0 made account number behind.1 in (
      cons_option number behind.0,
      alike_more behind.0 made number behind.1,
      behind.2
          ∙ first_none (number_finding count behind.0 account number)
          (journal_from count (cons_option number behind.0) more) (ap first_of same ∙ is),
    )

pub journal_off : (count : ℕ) (all : List Account) (made : List ℕ) (account : Account) (more : List Account)
    (finding : Finding) → first_of (number_finding count made account (commit_number account.fate)) ≡ Some finding
    → JournalBehind count all made (account ∷ more)
    → first_of (journal_from count [] all) ≡ Some finding
journal_off count all made account more finding is behind =
    let number = commit_number account.fate in
    let same = finding_alike count behind.0 made account number behind.1 in
    behind.2
    ∙ first_some (number_finding count behind.0 account number)
    (journal_from count (cons_option number behind.0) more) finding (ap first_of same ∙ is)

pub journal_done : (count : ℕ) (all : List Account) (made : List ℕ) → JournalBehind count all made []
    → first_of (journal_from count [] all) ≡ None
journal_done count all made behind = behind.2

-- ---- how many have committed

pub counted : (account : Account) (more : List Account) → has_committed account ≡ true
    → commit_count (account ∷ more) ≡ suc (commit_count more)
counted account more is = ap (λ b. length (cond b (account ∷ filter has_committed more) (filter has_committed more))) is

pub not_counted : (account : Account) (more : List Account) → has_committed account ≡ false
    → commit_count (account ∷ more) ≡ commit_count more
not_counted account more is =
    ap (λ b. length (cond b (account ∷ filter has_committed more) (filter has_committed more))) is

-- ---- the same over scripts and what is told of them

module _ (scripts : List Script) (told : List Told) (i : ℕ) where
  abbrev pub all : List Account
  all = accounts_from 1 scripts told

  abbrev pub CountedBefore : ℕ → ℕ → Type 0
  CountedBefore count k = commit_count all ≡ count + commit_count (accounts_behind scripts told k)

  pub counted_on : (count : ℕ) (t : Told) → i < length scripts → i < length told → t ≡ slice_index_or told i t
      → is_some (commit_number t.fate) ≡ true → CountedBefore count i → CountedBefore (count + 1) (i + 1)
  counted_on count t low low_told at is before =
      let here = behind_some scripts told i t low low_told in
      let own = ap (λ (x : Told). is_some (commit_number x.fate)) (sym at) ∙ is in
      let n : suc i ≡ i + 1 = omega arith in
      let more = commit_count (accounts_behind scripts told (suc i)) in
      let m : count + suc more ≡ (count + 1) + more = omega arith in
      subst (CountedBefore (count + 1)) n
      (before
      ∙ ap (λ xs. count + commit_count xs) here.1
      ∙ ap (λ k. count + k) (counted (account_of (suc i) here.0 (slice_index_or told i t))
      (accounts_behind scripts told (suc i)) own)
      ∙ m)

  pub counted_off : (count : ℕ) (t : Told) → i < length scripts → i < length told → t ≡ slice_index_or told i t
      → is_some (commit_number t.fate) ≡ false → CountedBefore count i → CountedBefore count (i + 1)
  counted_off count t low low_told at is before =
      let here = behind_some scripts told i t low low_told in
      let own = ap (λ (x : Told). is_some (commit_number x.fate)) (sym at) ∙ is in
      let n : suc i ≡ i + 1 = omega arith in
      subst (CountedBefore count) n
      (before
      ∙ ap (λ xs. count + commit_count xs) here.1
      ∙ ap (λ k. count + k) (not_counted (account_of (suc i) here.0 (slice_index_or told i t))
      (accounts_behind scripts told (suc i)) own))

  pub counted_all : (count : ℕ) → min (length scripts) (length told) ≤ i → CountedBefore count i
      → count ≡ commit_count all
  counted_all count over before =
      let none = ap (λ xs. count + commit_count xs) (nothing_behind scripts told i over) in
      let m : count + 0 ≡ count = omega arith in
      sym (before ∙ none ∙ m)

  abbrev pub JournalBefore : ℕ → List ℕ → ℕ → Type 0
  JournalBefore count made k = JournalBehind count all made (accounts_behind scripts told k)

  no_finding : (finding : Option Finding) → is_some finding ≡ false → finding ≡ None
  no_finding None is = refl
  no_finding (Some finding) is = cc (is)

  pub journal_more : (count : ℕ) (made more : List ℕ) (s : Script) (t : Told) (finding : Option Finding)
      → i < length scripts → i < length told → s ≡ slice_index_or scripts i s → t ≡ slice_index_or told i t
      → finding ≡ first_of (number_finding count made (account_of (i + 1) s t) (commit_number t.fate))
      → is_some finding ≡ false → more ≡ made ++ cons_option (commit_number t.fate) []
      → JournalBefore count made i → JournalBefore count more (i + 1)
  journal_more count made more s t finding low low_told at_s at_t is none is_more before =
      let n : i + 1 ≡ suc i = omega arith in
      let found = ap (λ k. first_of (number_finding count made (account_of k s t) (commit_number t.fate))) (sym n)
      ∙ sym is ∙ no_finding finding none in
      let here = behind_here scripts told i s t low low_told
      ∙ ap (λ x. account_of (suc i) x (slice_index_or told i t) ∷ accounts_behind scripts told (suc i)) (sym at_s)
      ∙ ap (λ x. account_of (suc i) s x ∷ accounts_behind scripts told (suc i)) (sym at_t) in
      let on = journal_on count all made (account_of (suc i) s t) (accounts_behind scripts told (suc i)) found
      (subst (JournalBehind count all made) here before) in
      subst (JournalBefore count more) (sym n)
      (subst (λ xs. JournalBefore count xs (suc i)) (sym is_more) on)

  pub journal_whole : (count : ℕ) (made : List ℕ) → min (length scripts) (length told) ≤ i → count ≡ commit_count all
      → JournalBefore count made i → first_of (journal_findings all) ≡ None
  journal_whole count made over counted before =
      ap (λ n. first_of (journal_from n [] all)) (sym counted)
      ∙ journal_done count all made
      (subst (JournalBehind count all made) (nothing_behind scripts told i over) before)
