-- The journal of a book is what its report tells of the transactions that committed.
use Rattle.std.proofs.Common.{◌≡◌, ℕ, zero, suc, ◌+◌, ◌≤◌, ◌==◌, Bool, true, false, cond, List, [], ◌∷◌, ◌++◌, map}
use Rattle.std.proofs.Common.{length, refl, sym, ap, subst, ◌∙◌, inl, inr, arith, Some, flat_map, slice_get}
use Rattle.std.specs.List.{AllByRecursion, filter, range_with_len}
use Rattle.std.proofs.lemmas.Bool.{eqb-true}
use Rattle.std.proofs.lemmas.Bool.Decides.{Decides-eqb}
use Rattle.std.proofs.lemmas.Cmp.{nat_eq_equiv}
use Rattle.std.proofs.lemmas.List.{length-map}
use Rattle.std.proofs.lemmas.Map.Made.{IsDistinct-from_AllPairs, length-le_from_is_member}
use Rattle.std.proofs.lemmas.Map.Views.{Contains-from_any, list_any-from_Contains}
use Rattle.ent_semantics.specs.declared.book.Book.{Book}
use Rattle.ent_semantics.specs.declared.book.Entry.{Entry}
use Rattle.ent_semantics.specs.declared.book.Fate.{Fate}
use Rattle.ent_semantics.specs.declared.book.Fate.TheVariants as fates
use Rattle.ent_semantics.specs.declared.book.Fated.{Fated}
use Rattle.ent_semantics.specs.Book.{IsEntryOf, JournalIsRight}
use Rattle.ent_semantics.specs.Database.{Database}
use Rattle.ent_semantics.specs.Serial.{numbered}
use Rattle.ent_book.specs.Report.{entry_answers, fate_answers}
use Rattle.ent_history.specs.Told.{commits, entries_of, entry_if, fates_from, has_committed, journal_of, told_fate}
use Rattle.ent_history.specs.Account.{commit_number, is_number}
use Rattle.ent_lists.specs.Elements.{In, Pairs, contains_in, in_contains, index_pairs, pairs_index}
use Rattle.ent_lists.specs.Elements.{pairs_mapped, got_in, number_itself, of_filter, of_map}
use Rattle.ent_lists.specs.Elements.{pairs_filtered, same_number, to_filter, to_map, NotBoth, only_one}

-- ---- numbers that differ

abbrev pub Differ : ℕ → ℕ → Type 0
Differ one other = one ≡ other → ⊥

-- those that differ and are among others are no more than those
pub no_more : (xs ys : List ℕ) → Pairs Differ xs → ((n : ℕ) → In n xs → In n ys) → length xs ≤ length ys
no_more xs ys apart inside =
    length-le_from_is_member nat_eq_equiv xs ys
    (IsDistinct-from_AllPairs Decides-eqb xs (pairs_index Differ xs apart))
    (λ q there. list_any-from_Contains nat_eq_equiv q ys
    (in_contains ys q (inside q (contains_in xs q (Contains-from_any eqb-true q xs there)))))

-- ---- numbers in a row

pub head_of : (x y : ℕ) (xs ys : List ℕ) → x ∷ xs ≡ y ∷ ys → x ≡ y
head_of x y xs ys e = cc

pub tail_of : (x y : ℕ) (xs ys : List ℕ) → x ∷ xs ≡ y ∷ ys → xs ≡ ys
tail_of x y xs ys e = cc

-- the fates are those of the transactions by number, from one on
abbrev pub AreFrom : ℕ → List Fated → Type 0
AreFrom tx fates = map (λ fated. fated.tx) fates ≡ range_with_len tx (length fates)

pub first_tx : (tx : ℕ) (fated : Fated) (more : List Fated) → AreFrom tx (fated ∷ more) → fated.tx ≡ tx
first_tx tx fated more e =
    head_of fated.tx tx (map (λ (f : Fated). f.tx) more) (range_with_len (tx + 1) (length more)) e

pub more_tx : (tx : ℕ) (fated : Fated) (more : List Fated) → AreFrom tx (fated ∷ more) → AreFrom (tx + 1) more
more_tx tx fated more e =
    tail_of fated.tx tx (map (λ (f : Fated). f.tx) more) (range_with_len (tx + 1) (length more)) e

pub fates_again : (journal : List Entry) (tx : ℕ) (fates : List Fated) → AreFrom tx fates
    → fates_from tx (map (told_fate journal) fates) ≡ fates
fates_again journal tx [] e = refl
fates_again journal tx (fated ∷ more) e =
    λ i. record { tx = sym (first_tx tx fated more e) i; fate = fated.fate }
    ∷ fates_again journal (tx + 1) more (more_tx tx fated more e) i

-- where each number has just its own element, they are all in order
later_number : (first k : ℕ) → (first + 1) + k ≡ first + suc k
later_number first k = omega arith

all_in_order : {X : Type 0} (f : ℕ → List X) (first : ℕ) (xs : List X)
    → ((k : ℕ) (x : X) → slice_get xs k ≡ Some x → f (first + k) ≡ x ∷ [])
    → flat_map f (range_with_len first (length xs)) ≡ xs
all_in_order f first [] own = refl
all_in_order f first (x ∷ xs) own =
    let here : first ≡ first + 0 = omega arith in
    let one : f first ≡ x ∷ [] = ap f here ∙ own 0 x refl in
    (λ i. one i ++ flat_map f (range_with_len (first + 1) (length xs)))
    ∙ ap (λ more. x ∷ more)
    (all_in_order f (first + 1) xs (λ k y e. ap f (later_number first k) ∙ own (suc k) y e))

-- the index of an element
pub index_of : {X : Type 0} (xs : List X) (x : X) → In x xs → (k : ℕ) × (slice_get xs k ≡ Some x)
index_of [] x at = absurd at
index_of (y ∷ ys) x (inl same) = (0, ap (λ z. Some z) (sym same))
index_of (y ∷ ys) x (inr at) = let r = index_of ys x at in (suc r.0, r.1)

-- ---- who committed with a number

abbrev committed_as : ℕ → Fated → Bool
committed_as number fated = is_number number (commit_number fated.fate)

committed_fate : (number : ℕ) (fate : Fate) → is_number number (commit_number fate) ≡ true
    → (runs : ℕ) × (fate ≡ fates.Committed number runs)
committed_fate number (fates.Committed own runs) is =
    (runs, ap (λ n. fates.Committed n runs) (same_number own number is))
committed_fate number (fates.GaveUp runs) is = cc (is)
committed_fate number (fates.RolledBack runs) is = cc (is)
committed_fate number (fates.Failed failure runs) is = cc (is)

some_number : (fate : Fate) → has_committed fate ≡ true
    → (number : ℕ) × (runs : ℕ) × (fate ≡ fates.Committed number runs)
some_number (fates.Committed number runs) is = (number, runs, refl)
some_number (fates.GaveUp runs) is = cc (is)
some_number (fates.RolledBack runs) is = cc (is)
some_number (fates.Failed failure runs) is = cc (is)

-- the entry that is told of a transaction
abbrev told_entry : List Entry → Fated → Entry
told_entry journal fated = record { tx = fated.tx; answers = fate_answers journal fated.fate }

first_entry : (journal : List Entry) (number tx own : ℕ) (fate : Fate) (rest : List Entry) (more : List Fated)
    → own ≡ tx → rest ≡ map (told_entry journal) more
    → entry_if number tx (told_fate journal (record { tx = own; fate = fate })) ++ rest
    ≡ map (told_entry journal)
    (cond (is_number number (commit_number fate)) (record { tx = own; fate = fate } ∷ more) more)
first_entry journal number tx own (fates.Committed n runs) rest more same e = by (n == number)
  where
    by : (b : Bool)
        → cond b (record { tx = tx; answers = fate_answers journal (fates.Committed n runs) } ∷ []) [] ++ rest
        ≡ map (told_entry journal) (cond b (record { tx = own; fate = fates.Committed n runs } ∷ more) more)
    by true = λ i. record { tx = sym same i; answers = fate_answers journal (fates.Committed n runs) } ∷ e i
    by false = e
first_entry journal number tx own (fates.GaveUp runs) rest more same e = e
first_entry journal number tx own (fates.RolledBack runs) rest more same e = e
first_entry journal number tx own (fates.Failed failure runs) rest more same e = e

entries_are : (journal : List Entry) (number tx : ℕ) (fates : List Fated) → AreFrom tx fates
    → entries_of number tx (map (told_fate journal) fates)
    ≡ map (told_entry journal) (filter (committed_as number) fates)
entries_are journal number tx [] e = refl
entries_are journal number tx (fated ∷ more) e =
    first_entry journal number tx fated.tx fated.fate
    (entries_of number (tx + 1) (map (told_fate journal) more)) (filter (committed_as number) more)
    (first_tx tx fated more e) (entries_are journal number (tx + 1) more (more_tx tx fated more e))

commits_are : (journal : List Entry) (fates : List Fated)
    → commits (map (told_fate journal) fates) ≡ length (filter (λ fated. has_committed fated.fate) fates)
commits_are journal [] = refl
commits_are journal (fated ∷ more) = by (has_committed fated.fate) (commits_are journal more)
  where
    by : (b : Bool)
        → commits (map (told_fate journal) more) ≡ length (filter (λ f. has_committed f.fate) more)
        → length (cond b (told_fate journal fated ∷ filter (λ told. has_committed told.fate)
        (map (told_fate journal) more))
        (filter (λ told. has_committed told.fate) (map (told_fate journal) more)))
        ≡ length (cond b (fated ∷ filter (λ f. has_committed f.fate) more)
        (filter (λ f. has_committed f.fate) more))
    by true rest = ap suc rest
    by false rest = rest

-- ---- the journal of a book

module _ (book : Book Database) (right : JournalIsRight book) where
  abbrev Other : Fated → Fated → Type 0
  Other first second = first.tx ≡ second.tx → ⊥

  abbrev Others : Entry → Entry → Type 0
  Others first second = first.tx ≡ second.tx → ⊥

  apart : Pairs Other book.fates
  apart = index_pairs Other book.fates right.one_fate

  entry_there : (k : ℕ) (entry : Entry) → slice_get book.journal k ≡ Some entry
      → IsEntryOf book.journal entry.tx (suc k)
  entry_there k entry at = (entry, at, refl)

  -- the entry of a transaction that committed
  pub its_entry : (fated : Fated) → In fated book.fates → (number runs : ℕ)
      → fated.fate ≡ fates.Committed number runs → IsEntryOf book.journal fated.tx number
  its_entry fated at number runs is =
      (right.committed fated.tx number).0 (
        runs,
        in_contains book.fates (record { tx = fated.tx; fate = fates.Committed number runs })
            (subst (λ (fate : Fate). In (record { tx = fated.tx; fate = fate }) book.fates) is at),
      )

  not_both : (number : ℕ) (one other : Fated) → In one book.fates → In other book.fates
      → committed_as number one ≡ true → committed_as number other ≡ true → one.tx ≡ other.tx
  not_both number one other at bt is too =
      let a = committed_fate number one.fate is in
      let b = committed_fate number other.fate too in
      let x = its_entry one at number a.0 a.1 in
      let y = its_entry other bt number b.0 b.1 in
      sym x.2 ∙ ap (λ (e : Entry). e.tx) (one_entry x.0 y.0 (sym x.1 ∙ y.1)) ∙ y.2
    where
      one_entry : (x y : Entry) → Some x ≡ Some y → x ≡ y
      one_entry x y e = cc

  apart_by : (number : ℕ) → Pairs (NotBoth (committed_as number)) book.fates
  apart_by number = among book.fates (λ f at. at) apart
    where
      among : (xs : List Fated) → ((f : Fated) → In f xs → In f book.fates) → Pairs Other xs
          → Pairs (NotBoth (committed_as number)) xs
      among [] inside pairs = tt
      among (x ∷ xs) inside pairs = (
        each xs (λ f at. inside f (inr at)) pairs.0,
        among xs (λ f at. inside f (inr at)) pairs.1,
      )
        where
          each : (ys : List Fated) → ((f : Fated) → In f ys → In f book.fates)
              → AllByRecursion (Other x) ys → AllByRecursion (NotBoth (committed_as number) x) ys
          each [] within all = tt
          each (y ∷ ys) within all = (
            λ is too. all.0 (not_both number x y (inside x (inl refl)) (within y (inl refl)) is too),
            each ys (λ f at. within f (inr at)) all.1,
          )

  entries_again : AreFrom 1 book.fates → (k : ℕ) (entry : Entry) → slice_get book.journal k ≡ Some entry
      → entries_of (1 + k) 1 (map (told_fate book.journal) book.fates) ≡ entry ∷ []
  entries_again from k entry at =
      let number : 1 + k ≡ suc k = omega arith in
      let own = (right.committed entry.tx (suc k)).1 (entry_there k entry at) in
      let fated : Fated = record { tx = entry.tx; fate = fates.Committed (suc k) own.0 } in
      let there = contains_in book.fates fated own.1 in
      ap (λ n. entries_of n 1 (map (told_fate book.journal) book.fates)) number
      ∙ entries_are book.journal (suc k) 1 book.fates from
      ∙ ap (map (told_entry book.journal))
      (only_one (committed_as (suc k)) book.fates fated (apart_by (suc k)) there (number_itself (suc k)))
      ∙ (λ i. record { tx = entry.tx; answers = entry_answers (at i) } ∷ [])

  -- ---- as many committed as have entries

  abbrev commits_of : List Fated
  commits_of = filter (λ fated. has_committed fated.fate) book.fates

  abbrev tx_of : Fated → ℕ
  tx_of fated = fated.tx

  abbrev entry_tx : Entry → ℕ
  entry_tx entry = entry.tx

  commits_apart : Pairs Differ (map tx_of commits_of)
  commits_apart =
      pairs_mapped tx_of Other Differ commits_of
      (pairs_filtered Other (λ fated. has_committed fated.fate) book.fates apart) (λ x y differ. differ)

  pub entries_apart : Pairs Differ (map entry_tx book.journal)
  entries_apart =
      pairs_mapped entry_tx Others Differ book.journal (index_pairs Others book.journal right.distinct)
      (λ x y differ. differ)

  from_commit : (n : ℕ) → In n (map tx_of commits_of) → In n (map entry_tx book.journal)
  from_commit n at =
      let one = of_map tx_of commits_of n at in
      let own = of_filter (λ (fated : Fated). has_committed fated.fate) book.fates one.0 one.1 in
      let number = some_number one.0.fate own.1 in
      let entry = its_entry one.0 own.0 number.0 number.1 number.2 in
      let there = got number.0 entry.0 entry.1 in
      subst (λ (tx : ℕ). In tx (map entry_tx book.journal)) (entry.2 ∙ sym one.2)
      (to_map entry_tx book.journal entry.0 there)
    where
      got : (number : ℕ) (entry : Entry) → numbered book.journal number ≡ Some entry → In entry book.journal
      got zero entry e = cc (e)
      got (suc k) entry e = got_in book.journal k entry e

  from_entry : (n : ℕ) → In n (map entry_tx book.journal) → In n (map tx_of commits_of)
  from_entry n at =
      let one = of_map entry_tx book.journal n at in
      let k = index_of book.journal one.0 one.1 in
      let own = (right.committed one.0.tx (suc k.0)).1 (entry_there k.0 one.0 k.1) in
      let fated : Fated = record { tx = one.0.tx; fate = fates.Committed (suc k.0) own.0 } in
      let there = contains_in book.fates fated own.1 in
      subst (λ (tx : ℕ). In tx (map tx_of commits_of)) (sym one.2)
      (to_map tx_of commits_of fated (to_filter (λ (f : Fated). has_committed f.fate) book.fates fated there refl))

  as_many : length book.journal ≡ length commits_of
  as_many =
      let low = no_more (map entry_tx book.journal) (map tx_of commits_of) entries_apart from_entry in
      let high = no_more (map tx_of commits_of) (map entry_tx book.journal) commits_apart from_commit in
      let journal = length-map book.journal entry_tx in
      let commits = length-map commits_of tx_of in
      omega (arith, low, high, journal, commits)

  pub journal_again : AreFrom 1 book.fates → journal_of (map (told_fate book.journal) book.fates) ≡ book.journal
  journal_again from =
      ap
      (λ count. flat_map (λ number. entries_of number 1 (map (told_fate book.journal) book.fates))
      (range_with_len 1 count))
      (commits_are book.journal book.fates ∙ sym as_many)
      ∙ all_in_order (λ number. entries_of number 1 (map (told_fate book.journal) book.fates)) 1 book.journal
      (entries_again from)
