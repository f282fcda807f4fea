-- The transactions that the report of a legal book tells.
use Rattle.std.proofs.Common.{◌≡◌, ℕ, zero, suc, ◌+◌, ◌≤◌, Bool, true, false, List, [], ◌∷◌, map, length, refl, sym, ap}
use Rattle.std.proofs.Common.{subst, ◌∙◌, inl, inr, arith, Some, slice_get, nat_lt}
use Rattle.std.specs.List.{AllByRecursion}
use Rattle.std.proofs.lemmas.Bool.{ltb-true, ltb-false}
use Rattle.std.proofs.lemmas.List.{length-map}
use Rattle.ent_tree.specs.declared.limits.TheConstants.{MOST_RUNS, MOST_SCRIPTS}
use Rattle.ent_tree.specs.declared.script.Script.{Script}
use Rattle.ent_semantics.specs.declared.book.Book.{Book}
use Rattle.ent_semantics.specs.declared.book.Entry.{Entry}
use Rattle.ent_semantics.specs.declared.book.Fate.{Fate}
use Rattle.ent_semantics.specs.declared.book.Fate.TheVariants as fates
use Rattle.ent_semantics.specs.declared.book.Fated.{Fated}
use Rattle.ent_semantics.specs.Book.{IsEntryOf, IsLegal}
use Rattle.ent_semantics.specs.Database.{Database}
use Rattle.ent_semantics.specs.Serial.{Turn, numbered}
use Rattle.ent_book.specs.Report.{entry_answers, fate_answers}
use Rattle.ent_history.specs.Told.{has_committed, told_fate}
use Rattle.ent_history.specs.Answers.{IsFate}
use Rattle.ent_history.specs.Parts.{IsNumber}
use Rattle.ent_lists.specs.Elements.{In, got_in, in_contains, of_all, of_map}
use Rattle.ent_semantics.proofs.Numbered.{numbered_low}
use Rattle.ent_report_laws.specs.Tellable.{AreAnswersTo, AreTransactionsOf, IsTransactionTold}
use Rattle.ent_program_laws.specs.Reportable.{CountsRuns}
use Rattle.ent_program_laws.proofs.Entries.{AreFrom, entries_apart, first_tx, head_of, its_entry, more_tx, no_more}
use Rattle.ent_program_laws.proofs.Entries.{tail_of}

-- ---- side by side

later_tx : (tx k : ℕ) → (tx + 1) + k ≡ tx + suc k
later_tx tx k = omega arith

-- the fate at an index is that of its number
tx_at : (tx : ℕ) (all : List Fated) → AreFrom tx all → (k : ℕ) (fated : Fated) → slice_get all k ≡ Some fated
    → fated.tx ≡ tx + k
tx_at tx [] from k fated at = cc (at)
tx_at tx (one ∷ more) from zero fated at =
    let here : tx ≡ tx + 0 = omega arith in
    ap (λ (f : Fated). f.tx) (sym (same one fated at)) ∙ first_tx tx one more from ∙ here
  where
    same : (one fated : Fated) → Some one ≡ Some fated → one ≡ fated
    same one fated e = cc
tx_at tx (one ∷ more) from (suc k) fated at =
    tx_at (tx + 1) more (more_tx tx one more from) k fated at ∙ later_tx tx k

abbrev EachTold : List Entry → List Script → List Fated → Type 0
EachTold journal scripts all =
    (k : ℕ) (script : Script) (fated : Fated) → slice_get scripts k ≡ Some script → slice_get all k ≡ Some fated
    → IsTransactionTold script (told_fate journal fated)

each_told : (journal : List Entry) (scripts : List Script) (all : List Fated) → length all ≡ length scripts
    → EachTold journal scripts all → AreTransactionsOf scripts (map (told_fate journal) all)
each_told journal [] [] counts each = tt
each_told journal [] (fated ∷ more) counts each = absurd (omega (arith, counts))
each_told journal (script ∷ scripts) [] counts each = absurd (omega (arith, counts))
each_told journal (script ∷ scripts) (fated ∷ more) counts each = (
  each 0 script fated refl refl,
  each_told journal scripts more (omega (arith, counts)) (λ k one other at there. each (suc k) one other at there),
)

-- the turn of an entry
turn_at : (turns : List Turn) (journal : List Entry) → map (λ (turn : Turn). turn.tx) turns
    ≡ map (λ (entry : Entry). entry.tx) journal → (k : ℕ) (entry : Entry) → slice_get journal k ≡ Some entry
    → (turn : Turn) × (slice_get turns k ≡ Some turn) × (turn.tx ≡ entry.tx)
turn_at [] [] same k entry at = cc (at)
turn_at [] (one ∷ more) same k entry at = cc (same)
turn_at (turn ∷ turns) [] same k entry at = cc (at)
turn_at (turn ∷ turns) (one ∷ more) same zero entry at =
    (turn, refl, head_of turn.tx one.tx _ _ same ∙ ap (λ (e : Entry). e.tx) (one_entry one entry at))
  where
    one_entry : (x y : Entry) → Some x ≡ Some y → x ≡ y
    one_entry x y e = cc
turn_at (turn ∷ turns) (one ∷ more) same (suc k) entry at =
    turn_at turns more (tail_of turn.tx one.tx _ _ same) k entry at

-- ---- numbers up to one

abbrev numbers_to : ℕ → List ℕ
numbers_to zero = 0 ∷ []
numbers_to (suc n) = suc n ∷ numbers_to n

numbers_count : (n : ℕ) → length (numbers_to n) ≡ suc n
numbers_count zero = refl
numbers_count (suc n) = ap suc (numbers_count n)

is_among : (n m : ℕ) → m ≤ n → In m (numbers_to n)
is_among zero m low = inl (omega (arith, low))
is_among (suc n) m low = by (nat_lt n m) refl (is_among n m)
  where
    by : (b : Bool) → nat_lt n m ≡ b → (m ≤ n → In m (numbers_to n)) → In m (suc n ∷ numbers_to n)
    by true e rest = let h = ltb-true n m e in inl (omega (arith, low, h))
    by false e rest = inr (rest (ltb-false n m e))

-- ---- the transactions of a book

-- the answers of each entry are those to the statements of its turn's script
abbrev pub AnswersAreRight : List Turn → List Entry → Type 0
AnswersAreRight turns journal =
    (k : ℕ) (turn : Turn) (entry : Entry) → slice_get turns k ≡ Some turn → slice_get journal k ≡ Some entry
    → AreAnswersTo turn.script.statements entry.answers

module _ (book : Book Database) (legal : IsLegal book) where
  one_script : (x y : Script) → Some x ≡ Some y → x ≡ y
  one_script x y e = cc

  positive : (number : ℕ) (entry : Entry) → numbered book.journal number ≡ Some entry
      → (k : ℕ) × (slice_get book.journal k ≡ Some entry)
  positive zero entry e = cc (e)
  positive (suc k) entry e = (k, e)

  answers_right : AnswersAreRight legal.turns book.journal → (script : Script) (tx number : ℕ)
      → numbered book.scripts tx ≡ Some script → IsEntryOf book.journal tx number
      → AreAnswersTo script.statements (entry_answers (numbered book.journal number))
  answers_right right script tx number own entry =
      let k = positive number entry.0 entry.1 in
      let turn = turn_at legal.turns book.journal legal.runs.in_order k.0 entry.0 k.1 in
      let its = legal.runs.own_scripts turn.0 (in_contains legal.turns turn.0 (got_in legal.turns k.0 turn.0 turn.1)) in
      let same : turn.0.script ≡ script =
      one_script turn.0.script script
      (sym its ∙ ap (numbered book.scripts) (turn.2 ∙ entry.2) ∙ own) in
      subst (λ o. AreAnswersTo script.statements (entry_answers o)) (sym entry.1)
      (subst (λ (s : Script). AreAnswersTo s.statements entry.0.answers) same
      (right k.0 turn.0 entry.0 turn.1 k.1))

  among : (n : ℕ) → In n (map (λ (e : Entry). e.tx) book.journal) → In n (numbers_to (length book.scripts))
  among n at =
      let one = of_map (λ (e : Entry). e.tx) book.journal n at in
      let script = legal.journal.of_list one.0 (in_contains book.journal one.0 one.1) in
      let low = numbered_low book.scripts one.0.tx script.0 script.1 in
      let same = one.2 in
      is_among (length book.scripts) n (omega (arith, low, same))

  -- no more committed than there are scripts
  few_entries : length book.scripts ≤ MOST_SCRIPTS → (number : ℕ) (entry : Entry)
      → numbered book.journal number ≡ Some entry → IsNumber number
  few_entries few number entry at =
      let low = numbered_low book.journal number entry at in
      let long = length-map book.journal (λ (e : Entry). e.tx) in
      let many = no_more (map (λ (e : Entry). e.tx) book.journal) (numbers_to (length book.scripts))
      (entries_apart book legal.journal) among in
      let count = numbers_count (length book.scripts) in
      omega (arith, low, long, many, count, few)

  is_fate : length book.scripts ≤ MOST_SCRIPTS → (tx : ℕ) (fate : Fate)
      → ((number runs : ℕ) → fate ≡ fates.Committed number runs → IsEntryOf book.journal tx number)
      → CountsRuns MOST_RUNS fate → IsFate fate
  is_fate few tx (fates.Committed number runs) entry are =
      let one = entry number runs refl in
      (few_entries few number one.0 one.1, are)
  is_fate few tx (fates.GaveUp runs) entry are = are
  is_fate few tx (fates.RolledBack runs) entry are = are
  is_fate few tx (fates.Failed failure runs) entry are = are

  answers_of : AnswersAreRight legal.turns book.journal → (script : Script) (tx : ℕ) (fate : Fate)
      → numbered book.scripts tx ≡ Some script
      → ((number runs : ℕ) → fate ≡ fates.Committed number runs → IsEntryOf book.journal tx number)
      → has_committed fate ≡ true → AreAnswersTo script.statements (fate_answers book.journal fate)
  answers_of right script tx (fates.Committed number runs) own entry is =
      answers_right right script tx number own (entry number runs refl)
  answers_of right script tx (fates.GaveUp runs) own entry is = cc (is)
  answers_of right script tx (fates.RolledBack runs) own entry is = cc (is)
  answers_of right script tx (fates.Failed failure runs) own entry is = cc (is)

  no_answers : (fate : Fate) → has_committed fate ≡ false → fate_answers book.journal fate ≡ []
  no_answers (fates.Committed number runs) is = cc (is)
  no_answers (fates.GaveUp runs) is = refl
  no_answers (fates.RolledBack runs) is = refl
  no_answers (fates.Failed failure runs) is = refl

  pub transactions_told : length book.scripts ≤ MOST_SCRIPTS → AreFrom 1 book.fates
      → length book.fates ≡ length book.scripts
      → AllByRecursion (λ fated. CountsRuns MOST_RUNS fated.fate) book.fates
      → AnswersAreRight legal.turns book.journal
      → AreTransactionsOf book.scripts (map (told_fate book.journal) book.fates)
  transactions_told few from counts runs right =
      each_told book.journal book.scripts book.fates counts (λ k script fated at there.
      let tx : fated.tx ≡ suc k = tx_at 1 book.fates from k fated there ∙ first k in
      let own : numbered book.scripts fated.tx ≡ Some script = ap (numbered book.scripts) tx ∙ at in
      let among = got_in book.fates k fated there in
      let entry = its_entry book legal.journal fated among in
      record {
        fate = is_fate few fated.tx fated.fate entry
            (of_all (λ (f : Fated). CountsRuns MOST_RUNS f.fate) book.fates fated runs among);
        committed = answers_of right script fated.tx fated.fate own entry;
        otherwise = no_answers fated.fate;
      })
    where
      first : (k : ℕ) → 1 + k ≡ suc k
      first k = omega arith
