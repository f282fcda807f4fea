-- The two friends' book is legal.
use Rattle.std.proofs.Common.{◌≡◌, ◌⊎◌, inl, inr, ℕ, zero, suc, true, ◌&&◌, List, [], ◌∷◌, ◌++◌, map, refl}
use Rattle.std.proofs.Common.{sym, ap, subst, ◌∙◌, arith, Some, None}
use Rattle.std.specs.Prelude.{pos, codes, Contains, ◌≢◌}
use Rattle.std.specs.List.{filter, flat_map, list_any}
use Rattle.std.specs.Ordering.{eq_by_cmp}
use Rattle.ent_lists.specs.Laws.{ascending-from_list, contains-from_list}
use Rattle.ent_lists.specs.Sets as set
use Rattle.ent_value.specs.Order.{rows_total, exact_rows}
use Rattle.ent_value.specs.Value.{row_cmp}
use Rattle.ent_value.specs.declared.value.Value.{Value}
use Rattle.ent_value.specs.declared.value.Value.TheVariants.{Int, Text}
use Rattle.ent_tree.specs.declared.script.Script.{Script}
use Rattle.ent_semantics.specs.declared.answer.Answer.TheVariants as answers
use Rattle.ent_semantics.specs.declared.answer.Fact.{Fact}
use Rattle.ent_semantics.specs.declared.book.Entry.{Entry}
use Rattle.ent_semantics.specs.declared.book.Fate.{Fate}
use Rattle.ent_semantics.specs.declared.book.Fate.TheVariants.{Committed}
use Rattle.ent_semantics.specs.declared.book.Fated.{Fated}
use Rattle.ent_semantics.specs.declared.book.JointAnswer.{JointAnswer}
use Rattle.ent_semantics.specs.declared.book.Member.{Member}
use Rattle.ent_semantics.specs.Book.{IsLegal, JournalIsRight, RunGivesBook, HasCommitted, IsEntryOf, AreApart}
use Rattle.ent_semantics.specs.Database.{Environment, opening_database, nothing_bound}
use Rattle.ent_semantics.specs.Entangled.{is_grounding, Valuation}
use Rattle.ent_semantics.specs.Joint.{IsGood, IsOffered, IsGrounded, member_of, read_view_posts, read_view_heads}
use Rattle.ent_semantics.specs.Selection.{meets, item_row, select_worth, select_rows}
use Rattle.ent_semantics.specs.Serial.{ReadView, Turn, numbered}
use Rattle.ent_examples.specs.Partners.{LA, Mickey, Minnie, flight_122}
use Rattle.ent_examples.specs.Friends.{friends_opening, friends_scripts, flies_with, alone}
use Rattle.ent_examples.specs.Friends.{flight_136, good_book, takes, together, flies}
use Rattle.ent_examples.specs.Written.{to_LA}
use Rattle.ent_examples.proofs.PartnersPool.{one_case, two_cases}
use Rattle.ent_examples.proofs.Lists.{two_apart}

abbrev flights : List (List Value)
flights =
    (flight_122 ∷ LA ∷ []) ∷ (Int (pos 123) ∷ LA ∷ []) ∷ (flight_136 ∷ Text (codes "Paris") ∷ []) ∷ []

sorted : set.ascending (opening_database friends_opening (codes "Flights")) ≡ flights
sorted = ascending-from_list rows_total exact_rows flights tt

abbrev pub LA_flights : List (List Value)
LA_flights = (flight_122 ∷ []) ∷ (Int (pos 123) ∷ []) ∷ []

rows_to_LA : (environment : Environment)
    → select_rows friends_opening.tables (opening_database friends_opening) environment to_LA ≡ set.from_list LA_flights
rows_to_LA environment =
    ap (λ (rows : List (List Value)).
    set.from_list (map (item_row (select_worth friends_opening.tables environment to_LA) to_LA.items)
    (filter (meets (select_worth friends_opening.tables environment to_LA) to_LA.tests)
    (flat_map (λ row. map (λ others. row ++ others) ([] ∷ [])) rows)))) sorted

-- a friend's statement is grounded with a flight where it goes to LA
pub grounds : (environment : Environment) (own partner number : Value)
    → is_grounding friends_opening.tables (opening_database friends_opening) environment (flies_with own partner)
    (number ∷ []) ≡ (list_any (eq_by_cmp row_cmp (number ∷ [])) LA_flights && true)
grounds environment own partner number =
    ap (λ rows. set.contains rows (number ∷ []) && true) (rows_to_LA environment)
    ∙ ap (λ b. b && true) (contains-from_list rows_total exact_rows LA_flights (number ∷ []))

abbrev pub turn : ℕ → Value → Value → List Valuation → Turn
turn tx own partner oracle = record { tx = tx; script = alone (flies_with own partner); oracle = oracle }

abbrev pub turns_of : Value → List Turn
turns_of number =
    turn 1 Mickey Minnie ((number ∷ []) ∷ []) ∷ turn 2 Minnie Mickey ((number ∷ []) ∷ []) ∷ []

abbrev pub read_view : ℕ → Value → Value → Valuation → ReadView
read_view tx own partner valuation =
    record {
      tx = tx;
      place = 1;
      valuation = valuation;
      entangled = flies_with own partner;
      database = opening_database friends_opening;
      environment = nothing_bound;
    }

-- ---- the journal

pub own_scripts : (x : Turn) → Contains (turns_of flight_122) x → numbered friends_scripts x.tx ≡ Some x.script
own_scripts x there = of (two_cases _ _ x there)
  where
    of : ((x ≡ turn 1 Mickey Minnie ((flight_122 ∷ []) ∷ [])) ⊎ (x ≡ turn 2 Minnie Mickey ((flight_122 ∷ []) ∷ [])))
        → numbered friends_scripts x.tx ≡ Some x.script
    of (inl e) = subst (λ (t : Turn). numbered friends_scripts t.tx ≡ Some t.script) (sym e) refl
    of (inr e) = subst (λ (t : Turn). numbered friends_scripts t.tx ≡ Some t.script) (sym e) refl

pub run_gives : RunGivesBook good_book (turns_of flight_122)
run_gives = record { in_order = refl; own_scripts = own_scripts; run = refl }

pub one_not_two : ◌≡◌ {A = ℕ} 1 2 → ⊥
one_not_two e = omega arith

abbrev number_of_fate : Fate → ℕ
number_of_fate (Committed number runs) = number
number_of_fate other = 0

abbrev entry_of : ℕ → Value → Entry
entry_of tx name = record { tx = tx; answers = answers.Heads (flies name flight_122 ∷ []) ∷ [] }

abbrev fated : ℕ → Fated
fated tx = record { tx = tx; fate = Committed tx 1 }

committed_to : (tx number : ℕ) → HasCommitted good_book.fates tx number → IsEntryOf good_book.journal tx number
committed_to tx number h =
    of (two_cases (fated 1) (fated 2) (record { tx = tx; fate = Committed number h.0 }) h.1)
  where
    at : (entry : Entry) (own : ℕ) → numbered good_book.journal own ≡ Some entry → entry.tx ≡ own
        → tx ≡ own → number ≡ own → IsEntryOf good_book.journal tx number
    at entry own there is e f =
        (entry, ap (λ n. numbered good_book.journal n) f ∙ there, is ∙ sym e)

    of : (record { tx = tx; fate = Committed number h.0 } ≡ fated 1)
        ⊎ (record { tx = tx; fate = Committed number h.0 } ≡ fated 2) → IsEntryOf good_book.journal tx number
    of (inl e) = at (entry_of 1 Mickey) 1 refl refl (ap (λ (f : Fated). f.tx) e)
        (ap (λ (f : Fated). number_of_fate f.fate) e)
    of (inr e) = at (entry_of 2 Minnie) 2 refl refl (ap (λ (f : Fated). f.tx) e)
        (ap (λ (f : Fated). number_of_fate f.fate) e)

some_entry : (one other : Entry) → Some one ≡ Some other → one ≡ other
some_entry one other e = cc

committed_from : (tx number : ℕ) → IsEntryOf good_book.journal tx number → HasCommitted good_book.fates tx number
committed_from tx zero h = absurd (nothing h.0 h.1)
  where
    nothing : (entry : Entry) → None ≡ Some entry → ⊥
    nothing entry e = cc
committed_from tx (suc zero) h =
    let is : 1 ≡ tx = ap (λ (e : Entry). e.tx) (some_entry (entry_of 1 Mickey) h.0 h.1) ∙ h.2 in
    (1, (0, omega arith, λ i. record { tx = is i; fate = Committed 1 1 }))
committed_from tx (suc (suc zero)) h =
    let is : 2 ≡ tx = ap (λ (e : Entry). e.tx) (some_entry (entry_of 2 Minnie) h.0 h.1) ∙ h.2 in
    (1, (1, omega arith, λ i. record { tx = is i; fate = Committed 2 1 }))
committed_from tx (suc (suc (suc k))) h = absurd (nothing h.0 h.1)
  where
    nothing : (entry : Entry) → None ≡ Some entry → ⊥
    nothing entry e = cc

journal_right : JournalIsRight good_book
journal_right =
    record {
      distinct = two_apart (λ (first second : Entry). first.tx ≢ second.tx) (entry_of 1 Mickey) (entry_of 2 Minnie)
          one_not_two;
      of_list = λ entry there. of entry (two_cases (entry_of 1 Mickey) (entry_of 2 Minnie) entry there);
      one_fate = two_apart (λ (first second : Fated). first.tx ≢ second.tx) (fated 1) (fated 2) one_not_two;
      committed = λ tx number. (committed_to tx number, committed_from tx number);
    }
  where
    of : (entry : Entry) → (entry ≡ entry_of 1 Mickey) ⊎ (entry ≡ entry_of 2 Minnie)
        → (script : Script) × (numbered good_book.scripts entry.tx ≡ Some script)
    of entry (inl e) = (alone (flies_with Mickey Minnie), ap (λ (x : Entry). numbered friends_scripts x.tx) e)
    of entry (inr e) = (alone (flies_with Minnie Mickey), ap (λ (x : Entry). numbered friends_scripts x.tx) e)

-- ---- the joint answer

abbrev mickeys : ReadView
mickeys = read_view 1 Mickey Minnie (flight_122 ∷ [])

abbrev minnies : ReadView
minnies = read_view 2 Minnie Mickey (flight_122 ∷ [])

abbrev seen : List ReadView
seen = mickeys ∷ minnies ∷ []

-- what holds of both holds of each that is seen
of_both : (P : ReadView → Type 0) → P mickeys → P minnies → (s : ReadView) → Contains seen s → P s
of_both P h k s there = of (two_cases mickeys minnies s there)
  where
    of : (s ≡ mickeys) ⊎ (s ≡ minnies) → P s
    of (inl e) = subst P (sym e) h
    of (inr e) = subst P (sym e) k

abbrev members : List Member
members = takes 1 flight_122 ∷ takes 2 flight_122 ∷ []

stands : (s : ReadView) → Contains seen s → Contains members (member_of s)
stands = of_both (λ s. Contains members (member_of s)) (0, omega arith, refl) (1, omega arith, refl)

each_is_seen : (member : Member) → Contains members member
    → (s : ReadView) × Contains seen s × (member ≡ member_of s)
each_is_seen member there = of (two_cases (takes 1 flight_122) (takes 2 flight_122) member there)
  where
    of : (member ≡ takes 1 flight_122) ⊎ (member ≡ takes 2 flight_122)
        → (s : ReadView) × Contains seen s × (member ≡ member_of s)
    of (inl e) = (mickeys, (0, omega arith, refl), e)
    of (inr e) = (minnies, (1, omega arith, refl), e)

met_by : (s partner : ReadView) → Contains seen partner → (fact : Fact) → read_view_posts s ≡ fact ∷ []
    → Contains (read_view_heads partner) fact → (post : Fact) → Contains (read_view_posts s) post
    → IsOffered seen members post
met_by s partner there fact is offers post asked =
    let same : post ≡ fact = one_case fact post (subst (λ posts. Contains posts post) is asked) in
    (partner, (there, stands partner there), subst (λ f. Contains (read_view_heads partner) f) (sym same) offers)

pub together_good : IsGood friends_opening.tables seen members
together_good =
    record {
      some = λ e. nothing e;
      distinct = two_apart (λ (first second : Member). first.tx ≢ second.tx) (takes 1 flight_122) (takes 2 flight_122)
          one_not_two;
      of_run = each_is_seen;
      grounded = λ s h. of_both (IsGrounded friends_opening.tables) (grounds nothing_bound Mickey Minnie flight_122)
          (grounds nothing_bound Minnie Mickey flight_122) s h.0;
      met = λ s h. of_both (λ x. (post : Fact) → Contains (read_view_posts x) post → IsOffered seen members post)
          (met_by mickeys minnies (1, omega arith, refl) (flies Minnie flight_122) refl (0, omega arith, refl))
          (met_by minnies mickeys (0, omega arith, refl) (flies Mickey flight_122) refl (0, omega arith, refl)) s h.0;
    }
  where
    nothing : members ≡ [] → ⊥
    nothing e = cc

pub good_is_legal : IsLegal good_book
good_is_legal =
    record {
      journal = journal_right;
      turns = turns_of flight_122;
      runs = run_gives;
      answered = stands;
      once = two_apart AreApart (takes 1 flight_122) (takes 2 flight_122) (λ e _. one_not_two e);
      no_widow = each_is_seen;
      good = λ joint there. subst (λ (x : JointAnswer). IsGood friends_opening.tables seen x.members)
          (sym (one_case (together flight_122) joint there)) together_good;
    }
