-- What a log tells of a history of writes.
use Rattle.std.proofs.Common.{◌≡◌, ℕ, ◌==◌, ◌&&◌, Bool, true, false, cond, not, List, [], ◌∷◌, ◌++◌, filter, refl}
use Rattle.std.proofs.Common.{sym, ap, ◌∙◌, arith, Some}
use Rattle.std.specs.Prelude.{All, AllPairs}
use Rattle.std.specs.List.{find}
use Rattle.std.specs.Option.{option_map_or}
use Rattle.std.proofs.lemmas.Bool.Decides.{nat_tests}
use Rattle.std.proofs.lemmas.List.Elements.{All-head, All-tail, filter-append}
use Rattle.ent_lists.proofs.Lists.{pairs_head, pairs_tail}
use Rattle.ent_rel.specs.Relation.{Relation}
use Rattle.ent_undo.specs.Change.{Change, is_among, is_of, is_of_others, of_others, is_change_of, before_first_change}
use Rattle.ent_undo.specs.Writes.{Tables, Write, after_write, after_writes, change_by, changes_by, writes_of_others}
use Rattle.ent_undo.specs.Writes.{TellsOf, AreApart, RollsBackToFirstWrite, KeepsOtherTables, UndoesWrites}
use Rattle.ent_undo.specs.Writes.{TellsOnceNoted, TellsOnceForgotten, TellsOnceRolledBack}
use Rattle.ent_undo.proofs.Undoing.{before-older, before-other}

-- ---- lists

-- the first that passes two tests is among those that pass one
find-filter : {X : Type 0} (p q : X → Bool) (xs : List X)
    → find (λ x. p x && q x) (filter p xs) ≡ find (λ x. p x && q x) xs
find-filter p q [] = refl
find-filter {X} p q (x ∷ xs) = by (p x) refl (find-filter p q xs)
  where
    by : (b : Bool) → p x ≡ b → find (λ y. p y && q y) (filter p xs) ≡ find (λ y. p y && q y) xs
        → find (λ y. p y && q y) (cond b (x ∷ filter p xs) (filter p xs)) ≡ cond (p x && q x) (Some x)
        (find (λ y. p y && q y) xs)
    by true is rest = ap (λ o. cond (p x && q x) (Some x) o) rest
    by false is rest = rest ∙ sym (ap (λ b. cond (b && q x) (Some x) (find (λ y. p y && q y) xs)) is)

-- a filter behind another that lets more through
filter-filter : {X : Type 0} (p q : X → Bool) → ((x : X) → p x ≡ true → q x ≡ true) → (xs : List X)
    → filter p (filter q xs) ≡ filter p xs
filter-filter p q passes [] = refl
filter-filter {X} p q passes (x ∷ xs) = by (q x) refl (p x) refl (filter-filter p q passes xs)
  where
    by : (b : Bool) → q x ≡ b → (h : Bool) → p x ≡ h → filter p (filter q xs) ≡ filter p xs
        → filter p (cond b (x ∷ filter q xs) (filter q xs)) ≡ cond h (x ∷ filter p xs) (filter p xs)
    by true is h at rest = ap (λ c. cond c (x ∷ filter p (filter q xs)) (filter p (filter q xs))) at
        ∙ ap (λ ys. cond h (x ∷ ys) ys) rest
    by false is false at rest = rest
    by false is true at rest = let e = passes x at in cc

-- ---- one table

before-told : (members : List ℕ) (log : List Change) (opening : Tables) (writes : List Write) (table : ℕ)
    (present : Relation) → TellsOf members log opening writes
    → before_first_change members log table present ≡ before_first_change members (changes_by opening writes) table
    present
before-told members log opening writes table present tells =
    ap
    (λ o. option_map_or (λ (c : Change). c.before) o present)
    (sym (find-filter (is_of members) (λ c. c.table == table) log) ∙ ap (find (is_change_of members table)) tells
    ∙ find-filter (is_of members) (λ c. c.table == table) (changes_by opening writes))

-- a change of another table, or by others, is passed over
before-passed : (members : List ℕ) (c : Change) (changes : List Change) (table : ℕ) (present : Relation)
    → (c.table ≡ table → is_of members c ≡ false)
    → before_first_change members (c ∷ changes) table present ≡ before_first_change members changes table present
before-passed members c changes table present none = by (is_of members c) refl (c.table == table) refl
  where
    by : (b : Bool) → is_of members c ≡ b → (h : Bool) → (c.table == table) ≡ h
        → before_first_change members (c ∷ changes) table present ≡ before_first_change members changes table present
    by false is h at = before-other members c changes table present is
    by true is false at = before-older members c changes table present is
        ∙ ap (λ x. cond x c.before (before_first_change members changes table present)) at
    by true is true at =
        let here : c.table ≡ table = grind (arith, nat_tests) in
        let e = none here in
        cc

-- a write is of another table, or by others
Misses : List ℕ → ℕ → Write → Type 0
Misses members table w = w.table ≡ table → is_among members w.tx ≡ false

-- a write is of another table, or by these transactions
IsTheirs : List ℕ → ℕ → Write → Type 0
IsTheirs members table w = w.table ≡ table → is_among members w.tx ≡ true

-- a write does not come between one of these transactions' and its rollback
KeepsOff : List ℕ → Write → Write → Type 0
KeepsOff members earlier later = is_among members earlier.tx ≡ true → later.table ≡ earlier.table
    → is_among members later.tx ≡ true

module _ (members : List ℕ) where
  first_stands : (opening : Tables) (earlier later : List Write) (first : Write) (present : Relation)
      → is_among members first.tx ≡ true → All (Misses members first.table) earlier
      → before_first_change members (changes_by opening (earlier ++ first ∷ later)) first.table present ≡ after_writes
      opening earlier first.table
  unfolding Misses
  first_stands opening [] later first present mine none =
      let here : (first.table == first.table) ≡ true = grind (arith, nat_tests) in
      let changes = changes_by (after_write opening first) later in
      before-older members (change_by opening first) changes first.table present mine
      ∙ ap (λ b. cond b (opening first.table) (before_first_change members changes first.table present)) here
  first_stands opening (w ∷ earlier) later first present mine none =
      before-passed members (change_by opening w) (changes_by (after_write opening w) (earlier ++ first ∷ later))
      first.table present (All-head (Misses members first.table) w earlier none)
      ∙ first_stands (after_write opening w) earlier later first present mine
      (All-tail (Misses members first.table) w earlier none)

  none_stands : (opening : Tables) (writes : List Write) (table : ℕ) (present : Relation)
      → All (Misses members table) writes
      → before_first_change members (changes_by opening writes) table present ≡ present
  unfolding Misses
  none_stands opening [] table present none = refl
  none_stands opening (w ∷ writes) table present none =
      before-passed members (change_by opening w) (changes_by (after_write opening w) writes) table present
      (All-head (Misses members table) w writes none)
      ∙ none_stands (after_write opening w) writes table present (All-tail (Misses members table) w writes none)

  -- where all writes of a table are theirs, the others' leave it
  others_leave : (opening : Tables) (writes : List Write) (table : ℕ) → All (IsTheirs members table) writes
      → after_writes opening (writes_of_others members writes) table ≡ opening table
  unfolding IsTheirs
  others_leave opening [] table theirs = refl
  others_leave opening (w ∷ writes) table theirs =
      let rest = All-tail (IsTheirs members table) w writes theirs in
      by (is_among members w.tx) refl (w.table == table) refl (λ o. others_leave o writes table rest)
    where
      by : (b : Bool) → is_among members w.tx ≡ b → (h : Bool) → (w.table == table) ≡ h
          → ((o : Tables) → after_writes o (writes_of_others members writes) table ≡ o table)
          → after_writes opening (cond (not b) (w ∷ writes_of_others members writes) (writes_of_others members writes))
          table ≡ opening table
      by true is h at rest = rest opening
      by false is false at rest = rest (after_write opening w) ∙ ap (λ x. cond x w.after (opening table)) at
      by false is true at rest =
          let here : w.table ≡ table = grind (arith, nat_tests) in
          let e = All-head (IsTheirs members table) w writes theirs here in
          cc

  -- what stands at a table depends on what stood there
  after_writes-same : (left right : Tables) (writes : List Write) (table : ℕ) → left table ≡ right table
      → after_writes left writes table ≡ after_writes right writes table
  after_writes-same left right [] table same = same
  after_writes-same left right (w ∷ writes) table same =
      after_writes-same (after_write left w) (after_write right w) writes table
      (ap (cond (w.table == table) w.after) same)

  alone_stands : (opening : Tables) (writes : List Write) (table : ℕ) → AllPairs (KeepsOff members) writes
      → before_first_change members (changes_by opening writes) table (after_writes opening writes table) ≡ after_writes
      opening (writes_of_others members writes) table
  unfolding KeepsOff IsTheirs
  alone_stands opening [] table alone = refl
  alone_stands opening (w ∷ writes) table alone =
      by (is_among members w.tx) refl (w.table == table) refl
      (alone_stands (after_write opening w) writes table (pairs_tail (KeepsOff members) w writes alone))
    where
      by : (b : Bool) → is_among members w.tx ≡ b → (h : Bool) → (w.table == table) ≡ h
          → before_first_change members (changes_by (after_write opening w) writes) table
          (after_writes (after_write opening w) writes table) ≡ after_writes (after_write opening w)
          (writes_of_others members writes) table
          → before_first_change members (change_by opening w ∷ changes_by (after_write opening w) writes) table
          (after_writes (after_write opening w) writes table)
          ≡ after_writes opening (cond (not b) (w ∷ writes_of_others members writes) (writes_of_others members writes))
          table
      by false is h at rest = before-other members (change_by opening w) (changes_by (after_write opening w) writes)
          table (after_writes (after_write opening w) writes table) is ∙ rest
      by true is false at rest =
          before-older members (change_by opening w) (changes_by (after_write opening w) writes) table
          (after_writes (after_write opening w) writes table) is
          ∙ ap (λ x. cond x (opening w.table)
          (before_first_change members (changes_by (after_write opening w) writes) table
          (after_writes (after_write opening w) writes table))) at
          ∙ rest
          ∙ after_writes-same (after_write opening w) opening (writes_of_others members writes) table
          (ap (λ x. cond x w.after (opening table)) at)
      by true is true at rest =
          let here : w.table ≡ table = grind (arith, nat_tests) in
          let theirs : All (IsTheirs members table) writes =
          λ k d lt same. pairs_head (KeepsOff members) w writes alone k d lt is (same ∙ sym here) in
          before-older members (change_by opening w) (changes_by (after_write opening w) writes) table
          (after_writes (after_write opening w) writes table) is
          ∙ ap (λ x. cond x (opening w.table)
          (before_first_change members (changes_by (after_write opening w) writes) table
          (after_writes (after_write opening w) writes table))) at
          ∙ ap opening here
          ∙ sym (others_leave opening writes table theirs)

  -- the changes by others where all writes of a table are theirs do not show what stood there
  changes-same : (left right : Tables) (writes : List Write) (table : ℕ) → All (IsTheirs members table) writes
      → ((i : ℕ) → (table == i) ≡ false → left i ≡ right i)
      → changes_by left (writes_of_others members writes) ≡ changes_by right (writes_of_others members writes)
  unfolding IsTheirs
  changes-same left right [] table theirs same = refl
  changes-same left right (w ∷ writes) table theirs same =
      let rest = All-tail (IsTheirs members table) w writes theirs in
      by (is_among members w.tx) refl (table == w.table) refl (λ l r s. changes-same l r writes table rest s)
    where
      by : (b : Bool) → is_among members w.tx ≡ b → (h : Bool) → (table == w.table) ≡ h
          → ((l r : Tables) → ((i : ℕ) → (table == i) ≡ false → l i ≡ r i)
          → changes_by l (writes_of_others members writes) ≡ changes_by r (writes_of_others members writes))
          → changes_by left (cond (not b) (w ∷ writes_of_others members writes) (writes_of_others members writes))
          ≡ changes_by right (cond (not b) (w ∷ writes_of_others members writes) (writes_of_others members writes))
      by true is h at rest = rest left right same
      by false is false at rest =
          let here = same w.table at in
          let behind = rest (after_write left w) (after_write right w)
          (λ i apart. ap (cond (w.table == i) w.after) (same i apart)) in
          let c : Change = change_by right w in
          ap (λ x. record { tx = w.tx; table = w.table; before = x } ∷ changes_by (after_write left w)
          (writes_of_others members writes)) here ∙ ap (λ cs. c ∷ cs) behind
      by false is true at rest =
          let here : w.table ≡ table = grind (arith, nat_tests) in
          let e = All-head (IsTheirs members table) w writes theirs here in
          cc

  -- without their changes, those that are left are those of the history without their writes
  others_alone : (opening : Tables) (writes : List Write) → AllPairs (KeepsOff members) writes
      → of_others members (changes_by opening writes) ≡ changes_by opening (writes_of_others members writes)
  unfolding KeepsOff IsTheirs
  others_alone opening [] alone = refl
  others_alone opening (w ∷ writes) alone =
      by (is_among members w.tx) refl
      (others_alone (after_write opening w) writes (pairs_tail (KeepsOff members) w writes alone))
    where
      by : (b : Bool) → is_among members w.tx ≡ b
          → of_others members (changes_by (after_write opening w) writes) ≡ changes_by (after_write opening w)
          (writes_of_others members writes)
          → cond (not b) (change_by opening w ∷ of_others members (changes_by (after_write opening w) writes))
          (of_others members (changes_by (after_write opening w) writes))
          ≡ changes_by opening (cond (not b) (w ∷ writes_of_others members writes) (writes_of_others members writes))
      by false is rest = ap (λ cs. change_by opening w ∷ cs) rest
      by true is rest =
          let theirs : All (IsTheirs members w.table) writes =
          λ k d lt same. pairs_head (KeepsOff members) w writes alone k d lt is same in
          rest ∙ changes-same (after_write opening w) opening writes w.table theirs
          (λ i apart. ap (λ x. cond x w.after (opening i)) apart)

-- ---- the laws

pub rolls_back_to_first_write : RollsBackToFirstWrite
unfolding Misses
rolls_back_to_first_write members log opening earlier later first present tells mine none =
    before-told members log opening (earlier ++ first ∷ later) first.table present tells
    ∙ first_stands members opening earlier later first present mine none

pub keeps_other_tables : KeepsOtherTables
unfolding Misses
keeps_other_tables members log opening writes table present tells none =
    before-told members log opening writes table present tells ∙ none_stands members opening writes table present none

pub undoes_writes : UndoesWrites
unfolding KeepsOff
undoes_writes members log opening writes table tells alone =
    before-told members log opening writes table (after_writes opening writes table) tells
    ∙ alone_stands members opening writes table alone

changes_by-push : (opening : Tables) (writes : List Write) (w : Write)
    → changes_by opening (writes ++ w ∷ []) ≡ changes_by opening writes ++ change_by (after_writes opening writes)
    w ∷ []
changes_by-push opening [] w = refl
changes_by-push opening (v ∷ writes) w =
    ap (λ cs. change_by opening v ∷ cs) (changes_by-push (after_write opening v) writes w)

pub tells_once_noted : TellsOnceNoted
tells_once_noted members log opening writes w tells =
    let c : Change = change_by (after_writes opening writes) w in
    filter-append (is_of members) log (c ∷ [])
    ∙ ap (λ cs. cs ++ filter (is_of members) (c ∷ [])) tells
    ∙ sym (filter-append (is_of members) (changes_by opening writes) (c ∷ []))
    ∙ ap (filter (is_of members)) (sym (changes_by-push opening writes w))

apart_pass : (members gone : List ℕ) → AreApart members gone → (c : Change) → is_of members c ≡ true
    → is_of_others gone c ≡ true
apart_pass members gone apart c mine = ap not (apart c.tx mine)

pub tells_once_forgotten : TellsOnceForgotten
tells_once_forgotten members gone log opening writes apart tells =
    filter-filter (is_of members) (is_of_others gone) (apart_pass members gone apart) log ∙ tells

filter-exchange : {X : Type 0} (p q : X → Bool) (xs : List X) → filter p (filter q xs) ≡ filter q (filter p xs)
filter-exchange p q [] = refl
filter-exchange {X} p q (x ∷ xs) = by (q x) refl (p x) refl (filter-exchange p q xs)
  where
    by : (b : Bool) → q x ≡ b → (h : Bool) → p x ≡ h → filter p (filter q xs) ≡ filter q (filter p xs)
        → filter p (cond b (x ∷ filter q xs) (filter q xs)) ≡ filter q (cond h (x ∷ filter p xs) (filter p xs))
    by true is true at rest =
        ap (λ c. cond c (x ∷ filter p (filter q xs)) (filter p (filter q xs))) at
        ∙ ap (λ ys. x ∷ ys) rest
        ∙ sym (ap (λ c. cond c (x ∷ filter q (filter p xs)) (filter q (filter p xs))) is)
    by true is false at rest = ap (λ c. cond c (x ∷ filter p (filter q xs)) (filter p (filter q xs))) at ∙ rest
    by false is true at rest = rest ∙ sym (ap (λ c. cond c (x ∷ filter q (filter p xs)) (filter q (filter p xs))) is)
    by false is false at rest = rest

pub tells_once_rolled_back : TellsOnceRolledBack
unfolding KeepsOff
tells_once_rolled_back members gone log opening writes alone tells =
    filter-exchange (is_of members) (is_of_others gone) log
    ∙ ap (filter (is_of_others gone)) tells
    ∙ filter-exchange (is_of_others gone) (is_of members) (changes_by opening writes)
    ∙ ap (filter (is_of members)) (others_alone gone opening writes alone)
