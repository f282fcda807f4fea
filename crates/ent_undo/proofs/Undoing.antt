-- One record put back, from the newest on.
use Rattle.std.proofs.Common.{◌≡◌, ℕ, ◌+◌, ◌<◌, ◌≤◌, ◌==◌, ◌&&◌, Bool, true, false, cond, not, List, [], ◌∷◌, length}
use Rattle.std.proofs.Common.{set, get_or, take, drop, map, filter, refl, sym, ap, ◌∙◌, arith, Option, Some, None}
use Rattle.std.specs.List.{slice_get, enumerate_from, find}
use Rattle.std.specs.Option.{option_map, option_map_or}
use Rattle.std.specs.Arc.{arc_value}
use Rattle.std.proofs.lemmas.List.{drop_more, get_or-take, get_or-map, take-take, take-set, map-set}
use Rattle.ent_rel.specs.Relation.{Relation}
use Rattle.ent_undo.specs.Change.{Change, is_among, is_of, is_of_others, of_others, is_change_of, before_first_change}
use Rattle.ent_undo.specs.Change.{put_back, rolled_back}
use Rattle.ent_undo.specs.Writes.{RollsBackNewestFirst}
use Rattle.ent_undo.specs.Records.{change_of, changes_in}
use Rattle.ent_undo.specs.declared.undo_log.UndoRecord.{UndoRecord}
use Rattle.ent_undo.proofs.Lists.{same_places, slice_get-set, slice_get-enumerate, filter-set}

-- each table that is rolled back
pub slice_get-rolled_back : (members : List ℕ) (changes : List Change) (tables : List Relation) (i : ℕ)
    → slice_get (rolled_back members changes tables) i ≡ option_map (before_first_change members changes i)
    (slice_get tables i)
slice_get-rolled_back members changes tables i =
    let e : 0 + i ≡ i = omega arith in
    slice_get-enumerate (before_first_change members changes) 0 tables i
    ∙ ap (λ m. option_map (before_first_change members changes m) (slice_get tables i)) e

-- an older change of these transactions hides the later ones of its table
pub before-older : (members : List ℕ) (c : Change) (changes : List Change) (i : ℕ) (present : Relation)
    → is_of members c ≡ true
    → before_first_change members (c ∷ changes) i present ≡ cond (c.table == i) c.before
    (before_first_change members changes i present)
before-older members c changes i present mine = by (is_of members c) mine (c.table == i)
  where
    by : (b : Bool) → b ≡ true → (h : Bool)
        → option_map_or (λ x. x.before) (cond (b && h) (Some c) (find (is_change_of members i) changes))
        present ≡ cond h c.before (before_first_change members changes i present)
    by true is true = refl
    by true is false = refl
    by false is h = cc

pub before-other : (members : List ℕ) (c : Change) (changes : List Change) (i : ℕ) (present : Relation)
    → is_of members c ≡ false
    → before_first_change members (c ∷ changes) i present ≡ before_first_change members changes i present
before-other members c changes i present other =
    ap (λ b. option_map_or (λ (x : Change). x.before)
    (cond (b && (c.table == i)) (Some c) (find (is_change_of members i) changes)) present) other

map_twice : {X : Type 0} (f g h : X → X) (o : Option X) → ((x : X) → f (g x) ≡ h x)
    → option_map f (option_map g o) ≡ option_map h o
map_twice f g h None same = refl
map_twice f g h (Some x) same = ap Some (same x)

pub rolled_back-older : (members : List ℕ) (c : Change) (changes : List Change) (tables : List Relation)
    → is_of members c ≡ true
    → rolled_back members (c ∷ changes) tables ≡ set (rolled_back members changes tables) c.table c.before
rolled_back-older members c changes tables mine =
    same_places _ _ (λ i.
    let f : Relation → Relation = λ x. cond (c.table == i) c.before x in
    slice_get-rolled_back members (c ∷ changes) tables i
    ∙ sym (map_twice f (before_first_change members changes i) (before_first_change members (c ∷ changes) i)
    (slice_get tables i) (λ x. sym (before-older members c changes i x mine)))
    ∙ ap (option_map f) (sym (slice_get-rolled_back members changes tables i))
    ∙ sym (slice_get-set (rolled_back members changes tables) c.table i c.before))

pub rolled_back-other : (members : List ℕ) (c : Change) (changes : List Change) (tables : List Relation)
    → is_of members c ≡ false
    → rolled_back members (c ∷ changes) tables ≡ rolled_back members changes tables
rolled_back-other members c changes tables other =
    ap (λ f. map f (enumerate_from 0 tables)) (λ j p. before-other members c changes p.0 p.1 other j)

rolled_back-none_from : (members : List ℕ) (n : ℕ) (tables : List Relation)
    → map (λ p. before_first_change members [] p.0 p.1) (enumerate_from n tables) ≡ tables
rolled_back-none_from members n [] = refl
rolled_back-none_from members n (t ∷ tables) = ap (λ ts. t ∷ ts) (rolled_back-none_from members (n + 1) tables)

pub rolled_back-none : (members : List ℕ) (tables : List Relation) → rolled_back members [] tables ≡ tables
rolled_back-none members tables = rolled_back-none_from members 0 tables

pub newest_first : RollsBackNewestFirst
newest_first members [] tables = rolled_back-none members tables
newest_first members (c ∷ log) tables = by (is_of members c) refl (newest_first members log tables)
  where
    by : (b : Bool) → is_of members c ≡ b
        → rolled_back members log tables ≡ put_back (filter (is_of members) log) tables
        → rolled_back members (c ∷ log) tables ≡ put_back
        (cond b (c ∷ filter (is_of members) log) (filter (is_of members) log)) tables
    by true mine rest = rolled_back-older members c log tables mine ∙ ap (λ ts. set ts c.table c.before) rest
    by false other rest = rolled_back-other members c log tables other ∙ rest

-- the oldest record of a table holds what stood before the oldest change of it
pub oldest_seen : (table : ℕ) (records : List UndoRecord)
    → option_map (λ (undo : UndoRecord). arc_value undo.before) (find (λ undo. undo.table == table) records)
    ≡ option_map (λ (change : Change). change.before) (find (λ change. change.table == table) (changes_in records))
oldest_seen table [] = refl
oldest_seen table (r ∷ records) = by (r.table == table) (oldest_seen table records)
  where
    by : (b : Bool)
        → option_map (λ (undo : UndoRecord). arc_value undo.before) (find (λ undo. undo.table == table) records)
        ≡ option_map (λ (change : Change). change.before) (find (λ change. change.table == table) (changes_in records))
        → option_map (λ (undo : UndoRecord). arc_value undo.before)
        (cond b (Some r) (find (λ undo. undo.table == table) records))
        ≡ option_map (λ (change : Change). change.before)
        (cond b (Some (change_of r)) (find (λ change. change.table == table) (changes_in records)))
    by true rest = refl
    by false rest = rest

module _ (members : List ℕ) (records now : List UndoRecord) (left j : ℕ) (r : UndoRecord) (above : left ≡ j + 1)
    (len : length now ≡ length records) (within : left ≤ length records)
    (rest : take left now ≡ take left records) (at : r ≡ get_or now j r) where
  same_at : get_or records j r ≡ r
  same_at =
      let lt : j < left = omega arith in
      sym (get_or-take left records j r lt) ∙ ap (λ rs. get_or rs j r) (sym rest) ∙ get_or-take left now j r lt ∙ sym at

  next_is : changes_in (drop j records) ≡ change_of r ∷ changes_in (drop left records)
  next_is =
      let lt : j < length records = omega arith in
      ap changes_in (drop_more records j r lt ∙ ap (λ x. x ∷ drop (j + 1) records) same_at)
      ∙ ap (λ n. change_of r ∷ changes_in (drop n records)) (sym above)

  -- the tables once a record of these transactions is put back
  pub tables_more : (ts ts' tables : List Relation) → is_of members (change_of r) ≡ true
      → ts ≡ rolled_back members (changes_in (drop left records)) tables
      → ts' ≡ set ts r.table (arc_value r.before) → ts' ≡ rolled_back members (changes_in (drop j records)) tables
  tables_more ts ts' tables mine is put =
      put ∙ ap (λ xs. set xs r.table (arc_value r.before)) is
      ∙ sym (rolled_back-older members (change_of r) (changes_in (drop left records)) tables mine)
      ∙ ap (λ cs. rolled_back members cs tables) (sym next_is)

  -- and where the record is another's
  pub tables_kept : (ts tables : List Relation) → is_of members (change_of r) ≡ false
      → ts ≡ rolled_back members (changes_in (drop left records)) tables
      → ts ≡ rolled_back members (changes_in (drop j records)) tables
  tables_kept ts tables other is =
      is ∙ sym (rolled_back-other members (change_of r) (changes_in (drop left records)) tables other)
      ∙ ap (λ cs. rolled_back members cs tables) (sym next_is)

  pub rest_kept : take j now ≡ take j records
  rest_kept =
      let le : j ≤ left = omega arith in
      sym (take-take j left now le) ∙ ap (take j) rest ∙ take-take j left records le

  pub rest_more : (r' : UndoRecord) → take j (set now j r') ≡ take j records
  rest_more r' = take-set now j r' ∙ rest_kept

  pub others_more : (r' : UndoRecord) → r'.tx ≡ r.tx → is_of members (change_of r) ≡ true
      → of_others members (changes_in (set now j r')) ≡ of_others members (changes_in now)
  others_more r' same mine =
      let lt : j < length now = omega arith in
      let here : get_or (changes_in now) j (change_of r) ≡ change_of r = get_or-map change_of now j r (change_of r) lt
      ∙ ap change_of (sym at) in
      let old : is_of_others members (change_of r) ≡ false = ap not mine in
      let new : is_of_others members (change_of r') ≡ false = ap (λ tx. not (is_among members tx)) same ∙ old in
      ap (of_others members) (map-set change_of now j r') ∙ filter-set (is_of_others members) (changes_in now) j
      (change_of r) (change_of r') here old new
