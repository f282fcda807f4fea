-- The settled database is each table as before the first change of it.
use Rattle.std.proofs.Common.{◌≡◌, ◌≢◌, ◌<◌, ◌+◌, ℕ, zero, suc, Bool, true, false, cond, not, ◌&&◌}
use Rattle.std.proofs.Common.{◌==◌, List, [], ◌∷◌, ◌++◌, map, refl, sym, ap, subst, ◌∙◌, arith, slice_set}
use Rattle.std.specs.Prelude.{reverse}
use Rattle.std.proofs.lemmas.Grind.{reverse_onto}
use Rattle.std.specs.List.{enumerate_from, filter}
use Rattle.ent_semantics.specs.Database.{Rows}
use Rattle.ent_semantics.specs.declared.book.Fated.{Fated}
use Rattle.ent_semantics.specs.Form.{Tables}
use Rattle.ent_protocol.specs.Reached.{settled}
use Rattle.ent_protocol.specs.Rollback.{put_back}
use Rattle.ent_protocol.specs.State.{State, Change, Dormant, Member, members}
use Rattle.ent_protocol.specs.Tidy.{IsTidy, is_member}
use Rattle.ent_protocol_laws.specs.Standing.{StandOnce}
use Rattle.ent_protocol_laws.specs.Settled.{has_fate, is_open_change, rows_before, tables_before_changes}
use Rattle.ent_lists.specs.Elements.{In, in_second, index_pairs, not_so, of_all, pairs_across, same_number}
use Rattle.ent_lists.specs.Elements.{to_map, any_some, filter_same, number_itself, other_number}
use Rattle.ent_protocol_laws.proofs.Members.{of_run}

-- ---- each table by its number and its rows

abbrev placed : (ℕ → Rows → Rows) → ℕ → Tables → Tables
placed f n tables = map (λ p. f p.0 p.1) (enumerate_from n tables)

placed_same : (tables : Tables) (n : ℕ) → tables ≡ placed (λ m x. x) n tables
placed_same [] n = refl
placed_same (x ∷ xs) n = ap (λ more. x ∷ more) (placed_same xs (n + 1))

-- two functions that are the same at other numbers than one
module _ (f g : ℕ → Rows → Rows) (at : ℕ) (same : (m : ℕ) (x : Rows) → (m ≡ at → ⊥) → f m x ≡ g m x) where
  alike : (tables : Tables) (n : ℕ) → at < n → placed f n tables ≡ placed g n tables
  alike [] n low = refl
  alike (x ∷ xs) n low =
      let one = same n x (λ e. absurd (omega (arith, low, e))) in
      let rest = alike xs (n + 1) (omega (arith, low)) in
      λ i. one i ∷ rest i

  set_one : (v : Rows) → ((x : Rows) → f at v ≡ g at x) → (tables : Tables) (n k : ℕ) → n + k ≡ at
      → placed f n (slice_set tables k v) ≡ placed g n tables
  set_one v here [] n k is = refl
  set_one v here (x ∷ xs) n zero is =
      let e : at ≡ n = omega (arith, is) in
      let one : f n v ≡ g n x = subst (λ m. f m v ≡ g m x) e (here x) in
      let rest = alike xs (n + 1) (omega (arith, e)) in
      λ i. one i ∷ rest i
  set_one v here (x ∷ xs) n (suc k) is =
      let one = same n x (λ e. absurd (omega (arith, is, e))) in
      let rest = set_one v here xs (n + 1) k (omega (arith, is)) in
      λ i. one i ∷ rest i

-- ---- changes that are put back

abbrev changes_of : List Change → ℕ → List Change
changes_of changes table = filter (λ (change : Change). change.table == table) changes

abbrev worded : List Change → ℕ → Rows → Rows
worded changes table present = rows_before (reverse (changes_of changes table)) present

first_stays : (changes : List Change) (last : Change) (present : Rows)
    → rows_before (changes ++ last ∷ []) present ≡ rows_before changes last.before
first_stays [] last present = refl
first_stays (first ∷ more) last present = refl

pub put_back_placed : (changes : List Change) (tables : Tables)
    → put_back changes tables ≡ placed (worded changes) 0 tables
put_back_placed [] tables = placed_same tables 0
put_back_placed (change ∷ more) tables =
    put_back_placed more (slice_set tables change.table change.before)
    ∙ set_one (worded more) (worded (change ∷ more)) change.table elsewhere change.before here tables 0 change.table
    (omega arith)
  where
    with_first : Bool → ℕ → List Change
    with_first b table = cond b (change ∷ changes_of more table) (changes_of more table)

    elsewhere : (table : ℕ) (x : Rows) → (table ≡ change.table → ⊥)
        → worded more table x ≡ worded (change ∷ more) table x
    elsewhere table x differ =
        ap (λ b. rows_before (reverse (with_first b table)) x)
        (sym (other_number change.table table (λ e. differ (sym e))))

    here : (x : Rows) → worded more change.table change.before ≡ worded (change ∷ more) change.table x
    here x =
        sym (first_stays (reverse (changes_of more change.table)) change x)
        ∙ ap (λ changes. rows_before changes x) (sym (reverse_onto (changes_of more change.table) change []))
        ∙ ap (λ b. rows_before (reverse (with_first b change.table)) x) (sym (number_itself change.table))

-- ---- what is noted is of members, and they have no fate

without_fate : (s : State) → StandOnce s → (tx : ℕ) → is_member s tx ≡ true → has_fate s tx ≡ false
without_fate s once tx is = not_so (has_fate s tx) (λ has.
    let m = of_run s tx is in
    let f = any_some (λ (fated : Fated). fated.tx == tx) s.fates has in
    let of_members = map (λ (member : Member). member.tx) (members s) in
    let of_dormant = map (λ (dormant : Dormant). dormant.tx) s.dormant in
    let of_fates = map (λ (fated : Fated). fated.tx) s.fates in
    pairs_across (λ (one other : ℕ). one ≢ other) of_members (of_dormant ++ of_fates) m.0.tx f.0.tx
    (index_pairs (λ (one other : ℕ). one ≢ other) (of_members ++ (of_dormant ++ of_fates)) once.distinct)
    (to_map (λ (member : Member). member.tx) (members s) m.0 m.1)
    (in_second of_dormant of_fates f.0.tx (to_map (λ (fated : Fated). fated.tx) s.fates f.0 f.1))
    (m.2 ∙ sym (same_number f.0.tx tx f.2)))

pub settled_before : (s : State) → IsTidy s → StandOnce s → settled s ≡ tables_before_changes s
settled_before s tidy once =
    put_back_placed s.changes s.tables
    ∙ (λ i. placed (λ table present. rows_before (reverse (sym (open_ones table) i)) present) 0 s.tables)
  where
    each : (table : ℕ) (change : Change) → In change s.changes
        → is_open_change s table change ≡ (change.table == table)
    each table change at =
        let mine = of_all (λ (change : Change). is_member s change.tx ≡ true) s.changes change tidy.owned at in
        ap (λ b. b && (not (has_fate s change.tx) && (change.table == table))) mine
        ∙ ap (λ b. not b && (change.table == table)) (without_fate s once change.tx mine)

    open_ones : (table : ℕ) → filter (is_open_change s table) s.changes ≡ changes_of s.changes table
    open_ones table =
        filter_same (is_open_change s table) (λ (change : Change). change.table == table) s.changes (each table)
