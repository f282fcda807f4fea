-- The net changes of tables that stand in the order of their declaration.
use Rattle.std.proofs.Common.{◌≡◌, ℕ, zero, suc, ◌+◌, ◌<◌, ◌≤◌, false, cond, List, [], ◌∷◌, ◌++◌, length, map}
use Rattle.std.proofs.Common.{drop, get_or, refl, sym, ap, ◌∙◌, arith, append_assoc, append-nil}
use Rattle.std.specs.Arc.{arc_value}
use Rattle.std.specs.declared.sync.Arc.{Arc}
use Rattle.std.specs.List.{AllByRecursion, IsDistinct, filter}
use Rattle.std.proofs.lemmas.List.{drop_more, length-map}
use Rattle.std.proofs.lemmas.Map.Keys.{IsDistinct-head, IsDistinct-tail}
use Rattle.ent_lists.specs.Elements.{filter_joined}
use Rattle.ent_rel.specs.Relation.{Relation}
use Rattle.ent_tree.specs.declared.declaration.Create.{Create}
use Rattle.ent_tree.specs.declared.declaration.Opening.{Opening}
use Rattle.ent_semantics.specs.Database.{Database, Name, same_name}
use Rattle.ent_semantics.specs.Form.{Tables}
use Rattle.ent_semantics.specs.Names.{name_itself}
use Rattle.ent_protocol.specs.Reached.{named_tables, table_names}
use Rattle.ent_feed.specs.declared.group.TableChange.{TableChange}
use Rattle.ent_feed.specs.Group.{change_of, changes_between, has_rows}
use Rattle.ent_feed.specs.Tables.{database_in, rows_in}
use Rattle.ent_feed.specs.NetChange.{net_change}

-- the changes of tables side by side, also where nothing changed
abbrev pub side_by_side : List Name → Tables → Tables → List TableChange
side_by_side [] before after = []
side_by_side (name ∷ names) [] after = []
side_by_side (name ∷ names) (old ∷ before) [] = []
side_by_side (name ∷ names) (old ∷ before) (new ∷ after) =
    record { table = name; delta = net_change old new } ∷ side_by_side names before after

-- a database has these tables under these names
abbrev Holds : Database → List Name → Tables → Type 0
Holds database [] [] = Unit {0}
Holds database [] (rows ∷ tables) = ⊥
Holds database (name ∷ names) [] = ⊥
Holds database (name ∷ names) (rows ∷ tables) = (database name ≡ rows) × Holds database names tables

-- so has another that is the same but for one name, which is none of these
holds_beside : (database other : Database) (first : Name) (names : List Name) (tables : Tables)
    → ((name : Name) → same_name first name ≡ false → other name ≡ database name)
    → AllByRecursion (λ name. same_name first name ≡ false) names → Holds database names tables
    → Holds other names tables
holds_beside database other first [] [] same apart holds = tt
holds_beside database other first [] (rows ∷ tables) same apart holds = absurd holds
holds_beside database other first (name ∷ names) [] same apart holds = absurd holds
holds_beside database other first (name ∷ names) (rows ∷ tables) same apart holds = (
  same name apart.0 ∙ holds.0,
  holds_beside database other first names tables same apart.1 holds.1,
)

-- tables stand under their names where these differ
named_hold : (names : List Name) (tables : Tables) → IsDistinct same_name names → length tables ≡ length names
    → Holds (named_tables names tables) names tables
named_hold [] [] distinct many = tt
named_hold [] (rows ∷ tables) distinct many = absurd (omega arith)
named_hold (name ∷ names) [] distinct many = absurd (omega arith)
named_hold (name ∷ names) (rows ∷ tables) distinct many =
    let rest = named_tables names tables in
    let all = named_tables (name ∷ names) (rows ∷ tables) in (
      ap (λ b. cond b rows (rest name)) (name_itself name),
      holds_beside rest all name names tables (λ other apart. ap (λ b. cond b rows (rest other)) apart)
          (IsDistinct-head same_name name names distinct)
          (named_hold names tables (IsDistinct-tail same_name name names distinct) (omega arith)),
    )

side_of_holding : (before after : Database) (names : List Name) (old new : Tables) → Holds before names old
    → Holds after names new → side_by_side names old new ≡ map (change_of before after) names
side_of_holding before after [] old new holds holds_too = refl
side_of_holding before after (name ∷ names) [] new holds holds_too = absurd holds
side_of_holding before after (name ∷ names) (rows ∷ old) [] holds holds_too = absurd holds_too
side_of_holding before after (name ∷ names) (rows ∷ old) (more ∷ new) holds holds_too =
    let rest = side_of_holding before after names old new holds.1 holds_too.1 in
    λ i. record { table = name; delta = net_change (sym holds.0 i) (sym holds_too.0 i) } ∷ rest i

-- side by side they are the net changes between the two databases
pub side_is_between : (names : List Name) (old new : Tables) → IsDistinct same_name names
    → length old ≡ length names → length new ≡ length names
    → side_by_side names old new ≡ map (change_of (named_tables names old) (named_tables names new)) names
side_is_between names old new distinct many many_too =
    side_of_holding (named_tables names old) (named_tables names new) names old new
    (named_hold names old distinct many) (named_hold names new distinct many_too)

-- ---- one table after the other

abbrev pub changed_only : List TableChange → List TableChange
changed_only changes = filter (λ (change : TableChange). has_rows change.delta) changes

-- a change was put behind others, and the walk goes on
pub change_put : (changes more left rest all : List TableChange) (change : TableChange) → left ≡ change ∷ rest
    → more ≡ changes ++ changed_only (change ∷ []) → changes ++ changed_only left ≡ all
    → more ++ changed_only rest ≡ all
change_put changes more left rest all change is pushed before =
    ap (λ front. front ++ changed_only rest) pushed
    ∙ append_assoc changes (changed_only (change ∷ [])) (changed_only rest)
    ∙ ap (λ behind. changes ++ behind)
    (sym (filter_joined (λ (one : TableChange). has_rows one.delta) (change ∷ []) rest))
    ∙ ap (λ behind. changes ++ changed_only behind) (sym is) ∙ before

pub nothing_left : {X : Type 0} (xs : List X) (i : ℕ) → length xs ≤ i → drop i xs ≡ []
nothing_left [] zero past = refl
nothing_left [] (suc i) past = refl
nothing_left (x ∷ xs) zero past = absurd (omega arith)
nothing_left (x ∷ xs) (suc i) past = nothing_left xs i (omega arith)

-- an element and those behind it
pub element_next : {X : Type 0} (xs : List X) (i : ℕ) (x : X) → i < length xs → x ≡ get_or xs i x
    → drop i xs ≡ x ∷ drop (i + 1) xs
element_next xs i x within is = drop_more xs i x within ∙ ap (λ y. y ∷ drop (i + 1) xs) (sym is)

module _ {Z : Type 0} (creates : List Create) (before after : List (Arc Relation Z)) where
  abbrev pub left_from : ℕ → List TableChange
  left_from i =
      side_by_side (map (λ (create : Create). create.name.name) (drop i creates)) (rows_in (drop i before))
      (rows_in (drop i after))

  pub left_next : (i : ℕ) (create : Create) (old new : Arc Relation Z)
      → drop i creates ≡ create ∷ drop (i + 1) creates → drop i before ≡ old ∷ drop (i + 1) before
      → drop i after ≡ new ∷ drop (i + 1) after
      → left_from i
      ≡ record { table = create.name.name; delta = net_change (arc_value old).rows (arc_value new).rows }
      ∷ left_from (i + 1)
  left_next i create old new first second third j =
      side_by_side (map (λ (create : Create). create.name.name) (first j)) (rows_in (second j)) (rows_in (third j))

  pub all_put : (opening : Opening) (changes : List TableChange) (i : ℕ)
      → IsDistinct same_name (table_names opening) → length before ≡ length opening.tables
      → length after ≡ length opening.tables → creates ≡ opening.tables → length creates ≤ i
      → changes ++ changed_only (left_from i)
      ≡ changed_only (side_by_side (map (λ (create : Create). create.name.name) creates) (rows_in before)
      (rows_in after))
      → changes ≡ changes_between (table_names opening) (database_in opening before) (database_in opening after)
  all_put opening changes i distinct many many_too same past before_all =
      sym (append-nil changes)
      ∙ ap (λ (left : List Create). changes
      ++ changed_only (side_by_side (map (λ (create : Create). create.name.name) left) (rows_in (drop i before))
      (rows_in (drop i after)))) (sym (nothing_left creates i past))
      ∙ before_all
      ∙ ap (λ (declared : List Create). changed_only (side_by_side
      (map (λ (create : Create). create.name.name) declared)
      (rows_in before) (rows_in after))) same
      ∙ ap changed_only (side_is_between (table_names opening) (rows_in before) (rows_in after) distinct
      (length-map before (λ (table : Arc Relation Z). (arc_value table).rows) ∙ many
      ∙ sym (length-map opening.tables (λ (create : Create). create.name.name)))
      (length-map after (λ (table : Arc Relation Z). (arc_value table).rows) ∙ many_too
      ∙ sym (length-map opening.tables (λ (create : Create). create.name.name))))
