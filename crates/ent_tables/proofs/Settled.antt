-- Tables as they stood before the first change of them.
use Rattle.std.proofs.Common.{◌≡◌, ◌==◌, ℕ, zero, suc, Bool, true, false, cond, List, [], ◌∷◌, map, find, refl, sym, ap}
use Rattle.std.proofs.Common.{◌∙◌, Option, Some, None}
use Rattle.std.specs.Prelude.{slice_get}
use Rattle.std.specs.Arc.{arc_value}
use Rattle.std.specs.Borrow.{Bor}
use Rattle.std.specs.Option.{option_map}
use Rattle.std.specs.Slice.{IsItemAt}
use Rattle.std.specs.declared.sync.Arc.{Arc}
use Rattle.std.proofs.lemmas.List.{length-map}
use Rattle.std.proofs.lemmas.Option.{slice_get-get_or, slice_get-map, slice_get_past}
use Rattle.ent_lists.specs.Elements.{same_number}
use Rattle.ent_value.specs.declared.value.Kind.{Kind}
use Rattle.ent_rel.specs.Relation.{Relation}
use Rattle.ent_undo.specs.Change.{Change as Noted, put_back as put_back_noted}
use Rattle.ent_undo.proofs.Lists.{slice_get-set}
use Rattle.ent_semantics.specs.Form.{Tables}
use Rattle.ent_ordinary.specs.Tables.{kinds_in}
use Rattle.ent_protocol.specs.Rollback.{put_back}
use Rattle.ent_tables.specs.Stored.{AreOfTables, Stored, stored_of}
use Rattle.ent_tables.proofs.Notes.{kinds_put_back, rows_put_back}

-- how a table stood that was noted first, or as it stands
abbrev pub noted_or : Option Relation → Option Relation → Option Relation
noted_or (Some before) present = Some before
noted_or None present = present

-- the oldest note of a table
abbrev pub oldest : ℕ → List Noted → Option Relation
oldest number log = option_map (λ (change : Noted). change.before) (find (λ change. change.table == number) log)

there : {A B : Type 0} (f : A → B) (xs : List A) (i : ℕ) (y : A) (z : B) → slice_get (map f xs) i ≡ Some z
    → option_map (λ x. y) (slice_get xs i) ≡ Some y
there f [] i y z is = cc
there f (x ∷ xs) zero y z is = refl
there f (x ∷ xs) (suc i) y z is = there f xs i y z is

unmapped : {A : Type 0} (got : Option A) → option_map (λ x. x) got ≡ got
unmapped None = refl
unmapped (Some x) = refl

pub put_back_at : (log : List Noted) (tables : List Relation) (number : ℕ) → AreOfTables (kinds_in tables) log
    → slice_get (put_back_noted log tables) number ≡ noted_or (oldest number log) (slice_get tables number)
put_back_at [] tables number all = refl
put_back_at (first ∷ log) tables number all =
    slice_get-set (put_back_noted log tables) first.table number first.before
    ∙ by (first.table == number) refl (put_back_at log tables number all.1)
  where
    rest : List Relation
    rest = put_back_noted log tables

    by : (b : Bool) → (first.table == number) ≡ b
        → slice_get rest number ≡ noted_or (oldest number log) (slice_get tables number)
        → option_map (λ (x : Relation). cond b first.before x) (slice_get rest number)
        ≡ noted_or
        (option_map (λ (change : Noted). change.before)
        (cond b (Some first) (find (λ change. change.table == number) log))) (slice_get tables number)
    by true is older =
        there (λ (t : Relation). t.kinds) rest number first.before first.before.kinds
        (ap (λ (kinds : List (List Kind)). slice_get kinds number)
        (kinds_put_back (kinds_in tables) log tables all.1 refl)
        ∙ ap (slice_get (kinds_in tables)) (sym (same_number first.table number is)) ∙ all.0)
    by false is older = unmapped (slice_get rest number) ∙ older

-- what a look-up gives, each in its Arc
pub got_at : {Z : Type 0} (arcs : List (Arc Relation Z)) (number : ℕ) (got : Option (Bor (Arc Relation Z)))
    → IsItemAt arcs number got
    → option_map (λ (arc : Bor (Arc Relation Z)). arc_value arc.now) got ≡ slice_get (map arc_value arcs) number
got_at arcs number None at = sym (slice_get_past (map arc_value arcs) number (simp length-map at.3))
got_at arcs number (Some item) at =
    sym (slice_get-map arc_value arcs number
    ∙ ap (option_map arc_value) (slice_get-get_or arcs number item.now at.3.0 ∙ ap Some (sym at.1)))

pub mapped_twice : {A B C : Type 0} (f : B → C) (g : A → B) (got : Option A)
    → option_map (λ x. f (g x)) got ≡ option_map f (option_map g got)
mapped_twice f g None = refl
mapped_twice f g (Some x) = refl

module _ (tables : List Relation) (log : List Noted) (s : Stored) (view : stored_of tables log ≡ s)
    (all : AreOfTables (kinds_in tables) log) (number : ℕ) (found : Option Relation)
    (is : found ≡ noted_or (oldest number log) (slice_get tables number)) where
  found_is : found ≡ slice_get (put_back_noted log tables) number
  found_is = is ∙ sym (put_back_at log tables number all)

  pub settled_rows : option_map (λ (t : Relation). t.rows) found ≡ slice_get (put_back s.changes s.tables) number
  settled_rows =
      ap (option_map (λ (t : Relation). t.rows)) found_is
      ∙ sym (slice_get-map (λ (t : Relation). t.rows) (put_back_noted log tables) number)
      ∙ ap (λ (rows : Tables). slice_get rows number) (rows_put_back log tables)
      ∙ ap (λ (stored : Stored). slice_get (put_back stored.changes stored.tables) number) view

  pub settled_kinds : option_map (λ (t : Relation). t.kinds) found ≡ slice_get s.kinds number
  settled_kinds =
      ap (option_map (λ (t : Relation). t.kinds)) found_is
      ∙ sym (slice_get-map (λ (t : Relation). t.kinds) (put_back_noted log tables) number)
      ∙ ap (λ (kinds : List (List Kind)). slice_get kinds number)
      (kinds_put_back (kinds_in tables) log tables all refl)
      ∙ ap (λ (stored : Stored). slice_get stored.kinds number) view
