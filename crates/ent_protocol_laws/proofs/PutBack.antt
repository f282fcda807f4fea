-- Changes that are put back in two parts, each of which has all changes of its tables.
use Rattle.std.proofs.Common.{◌≡◌, ◌<◌, ℕ, Bool, true, false, not, ◌&&◌, ◌==◌, List, length, refl, sym, ap, ◌∙◌, arith}
use Rattle.std.proofs.lemmas.List.{ext_get_or}
use Rattle.std.specs.List.{filter, list_any}
use Rattle.ent_lists.specs.Sets as set
use Rattle.ent_lists.specs.Elements.{In, and_both, any_none, any_some, both_and, clash, not_so, number_itself}
use Rattle.ent_lists.specs.Elements.{same_number}
use Rattle.ent_semantics.specs.Database.{Rows}
use Rattle.ent_semantics.specs.Form.{Tables}
use Rattle.ent_protocol.specs.Rollback.{put_back}
use Rattle.ent_protocol.specs.State.{Change}
use Rattle.ent_protocol_laws.proofs.Undo.{at_number, back, back_all, back_none, put_at, put_length}

module _ (changes : List Change) (gone : ℕ → Bool)
    (whole : (one other : Change) → In one changes → In other changes → one.table ≡ other.table
    → gone one.tx ≡ true → gone other.tx ≡ false → ⊥) where
  abbrev goes : Change → Bool
  goes change = gone change.tx

  abbrev stays : Change → Bool
  stays change = not (gone change.tx)

  abbrev goes_at : ℕ → Change → Bool
  goes_at number change = gone change.tx && (change.table == number)

  each : (number : ℕ) (rows : Rows)
      → back number (filter stays changes) (back number (filter goes changes) rows) ≡ back number changes rows
  each number rows = by (list_any (goes_at number) changes) refl
    where
      by : (b : Bool) → list_any (goes_at number) changes ≡ b
          → back number (filter stays changes) (back number (filter goes changes) rows) ≡ back number changes rows
      by true is =
          let first = any_some (goes_at number) changes is in
          let parts = and_both (gone first.0.tx) (first.0.table == number) first.2 in
          let all : (change : Change) → In change changes → change.table ≡ number → gone change.tx ≡ true =
          λ change at same. so (gone change.tx) (λ stay.
          whole first.0 change first.1 at (same_number first.0.table number parts.1 ∙ sym same) parts.0 stay) in
          back_none stays number changes (back number (filter goes changes) rows)
          (λ change at same. ap not (all change at same))
          ∙ back_all goes number changes rows all
        where
          so : (b : Bool) → (b ≡ false → ⊥) → b ≡ true
          so true none = refl
          so false none = absurd (none refl)
      by false is =
          let none : (change : Change) → In change changes → change.table ≡ number → gone change.tx ≡ false =
          λ change at same. not_so (gone change.tx) (λ goes_so.
          clash (goes_at number change)
          (both_and (gone change.tx) (change.table == number) goes_so
          (ap (λ n. n == number) same ∙ number_itself number))
          (any_none (goes_at number) changes is change at)) in
          ap (back number (filter stays changes)) (back_none goes number changes rows none)
          ∙ back_all stays number changes rows (λ change at same. ap not (none change at same))

  pub put_back_parts : (tables : Tables)
      → put_back (filter (λ change. not (gone change.tx)) changes)
      (put_back (filter (λ change. gone change.tx) changes) tables) ≡ put_back changes tables
  put_back_parts tables =
      let first = put_back (filter goes changes) tables in
      let long : length first ≡ length tables = put_length (filter goes changes) tables in
      let both : length (put_back (filter stays changes) first) ≡ length tables =
      put_length (filter stays changes) first ∙ long in
      ext_get_or set.empty (put_back (filter stays changes) first) (put_back changes tables)
      (both ∙ sym (put_length changes tables)) (λ number low.
      let within : number < length tables = omega (arith, low, both) in
      let below : number < length first = omega (arith, within, long) in
      put_at (filter stays changes) first number below
      ∙ ap (back number (filter stays changes)) (put_at (filter goes changes) tables number within)
      ∙ each number (at_number tables number) ∙ sym (put_at changes tables number within))
