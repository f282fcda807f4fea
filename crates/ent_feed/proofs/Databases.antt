-- Databases, and the net changes of their tables.
use Rattle.std.proofs.Common.{◌≡◌, Bool, true, false, cond, not, List, [], ◌∷◌, length, refl, sym, ap, ◌∙◌, arith}
use Rattle.std.specs.Prelude.{◌==◌, ◌||◌}
use Rattle.std.proofs.lemmas.Bool.Decides.{nat_tests}
use Rattle.ent_lists.specs.Laws.{without-nothing}
use Rattle.ent_lists.specs.Elements.{neither}
use Rattle.ent_value.specs.Order.{rows_total, exact_rows}
use Rattle.ent_rel.specs.Change.{changed_rows}
use Rattle.ent_rel.specs.declared.change.Delta.{Delta}
use Rattle.ent_semantics.specs.Database.{Database, Name, Rows, is_among, same_name}
use Rattle.ent_semantics.specs.Names.{equal_names}
use Rattle.ent_feed.specs.declared.group.TableChange.{TableChange}
use Rattle.ent_feed.specs.Group.{change_of, changes_between, has_rows, rows_after, after_changes, with_delta}
use Rattle.ent_feed.proofs.Changes.{change_applies}

-- where nothing went and nothing came, nothing is changed
none_there : {A : Type 0} (xs : List A) → not (length xs == 0) ≡ false → xs ≡ []
none_there [] is = refl
none_there (x ∷ xs) is = absurd (grind (arith, nat_tests))

unchanged : (delta : Delta) (rows : Rows) → has_rows delta ≡ false → with_delta delta rows ≡ rows
unchanged delta rows is =
    let none = neither (not (length delta.removed == 0)) (not (length delta.added == 0)) is in
    (λ i. changed_rows rows (none_there delta.removed none.0 i) (none_there delta.added none.1 i))
    ∙ without-nothing rows_total exact_rows rows

module _ (before after : Database) where
  delta_applies : (name : Name) → with_delta (change_of before after name).delta (before name) ≡ after name
  delta_applies name = change_applies (before name) (after name)

  -- a table among them stands as afterwards, any other as before
  pub table_after : (names : List Name) (name : Name)
      → rows_after (changes_between names before after) name (before name)
      ≡ cond (is_among names name) (after name) (before name)
  table_after [] name = refl
  table_after (first ∷ names) name =
      by (same_name first name) (has_rows (change_of before after first).delta) refl refl (table_after names name)
    where
      rest : List TableChange
      rest = changes_between names before after

      by : (same changes : Bool) → same_name first name ≡ same → has_rows (change_of before after first).delta ≡ changes
          → rows_after rest name (before name) ≡ cond (is_among names name) (after name) (before name)
          → rows_after (cond changes (change_of before after first ∷ rest) rest) name (before name)
          ≡ cond (same || is_among names name) (after name) (before name)
      by true true is tells later =
          ap (λ b. cond b (with_delta (change_of before after first).delta (before name))
          (rows_after rest name (before name))) is
          ∙ ap (λ n. with_delta (change_of before after n).delta (before name)) (equal_names first name is)
          ∙ delta_applies name
      by true false is tells later =
          let stays : before name ≡ after name =
          sym (unchanged (change_of before after name).delta (before name)
          (ap (λ n. has_rows (change_of before after n).delta) (sym (equal_names first name is)) ∙ tells))
          ∙ delta_applies name in
          later
          ∙ ap (λ rows. cond (is_among names name) (after name) rows) stays
          ∙ either (is_among names name)
        where
          either : (b : Bool) → cond b (after name) (after name) ≡ after name
          either true = refl
          either false = refl
      by false true is tells later =
          ap (λ b. cond b (with_delta (change_of before after first).delta (before name))
          (rows_after rest name (before name))) is
          ∙ later
      by false false is tells later = later

  -- the net changes of some tables take one database to another that is the same in the others
  pub database_after : (names : List Name)
      → ((name : Name) → is_among names name ≡ false → before name ≡ after name)
      → after_changes (changes_between names before after) before ≡ after
  database_after names others i name = (table_after names name ∙ by (is_among names name) refl) i
    where
      by : (b : Bool) → is_among names name ≡ b → cond b (after name) (before name) ≡ after name
      by true is = refl
      by false is = others name is
