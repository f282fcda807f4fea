-- What is shown of a front and the rows of a source behind it, of which only those with these first values are read.
use Rattle.std.proofs.Common.{◌≡◌, Bool, true, false, cond, List, [], ◌∷◌, ◌++◌, map, refl, sym, ap, ◌∙◌}
use Rattle.std.proofs.Common.{length, take, drop, get_or, arith, ◌≤◌, ◌-◌}
use Rattle.std.proofs.lemmas.List.{append-nil, take_all}
use Rattle.std.specs.Prelude.{IsTrue}
use Rattle.std.specs.List.{filter, flat_map, AllByRecursion}
use Rattle.ent_lists.specs.Sets as set
use Rattle.ent_value.specs.declared.value.Value.{Value}
use Rattle.ent_rel.specs.Relation.{RowSet}
use Rattle.ent_tree.specs.declared.operand.Test.{Test}
use Rattle.ent_semantics.specs.Selection.{meets}
use Rattle.ent_semantics.specs.declared.operand.Operand.{Operand}
use Rattle.ent_ordinary.specs.Combined.{combined, shown_of, AreNarrowed}
use Rattle.ent_ordinary.specs.Early.{may_meet}
use Rattle.ent_ordinary.specs.Worth.{worth_over}
use Rattle.ent_ordinary.proofs.Combinations.{shown_of-append, combined_one, one_row_more}
use Rattle.ent_ordinary.proofs.Fronts.{meet_fails, nothing_shown}
use Rattle.ent_ordinary.proofs.Narrowed.{in_order, rows_met}

module _ (items : List (Operand Value)) (tests : List (Test (Operand Value))) (front : List Value) (s : RowSet)
    (first : List Value → Bool)
    (wants : (row others : List Value) → IsTrue (set.contains s row)
    → IsTrue (meets worth_over tests ((front ++ row) ++ others)) → IsTrue (first row)) where
  -- what is shown behind a row that doesn't begin with these values
  nothing_behind : (more : List (List (List Value))) (row : List Value) → IsTrue (set.contains s row)
      → first row ≡ false
      → shown_of items tests (combined (front ++ row) more) ≡ []
  nothing_behind more row here not_first =
      nothing_shown items tests (front ++ row) more
      (λ others. by others (meets worth_over tests ((front ++ row) ++ others)) refl)
    where
      by : (others : List Value) (b : Bool) → meets worth_over tests ((front ++ row) ++ others) ≡ b
          → meets worth_over tests ((front ++ row) ++ others) ≡ false
      by others true e = let is : first row ≡ true = wants row others here e in absurd cc
      by others false e = e

  shown_narrowed : (more : List (List (List Value))) (rows : List (List Value))
      → AllByRecursion (λ row. IsTrue (set.contains s row)) rows
      → shown_of items tests (flat_map (λ row. combined (front ++ row) more) (filter first rows))
      ≡ shown_of items tests (flat_map (λ row. combined (front ++ row) more) rows)
  shown_narrowed more [] all = refl
  shown_narrowed more (row ∷ rows) all = by (first row) refl (shown_narrowed more rows all.1)
    where
      each : List Value → List (List Value)
      each row = combined (front ++ row) more

      by : (b : Bool) → first row ≡ b
          → shown_of items tests (flat_map each (filter first rows)) ≡ shown_of items tests (flat_map each rows)
          → shown_of items tests (flat_map each (cond b (row ∷ filter first rows) (filter first rows)))
          ≡ shown_of items tests (each row ++ flat_map each rows)
      by true e h =
          shown_of-append items tests (each row) (flat_map each (filter first rows))
          ∙ ap (λ xs. shown_of items tests (each row) ++ xs) h
          ∙ sym (shown_of-append items tests (each row) (flat_map each rows))
      by false e h =
          h ∙ ap (λ xs. xs ++ shown_of items tests (flat_map each rows)) (sym (nothing_behind more row all.0 e))
          ∙ sym (shown_of-append items tests (each row) (flat_map each rows))

  source_shown : (more : List (List (List Value)))
      → shown_of items tests (flat_map (λ row. combined (front ++ row) more) (filter first (set.ascending s)))
      ≡ shown_of items tests (combined front (set.ascending s ∷ more))
  source_shown more = shown_narrowed more (set.ascending s) (in_order s)

  -- the same over the last source, with tests that were made ready for the front
  last_shown : (prepared : List Value → Bool)
      → ((row : List Value) → prepared row ≡ meets worth_over tests (front ++ row))
      → map (λ row. map (worth_over (front ++ row)) items) (filter prepared (filter first (set.ascending s)))
      ≡ shown_of items tests (combined front (set.ascending s ∷ []))
  last_shown prepared same =
      ap (map (λ row. map (worth_over (front ++ row)) items))
      (rows_met s first prepared (λ row. meets worth_over tests (front ++ row)) same
      (λ row here met. wants row [] here (ap (meets worth_over tests) (append-nil (front ++ row)) ∙ met)))
      ∙ shown_behind (set.ascending s)
      ∙ ap (shown_of items tests) (sym (combined_one front (set.ascending s)))
    where
      shown_behind : (rows : List (List Value))
          → map (λ row. map (worth_over (front ++ row)) items)
          (filter (λ row. meets worth_over tests (front ++ row)) rows)
          ≡ shown_of items tests (map (λ row. front ++ row) rows)
      shown_behind [] = refl
      shown_behind (row ∷ rows) =
          by (meets worth_over tests (front ++ row)) (shown_behind rows)
        where
          by : (b : Bool)
              → map (λ row. map (worth_over (front ++ row)) items)
              (filter (λ row. meets worth_over tests (front ++ row)) rows)
              ≡ shown_of items tests (map (λ row. front ++ row) rows)
              → map (λ row. map (worth_over (front ++ row)) items)
              (cond b (row ∷ filter (λ row. meets worth_over tests (front ++ row)) rows)
              (filter (λ row. meets worth_over tests (front ++ row)) rows))
              ≡ map (λ row. map (worth_over row) items)
              (cond b ((front ++ row) ∷ filter (meets worth_over tests) (map (λ row. front ++ row) rows))
              (filter (meets worth_over tests) (map (λ row. front ++ row) rows)))
          by true h = ap (λ others. map (worth_over (front ++ row)) items ∷ others) h
          by false h = h

-- what was found once all rows of a source were looked at
module _ (items : List (Operand Value)) (tests : List (Test (Operand Value))) (front : List Value) (s : RowSet)
    (narrowed : List (List Value)) (are : AreNarrowed tests front s narrowed) where
  pub all_searched : (more : List (List (List Value))) (before found left : List (List Value))
      → found ++ shown_of items tests (flat_map (λ row. combined (front ++ row) more) left)
      ≡ before ++ shown_of items tests (flat_map (λ row. combined (front ++ row) more) narrowed)
      → left ≡ [] → found ≡ before ++ shown_of items tests (combined front (set.ascending s ∷ more))
  all_searched more before found left so ended =
      let each : List Value → List (List Value) = λ row. combined (front ++ row) more in
      sym (append-nil found) ∙ ap (λ rows. found ++ shown_of items tests (flat_map each rows)) (sym ended) ∙ so
      ∙ ap (λ xs. before ++ xs) (ap (λ rows. shown_of items tests (flat_map each rows)) are.are
      ∙ source_shown items tests front s are.passes are.enough more)

  pub last_searched : (prepared : List Value → Bool)
      → ((row : List Value) → prepared row ≡ meets worth_over tests (front ++ row))
      → map (λ row. map (worth_over (front ++ row)) items) (filter prepared narrowed)
      ≡ shown_of items tests (combined front (set.ascending s ∷ []))
  last_searched prepared same =
      ap (λ rows. map (λ row. map (worth_over (front ++ row)) items) (filter prepared rows)) are.are
      ∙ last_shown items tests front s are.passes are.enough prepared same

-- one row more of a walk, over which a test fails
pub one_row_left : (items : List (Operand Value)) (tests : List (Test (Operand Value))) (front : List Value)
    (more : List (List (List Value))) (old new : List (List Value)) (found : List (List Value)) (row : List Value)
    → old ≡ row ∷ new → may_meet tests (front ++ row) ≡ false
    → found ++ shown_of items tests (flat_map (λ row. combined (front ++ row) more) new)
    ≡ found ++ shown_of items tests (flat_map (λ row. combined (front ++ row) more) old)
one_row_left items tests front more old new found row is fails =
    one_row_more items tests front more old new found found row is
    (sym (ap (λ rows. found ++ rows) (nothing_shown items tests (front ++ row) more
    (λ rest. meet_fails tests (front ++ row) rest fails)) ∙ append-nil found))

-- a list that begins with an element
pub begins_with : {X : Type 0} (xs : List X) (x : X) → 1 ≤ length xs → x ≡ get_or xs 0 x
    → xs ≡ x ∷ take (length xs - 1) (drop 1 xs)
begins_with [] x le is = absurd (omega arith)
begins_with (y ∷ xs) x le is = sym (λ i. is i ∷ take_all (length (y ∷ xs) - 1) xs (omega arith) i)

-- a test that all pass leaves all
pub all_pass : {X : Type 0} (xs : List X) → filter (λ x. true) xs ≡ xs
all_pass [] = refl
all_pass (x ∷ xs) = ap (λ others. x ∷ others) (all_pass xs)
