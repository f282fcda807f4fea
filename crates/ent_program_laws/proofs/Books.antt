-- A legal book is legal without places.
use Rattle.std.proofs.Common.{◌≡◌, ℕ, Bool, true, false, cond, List, [], ◌∷◌, map, filter, refl, sym, ap, subst, ◌∙◌}
use Rattle.std.proofs.Common.{Some, Contains}
use Rattle.std.specs.Option.{option_map}
use Rattle.ent_lists.specs.Sets as set
use Rattle.ent_value.specs.declared.value.Value.{Value}
use Rattle.ent_tree.specs.Places.{unplaced_literal, unplaced_script}
use Rattle.ent_tree.specs.declared.declaration.Create.{Create}
use Rattle.ent_tree.specs.declared.declaration.Opening.{Opening}
use Rattle.ent_tree.specs.declared.declaration.OpeningRow.{OpeningRow}
use Rattle.ent_tree.specs.declared.script.Script.{Script}
use Rattle.ent_semantics.specs.declared.answer.Fact.{Fact}
use Rattle.ent_semantics.specs.declared.book.Book.{Book}
use Rattle.ent_semantics.specs.declared.book.Member.{Member}
use Rattle.ent_semantics.specs.Book.{IsLegal, JournalIsRight, RunGivesBook, all_members, book_read_views}
use Rattle.ent_semantics.specs.Database.{Name, Database, row_of, opening_database, same_name}
use Rattle.ent_semantics.specs.Joint.{IsGood, IsGrounded, IsOffered, StandsIn, member_of, read_view_heads}
use Rattle.ent_semantics.specs.Joint.{read_view_posts}
use Rattle.ent_semantics.specs.Serial.{ReadView, Turn, numbered, scripts_run, scripts_read_views}
use Rattle.ent_lists.proofs.Contained.{of_mapped, to_mapped}
use Rattle.ent_program_laws.specs.Unplaced.{unplaced_book, unplaced_create, unplaced_opening, unplaced_row}
use Rattle.ent_program_laws.specs.Unplaced.{unplaced_read_view, unplaced_turn}
use Rattle.ent_program_laws.proofs.Through.{map_through, numbered_through}
use Rattle.ent_program_laws.proofs.Entangled.{heads_same, posts_same, grounding_same}
use Rattle.ent_program_laws.proofs.UnplacedRuns.{scripts_run_same, scripts_read_views_are}

-- ---- the opening

row_of_same : (row : OpeningRow) → row_of (unplaced_row row) ≡ row_of row
row_of_same row =
    map_through unplaced_literal (λ literal. literal.value) (λ literal. literal.value) (λ literal. refl) row.values

kept_same : (row : OpeningRow) (b : Bool) (bare kept : List OpeningRow) → map row_of bare ≡ map row_of kept
    → map row_of (cond b (unplaced_row row ∷ bare) bare) ≡ map row_of (cond b (row ∷ kept) kept)
kept_same row true bare kept same = let here = row_of_same row in λ i. here i ∷ same i
kept_same row false bare kept same = same

rows_same : (rows : List OpeningRow) (name : Name)
    → map row_of (filter (λ (row : OpeningRow). same_name row.table.name name) (map unplaced_row rows))
    ≡ map row_of (filter (λ (row : OpeningRow). same_name row.table.name name) rows)
rows_same [] name = refl
rows_same (row ∷ more) name =
    kept_same row (same_name row.table.name name)
    (filter (λ (row : OpeningRow). same_name row.table.name name) (map unplaced_row more))
    (filter (λ (row : OpeningRow). same_name row.table.name name) more) (rows_same more name)

pub table_same : (opening : Opening) (name : Name)
    → opening_database (unplaced_opening opening) name ≡ opening_database opening name
table_same opening name = ap (λ (rows : List (List Value)). set.from_list rows) (rows_same opening.rows name)

pub opening_same : (opening : Opening) → opening_database (unplaced_opening opening) ≡ opening_database opening
opening_same opening = λ i name. table_same opening name i

-- ---- joint answers

read_view_heads_same : (read_view : ReadView)
    → read_view_heads (unplaced_read_view read_view) ≡ read_view_heads read_view
read_view_heads_same read_view = heads_same read_view.environment read_view.entangled read_view.valuation

read_view_posts_same : (read_view : ReadView)
    → read_view_posts (unplaced_read_view read_view) ≡ read_view_posts read_view
read_view_posts_same read_view = posts_same read_view.environment read_view.entangled read_view.valuation

module _ (declared : List Create) (run : List ReadView) (members : List Member)
    (good : IsGood declared run members) where
  offered_bare : (fact : Fact) → IsOffered run members fact → IsOffered (map unplaced_read_view run) members fact
  offered_bare fact offered = (
    unplaced_read_view offered.0,
    (to_mapped unplaced_read_view run offered.0 offered.1.0, offered.1.1),
    subst (λ (facts : List Fact). Contains facts fact) (sym (read_view_heads_same offered.0)) offered.2,
  )

  grounded_bare : (read_view : ReadView) → StandsIn run members read_view
      → IsGrounded (map unplaced_create declared) (unplaced_read_view read_view)
  grounded_bare read_view stands =
      grounding_same read_view.environment read_view.entangled read_view.valuation declared read_view.database
      ∙ good.grounded read_view stands

  met_bare : (read_view : ReadView) → StandsIn run members read_view → (post : Fact)
      → Contains (read_view_posts (unplaced_read_view read_view)) post
      → IsOffered (map unplaced_read_view run) members post
  met_bare read_view stands post there =
      offered_bare post
      (good.met read_view stands post
      (subst (λ (facts : List Fact). Contains facts post) (read_view_posts_same read_view) there))

  -- what holds of each statement of the run that stands in the joint answer, its places aside
  of_bare : (P : ReadView → Type 0)
      → ((read_view : ReadView) → StandsIn run members read_view → P (unplaced_read_view read_view))
      → (read_view : ReadView) → StandsIn (map unplaced_read_view run) members read_view → P read_view
  of_bare P holds read_view stands =
      let found = of_mapped unplaced_read_view run read_view stands.0 in
      subst P (sym found.2)
      (holds found.0
      (found.1, subst (λ (seen : ReadView). Contains members (member_of seen)) found.2 stands.1))

  pub good_same : IsGood (map unplaced_create declared) (map unplaced_read_view run) members
  good_same = record {
    some = good.some;
    distinct = good.distinct;
    of_run = λ member there.
        let found = good.of_run member there in
        (unplaced_read_view found.0, to_mapped unplaced_read_view run found.0 found.1, found.2);
    grounded = of_bare (IsGrounded (map unplaced_create declared)) grounded_bare;
    met = of_bare (λ read_view. (post : Fact) → Contains (read_view_posts read_view) post
        → IsOffered (map unplaced_read_view run) members post) met_bare;
  }

-- ---- books

read_views_same : (book : Book Database) (turns : List Turn)
    → book_read_views (unplaced_book book) (map unplaced_turn turns) ≡ map unplaced_read_view
    (book_read_views book turns)
read_views_same book turns =
    ap (λ (database : Database). scripts_read_views (map unplaced_create book.opening.tables) (map unplaced_turn turns)
    database) (opening_same book.opening)
    ∙ scripts_read_views_are book.opening.tables turns (opening_database book.opening)

script_bare : (scripts : List Script) (number : ℕ) (script : Script) → numbered scripts number ≡ Some script
    → numbered (map unplaced_script scripts) number ≡ Some (unplaced_script script)
script_bare scripts number script is =
    numbered_through unplaced_script scripts number ∙ ap (option_map unplaced_script) is

journal_bare : (book : Book Database) → JournalIsRight book → JournalIsRight (unplaced_book book)
journal_bare book right = record {
  distinct = right.distinct;
  of_list = λ entry there.
      let found = right.of_list entry there in
      (unplaced_script found.0, script_bare book.scripts entry.tx found.0 found.1);
  one_fate = right.one_fate;
  committed = right.committed;
}

own_bare : (book : Book Database) (turns : List Turn) → RunGivesBook book turns → (turn : Turn)
    → Contains (map unplaced_turn turns) turn → numbered (map unplaced_script book.scripts) turn.tx ≡ Some turn.script
own_bare book turns gives turn there =
    let found = of_mapped unplaced_turn turns turn there in
    subst (λ (turn : Turn). numbered (map unplaced_script book.scripts) turn.tx ≡ Some turn.script) (sym found.2)
    (script_bare book.scripts found.0.tx found.0.script (gives.own_scripts found.0 found.1))

run_bare : (book : Book Database) (turns : List Turn) → RunGivesBook book turns
    → RunGivesBook (unplaced_book book) (map unplaced_turn turns)
run_bare book turns gives = record {
  in_order = map_through unplaced_turn (λ turn. turn.tx) (λ turn. turn.tx) (λ turn. refl) turns ∙ gives.in_order;
  own_scripts = own_bare book turns gives;
  run =
      ap (λ (database : Database). scripts_run (map unplaced_create book.opening.tables) (map unplaced_turn turns)
      database) (opening_same book.opening)
      ∙ scripts_run_same book.opening.tables turns (opening_database book.opening)
      ∙ gives.run;
}

pub legal_bare : (book : Book Database) → IsLegal book → IsLegal (unplaced_book book)
legal_bare book legal =
    let are = read_views_same book legal.turns in
    let old : List ReadView = book_read_views book legal.turns in
    record {
      journal = journal_bare book legal.journal;
      turns = map unplaced_turn legal.turns;
      runs = run_bare book legal.turns legal.runs;
      answered = λ read_view there.
          let found = of_mapped unplaced_read_view old read_view
          (subst (λ (seen : List ReadView). Contains seen read_view) are there) in
          subst (λ (seen : ReadView). Contains (all_members book.joint_answers) (member_of seen)) (sym found.2)
          (legal.answered found.0 found.1);
      once = legal.once;
      no_widow = λ member there.
          let found = legal.no_widow member there in (
            unplaced_read_view found.0,
            subst (λ (seen : List ReadView). Contains seen (unplaced_read_view found.0)) (sym are)
                (to_mapped unplaced_read_view old found.0 found.1),
            found.2,
          );
      good = λ joint there.
          subst (λ (seen : List ReadView). IsGood (map unplaced_create book.opening.tables) seen joint.members)
          (sym are) (good_same book.opening.tables old joint.members (legal.good joint there));
    }
