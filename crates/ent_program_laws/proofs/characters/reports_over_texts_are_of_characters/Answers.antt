use Rattle.std.proofs.Common.{ℕ, List, subst, sym}
use Rattle.std.specs.Str.{IsUtf8}
use Rattle.ent_tree.specs.declared.script.Input.{Input}
use Rattle.ent_book.specs.Report2.{report_2_text}
use Rattle.ent_history.specs.Told.{told_by}
use Rattle.ent_program_laws.specs.Unplaced.{unplaced_book}
use Rattle.ent_program_laws.proofs.FinishedTold.{Laws, holds_characters}
use Rattle.ent_program_laws.proofs.characters.reports_over_texts_are_of_characters.Goals as goal

pub returns : goal.returns
returns c text book reads characters legal reported =
    let laws : Laws = record {
      opens = c.tables_keep_texts.ensures.characters;
      shows = c.tables_keep_texts.ensures.shown_characters;
      runs = c.runs_keep_texts.ensures.characters;
      read_views = c.runs_keep_texts.ensures.character_read_views;
      spelled = c.places_do_not_show.ensures;
      unplaced = c.openings_are_the_same_without_places.ensures.whole;
    } in
    let input : Input = record { opening = book.opening; scripts = book.scripts } in
    let history = told_by (unplaced_book book) in
    let told = (c.reports_of_legal_books_are_told.ensures book legal reported).0 in
    let is = (c.told_histories_can_be_told.ensures (report_2_text book) history).0 told in
    subst (λ (bytes : List ℕ). IsUtf8 bytes) (sym is.0)
    (c.histories_of_characters_have_texts_of_characters.ensures history is.1
    (holds_characters laws book legal reported
    (c.texts_of_characters_say_characters.ensures.opening text input reads characters)
    (c.texts_of_characters_say_characters.ensures.scripts text input reads characters)))
