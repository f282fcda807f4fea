use Rattle.ent_history.specs.Told.{told_opening}
use Rattle.ent_report_laws.proofs.Legal.{still_legal, turned}
use Rattle.ent_report_laws.proofs.opening_law.books_over_told_openings_are_legal.Goals as goal

pub returns : goal.returns
returns c book faultless =
    let told = told_opening book.opening in
    let alike = c.told_openings_are_alike.ensures.alike book.opening faultless in (
      still_legal book told (turned told book.opening alike),
      still_legal (record book { opening = told }) book.opening alike,
    )
